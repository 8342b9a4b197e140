use Rattle.std.proofs.Common.{ℤ}
use Rattle.snmp_ber.specs.Number.{IsInteger32}
use Rattle.snmp_msg.proofs.Values.{told}
use Rattle.snmp_msg.proofs.value.is_integer32.Goals as goal

pub returns : goal.returns
returns c = told (λ (n : ℤ). IsInteger32 n c.args.content.now) c.read_int.result c.is_some.result c.is_some.ensures c.read_int.ensures.value
