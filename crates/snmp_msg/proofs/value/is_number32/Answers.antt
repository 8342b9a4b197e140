use Rattle.std.proofs.Common.{ℕ}
use Rattle.snmp_ber.specs.Number.{IsUnsigned}
use Rattle.snmp_msg.proofs.Values.{told}
use Rattle.snmp_msg.proofs.value.is_number32.Goals as goal

pub returns : goal.returns
returns c = told (λ (n : ℕ). IsUnsigned 4 n c.args.content.now) c.read_unsigned.result c.is_some.result c.is_some.ensures c.read_unsigned.ensures
