use Rattle.std.proofs.Common.{sym, ◌∙◌}
use Rattle.std.proofs.lemmas.Slice.Eq.{bytes_eq-Decides}
use Rattle.snmp_gate.proofs.take_device.is_write_community.Goals as goal

pub returns : goal.returns
returns c is = (c.in-Some.own, c.in-Some.is, sym ((bytes_eq-Decides c.as_slice.result.now c.args.community.now).0 (sym c.eq.ensures ∙ is)) ∙ c.as_slice.ensures.value)
