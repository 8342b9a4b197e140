use Rattle.std.proofs.Common.{◌≡◌, take}
use Rattle.snmp_ber.specs.Number.{number}
use Rattle.diagnose_text.proofs.values.wide_of.Given as goal

abbrev pub invariant-loop-octet : goal.invariant-loop-octet
invariant-loop-octet l = l.number ≡ number (take l.octet-index l.content)
