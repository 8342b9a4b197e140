use Rattle.std.proofs.Common.{◌≡◌, ◌+◌, ◌≤◌, drop}
use Rattle.snmpsec_config.specs.Nesting.{position_from}
use Rattle.snmpsec_config.proofs.nesting.position_behind.Given as goal

abbrev pub invariant-loop-octet : goal.invariant-loop-octet
invariant-loop-octet l = record {
  same : position_from (drop l.octet-index l.octets) l.line l.column ≡ position_from l.octets 1 1;
  line : l.line ≤ l.octet-index + 1;
  column : l.column ≤ l.octet-index + 1;
}
