use Rattle.std.proofs.Common.{◌+◌, ◌≤◌, length}
use Rattle.snmpsec_access.proofs.Numbering.{Numbered}
use Rattle.snmpsec_access.proofs.headings.numbers_of.Given as goal

abbrev pub invariant-lines : goal.invariant-lines
invariant-lines l = record {
  numbered : Numbered l.begin l.text l.number l.rest l.numbers.items;
  within : l.number + length l.rest ≤ 1 + length l.text;
}

abbrev pub decreases-lines : goal.decreases-lines
decreases-lines l = length l.rest
