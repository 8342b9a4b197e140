use Rattle.std.proofs.Common.{ℕ, ◌≤◌, length}
use denote.Text.{Utf8}
use denote.Shadow.{shadow}
use Rattle.snmpsec_config.specs.Nesting.{OpensTooMany}
use Rattle.snmpsec_config.proofs.nesting.too_deep.Given as goal

abbrev pub invariant-pieces : goal.invariant-pieces
invariant-pieces l = record {
  utf8 : shadow (Utf8 l.rest);
  within : length l.rest ≤ length l.fn.text;
  most : l.count ≤ 16;
  in_front : (left : ℕ) → OpensTooMany l.count l.rest left → OpensTooMany 0 l.fn.text left;
  behind : (left : ℕ) → OpensTooMany 0 l.fn.text left → OpensTooMany l.count l.rest left;
}

abbrev pub decreases-pieces : goal.decreases-pieces
decreases-pieces l = length l.rest
