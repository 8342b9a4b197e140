use Rattle.std.proofs.Common.{rules, ◌≡◌, ◌≢◌, ℕ, ◌-◌, List, [], length, Option, Some, ℤ, pos, sym, ap, subst, ◌∙◌, arith, FitsSigned, w32, of_z}
use Rattle.std.specs.Prelude.{slice_range}
use Rattle.std.proofs.lemmas.Int.{ints}
use Rattle.std.proofs.lemmas.List.Edits.{length-between}
use Rattle.std.proofs.lemmas.List.{nil_from_length}
use Rattle.snmp_message.specs.Reading.{version_in, after_version}
use Rattle.snmp_message.specs.Message.{parts}
use Rattle.snmp_message.proofs.Outers.{no_version, no_rest, more_after, outer_from, wrong_version_from, not_both}
use Rattle.snmp_message.proofs.message.read_message.Goals as goal

-- what was read of the version, at 3
at_three : (w octets after : List ℕ) (z : ℤ) → FitsSigned w32 z → of_z w32 z ≡ 3 → ◌≡◌ {A = Option (ℤ × List ℕ × List ℕ)} (Some (z, octets, after)) (version_in w) → version_in w ≡ Some (pos 3, octets, after)
at_three w octets after z fits three e =
    let z-is : z ≡ pos 3 = omega (arith, ints) in
    sym e ∙ ap (λ (y : ℤ). Some (y, octets, after)) z-is

-- the octets after a part that ends before the whole
after_length : (w : List ℕ) (end : ℕ) → length (slice_range w end (length w)) ≡ length w - end
after_length w end = length-between w end (length w) (omega arith)

pub returns-in-Err-clause-exact : goal.returns-in-Err-clause-exact
returns-in-Err-clause-exact c = no_version c.args.datagram.now (sym c.in-Err.ensures.value)

pub returns-then-version-ne3-clause-exact : goal.returns-then-version-ne3-clause-exact
returns-then-version-ne3-clause-exact c =
    let w = c.args.datagram.now in
    let v = c.in-Ok.found in
    let other : v.0 ≢ pos 3 = λ e. c.if-version-ne3.true (ap (of_z w32) e) in
    rw c.plain.ensures.refusal (wrong_version_from w v.0 (slice_range w v.1 v.2) (slice_range w v.2 (length w)) other (sym c.in-Ok.ensures.value))

pub returns-in-Err-read_after_version-clause-exact : goal.returns-in-Err-read_after_version-clause-exact
returns-in-Err-read_after_version-clause-exact c =
    let w = c.args.datagram.now in
    let v = c.in-Ok.found in
    let after = slice_range w v.2 (length w) in
    let octets = slice_range w v.1 v.2 in
    let fits : FitsSigned w32 v.0 = search rules in
    let first = at_three w octets after v.0 fits c.if-version-ne3.false c.in-Ok.ensures.value in
    no_rest w octets after v.2 first (λ (none : length after ≡ 0). omega (arith, after_length w v.2, c.in-Ok.ensures.ordered.1)) (sym c.in-Err-read_after_version.ensures.value)

pub returns-then-end-datagram-clause-exact : goal.returns-then-end-datagram-clause-exact
returns-then-end-datagram-clause-exact c =
    let w = c.args.datagram.now in
    let v = c.in-Ok.found in
    let after = slice_range w v.2 (length w) in
    let octets = slice_range w v.1 v.2 in
    let fits : FitsSigned w32 v.0 = search rules in
    let first = at_three w octets after v.0 fits c.if-version-ne3.false c.in-Ok.ensures.value in
    more_after w octets after first (omega (arith, after_length w v.2))

pub returns-clause-exact : goal.returns-clause-exact
returns-clause-exact c =
    let w = c.args.datagram.now in
    let v = c.in-Ok.found in
    let after = slice_range w v.2 (length w) in
    let octets = slice_range w v.1 v.2 in
    let fits : FitsSigned w32 v.0 = search rules in
    let first = at_three w octets after v.0 fits c.if-version-ne3.false c.in-Ok.ensures.value in
    let at_end : v.2 ≡ length w = omega (arith, c.in-Ok.ensures.ordered.1) in
    let none : after ≡ [] = nil_from_length after (omega (arith, after_length w v.2)) in
    let m = parts c.in-Ok-read_after_version.message in
    let second : after_version (length w) octets ≡ Some m = subst (λ (n : ℕ). after_version n octets ≡ Some m) at_end (sym c.in-Ok-read_after_version.ensures.value) in
    outer_from w octets m (first ∙ ap (λ (r : List ℕ). Some (pos 3, octets, r)) none) second

pub returns-in-Err-clause-none : goal.returns-in-Err-clause-none
returns-in-Err-clause-none c = (returns-in-Err-clause-exact c).1

pub returns-then-version-ne3-clause-none : goal.returns-then-version-ne3-clause-none
returns-then-version-ne3-clause-none c =
    let w = c.args.datagram.now in
    let v = c.in-Ok.found in
    let other : v.0 ≢ pos 3 = λ e. c.if-version-ne3.true (ap (of_z w32) e) in
    λ m o. not_both w m o (wrong_version_from w v.0 (slice_range w v.1 v.2) (slice_range w v.2 (length w)) other (sym c.in-Ok.ensures.value))

pub returns-in-Err-read_after_version-clause-none : goal.returns-in-Err-read_after_version-clause-none
returns-in-Err-read_after_version-clause-none c = (returns-in-Err-read_after_version-clause-exact c).1

pub returns-then-end-datagram-clause-none : goal.returns-then-end-datagram-clause-none
returns-then-end-datagram-clause-none c = (returns-then-end-datagram-clause-exact c).1
