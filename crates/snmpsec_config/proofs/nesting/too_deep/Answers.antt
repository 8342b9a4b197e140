use Rattle.std.proofs.Common.{◌≡◌, ◌≤◌, ◌∙◌, ℕ, List, Option, Some, None, option_map, sym, ap, subst, arith, rules, length}
use Rattle.std.specs.Borrow.{Bor}
use Rattle.toml_parser.specs.Lexical.{skip_blank}
use Rattle.snmpsec_config.specs.declared.nesting.Mark.{Mark}
use Rattle.snmpsec_config.specs.Nesting.{piece, OpensTooMany}
use Rattle.snmpsec_config.proofs.Nested.{deep_here, deep_in_front, deep_behind, deep_nowhere, open_within}
use Rattle.snmpsec_config.proofs.nesting.too_deep.Goals as goal

-- what was read, as a piece
abbrev seen : Option (Mark × Bor (List ℕ)) → Option (Mark × List ℕ)
seen read = option_map (λ r. (r.0, r.1.now)) read

pub pieces-init : goal.pieces-init
pieces-init c = record { utf8 = c.utf8.text; within = omega arith; most = omega arith; in_front = λ left w. w; behind = λ left w. w }

pub returns-in_default : goal.returns-in_default
returns-in_default c left w =
    let none : piece (skip_blank c.pieces.rest.now) ≡ None = ap piece (sym c.skip_blank-here.ensures.rest) ∙ (sym c.in_ok-mark.ensures.piece ∙ ap seen c.in_default.is) in
    deep_nowhere c.pieces.count c.pieces.rest.now left none (c.pieces.invariant.behind left w)

pub returns-then-opens_too_many : goal.returns-then-opens_too_many
returns-then-opens_too_many c =
    let inv = c.pieces.invariant in
    let within = inv.within in
    let shorter = c.skip_blank-here.ensures.within in
    let is : piece (skip_blank c.pieces.rest.now) ≡ Some (c.in-Some.mark, c.in-Some.behind.now) = ap piece (sym c.skip_blank-here.ensures.rest) ∙ (sym c.in_ok-mark.ensures.piece ∙ ap seen c.in-Some.is) in (
      inv.in_front _ (deep_here c.pieces.count c.in-Some.mark c.pieces.rest.now c.in-Some.behind.now _ is c.if-opens_too_many.ensures.0 c.if-opens_too_many.ensures.1 (ap length c.skip_blank-here.ensures.rest)),
      omega (arith, within, shorter),
    )

pub pieces-preserved : goal.pieces-preserved
pieces-preserved c =
    let inv = c.pieces.invariant in
    let within = inv.within in
    let shorter = c.skip_blank-here.ensures.within in
    let less = rw c.in-Some.is at c.in_ok-mark.ensures.shorter in
    let is : piece (skip_blank c.pieces.rest.now) ≡ Some (c.in-Some.mark, c.in-Some.behind.now) = ap piece (sym c.skip_blank-here.ensures.rest) ∙ (sym c.in_ok-mark.ensures.piece ∙ ap seen c.in-Some.is) in
    let other = c.if-opens_too_many.ensures in
    record {
      utf8 = search rules;
      within = omega (arith, within, shorter, less);
      most = subst (λ n. n ≤ 16) (sym c.open_behind-count.ensures) (open_within c.pieces.count c.in-Some.mark inv.most other);
      in_front = λ left w. inv.in_front left (deep_in_front c.pieces.count c.in-Some.mark c.pieces.rest.now c.in-Some.behind.now left is inv.most
          (subst (λ n. OpensTooMany n c.in-Some.behind.now left) c.open_behind-count.ensures w));
      behind = λ left w. subst (λ n. OpensTooMany n c.in-Some.behind.now left) (sym c.open_behind-count.ensures)
          (deep_behind c.pieces.count c.in-Some.mark c.pieces.rest.now c.in-Some.behind.now left is other (inv.behind left w));
    }
