use Rattle.std.proofs.Common.{◌≡◌, [], ◌∷◌, ◌++◌, sym, ap, ◌∙◌}
use Rattle.snmpsec_access.proofs.Numbering.{one_told, none_told, last_told, last_untold, shorter}
use Rattle.snmpsec_access.proofs.headings.numbers_of.Goals as goal
use Rattle.snmpsec_access.proofs.headings.numbers_of.Goals.{then-starts_with+in_ok-push, else-starts_with, then-starts_with-2+in_ok-push-2, else-starts_with-2}

pub lines-preserved : goal.lines-preserved
lines-preserved c =
    let begin = c.args.begin.now in
    let text = c.args.text.now in
    let before = c.lines.numbers.items in
    let found = c.in-Some.ensures.found in
    record {
      numbered =
          elim c.if-starts_with.branch [
            | then-starts_with+in_ok-push w ↦
                let items : c.if-starts_with.numbers.items ≡ before ++ c.lines.number ∷ [] = ap (λ v. v.items) w.numbers-is ∙ w.in_ok-push.ensures.items in
                rw items (one_told begin text _ _ _ before c.lines.number c.lines.invariant.numbered found (sym c.starts_with.ensures.value ∙ w.if-starts_with.true))
            | else-starts_with w ↦
                let items : c.if-starts_with.numbers.items ≡ before = ap (λ v. v.items) w.numbers-is in
                rw items (none_told begin text _ _ _ before c.lines.number c.lines.invariant.numbered found (sym c.starts_with.ensures.value ∙ w.if-starts_with.false))
          ];
      within = shorter _ _ _ _ _ c.lines.invariant.within found;
    }

pub returns : goal.returns
returns c =
    let begin = c.args.begin.now in
    let text = c.args.text.now in
    let before = c.lines.numbers.items in
    let lacks = c.in_default.ensures.none in
    elim c.if-starts_with-2.branch [
      | then-starts_with-2+in_ok-push-2 w ↦
          ap (λ v. v.items) w.numbers-is ∙ w.in_ok-push-2.ensures.items
          ∙ last_told begin text _ before c.lines.number c.lines.invariant.numbered lacks (sym c.starts_with-2.ensures.value ∙ w.if-starts_with-2.true)
      | else-starts_with-2 w ↦
          ap (λ v. v.items) w.numbers-is
          ∙ last_untold begin text _ before c.lines.number c.lines.invariant.numbered lacks (sym c.starts_with-2.ensures.value ∙ w.if-starts_with-2.false)
    ]
