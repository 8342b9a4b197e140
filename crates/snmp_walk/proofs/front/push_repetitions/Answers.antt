use Rattle.std.proofs.Common.{◌≡◌, ◌-◌, ◌+◌, ◌∙◌, sym, ap, subst, arith, append_assoc, append-nil, true, false, Bool, List, [], ◌++◌, map}
use Rattle.snmp_msg.specs.Variables.{Variable, variable_of}
use Rattle.snmp_walk.specs.Front.{AreKnown, AreOverAt, IsRowOrCut}
use Rattle.snmp_walk.proofs.Fronts.{known_cut, known_last, known_more, known_none}
use Rattle.snmp_walk.proofs.front.push_repetitions.Goals as goal

pub returns-then-not-branch : goal.returns-then-not-branch
returns-then-not-branch c =
    let inv = c.loop-repetition.invariant in
    let cs = c.args.columns.now in
    let k = c.loop-repetition.repetition in
    let n = c.args.most - k in
    let row = c.in_ok-push_row.ensures.0 in
    let cut_off : c.in_ok-push_row.field-0 ≡ false = cc c.if-not-branch.true in
    let cut = subst (λ (whole : Bool). IsRowOrCut cs k whole row) cut_off c.in_ok-push_row.ensures.2 in (
      inv.done ++ row,
      c.in_ok-push_row.ensures.1 ∙ ap (λ (vs : List Variable). vs ++ row) inv.said ∙ append_assoc (map variable_of c.args.bindings.now.items) inv.done row,
      inv.on row (known_cut cs n k row (omega (arith, c.loop-repetition-test.true)) cut),
    )

pub returns-then-are_over : goal.returns-then-are_over
returns-then-are_over c =
    let inv = c.loop-repetition.invariant in
    let cs = c.args.columns.now in
    let k = c.loop-repetition.repetition in
    let n = c.args.most - k in
    let row = c.in_ok-push_row.ensures.0 in
    let is_whole : c.in_ok-push_row.field-0 ≡ true = cc c.if-not-branch.false in
    let whole = subst (λ (w : Bool). IsRowOrCut cs k w row) is_whole c.in_ok-push_row.ensures.2 in (
      inv.done ++ row,
      c.in_ok-push_row.ensures.1 ∙ ap (λ (vs : List Variable). vs ++ row) inv.said ∙ append_assoc (map variable_of c.args.bindings.now.items) inv.done row,
      inv.on row (known_last cs n k row (omega (arith, c.loop-repetition-test.true)) whole (c.are_over.ensures.0 c.if-are_over.true)),
    )

pub loop-repetition-preserved : goal.loop-repetition-preserved
loop-repetition-preserved c =
    let inv = c.loop-repetition.invariant in
    let cs = c.args.columns.now in
    let k = c.loop-repetition.repetition in
    let n = c.args.most - k in
    let row = c.in_ok-push_row.ensures.0 in
    let is_whole : c.in_ok-push_row.field-0 ≡ true = cc c.if-not-branch.false in
    let whole = subst (λ (w : Bool). IsRowOrCut cs k w row) is_whole c.in_ok-push_row.ensures.2 in
    let not : ¬ AreOverAt cs k = λ over. cc (c.are_over.ensures.1 over, c.if-are_over.false) in
    record {
      upto = omega (arith, c.loop-repetition-test.true);
      done = inv.done ++ row;
      said = c.in_ok-push_row.ensures.1 ∙ ap (λ (vs : List Variable). vs ++ row) inv.said ∙ append_assoc (map variable_of c.args.bindings.now.items) inv.done row;
      on = λ rest more.
          let less : c.args.most - (k + 1) ≡ n - 1 = omega (arith, c.loop-repetition-test.true) in
          subst (AreKnown cs c.args.most 0) (sym (append_assoc inv.done row rest))
          (inv.on (row ++ rest) (known_more cs n k row rest (omega (arith, c.loop-repetition-test.true)) whole not (subst (λ m. AreKnown cs m (k + 1) rest) less more)));
    }

pub returns : goal.returns
returns c =
    let inv = c.loop-repetition.invariant in
    let cs = c.args.columns.now in
    let k = c.loop-repetition.repetition in (
      inv.done,
      inv.said,
      subst (AreKnown cs c.args.most 0) (append-nil inv.done) (inv.on [] (known_none cs (c.args.most - k) k (omega (arith, c.loop-repetition-test.false)))),
    )
