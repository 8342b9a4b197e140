use Rattle.std.proofs.Common.{length-append, refl, sym, ap, subst, ◌∙◌, arith, append_assoc, List, ℕ, [], ◌∷◌, ◌++◌, Option, MatchOption}
use Rattle.std.proofs.lemmas.List.Elements.{All-head, All-tail}
use Rattle.snmp_msg.specs.Variables.{Variable, bound_variable, variables_left, variables_of}
use Rattle.snmp_responder.specs.Code.{seen_by}
use Rattle.snmp_walk.specs.BulkAnswer.{ReadSoFar}
use Rattle.snmp_walk.specs.BulkSteps.{ColumnReads, ColumnRefuses, Grows, IsTurn}
use Rattle.snmp_walk.specs.Turns.{AreTurns, IsTurnAt, turns_left}
use Rattle.snmp_walk.specs.declared.misfit.Misfit.{Misfit}
use Rattle.snmp_walk.specs.declared.bulk_column.BulkColumn.{BulkColumn}
use Rattle.snmp_walk.proofs.BulkReads.{all_grow_on, all_grow_same, at_any, read_none, read_on, still_turn, still_within, too_many_read}
use Rattle.snmp_walk.proofs.bulk_answer.read_each.Goals as goal

pub loop-binding-init : goal.loop-binding-init
loop-binding-init c = record {
  ready = tt;
  ends = tt;
  done = [];
  place_is = refl;
  joined = sym c.variable_bindings-binding-items.ensures.first ∙ ap variables_left (sym c.into_iter-binding-iterator.ensures.into_iter_gives);
  grows = all_grow_same c.args.columns.now.items;
  turns_on = c.requires;
  so_far = read_none (seen_by c.args.viewer.now) c.args.columns.now.items (turns_left c.args.turns.now);
}

pub returns-in_default-clause-reads : goal.returns-in_default-clause-reads
returns-in_default-clause-reads c =
    let seen = seen_by c.args.viewer.now in
    let inv = c.loop-binding.invariant in
    let begun = c.args.columns.now.items in
    let ts = turns_left c.args.turns.now in
    let so_far = subst (λ (left : List ℕ). ReadSoFar seen begun ts inv.done left c.loop-binding.columns.items) c.in_default.ensures inv.so_far in
    too_many_read seen begun ts (variables_of c.args.answer.now.list.now) inv.done (variables_left c.next.new.self) (bound_variable c.in-Some.binding) c.loop-binding.columns.items so_far
    (inv.joined ∙ ap (λ (vs : List Variable). inv.done ++ vs) c.in-Some.ensures.steps)

pub index_mut-requires : goal.index_mut-requires
index_mut-requires c =
    let inv = c.loop-binding.invariant in
    let begun = c.args.columns.now.items in
    let number = c.in-Some-next.number in
    let rest = turns_left c.next-in-loop-binding.new.self in
    let at : IsTurnAt begun number = All-head (IsTurnAt begun) number rest (subst (AreTurns begun) c.in-Some-next.ensures inv.turns_on) in
    omega (arith, still_within begun c.loop-binding.columns.items number inv.grows at.0, c.loop-binding.columns.ok.0)

pub read-requires : goal.read-requires
read-requires c =
    let inv = c.loop-binding.invariant in
    let begun = c.args.columns.now.items in
    let number = c.in-Some-next.number in
    let rest = turns_left c.next-in-loop-binding.new.self in
    let column = c.index_mut.result.now in
    let at : IsTurnAt begun number = All-head (IsTurnAt begun) number rest (subst (AreTurns begun) c.in-Some-next.ensures inv.turns_on) in
    subst IsTurn (sym c.index_mut.ensures.value) (still_turn begun c.loop-binding.columns.items number column inv.grows at).1

pub returns-in_err-misfit-clause-grows : goal.returns-in_err-misfit-clause-grows
returns-in_err-misfit-clause-grows c =
    let inv = c.loop-binding.invariant in
    let begun = c.args.columns.now.items in
    let now = c.loop-binding.columns.items in
    let number = c.in-Some-next.number in
    let rest = turns_left c.next-in-loop-binding.new.self in
    let column = c.index_mut.result.now in
    let new = c.read.new.self in
    let at : IsTurnAt begun number = All-head (IsTurnAt begun) number rest (subst (AreTurns begun) c.in-Some-next.ensures inv.turns_on) in
    all_grow_on begun now number column new (still_within begun now number inv.grows at.0) inv.grows (subst (λ (x : BulkColumn). Grows x new) c.index_mut.ensures.value c.read.ensures.grows)

pub returns-in-Some-2-clause-grows : goal.returns-in-Some-2-clause-grows
returns-in-Some-2-clause-grows c =
    let inv = c.loop-binding.invariant in
    let begun = c.args.columns.now.items in
    let now = c.loop-binding.columns.items in
    let number = c.in-Some-next.number in
    let rest = turns_left c.next-in-loop-binding.new.self in
    let column = c.index_mut.result.now in
    let new = c.read.new.self in
    let at : IsTurnAt begun number = All-head (IsTurnAt begun) number rest (subst (AreTurns begun) c.in-Some-next.ensures inv.turns_on) in
    all_grow_on begun now number column new (still_within begun now number inv.grows at.0) inv.grows (subst (λ (x : BulkColumn). Grows x new) c.index_mut.ensures.value c.read.ensures.grows)

pub returns-in-Some-2-clause-reads : goal.returns-in-Some-2-clause-reads
returns-in-Some-2-clause-reads c =
    let seen = seen_by c.args.viewer.now in
    let inv = c.loop-binding.invariant in
    let begun = c.args.columns.now.items in
    let now = c.loop-binding.columns.items in
    let ts = turns_left c.args.turns.now in
    let number = c.in-Some-next.number in
    let rest = turns_left c.next-in-loop-binding.new.self in
    let column = c.index_mut.result.now in
    let v = bound_variable c.in-Some.binding in
    let misfit = c.in-Some-2.misfit in
    let at : IsTurnAt begun number = All-head (IsTurnAt begun) number rest (subst (AreTurns begun) c.in-Some-next.ensures inv.turns_on) in
    let within = still_within begun now number inv.grows at.0 in
    let refuses : ColumnRefuses column v misfit =
    subst (λ (found : Option Misfit). MatchOption found (ColumnReads seen column v c.read.new.self) (ColumnRefuses column v)) c.in-Some-2.is c.in_ok-misfit.ensures.reads in
    record {
      number = number;
      before = inv.done;
      place_is = inv.place_is;
      variable = v;
      after = variables_left c.next.new.self;
      are = inv.joined ∙ ap (λ (vs : List Variable). inv.done ++ vs) c.in-Some.ensures.steps;
      left = rest;
      ended = now;
      reads = subst (λ (left : List ℕ). ReadSoFar seen begun ts inv.done left now) c.in-Some-next.ensures inv.so_far;
      refuses = λ d. subst (λ (x : BulkColumn). ColumnRefuses x v misfit) (c.index_mut.ensures.value ∙ at_any now number column d within) refuses;
    }

pub loop-binding-preserved : goal.loop-binding-preserved
loop-binding-preserved c =
    let seen = seen_by c.args.viewer.now in
    let inv = c.loop-binding.invariant in
    let begun = c.args.columns.now.items in
    let now = c.loop-binding.columns.items in
    let ts = turns_left c.args.turns.now in
    let number = c.in-Some-next.number in
    let rest = turns_left c.next-in-loop-binding.new.self in
    let column = c.index_mut.result.now in
    let new = c.read.new.self in
    let v = bound_variable c.in-Some.binding in
    let turns_on : AreTurns begun (number ∷ rest) = subst (AreTurns begun) c.in-Some-next.ensures inv.turns_on in
    let at : IsTurnAt begun number = All-head (IsTurnAt begun) number rest turns_on in
    let within = still_within begun now number inv.grows at.0 in
    let reads : ColumnReads seen column v new =
    subst (λ (found : Option Misfit). MatchOption found (ColumnReads seen column v new) (ColumnRefuses column v)) c.in_default-2.is c.in_ok-misfit.ensures.reads in
    record {
      ready = tt;
      ends = tt;
      done = inv.done ++ v ∷ [];
      place_is = omega (arith, inv.place_is, c.saturating_add-place.ensures, length-append inv.done (v ∷ []));
      joined = inv.joined ∙ ap (λ (vs : List Variable). inv.done ++ vs) c.in-Some.ensures.steps ∙ sym (append_assoc inv.done (v ∷ []) (variables_left c.next.new.self));
      grows = all_grow_on begun now number column new within inv.grows (subst (λ (x : BulkColumn). Grows x new) c.index_mut.ensures.value c.read.ensures.grows);
      turns_on = All-tail (IsTurnAt begun) number rest turns_on;
      so_far = read_on seen begun ts inv.done number rest now v new (subst (λ (left : List ℕ). ReadSoFar seen begun ts inv.done left now) c.in-Some-next.ensures inv.so_far) within
          (λ d. subst (λ (x : BulkColumn). ColumnReads seen x v new) (c.index_mut.ensures.value ∙ at_any now number column d within) reads);
    }
