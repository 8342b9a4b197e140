use Rattle.std.proofs.Common.{refl, sym, ap, ◌∙◌, arith, append_assoc, List, [], ◌∷◌, ◌++◌, ◌+◌, ℕ, drop}
use Rattle.std.proofs.lemmas.List.{drop_all, length_push}
use Rattle.std.proofs.lemmas.Slice.Zip.{all_zipped_more}
use Rattle.snmp_msg.specs.Variables.{Variable, bound_variable, variables_left, variables_of}
use Rattle.snmp_walk.specs.Dialogue.{Answers, asks_of}
use Rattle.snmp_walk.specs.declared.operation.ReadOperation.{ReadOperation}
use Rattle.snmp_walk.specs.declared.column.Column.{Column}
use Rattle.snmp_walk.proofs.Asked.{asks_next, name_asked, too_few, too_many}
use Rattle.snmp_walk.proofs.answer.fault_of.Goals as goal

pub loop-column-init : goal.loop-column-init
loop-column-init c = record {
  asks = [];
  asks_are = refl;
  done = [];
  joined = sym c.variable_bindings-left.ensures.first;
  number = refl;
  few = omega arith;
  answered = tt;
}

pub returns-in_default : goal.returns-in_default
returns-in_default c =
    let inv = c.loop-column.invariant in
    let columns = c.args.columns.now in
    let column = c.column-item.result in
    let name = name_asked column.progress (c.if-not-is_asked.ensures.0 refl) in
    too_few (asks_of columns) inv.asks (asks_of (drop (c.loop-column.column-index + 1) columns)) (column.operation, name.0) (variables_of c.args.answer.now.list.now) inv.done
    (asks_next columns c.loop-column.column-index column inv.asks name.0 c.loop-column-test.true c.column-item.is inv.asks_are name.1)
    (inv.joined ∙ ap (λ (vs : List Variable). inv.done ++ vs) c.in_default.ensures.steps.0) inv.answered

pub returns-in-Some-misfit : goal.returns-in-Some-misfit
returns-in-Some-misfit c =
    let inv = c.loop-column.invariant in
    let columns = c.args.columns.now in
    let column = c.column-item.result in
    let name = name_asked column.progress (c.if-not-is_asked.ensures.0 refl) in
    record {
      asks_before = inv.asks;
      ask = (column.operation, name.0);
      asks_after = asks_of (drop (c.loop-column.column-index + 1) columns);
      asks_are = asks_next columns c.loop-column.column-index column inv.asks name.0 c.loop-column-test.true c.column-item.is inv.asks_are name.1;
      before = inv.done;
      variable = bound_variable c.in-Some.binding;
      after = variables_left c.next.new.self;
      are = inv.joined ∙ ap (λ (vs : List Variable). inv.done ++ vs) c.in-Some.ensures.steps;
      number_is = inv.number;
      answered = inv.answered;
      misfits = c.in-Some-misfit.ensures.fits name.0 name.1;
    }

pub loop-column-preserved : goal.loop-column-preserved
loop-column-preserved c =
    let inv = c.loop-column.invariant in
    let columns = c.args.columns.now in
    let column = c.column-item.result in
    let rest = asks_of (drop (c.loop-column.column-index + 1) columns) in
    let name = name_asked column.progress (c.if-not-is_asked.ensures.0 refl) in
    let ask : ReadOperation × List ℕ = (column.operation, name.0) in
    let v = bound_variable c.in-Some.binding in
    record {
      asks = inv.asks ++ ask ∷ [];
      asks_are = asks_next columns c.loop-column.column-index column inv.asks name.0 c.loop-column-test.true c.column-item.is inv.asks_are name.1 ∙ sym (append_assoc inv.asks (ask ∷ []) rest);
      done = inv.done ++ v ∷ [];
      joined = inv.joined ∙ ap (λ (vs : List Variable). inv.done ++ vs) c.in-Some.ensures.steps ∙ sym (append_assoc inv.done (v ∷ []) (variables_left c.next.new.self));
      number = ap (λ n. n + 1) inv.number ∙ sym (length_push inv.done v);
      few = omega (arith, inv.few, length_push inv.done v);
      answered = all_zipped_more Answers inv.asks inv.done ask v inv.answered (c.in_default-misfit.ensures.fits name.0 name.1);
    }

pub returns-in-Some-next : goal.returns-in-Some-next
returns-in-Some-next c =
    let inv = c.loop-column.invariant in
    let columns = c.args.columns.now in
    too_many (asks_of columns) inv.asks (variables_of c.args.answer.now.list.now) inv.done (variables_left c.next-2.new.self) (bound_variable c.in-Some-next.field-0)
    (inv.asks_are ∙ ap (λ (cs : List Column). inv.asks ++ asks_of cs) (drop_all c.loop-column.column-index columns c.loop-column-test.false))
    (inv.joined ∙ ap (λ (vs : List Variable). inv.done ++ vs) c.in-Some-next.ensures.steps) inv.answered
