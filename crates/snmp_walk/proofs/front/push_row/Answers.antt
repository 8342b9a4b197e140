use Rattle.std.proofs.Common.{◌∙◌, ap, append_assoc, List, [], ◌∷◌, ◌++◌, map}
use Rattle.snmp_msg.specs.Variables.{Variable, variable_of}
use Rattle.snmp_msg.specs.declared.binding.Binding.{Binding}
use Rattle.snmp_walk.proofs.Fronts.{row_cut, row_more, row_whole}
use Rattle.snmp_walk.proofs.Pushed.{map_push}
use Rattle.snmp_walk.proofs.front.push_row.Goals as goal

pub returns-in_default : goal.returns-in_default
returns-in_default c =
    let inv = c.loop-column.invariant in
    (inv.row, inv.said, row_cut c.args.columns.now c.args.repetition c.loop-column.column-index inv.row c.column-item.result c.loop-column-test.true c.column-item.is c.in_default.ensures.is_at inv.upto)

pub loop-column-preserved : goal.loop-column-preserved
loop-column-preserved c =
    let inv = c.loop-column.invariant in
    let v = variable_of c.in-Some.binding in
    let old = c.loop-column.bindings.items in
    let before = map variable_of c.args.bindings.now.items in
    record {
      row = inv.row ++ v ∷ [];
      said = ap (λ (bs : List Binding). map variable_of bs) c.in_ok-push.ensures.items ∙ map_push variable_of old c.in-Some.binding ∙ ap (λ (vs : List Variable). vs ++ v ∷ []) inv.said ∙ append_assoc before inv.row (v ∷ []);
      upto = row_more c.args.columns.now c.args.repetition c.loop-column.column-index inv.row c.column-item.result v c.loop-column-test.true c.column-item.is c.in-Some.ensures.is_at inv.upto;
    }

pub returns : goal.returns
returns c =
    let inv = c.loop-column.invariant in
    (inv.row, inv.said, row_whole c.args.columns.now c.args.repetition c.loop-column.column-index inv.row c.loop-column-test.false inv.upto)
