use Rattle.std.proofs.Common.{subst, List, All, map, Vec, Global, IfOk}
use Rattle.std.proofs.lemmas.Result.{IfOk-weaker}
use Rattle.snmp_msg.specs.Variables.{variable_of}
use Rattle.snmp_msg.specs.declared.binding.Binding.{Binding}
use Rattle.snmp_responder.specs.Code.{seen_by}
use Rattle.snmp_walk.specs.Front.{IsFront, IsShownOf}
use Rattle.snmp_walk.specs.declared.bulk_column.BulkColumn.{BulkColumn}
use Rattle.snmp_walk.proofs.BulkShows.{front_shows}
use Rattle.snmp_walk.proofs.bulk_dialogue.BulkDialogue.front.Goals as goal

pub returns-clause-outwards : goal.returns-clause-outwards
returns-clause-outwards c viewer told stand =
    let seen = seen_by viewer in
    let self = c.args.self.now in
    let columns = self.columns.items in
    IfOk-weaker c.front_of.result
    (λ (front : Vec Binding Global). IsFront self.non_repeaters self.max_repetitions columns (map variable_of front.items))
    (λ (front : Vec Binding Global). All (IsShownOf seen told columns) (map variable_of front.items))
    (λ front is. front_shows seen told columns self.non_repeaters self.max_repetitions (map variable_of front.items) stand is)
    (subst (λ (cs : List BulkColumn). IfOk c.front_of.result (λ (front : Vec Binding Global). IsFront self.non_repeaters self.max_repetitions cs (map variable_of front.items))) c.as_slice-columns.ensures.value c.front_of.ensures)
