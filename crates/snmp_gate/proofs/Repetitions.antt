-- For how many repetitions a device is asked.
use Rattle.std.specs.Prelude.{◌≤◌, ℕ, List}
use Rattle.std.proofs.Common.{arith, ap, subst}
use Rattle.snmp_msg.specs.declared.pdu.Pdu.{Pdu}
use Rattle.vacm_core.specs.Tables.{Tables}
use Rattle.snmp_walk.specs.BulkAnswered.{Halves, IsBulkAnswered}
use Rattle.snmp_walk.specs.BulkAsk.{IsAskOf}
use Rattle.snmp_walk.specs.declared.bulk_ask.BulkAsk.{BulkAsk}
use Rattle.snmp_walk.specs.declared.bulk_ask.BulkAsk.TheVariants as way
use Rattle.snmp_walk.specs.declared.bulk_column.BulkColumn.{BulkColumn}
use Rattle.snmp_walk.specs.declared.bulk_dialogue.BulkAnswered.{BulkAnswered}
use Rattle.snmp_walk.specs.declared.bulk_dialogue.BulkAnswered.TheVariants as bulk
use Rattle.snmp_walk.specs.declared.bulk_dialogue.BulkDialogue.{BulkDialogue}
use Rattle.snmp_gate.specs.Question.{Question}
use Rattle.snmp_gate.specs.ReadAsks.{bulk_request_by}
use Rattle.snmp_gate.specs.Said.{Said}
use Rattle.snmp_gate.specs.Work.{IsAskedBy, TaskStands, most_repetitions, request_of_task}
use Rattle.snmp_gate.specs.declared.task.Task.{Task}
use Rattle.snmp_gate.specs.declared.task.Task.TheVariants as task

-- by this way a device is asked for no more
asked_few : (n due most : ℕ) (cs : List BulkColumn) (by : BulkAsk) (d : BulkDialogue) → due ≤ most → IsAskOf n due cs by → (bulk_request_by by d).max_repetitions ≤ most
asked_few n due most cs way.GetNext d few asks = omega arith
asked_few n due most cs (way.GetBulk singles repetitions) d few asks = omega (arith, few, asks.3)

-- a request is for no more repetitions than its device may be asked for
pub task_repeats : (tables : Tables) (q : Question) (told : Said) (t : Task) → TaskStands tables q told t → (request_of_task q t).max_repetitions ≤ most_repetitions t
task_repeats tables q told (task.Read operation d) stands = omega arith
task_repeats tables q told task.Set stands = omega arith
task_repeats tables q told (task.Bulk by d) stands = asked_few d.non_repeaters stands.asked.repetitions d.repetitions d.columns.items by d stands.asked.few stands.asked.columns

halved : (n due : ℕ) (cs : List BulkColumn) (way : BulkAsk) (old new : BulkDialogue) → due ≤ old.repetitions → IsAskOf n due cs way → Halves way old new → new.repetitions ≤ old.repetitions
halved n due cs way.GetNext old new few asks halves = omega (arith, halves.2)
halved n due cs (way.GetBulk singles repetitions) old new few asks halves = omega (arith, few, asks.3, halves.0)

-- an answer leaves no more of them
pub answered_fewer : (Seen : List ℕ → Type 0) (answer : Pdu) (old new : BulkDialogue) (by : BulkAsk) (becomes : BulkAnswered) → IsAskedBy old by → IsBulkAnswered Seen answer old new becomes → new.repetitions ≤ old.repetitions
answered_fewer Seen answer old new by bulk.Taken asked is = omega (arith, is.3.repetitions)
answered_fewer Seen answer old new by (bulk.Unfit fault) asked is = omega (arith, is.3.limits.repetitions)
answered_fewer Seen answer old new by bulk.Less asked is =
    halved old.non_repeaters asked.repetitions old.columns.items by old new asked.few asked.columns (subst (λ (a : BulkAsk). Halves a old new) asked.ask is.1.halves)
answered_fewer Seen answer old new by bulk.Front asked is = omega (arith, ap (λ (d : BulkDialogue). d.repetitions) is.1.2)
answered_fewer Seen answer old new by bulk.TooBig asked is = omega (arith, ap (λ (d : BulkDialogue). d.repetitions) is.1.2)
answered_fewer Seen answer old new by (bulk.Ended number) asked is = omega (arith, is.3.repetitions)
answered_fewer Seen answer old new by (bulk.Failed column) asked is = omega (arith, ap (λ (d : BulkDialogue). d.repetitions) is.4)
