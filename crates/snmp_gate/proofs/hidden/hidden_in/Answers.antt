use Rattle.std.proofs.Common.{ap, subst, sym, ◌∙◌, ◌≡◌, List, ℕ, inl, inr}
use Rattle.snmp_msg.specs.Pdu.{PduParts, pdu_of}
use Rattle.snmp_msg.specs.Variables.{variables_of}
use Rattle.snmp_gate.specs.Hidden.{IsHiddenCount, TaskHides, WorkHides}
use Rattle.snmp_gate.specs.Messages.{question_given, seen_in}
use Rattle.snmp_gate.specs.declared.task.Task.{Task}
use Rattle.snmp_gate.specs.declared.task.Task.TheVariants as task
use Rattle.snmp_gate.specs.declared.work.OpenRequest.{OpenRequest}
use Rattle.snmp_gate.specs.declared.work.Work.{Work}
use Rattle.snmp_gate.specs.declared.work.Work.TheVariants.{Open}
use Rattle.snmp_gate.proofs.Standing.{to_seen}
use Rattle.snmp_gate.proofs.hidden.hidden_in.Goals as goal

open_hides : (Seen : List ℕ → Type 0) (w : Work) (o : OpenRequest) (t : Task) (answer : PduParts) (n : ℕ) → w ≡ Open o → o.task.task ≡ t
    → TaskHides Seen t answer n → WorkHides Seen w answer n
open_hides Seen w o t answer n there is hides =
    subst (λ (x : Work). WorkHides Seen x answer n) (sym there) (subst (λ (x : Task). TaskHides Seen x answer n) (sym is) hides)

pub returns-in-Read : goal.returns-in-Read
returns-in-Read c q asked =
    let client = c.args.message.now.client.items in
    let tables = c.args.tables.now in
    let n = c.count_hidden.result in
    let answer = pdu_of c.args.answer.now in
    let viewer = c.viewer_of.ensures client q (ap (question_given client) c.taken-taken.ensures ∙ asked) in
    let counts = to_seen (λ (Seen : List ℕ → Type 0). IsHiddenCount Seen (variables_of answer.list) n) tables q c.viewer_of.result viewer c.count_hidden.ensures in
    elim c.in-Read.is [
      | inl read ↦ open_hides (seen_in tables q) c.args.work.now c.in-Open.open (task.Read read.0 read.1) answer n c.in-Open.is read.2 counts
      | inr bulk ↦ open_hides (seen_in tables q) c.args.work.now c.in-Open.open (task.Bulk bulk.0 bulk.1) answer n c.in-Open.is bulk.2 counts
    ]
