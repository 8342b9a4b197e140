use Rattle.std.proofs.Common.{ℕ, List, All, map, refl, subst, sym}
use Rattle.snmp_msg.specs.Variables.{variable_of}
use Rattle.snmp_msg.specs.declared.binding.Binding.{Binding}
use Rattle.snmp_incoming.specs.Answers.{given_of}
use Rattle.snmp_responder.specs.declared.viewer.Viewer.{Viewer}
use Rattle.snmp_walk.specs.BulkDialogue.{BulkAllStand}
use Rattle.snmp_walk.specs.Front.{IsFront, IsShownOf}
use Rattle.snmp_gate.specs.Messages.{IsViewerOf, seen_in}
use Rattle.snmp_gate.specs.Replies.{IsFrontSentOr, answering}
use Rattle.snmp_gate.proofs.Sending.{on_ok}
use Rattle.snmp_gate.proofs.Standing.{from_seen, to_seen}
use Rattle.snmp_gate.proofs.Telling.{front_reply, no_bulk, unwritten}
use Rattle.snmp_gate.proofs.reply.reply_bulk.Goals as goal

pub returns-then-not-can_be_written-clause-sent : goal.returns-then-not-can_be_written-clause-sent
returns-then-not-can_be_written-clause-sent c =
    on_ok c.reply_own.result _ _ (λ r sent client q said again asked stands. sent client q said again asked (unwritten c.args.agent.now.tables q said again (no_bulk q stands.tag))) c.reply_own.ensures.sent

pub returns-clause-sent : goal.returns-clause-sent
returns-clause-sent c =
    let a = answering c.args.agent.now c.args.sealing.now in
    let g = given_of c.args.taken.now in
    let tables = c.args.agent.now.tables in
    let d = c.args.dialogue.now in
    let bs = c.deref-2.result.now in
    on_ok c.reply_front.result (IsFrontSentOr a g (map variable_of bs)) _
    (λ r sent client q said again asked stands.
    let viewer : Viewer = record {
      vacm = record { ref_ptr = c.args.agent.ref_ptr; now = tables };
      model = 3;
      name = record { ref_ptr = c.args.taken.now.user.ref_ptr; now = q.user };
      level = q.level;
      context = record { ref_ptr = c.args.taken.now.user.ref_ptr; now = q.context };
    } in
    let is : IsViewerOf tables q viewer = record { tables_are = refl; model = refl; name = refl; level = refl; context = refl } in
    let all = c.in_ok-bindings.ensures.outwards viewer said.variables (from_seen (λ (Seen : List ℕ → Type 0). BulkAllStand Seen said.variables d) tables q viewer is stands.stand) in
    front_reply a tables q said again g d bs r stands
    (subst (λ (ws : List Binding). All (IsShownOf (seen_in tables q) said.variables d.columns.items) (map variable_of ws)) (sym c.deref-2.ensures.value)
    (to_seen (λ (Seen : List ℕ → Type 0). All (IsShownOf Seen said.variables d.columns.items) (map variable_of c.in_ok-bindings.bindings.items)) tables q viewer is all))
    (subst (λ (ws : List Binding). IsFront d.non_repeaters d.max_repetitions d.columns.items (map variable_of ws)) (sym c.deref-2.ensures.value) c.in_ok-bindings.ensures.front)
    sent)
    c.reply_front.ensures.sent
