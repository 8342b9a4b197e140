use Rattle.std.proofs.Common.{◌≡◌, option_map, Some, refl, subst}
use Rattle.snmp_message.specs.Scoped.{Contexts, ScopedFront}
use Rattle.snmp_msg.specs.Pdu.{PduParts, PduText}
use Rattle.snmp_incoming.specs.Outcome.{Given}
use Rattle.snmp_requests.specs.Answering.{TellsAnswered}
use Rattle.snmp_requests.specs.Outstanding.{Outstanding}
use Rattle.snmp_handles.specs.Managers.{ManagerHeld}
use Rattle.snmp_handles.proofs.manager.ManagerHandle.find_answer.Goals as goal

pub returns-in-Some : goal.returns-in-Some
returns-in-Some c =
    let new : ManagerHeld = record { manager = c.self.inside.manager; last = c.self.inside.last; message = option_map (λ v. v.items) c.self.inside.message; pending = c.self.inside.pending; requests = c.take_answer.new.requests } in
    let P : ManagerHeld → Type 0 = λ h. (g : Given) × (requests : Outstanding) × (h.last ≡ Some g)
    × ((k : Contexts) (p : PduParts) → ScopedFront g.text k → PduText k.pdu p → TellsAnswered h.requests g k p c.take_answer.result requests) × (new ≡ record h { requests = requests }) in
    subst P c.self.view_is (c.in-Some.kept, c.take_answer.new.requests, c.in-Some.is, c.take_answer.ensures, refl)
