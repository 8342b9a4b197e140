-- What a manager's calls on the answers to its requests tell and leave (RFC 3412, section 7.2, steps 10 to 12).
--
-- `TakesAnswer`: the answer is that of `TellsAnswer`, and its Response ends the waiting.
-- `TellsReport`: what it tells, where it is a Report on the request.
use Rattle.std.specs.Prelude.{◌≡◌, Option, Some, Result, Ok, Err}
use Rattle.snmp_message.specs.Scoped.{Contexts, ScopedFront}
use Rattle.snmp_msg.specs.Pdu.{PduParts, PduText}
use Rattle.snmp_incoming.specs.Outcome.{Given}
use Rattle.snmp_manager.specs.Replies.{IsAnswer, IsReport, still_waiting}
use Rattle.snmp_manager.specs.declared.pending.Pending.{Pending}
use Rattle.snmp_manager.specs.declared.pending.Answer.{Answer}
use Rattle.snmp_manager.specs.declared.replies.Report.{Report}
use Rattle.snmp_handles.specs.Managers.{ManagerHeld, RefusesAnswer}
use Rattle.snmp_handles.specs.declared.fault.CallFault.{CallFault}

-- The answer says what the kept message is to the request, and its Response ends the waiting. An error changes nothing.
abbrev pub TakesAnswer : ManagerHeld → Result Answer CallFault → ManagerHeld → Type 0
TakesAnswer old (Ok answer) new =
    (g : Given) × (a : Pending) × (old.last ≡ Some g) × (old.pending ≡ Some a)
    × ((c : Contexts) (p : PduParts) → ScopedFront g.text c → PduText c.pdu p → IsAnswer a g c p answer)
    × (new ≡ record old { pending = still_waiting answer a })
TakesAnswer old (Err fault) new = RefusesAnswer old fault × (new ≡ old)

-- what it tells, where it is a Report on the request
abbrev pub TellsReport : ManagerHeld → Result (Option Report) CallFault → Type 0
TellsReport held (Ok report) =
    (g : Given) × (a : Pending) × (held.last ≡ Some g) × (held.pending ≡ Some a)
    × ((c : Contexts) (p : PduParts) → ScopedFront g.text c → PduText c.pdu p → IsReport a g p report)
TellsReport held (Err fault) = RefusesAnswer held fault
