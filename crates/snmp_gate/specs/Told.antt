-- What is reported of what goes out: how a request ended, and whether its device is asked the same again.
--
-- `end_told`: how a request ended. `times_in`: how often its device was asked. `TellsEnd`, `Tells`: what is reported of
-- a request. `IsSentTold`: of one that waits.
use Rattle.std.specs.Prelude.{◌≡◌, ◌≢◌, ◌⊎◌, ◌↔◌, ◌<◌, ⊤, ℕ, None, length, true}
use Rattle.std.specs.List.{HoldsAt}
use Rattle.snmp_gate.specs.Time.{times_asked}
use Rattle.snmp_gate.specs.declared.gate.Gate.{Gate}
use Rattle.snmp_gate.specs.declared.gate.Sent.{Sent}
use Rattle.snmp_gate.specs.declared.gate.Sent.TheVariants as out
use Rattle.snmp_gate.specs.declared.requests.WaitingRequest.{WaitingRequest}
use Rattle.snmp_gate.specs.declared.waiting_message.WaitingMessage.{WaitingMessage}
use Rattle.snmp_gate.specs.declared.work.EndedBy.{EndedBy}
use Rattle.snmp_gate.specs.declared.work.EndedBy.TheVariants.{Answer, Repeated, RoundsUsedUp, Silence, Unhandled}
use Rattle.snmp_gate.specs.declared.work.RequestEnd.{RequestEnd}
use Rattle.snmp_gate.specs.declared.work.RequestEnd.TheVariants as ending
use Rattle.snmp_gate.specs.declared.work.Work.{Work}
use Rattle.snmp_gate.specs.declared.work.Work.TheVariants.{Open, Ends}

abbrev pub end_told : RequestEnd → EndedBy
end_told (ending.Repeated says) = Repeated
end_told (ending.RoundsUsedUp says) = RoundsUsedUp
end_told (ending.Unhandled why) = Unhandled why
end_told ending.Silent = Silence
end_told _ = Answer

-- a request that was open ends by an answer
abbrev pub IsEndOf : Work → EndedBy → Type 0
IsEndOf (Ends e) ended = ended ≡ end_told e
IsEndOf (Open o) ended = ended ≡ Answer

-- its device is asked, and didn't answer
abbrev pub IsAskedNow : Work → Type 0
IsAskedNow (Open o) = o.asked ≢ None
IsAskedNow (Ends e) = ⊥

-- how often its device was asked the same
abbrev pub times_in : Work → ℕ
times_in (Open o) = times_asked o.timer.turn
times_in (Ends e) = 0

-- what is reported of the request of which a message is answered, or isn't: its number, and how it ended
abbrev pub TellsEnd : Sent → WaitingRequest WaitingMessage Work → Type 0
TellsEnd (out.ToClient number message says datagram ended) r = (number ≡ r.number) × IsEndOf r.work ended
TellsEnd (out.Unanswered number message why ended) r = (number ≡ r.number) × IsEndOf r.work ended
TellsEnd _ r = ⊥

-- what is reported of any: its number, how it ended, whether its device is asked again, and how often it was asked
abbrev pub Tells : Sent → WaitingRequest WaitingMessage Work → Type 0
Tells (out.ToClient number message says datagram ended) r = (number ≡ r.number) × IsEndOf r.work ended
Tells (out.Unanswered number message why ended) r = (number ≡ r.number) × IsEndOf r.work ended
Tells (out.ToDevice number device datagram again) r = (number ≡ r.number) × ((again ≡ true) ↔ IsAskedNow r.work)
Tells (out.GivenUp number device times) r = (number ≡ r.number) × (times ≡ times_in r.work)
Tells out.Nothing r = ⊤

-- of a request that waits
abbrev pub IsSentTold : Gate → Sent → Type 0
IsSentTold old sent = (sent ≡ out.Nothing) ⊎ ((place : ℕ) × (place < length old.requests.list.items)
    × HoldsAt (Tells sent) old.requests.list.items place)
