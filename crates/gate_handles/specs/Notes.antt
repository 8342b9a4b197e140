-- What a call on a gateway tells besides its event.
--
-- `note_to`: of a datagram to a client. `tells_note`: error-status and error-index of the Response (RFC 3416, section
-- 3), or that it is a Report, and how the request ended (`ends_so`); whether a device is asked the same again; of a
-- device's answer its error-status and error-index, the number of what doesn't fit, that of the answer's binding, which
-- counts from 1, and how many of its bindings are hidden; of a client's message the tag of its PDU; and how often a
-- device was asked that is given up.
use Rattle.std.specs.Prelude.{◌+◌, ◌-◌, ◌^◌, ℕ, ℤ, pos, negsuc, min, true, Option, Some, None}
use Rattle.snmp_walk.specs.declared.answer.AnswerFault.{AnswerFault}
use Rattle.snmp_walk.specs.declared.answer.AnswerFault.TheVariants.{AtBinding, TooFew, TooMany}
use Rattle.snmp_walk.specs.declared.misfit.Misfit.{Misfit}
use Rattle.snmp_walk.specs.declared.misfit.Misfit.TheVariants.{AfterEnd, NotAfter, NotValue, OtherName}
use Rattle.snmp_agent.specs.declared.unhandled.Unhandled.TheVariants.{NoRequest, UnknownPduHandlers}
use Rattle.snmp_agent.specs.declared.unhandled.Unhandled.TheVariants.{UnavailableContexts, UnknownContexts}
use Rattle.snmp_gate.specs.declared.set_answer.ResponseStatus.{ResponseStatus}
use Rattle.snmp_gate.specs.declared.work.EndedBy.{EndedBy}
use Rattle.snmp_gate.specs.declared.work.EndedBy.TheVariants as ended
use Rattle.gate_handles.specs.declared.note.GateInfo.{GateInfo}
use Rattle.gate_handles.specs.declared.note.GateNote.{GateNote}
use Rattle.gate_handles.specs.declared.note.GateNote.TheVariants as note

abbrev pub note_to : Option ResponseStatus → EndedBy → GateNote
note_to (Some says) ended = note.Response says ended
note_to None ended = note.Report ended

-- the tag of a PDU, or 0 if there is none
abbrev pub tag_number : Option ℕ → ℕ
tag_number (Some tag) = tag
tag_number None = 0

-- the number, or 4294967295 if it is below 0
abbrev pub natural : ℤ → ℕ
natural (pos n) = n
natural (negsuc n) = 2 ^ 32 - 1

-- the number of a binding that counts from 0, counted from 1: a number of 64 bits
abbrev pub binding_number : ℕ → ℕ
binding_number place = min (place + 1) (2 ^ 64 - 1)

abbrev pub misfit_number : Misfit → ℕ
misfit_number OtherName = 3
misfit_number NotAfter = 4
misfit_number NotValue = 5
misfit_number AfterEnd = 6

abbrev pub fault_numbers : Option AnswerFault → ℕ × ℕ
fault_numbers None = (0, 0)
fault_numbers (Some TooFew) = (1, 0)
fault_numbers (Some TooMany) = (2, 0)
fault_numbers (Some (AtBinding place misfit)) = (misfit_number misfit, binding_number place)

-- how a request ended
abbrev pub ended_number : EndedBy → ℕ
ended_number ended.Answer = 1
ended_number ended.Repeated = 2
ended_number ended.RoundsUsedUp = 3
ended_number (ended.Unhandled why) = 4
ended_number ended.Silence = 5

-- why no application answers it, as the agent counts it (RFC 3413, section 4.1.2), or 0 if it ended otherwise
abbrev pub unhandled_number : EndedBy → ℕ
unhandled_number (ended.Unhandled NoRequest) = 1
unhandled_number (ended.Unhandled UnknownPduHandlers) = 7
unhandled_number (ended.Unhandled UnavailableContexts) = 8
unhandled_number (ended.Unhandled UnknownContexts) = 9
unhandled_number _ = 0

-- the same with how the request ended
abbrev pub ends_so : GateInfo → EndedBy → GateInfo
ends_so about e = record about { ended = ended_number e; unhandled = unhandled_number e }

abbrev pub tells_note : GateInfo → GateNote → GateInfo
tells_note about note.Nothing = about
tells_note about (note.Request tag) = record about { pdu = tag_number tag }
tells_note about (note.Response says e) =
    ends_so (record about { status = natural says.status; index = natural says.index }) e
tells_note about (note.Report e) = ends_so (record about { is_report = true }) e
tells_note about (note.Unanswered e) = ends_so about e
tells_note about (note.Asked again) = record about { again = again }
tells_note about (note.GivenUp times) = record about { times = times }
tells_note about (note.Answer says fault hidden) = record about {
  status = natural says.status;
  index = natural says.index;
  misfit = (fault_numbers fault).0;
  binding = (fault_numbers fault).1;
  hidden = hidden;
}
