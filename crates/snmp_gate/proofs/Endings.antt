-- How a device's answer ends a request.
use Rattle.std.specs.Prelude.{◌≡◌, ◌≤◌, None}
use Rattle.std.proofs.Common.{ap, arith, inr, refl, sym, ◌∙◌}
use Rattle.snmp_msg.specs.Pdu.{pdu_of}
use Rattle.snmp_msg.specs.declared.pdu.Pdu.{Pdu}
use Rattle.snmp_gate.specs.SetOutcome.{IsToldStatus}
use Rattle.snmp_gate.specs.Work.{IsOwnStatus, SaysAll, TaskStands, most_repetitions, request_of_task}
use Rattle.snmp_gate.specs.declared.set_answer.ResponseStatus.{ResponseStatus}
use Rattle.snmp_msg.specs.PduTypes.{pdu_tag}
use Rattle.snmp_msg.specs.declared.pdu_type.PduType.TheVariants.{SetRequest}
use Rattle.snmp_gate.specs.declared.task.Task.TheVariants as task
use Rattle.vacm_core.specs.Tables.{Tables}
use Rattle.snmp_gate.specs.Said.{Said}
use Rattle.snmp_gate.specs.Ends.{EndsSet, ErrsSo, FailsOrGoesOn, IsEndFor}
use Rattle.snmp_gate.specs.Taking.{WorkAfter}
use Rattle.snmp_gate.specs.declared.work.OpenRequest.{OpenRequest}
use Rattle.snmp_gate.specs.declared.work.RequestEnd.{RequestEnd}
use Rattle.snmp_gate.specs.declared.timer.Timer.{Timer}
use Rattle.snmp_gate.specs.declared.work.Work.{Work}
use Rattle.snmp_gate.specs.declared.work.Work.TheVariants as work
use Rattle.snmp_gate.specs.declared.work.Work.TheVariants.{Open}
use Rattle.snmp_gate.specs.Question.{Question}
use Rattle.snmp_gate.specs.declared.onward.AnswerTaken.{AnswerTaken}
use Rattle.snmp_gate.specs.declared.onward.AnswerTaken.TheVariants.{Ends, Front, GoesOn, Unfit}

pub fails_end : (tables : Tables) (q : Question) (told : Said) (taken : AnswerTaken) → (q.tag ≡ pdu_tag SetRequest → ⊥) → FailsOrGoesOn taken → ErrsSo tables q told taken → IsEndFor tables q told taken
fails_end tables q told (Ends says) read fails errs = record { read = λ no_set. errs; no_error = λ same. absurd (fails same); set = λ is_set. absurd (read is_set) }
fails_end tables q told Front read fails errs = tt
fails_end tables q told GoesOn read fails errs = tt
fails_end tables q told (Unfit why) read fails errs = read

-- a Set that ends without an error was done
set_ends : (tables : Tables) (q : Question) (told : Said) (answer : Pdu) (says : ResponseStatus) → SaysAll (request_of_task q task.Set) answer told → TaskStands tables q told task.Set → IsToldStatus answer.second says.status
    → IsOwnStatus tables q told None says
set_ends tables q told answer says all stands is = record {
  read = λ no_set. absurd (no_set stands.tag);
  no_error = λ none. stands.tag;
  set = λ is_set. inr (inr (record { exchange = record { asked = request_of_task q task.Set; answer = pdu_of answer }; there = all.exchange; set = refl; told = is }));
}

pub set_taken : (tables : Tables) (q : Question) (told : Said) (answer : Pdu) (taken : AnswerTaken) → SaysAll (request_of_task q task.Set) answer told → TaskStands tables q told task.Set → EndsSet answer taken → IsEndFor tables q told taken
set_taken tables q told answer (Ends says) all stands is = set_ends tables q told answer says all stands is.status
set_taken tables q told answer Front all stands is = absurd is
set_taken tables q told answer GoesOn all stands is = absurd is
set_taken tables q told answer (Unfit why) all stands is = absurd is

pub one_open : (w : Work) (a b : OpenRequest) → w ≡ Open a → w ≡ Open b → a ≡ b
one_open w a b is also = let same : Open a ≡ Open b = sym is ∙ also in cc

pub after_same : (tables : Tables) (q : Question) (told : Said) (a b : OpenRequest) (w : Work) → a.device ≡ b.device → a.timer ≡ b.timer → most_repetitions a.task.task ≤ most_repetitions b.task.task → WorkAfter tables q told a w → WorkAfter tables q told b w
after_same tables q told a b (Open new) device timer fewer after = (after.0, after.1 ∙ device, after.2, after.3, after.4 ∙ ap (λ (t : Timer). t.began) timer, omega (arith, after.5, fewer))
after_same tables q told a b (work.Ends e) device timer fewer after = after

pub never_open : (w : Work) (e : RequestEnd) (o : OpenRequest) → w ≡ work.Ends e → w ≡ Open o → ⊥
never_open w e o is also = let same : work.Ends e ≡ Open o = sym is ∙ also in cc
