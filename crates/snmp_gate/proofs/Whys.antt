-- Why a request ends without a Response.
use Rattle.std.specs.Prelude.{ℕ, List, IfSome, None, Option, Some}
use Rattle.std.proofs.Common.{sym, subst, inl, inr}
use Rattle.snmp_agent.specs.Dispatch.{HandledBy}
use Rattle.snmp_agent.specs.declared.unhandled.Unhandled.{Unhandled}
use Rattle.snmp_agent.specs.declared.unhandled.Unhandled.TheVariants as cause
use Rattle.snmp_message.specs.Scoped.{Contexts}
use Rattle.snmp_msg.specs.Pdu.{PduParts}
use Rattle.snmp_incoming.specs.Outcome.{Given}
use Rattle.vacm_core.specs.Tables.{Tables}
use Rattle.snmp_gate.specs.Causes.{EndsFor, EndsOnlyBy, HasResponse, IfOnwardEnds, IfWorkEnds, IsUnhandledBy}
use Rattle.snmp_gate.specs.Messages.{question_with}
use Rattle.snmp_gate.specs.Question.{Question}
use Rattle.snmp_gate.specs.Replies.{Answering, ClientAnswer, IsAnswerTo}
use Rattle.snmp_gate.specs.Said.{Said}
use Rattle.snmp_gate.specs.Work.{IsWhyOf}
use Rattle.snmp_gate.specs.declared.devices.Device.{Device}
use Rattle.snmp_gate.specs.declared.onward.Onward.{Onward}
use Rattle.snmp_gate.specs.declared.onward.Onward.TheVariants as onward
use Rattle.snmp_gate.specs.declared.set_answer.ResponseStatus.{ResponseStatus}
use Rattle.snmp_gate.specs.declared.work.RequestEnd.{RequestEnd}
use Rattle.snmp_gate.specs.declared.work.RequestEnd.TheVariants as ending
use Rattle.snmp_gate.specs.declared.work.Work.{Work}
use Rattle.snmp_gate.specs.declared.work.Work.TheVariants.{Open, Ends}

-- it ends for one of more causes
pub ends_weaker : (P Q : Unhandled → Type 0) (S T : Type 0) (e : RequestEnd) → ((why : Unhandled) → P why → Q why) → (S → T) → EndsOnlyBy P S e → EndsOnlyBy Q T e
ends_weaker P Q S T (ending.Unhandled why) causes silent by = causes why by
ends_weaker P Q S T ending.Silent causes silent by = silent by
ends_weaker P Q S T (ending.Columns whole) causes silent by = tt
ends_weaker P Q S T (ending.Front d) causes silent by = tt
ends_weaker P Q S T (ending.Own says) causes silent by = tt
ends_weaker P Q S T (ending.RoundsUsedUp says) causes silent by = tt
ends_weaker P Q S T (ending.Repeated says) causes silent by = tt

-- what ends with a Response has no cause
pub responds_for : (P : Unhandled → Type 0) (S : Type 0) (e : RequestEnd) → HasResponse e → EndsOnlyBy P S e
responds_for P S e has = ends_weaker (λ (why : Unhandled). ⊥) P ⊥ S e (λ why none. absurd none) (λ none. absurd none) has

pub work_weaker : (P Q : RequestEnd → Type 0) (w : Work) → ((e : RequestEnd) → P e → Q e) → IfWorkEnds P w → IfWorkEnds Q w
work_weaker P Q (Open o) weaker by = tt
work_weaker P Q (Ends e) weaker by = weaker e by

pub onward_weaker : (P Q : RequestEnd → Type 0) (o : Onward) → ((e : RequestEnd) → P e → Q e) → IfOnwardEnds P o → IfOnwardEnds Q o
onward_weaker P Q (onward.Asks named) weaker by = tt
onward_weaker P Q (onward.Ends e) weaker by = weaker e by

-- how a request goes on that ends with a Response
pub onward_for : (engine : List ℕ) (tables : Tables) (devices : List Device) (q : Question) (o : Onward) → IfOnwardEnds HasResponse o → IfOnwardEnds (EndsFor engine tables devices q) o
onward_for engine tables devices q o has = onward_weaker HasResponse (EndsFor engine tables devices q) o (responds_for (IsUnhandledBy engine tables devices q) ⊥) has

-- the cause of a report
pub why_cause : (P : Unhandled → Type 0) (S : Type 0) (e : RequestEnd) (why : Unhandled) → EndsOnlyBy P S e → IsWhyOf e why → P why
why_cause P S (ending.Unhandled own) why by is = subst P (sym is) by
why_cause P S ending.Silent why by is = absurd is
why_cause P S (ending.Columns whole) why by is = absurd is
why_cause P S (ending.Front d) why by is = absurd is
why_cause P S (ending.Own says) why by is = absurd is
why_cause P S (ending.RoundsUsedUp says) why by is = absurd is
why_cause P S (ending.Repeated says) why by is = absurd is

pub answer_weaker : (P Q : Unhandled → Type 0) (a : Answering) (tables : Tables) (q : Question) (said : Said) (again : Option ResponseStatus) (g : Given) (answer : ClientAnswer) → ((why : Unhandled) → P why → Q why) → IsAnswerTo a tables q said again P g answer
    → IsAnswerTo a tables q said again Q g answer
answer_weaker P Q a tables q said again g answer weaker (inl response) = inl response
answer_weaker P Q a tables q said again g answer weaker (inr report) = inr (report.0, weaker report.0 report.1, report.2)

-- why an agent doesn't answer what a message asks
pub unhandled_so : (engine : List ℕ) (tables : Tables) (devices : List Device) (client : List ℕ) (g : Given) (c : Contexts) (p : PduParts) (unhandled : Option Unhandled) → HandledBy engine tables c p unhandled
    → IfSome unhandled (IsUnhandledBy engine tables devices (question_with client g c p))
unhandled_so engine tables devices client g c p None is = tt
unhandled_so engine tables devices client g c p (Some cause.NoRequest) is = is
unhandled_so engine tables devices client g c p (Some cause.UnknownPduHandlers) is = is.1
unhandled_so engine tables devices client g c p (Some cause.UnknownContexts) is = inl is.1
unhandled_so engine tables devices client g c p (Some cause.UnavailableContexts) is = is
