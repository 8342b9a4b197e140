-- What an accepted message is to the Informs that wait.
use Rattle.std.specs.Prelude.{◌≡◌, ◌≢◌, ◌/◌, ℕ, Bool, List, All, Option, Some, None, Ok, Err}
use Rattle.std.proofs.Common.{refl, sym, ap, subst, ◌∙◌}
use Rattle.std.proofs.lemmas.Option.{same_Some}
use Rattle.snmp_message.specs.Numbers.{in_table}
use Rattle.snmp_message.specs.Scoped.{Contexts, ScopedFront}
use Rattle.snmp_message.specs.declared.refusal.Refusal.{Refusal}
use Rattle.snmp_message.specs.declared.refusal.Refusal.TheVariants.{NotMessage, BadVersion, NotSecurity, NotScoped, NotPdu, UnknownEngine, UnknownUser, UnsupportedLevel, WrongDigest, NotInWindow, DecryptionError, BadScoped, BadPdu, OutOfMemory, ClockExhausted, TooLarge, UnknownModel, InvalidFlags}
use Rattle.snmp_msg.specs.Pdu.{PduParts, PduText}
use Rattle.snmp_incoming.specs.Outcome.{Given, Outcome, as_manager}
use Rattle.usm_core.specs.Table.{refusal_answer}
use Rattle.usm_users.specs.User.{User}
use Rattle.snmp_manager.specs.Takes.{Takes}
use Rattle.snmp_manager.specs.Views.{Held}
use Rattle.snmp_requests.specs.Answering.{IsHeardOf, TellsAnswered, left_after}
use Rattle.snmp_requests.specs.Outstanding.{Outstanding, message_id_of}
use Rattle.snmp_requests.specs.declared.answered.AnsweredRequest.{AnsweredRequest}
use Rattle.snmp_requests.specs.declared.device_request.Heard.{Heard}
use Rattle.snmp_requests.specs.declared.device_request.Heard.TheVariants.{Response, Report}
use Rattle.snmp_requests.specs.declared.device_request.NextStep.{NextStep}
use Rattle.snmp_requests.specs.declared.outstanding.OutstandingRequest.{OutstandingRequest}
use Rattle.snmp_forward.specs.InformHistory.{Accepted, InformHappening, InformSetting, IsAccepted, IsInformLawful, answers, asked_with}
use Rattle.snmp_forward.specs.InformStanding.{AnswerHappens, AnswersGiven, HeardHappens, HearsOf, InformsStand, IsAnswered, IsAt, IsForNone, IsReport, IsUnasked, KeepsRequests, ReceiverHappens, accepted_at, holds}
use Rattle.snmp_manager.specs.declared.pending.Pending.{Pending}
use Rattle.snmp_forward.specs.WaitingInforms.{IsAsked}
use Rattle.snmp_forward.specs.declared.informs.Informs.{Informs}
use Rattle.snmp_forward.specs.declared.informs.ReceiverTaken.{ReceiverTaken}
use Rattle.snmp_forward.specs.declared.informs.ReceiverTaken.TheVariants as taken
use Rattle.snmp_forward.specs.declared.waiting_inform.WaitingInform.{WaitingInform}
use Rattle.snmp_forward.proofs.InformKeeping.{keeps_all, keeps_without}
use Rattle.snmp_forward.proofs.InformSteps.{stands_there, with_manager}

-- ---- the requests that still wait

keeps_heard : (old : Outstanding) (heard : Heard) (token : ℕ) (new : Outstanding) → new ≡ left_after heard token old → KeepsRequests old new
keeps_heard old Response token new is = subst (KeepsRequests old) (sym is) (keeps_without old (message_id_of token))
keeps_heard old (Report counter authentic) token new is = subst (KeepsRequests old) (sym is) (keeps_all old)

pub keeps_told : (old : Outstanding) (g : Given) (c : Contexts) (p : PduParts) (told : Option AnsweredRequest) (new : Outstanding) → TellsAnswered old g c p told new → KeepsRequests old new
keeps_told old g c p (Some told) new is = keeps_heard old told.heard told.token new is.1
keeps_told old g c p None new is = subst (KeepsRequests old) (sym is.1) (keeps_all old)

-- ---- the Inform to which it is an answer

-- whatever its contexts and its PDU are
abbrev pub IsToldOf : Outstanding → Given → AnsweredRequest → Outstanding → Type 0
IsToldOf old g told new = (c : Contexts) (p : PduParts) → ScopedFront g.text c → PduText c.pdu p → TellsAnswered old g c p (Some told) new

pub answered_of : (f : Informs) (before : List InformHappening) (place : ℕ) (w : WaitingInform) (g : Given) (told : AnsweredRequest) (new : Outstanding) (c : Contexts) (p : PduParts) → InformsStand before f → IsAt f place w → w.token ≡ Some told.token
    → IsToldOf f.requests g told new → ScopedFront g.text c → PduText c.pdu p → IsAnswered before w g told.heard
answered_of f before place w g told new c p stands at has is front pdu =
    let first = (is c p front pdu).0 in
    let own = ((stands_there f before place w at stands).waits told.token has).own first.request first.there first.token_is in record {
      asked = asked_with own.message first.request.pending;
      is_asked = own.is_asked;
      is_sent = own.is_sent;
      is_heard = λ d q d_front q_pdu.
          let again = (is d q d_front q_pdu).0 in
          subst (λ (r : OutstandingRequest). IsHeardOf r.pending g d q (Some told.heard)) (same_Some again.request first.request (sym again.there ∙ first.there)) again.heard_is;
    }

-- ---- with other requests

abbrev pub with_requests : Informs → Outstanding → Informs
with_requests f q = record { alloc = f.alloc; engine = f.engine; manager = f.manager; requests = q; list = f.list; next = f.next; most = f.most; limits = f.limits }

given_as : (old new : Informs) (q : Outstanding) (before : List InformHappening) (from receiver : ℕ) (g : Given) (b c : Bool) (told : Heard) (n : ℕ) (Next : NextStep → Type 0) → from ≡ receiver → b ≡ c → (IsReport told → q ≡ old.requests)
    → AnswersGiven (with_requests old q) before from g b told n Next new → AnswersGiven old before receiver g c told n Next new
given_as old new q before from receiver g b c told n Next one same left a = record {
  heard = a.heard;
  heard_is = a.heard_is;
  kept = λ wait report. a.kept wait report ∙ left (subst IsReport a.heard_is report);
  clock = a.clock ∙ same;
  next = a.next;
  happens = λ what came whats accepted. let h = a.happens what (came ∙ sym one) whats accepted in record { lawful = h.lawful; stands = h.stands };
}

pub answer_as : (old new : Informs) (q : Outstanding) (before : List InformHappening) (from receiver : ℕ) (g : Given) (b : Bool) (told : Heard) (r : ReceiverTaken) → from ≡ receiver → b ≡ holds old.manager g.engine → (IsReport told → q ≡ old.requests) → HeardHappens (with_requests old q) before from g b told r new
    → AnswerHappens old before receiver g r new
answer_as old new q before from receiver g b told (taken.Refused why) one same left h = h
answer_as old new q before from receiver g b told taken.NoAnswer one same left h = absurd h
answer_as old new q before from receiver g b told (taken.Heard n) one same left h = (told, given_as old new q before from receiver g b (holds old.manager g.engine) told n _ one same left h)
answer_as old new q before from receiver g b told (taken.Acknowledged n) one same left h = (told, given_as old new q before from receiver g b (holds old.manager g.engine) told n _ one same left h)
answer_as old new q before from receiver g b told (taken.Denied n counter) one same left h = (told, given_as old new q before from receiver g b (holds old.manager g.engine) told n _ one same left h)

-- a Report ends no request
pub left_report : (old : Outstanding) (heard : Heard) (token : ℕ) (new : Outstanding) → new ≡ left_after heard token old → IsReport heard → new ≡ old
left_report old Response token new is report = absurd report
left_report old (Report counter authentic) token new is report = is

-- ---- no answer

pub none_told : (f : Informs) (receiver : ℕ) (g : Given) (new : Outstanding) → ((c : Contexts) (p : PduParts) → ScopedFront g.text c → PduText c.pdu p → TellsAnswered f.requests g c p None new) → IsForNone f receiver g
none_told f receiver g new is c p front pdu k d short from token r has there of = (is c p front pdu).0 (message_id_of token) r there

pub other_told : (f : Informs) (receiver : ℕ) (g : Given) (told : AnsweredRequest) (new : Outstanding) → IsToldOf f.requests g told new → All (λ (w : WaitingInform). ¬ IsAsked receiver told.token w) f.list.items → IsForNone f receiver g
other_told f receiver g told new is none c p front pdu k d short from token r has there of =
    (is c p front pdu).0.alone (message_id_of token) r there (λ same. none k d short (record { to = from; token_is = has ∙ ap Some (sym of ∙ same) }))

-- a message with another msgID is no answer to a request
other_id : (a : Pending) (g : Given) (c : Contexts) (p : PduParts) → (a.id ≡ g.id → ⊥) → IsHeardOf a g c p None
other_id a g c p other = ((λ response. other (sym response.id)), (λ report. other (sym report.0)))

pub unasked_told : (f : Informs) (before : List InformHappening) (receiver : ℕ) (g : Given) → InformsStand before f → IsUnasked f receiver g.id → IsForNone f receiver g
unasked_told f before receiver g stands none c p front pdu k d short from token r has there of =
    other_id r.pending g c p (λ same. none k d short (record {
      to = from;
      token = token;
      token_is = has;
      id_is = sym (((stands.all k d short).waits token has).id r there of) ∙ same;
    }))

-- ---- with what the manager has learned

abbrev setting_with : Informs → List User → InformSetting
setting_with f users = record { limits = f.limits; users = users; own = f.engine }

module _ (old new : Informs) (held : Held) (before : List InformHappening) (now receiver : ℕ) (datagram : List ℕ) (g : Given) (takes : Takes old.manager (now / 1000) datagram (Some (Ok g)) held) (same : new.manager ≡ held) where
  takes_on : Takes old.manager (now / 1000) datagram (Some (Ok g)) new.manager
  takes_on = subst (λ (h : Held). Takes old.manager (now / 1000) datagram (Some (Ok g)) h) (sym same) takes

  abbrev accepted_now : Accepted
  accepted_now = accepted_at new.manager now receiver datagram g

  is_accepted : IsAccepted held.users accepted_now
  is_accepted = subst (λ (users : List User). Outcome (as_manager new.manager.clocks) users (now / 1000) datagram (Ok g)) (sym takes.0) takes_on.2

  hears_of : (told : Heard) (n : ℕ) (Next : NextStep → Type 0) → AnswersGiven (with_manager old held) before receiver g (holds held g.engine) told n Next new → HearsOf old before now receiver datagram n Next new
  hears_of told n Next a =
      let h = a.happens accepted_now refl refl is_accepted in record {
        given = g;
        takes = takes_on;
        heard = a.heard;
        kept = a.kept;
        clock = a.clock ∙ ap (λ (h : Held). holds h g.engine) (sym same);
        next = a.next;
        happens = record {
          lawful = subst (λ (users : List User). IsInformLawful (setting_with old users) before (answers n accepted_now a.heard)) takes.0 h.lawful;
          stands = h.stands;
        };
      }

  pub receives : (r : ReceiverTaken) → AnswerHappens (with_manager old held) before receiver g r new → ReceiverHappens old before now receiver datagram r new
  receives (taken.Refused why) h = absurd h
  receives taken.NoAnswer h = (g, takes_on, record { none = h.none; still = record { list = h.still.list; stands = h.still.stands }; requests = h.requests })
  receives (taken.Heard n) h = hears_of h.0 n _ h.1
  receives (taken.Acknowledged n) h = hears_of h.0 n _ h.1
  receives (taken.Denied n counter) h = hears_of h.0 n _ h.1

-- ---- refusals

-- a refusal that isn't out of memory is an answer
pub refusal_told : {X : Type 0} (r : Refusal) → in_table r ≢ None → refusal_answer {X = X} r ≡ Some (Err r)
refusal_told NotMessage never = refl
refusal_told BadVersion never = refl
refusal_told NotSecurity never = refl
refusal_told NotScoped never = refl
refusal_told NotPdu never = refl
refusal_told UnknownEngine never = refl
refusal_told UnknownUser never = refl
refusal_told UnsupportedLevel never = refl
refusal_told WrongDigest never = refl
refusal_told NotInWindow never = refl
refusal_told DecryptionError never = refl
refusal_told BadScoped never = refl
refusal_told BadPdu never = refl
refusal_told OutOfMemory never = absurd (never refl)
refusal_told ClockExhausted never = refl
refusal_told TooLarge never = refl
refusal_told UnknownModel never = refl
refusal_told InvalidFlags never = refl
