-- What a client sees through a gateway of a device that answers as RFC 3416 says.
use Rattle.std.specs.Prelude.{◌≡◌, ◌<◌, ℕ, Bool, cond, List, [], ◌∷◌, IfSome, None, Option, Some, length}
use Rattle.std.proofs.Common.{ap, arith, inl, inr, subst, sym, ◌∙◌}
use Rattle.std.proofs.lemmas.Bool.{false≢true}
use Rattle.std.proofs.lemmas.Bool.Decides.{Decides-int_eq, eqb_tells}
use Rattle.snmp_msg.specs.PduTypes.{pdu_tag}
use Rattle.snmp_msg.specs.declared.pdu_type.PduType.TheVariants.{SetRequest}
use Rattle.snmp_msg.specs.Variables.{Variable}
use Rattle.vacm_core.specs.Tables.{Tables}
use Rattle.snmp_incoming.specs.Outcome.{Given}
use Rattle.snmp_agent.specs.declared.unhandled.Unhandled.{Unhandled}
use Rattle.snmp_responder.specs.Instrumentation.{Known}
use Rattle.gateway_laws.specs.Device.{IsDevice}
use Rattle.gateway_laws.specs.Requests.{RequestPdu}
use Rattle.snmp_gate.specs.History.{Happening, accepted, answered, asked, asked_more, given_up, more_said, open_ask, sent, told_in, unanswered}
use Rattle.snmp_gate.specs.Lawful.{WasAsked}
use Rattle.snmp_gate.specs.Messages.{seen_in}
use Rattle.snmp_gate.specs.Question.{Question}
use Rattle.snmp_gate.specs.Replies.{Answering, ClientAnswer, IsAnswerTo, IsReport, MayTellValues, columns, front, set, status_in}
use Rattle.snmp_gate.specs.Said.{AreTrue, Said, SaysOfSet}
use Rattle.snmp_gate.specs.Through.{IsDoneBy, ShowsDevice, TellsDevice, TellsSet, bulk, reads, sets}
use Rattle.snmp_gate.specs.declared.set_answer.ResponseStatus.{ResponseStatus}
use Rattle.snmp_gate.specs.declared.set_answer.TheConstants.{NO_ERROR, TOO_BIG}
use Rattle.snmp_gate.proofs.Others.{was_before, was_other}

module _ (device : Known) (plain : IsDevice device) (tables : Tables) (q : Question) (said : Said) (again : Option ResponseStatus) (Cause : Unhandled → Type 0) (truly : AreTrue device said) where
  shows : (vs : List Variable) → MayTellValues tables q said vs → ShowsDevice device (seen_in tables q) q vs
  shows vs (columns operation tag each whole) = reads operation tag (whole device plain truly)
  shows vs (front tag each non_repeaters max_repetitions first most whole) = bulk tag non_repeaters max_repetitions first most (whole device plain truly)
  shows vs (set tag own) = sets tag own

  pub tells_device : (by : Answering) (g : Given) (answer : ClientAnswer) → IsAnswerTo by tables q said again Cause g answer → TellsDevice device (seen_in tables q) by q g answer
  tells_device by g answer (inr (why, cause, report)) = inl (why, report)
  tells_device by g answer (inl (told, out, (status, inl (none, may)))) = inr (told, out, λ is. shows told.variables may)
  tells_device by g answer (inl (told, out, (status, inr (inl (error, own))))) = inr (told, out, λ is. absurd (error is))
  tells_device by g answer (inl (told, out, (status, inr (inr (big, none))))) = inr (told, out, λ is. absurd (false≢true ((Decides-int_eq TOO_BIG NO_ERROR).1 (sym big ∙ is))))

-- ---- a Set

-- what a device was asked is known
some_asked : (n : ℕ) (before : List Happening) → WasAsked before n → 0 < length (told_in n before).asked
some_asked n [] was = absurd (let within = was.there.1 in omega (arith, within))
some_asked n (accepted k at w m ∷ before) was = some_asked n before (was_before (accepted k at w m) before n (λ d id what v same. let wrong : accepted k at w m ≡ asked n d id what v = same in cc) was)
some_asked n (asked k d id what w ∷ before) was =
    let told = told_in n before in
    elim (eqb_tells n k) [
      | inl (test, same) ↦ subst (λ (b : Bool). 0 < length (cond b (asked_more what told) told).asked) (sym test) (omega arith)
      | inr (test, other) ↦ subst (λ (b : Bool). 0 < length (cond b (asked_more what told) told).asked) (sym test) (some_asked n before (was_other (asked k d id what w) before n other was))
    ]
some_asked n (answered k d p w ∷ before) was =
    let told = told_in n before in
    let old = some_asked n before (was_before (answered k d p w) before n (λ e id what v same. let wrong : answered k d p w ≡ asked n e id what v = same in cc) was) in
    elim (eqb_tells n k) [
      | inl (test, same) ↦ subst (λ (b : Bool). 0 < length (cond b (more_said (open_ask n before) p told) told).asked) (sym test) old
      | inr (test, other) ↦ subst (λ (b : Bool). 0 < length (cond b (more_said (open_ask n before) p told) told).asked) (sym test) old
    ]
some_asked n (sent k m by w ∷ before) was = some_asked n before (was_before (sent k m by w) before n (λ d id what v same. let wrong : sent k m by w ≡ asked n d id what v = same in cc) was)
some_asked n (unanswered k m by why ∷ before) was = some_asked n before (was_before (unanswered k m by why) before n (λ d id what v same. let wrong : unanswered k m by why ≡ asked n d id what v = same in cc) was)
some_asked n (given_up k d ∷ before) was = some_asked n before (was_before (given_up k d) before n (λ e id what v same. let wrong : given_up k d ≡ asked n e id what v = same in cc) was)

tells_set : (tables : Tables) (q : Question) (said : Said) (again : Option ResponseStatus) (Cause : Unhandled → Type 0) (by : Answering) (g : Given) (answer : ClientAnswer) → q.tag ≡ pdu_tag SetRequest → 0 < length said.asked → IsAnswerTo by tables q said again Cause g answer
    → TellsSet said by g answer
tells_set tables q said again Cause by g answer set_is some (inr (why, cause, report)) = inl (why, report)
tells_set tables q said again Cause by g answer set_is some (inl (told, out, (status, variables))) = inr (
  told,
  out,
  elim (status.0 set_is) [
    | inl big ↦ inl big
    | inr (inl none) ↦ absurd (omega (arith, some, ap (λ (rs : List RequestPdu). length rs) none.0))
    | inr (inr says) ↦ inr says
  ],
)

pub tells_of_set : (tables : Tables) (q : Question) (n : ℕ) (before : List Happening) (again : Option ResponseStatus) (Cause : Unhandled → Type 0) → q.tag ≡ pdu_tag SetRequest → WasAsked before n → (by : Answering) (g : Given) (answer : ClientAnswer)
    → IsAnswerTo by tables q (told_in n before) again Cause g answer → TellsSet (told_in n before) by g answer
tells_of_set tables q n before again Cause set_is was by g answer is = tells_set tables q (told_in n before) again Cause by g answer set_is (some_asked n before was) is

one_some : {A : Type 0} (a b : A) → Some a ≡ Some b → a ≡ b
one_some a b is = cc

none_some : {A : Type 0} (a : A) → None ≡ Some a → ⊥
none_some a is = cc

-- a Response says that a Set was done only for one of three reasons
pub done_so : (tables : Tables) (q : Question) (said : Said) (again : Option ResponseStatus) (Cause : Unhandled → Type 0) (by : Answering) (g : Given) (answer : ClientAnswer) (says : ResponseStatus) → q.tag ≡ pdu_tag SetRequest → answer.says ≡ Some says → says.status ≡ NO_ERROR
    → (Again : ResponseStatus → Type 0) → IfSome again Again → IsAnswerTo by tables q said again Cause g answer → IsDoneBy q said Again says
done_so tables q said again Cause by g answer says set_is is done Again told_so (inr (why, cause, report)) = absurd (none_some says (sym report.1 ∙ is))
done_so tables q said again Cause by g answer says set_is is done Again told_so (inl (told, out, (status, variables))) =
    let same : status_in told ≡ says = one_some (status_in told) says (sym out.1 ∙ is) in
    let none : told.status ≡ NO_ERROR = ap (λ (s : ResponseStatus). s.status) same ∙ done in
    elim (status.0 set_is) [
      | inl big ↦ absurd (false≢true ((Decides-int_eq TOO_BIG NO_ERROR).1 (sym big ∙ none)))
      | inr (inl (unasked, inl empty)) ↦ inl (empty none)
      | inr (inl (unasked, inr now)) ↦ inr (inr (subst Again same (subst (λ (o : Option ResponseStatus). IfSome o Again) now told_so)))
      | inr (inr device) ↦ inr (inl (subst (SaysOfSet said) none device))
    ]

-- of what nothing is said it is a report
pub reports_so : (tables : Tables) (q : Question) (said : Said) (again : Option ResponseStatus) (Cause : Unhandled → Type 0) (by : Answering) (g : Given) (answer : ClientAnswer) → answer.says ≡ None → IsAnswerTo by tables q said again Cause g answer
    → (why : Unhandled) × IsReport by g why answer × Cause why
reports_so tables q said again Cause by g answer none (inr (why, cause, report)) = (why, report, cause)
reports_so tables q said again Cause by g answer none (inl (told, out, may)) = absurd (none_some (status_in told) (sym none ∙ out.1))
