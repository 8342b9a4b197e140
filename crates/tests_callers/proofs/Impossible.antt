-- What stands in no history: a Response and a notification to a receiver by themselves, and what is done twice.
use Rattle.std.specs.Prelude.{◌≡◌, ◌≢◌, ◌<◌, ◌≤◌, ◌+◌, ◌*◌, ◌++◌, ℕ, ℤ, suc, zero, Bool, true, Contains, cond, drop, length, max, nat_eq, List, [], ◌∷◌, None, Some}
use Rattle.std.specs.FinMap.{get-empty}
use Rattle.std.specs.Ordering.{nat_cmp}
use Rattle.std.proofs.Common.{◌∙◌, arith, ap, inl, inr, refl, sym}
use Rattle.std.proofs.lemmas.Bool.{false≢true}
use Rattle.std.proofs.lemmas.Bool.Decides.{eqb_tells}
use Rattle.snmp_msg.specs.PduTypes.{pdu_tag}
use Rattle.snmp_msg.specs.Variables.{Variable, variables_of}
use Rattle.snmp_msg.specs.declared.pdu_type.PduType.TheVariants.{SetRequest}
use Rattle.gateway_laws.specs.Requests.{RequestPdu}
use Rattle.snmp_message.specs.Scoped.{Contexts}
use Rattle.snmp_msg.specs.Pdu.{PduParts}
use Rattle.snmp_incoming.specs.Outcome.{Given}
use Rattle.snmp_manager.specs.Views.{Held}
use Rattle.snmp_manager.specs.declared.pending.Pending.{Pending}
use Rattle.snmp_requests.specs.DeviceRequestRuns.{HearStep}
use Rattle.snmp_requests.specs.Outstanding.{Outstanding, message_id_of, none_outstanding}
use Rattle.snmp_requests.specs.RequestRuns.{IsRequestRun, accepts}
use Rattle.snmp_requests.specs.declared.answered.AnsweredRequest.{AnsweredRequest}
use Rattle.snmp_requests.specs.declared.device_request.SentMessage.{SentMessage}
use Rattle.snmp_agent.specs.Agent.{AgentState}
use Rattle.snmp_gate.specs.History.{IsCauseFor, IsToldAgain, accepted, asked, sent, told_in, waiting_in}
use Rattle.snmp_gate.specs.Lawful.{AreLawful, IsSetRequest, WasAsked}
use Rattle.snmp_gate.specs.Limits.{AlwaysKeepsTo, MustBeShort, WaitInTime, asks_since}
use Rattle.snmp_gate.specs.Messages.{question_in}
use Rattle.snmp_gate.specs.Question.{Question}
use Rattle.snmp_gate.specs.Replies.{Answering, ClientAnswer}
use Rattle.snmp_gate.specs.declared.devices.Device.{Device}
use Rattle.snmp_gate.specs.declared.limits.GateLimits.{GateLimits}
use Rattle.snmp_gate.specs.declared.reply.TheConstants.{SHORT_ANSWER}
use Rattle.snmp_gate.specs.declared.set_answer.TheConstants.{NO_ERROR}
use Rattle.snmp_gate.specs.declared.waiting_message.WaitingMessage.{WaitingMessage}
use Rattle.snmp_gate.proofs.Through.{done_so}
use Rattle.snmp_forward.specs.History as notifications
use Rattle.snmp_forward.specs.InformHistory as informs
use Rattle.snmp_forward.specs.declared.inform.Inform.{Inform}
use Rattle.snmp_forward.specs.declared.receivers.Receiver.{Receiver}
use Rattle.snmp_forward.specs.declared.sealing.Sealing.{Sealing}

pub nothing_is_sent : (agent : AgentState) (devices : List Device) (number : ℕ) (message : WaitingMessage)
    (by : Answering) (answer : ClientAnswer) → AreLawful agent devices (sent number message by answer ∷ []) → ⊥
nothing_is_sent agent devices number message by answer lawful = cc (lawful.0.in_turn.1)

pub nothing_is_forwarded : (agent : AgentState) (devices : List Device) (receivers : List Receiver)
    (number receiver : ℕ) (by : Sealing) (datagram : List ℕ)
    → notifications.AreLawful agent devices receivers (notifications.sent number receiver by datagram ∷ []) → ⊥
nothing_is_forwarded agent devices receivers number receiver by datagram lawful = cc (lawful.0.turn.next.1)

-- ---- twice

same_number : (a : ℕ) → nat_eq a a ≡ true
same_number a = elim (eqb_tells a a) [ inl (test, same) ↦ test | inr (test, other) ↦ absurd (other refl) ]

chosen : {X : Type 0} (a : ℕ) (x y : X) → cond (nat_eq a a) x y ≡ x
chosen a x y = ap (λ (t : Bool). cond t x y) (same_number a)

none_left : {X : Type 0} (x y : X) (others : List X) → drop 1 (x ∷ []) ≡ y ∷ others → ⊥
none_left x y others same = cc

pub nothing_is_sent_twice : (agent : AgentState) (devices : List Device) (number now : ℕ) (datagram : List ℕ)
    (message : WaitingMessage) (by again : Answering) (answer other : ClientAnswer)
    → AreLawful agent devices (sent number message again other ∷ sent number message by answer ∷ accepted number now datagram message ∷ []) → ⊥
nothing_is_sent_twice agent devices number now datagram message by again answer other lawful =
    let turn = lawful.0.in_turn in
    let waits : waiting_in number (accepted number now datagram message ∷ []) ≡ message ∷ [] = chosen number ([] ++ message ∷ []) [] in
    let left = chosen number (drop 1 (waiting_in number (accepted number now datagram message ∷ []))) (waiting_in number (accepted number now datagram message ∷ [])) ∙ ap (λ (ms : List WaitingMessage). drop 1 ms) waits in
    none_left message message turn.0 (sym left ∙ turn.1)

pub no_set_is_asked_twice : (agent : AgentState) (devices : List Device) (number now device id other : ℕ) (set : Question)
    (message : WaitingMessage) (request again : RequestPdu) (datagram first second : List ℕ) → question_in message ≡ Some set → set.tag ≡ pdu_tag SetRequest
    → AreLawful agent devices (asked number device other again second ∷ asked number device id request first ∷ accepted number now datagram message ∷ []) → ⊥
no_set_is_asked_twice agent devices number now device id other set message request again datagram first second asks tag lawful =
    let before = asked number device id request first ∷ accepted number now datagram message ∷ [] in
    let is_set : IsSetRequest before number = record {
      question = set;
      is_asked = record { message = message; is_accepted = record { now = now; datagram = datagram; there = (1, omega arith, refl) }; asks = asks };
      tag = tag;
    } in
    let was : WasAsked before number = record { device = device; id = id; request = request; datagram = first; there = (0, omega arith, refl) } in
    (lawful.0.once is_set).0 was

pub none_is_tried_twice : (limits : GateLimits) (devices : List Device) (number device id other : ℕ) (request again : RequestPdu) (first second : List ℕ) → limits.retries.tries ≤ 1
    → AlwaysKeepsTo limits devices (asked number device other again second ∷ asked number device id request first ∷ []) → ⊥
none_is_tried_twice limits devices number device id other request again first second once keeps =
    let few : asks_since number (asked number device id request first ∷ []) < max 1 limits.retries.tries = keeps.1 in
    let since : asks_since number (asked number device id request first ∷ []) ≡ 1 = chosen number (1 + 0) 0 in
    omega (arith, few, since, once)

pub no_datagram_is_asked_twice : (agent : AgentState) (devices : List Device) (number other now device id again : ℕ) (set : Question)
    (message copy : WaitingMessage) (request same : RequestPdu) (datagram first second : List ℕ) → question_in message ≡ Some set → question_in copy ≡ Some set → set.tag ≡ pdu_tag SetRequest → number ≢ other
    → AreLawful agent devices (asked other device again same second ∷ asked number device id request first ∷ accepted other now datagram copy ∷ accepted number now datagram message ∷ []) → ⊥
no_datagram_is_asked_twice agent devices number other now device id again set message copy request same datagram first second asks too tag differ lawful =
    let before = asked number device id request first ∷ accepted other now datagram copy ∷ accepted number now datagram message ∷ [] in
    let there : Contains before (accepted number now datagram message) = (2, omega arith, refl) in
    let there_too : Contains before (accepted other now datagram copy) = (1, omega arith, refl) in
    let is_set : IsSetRequest before number = record {
      question = set;
      is_asked = record { message = message; is_accepted = record { now = now; datagram = datagram; there = there }; asks = asks };
      tag = tag;
    } in
    let other_set : IsSetRequest before other = record {
      question = set;
      is_asked = record { message = copy; is_accepted = record { now = now; datagram = datagram; there = there_too }; asks = too };
      tag = tag;
    } in
    let was : WasAsked before number = record { device = device; id = id; request = request; datagram = first; there = (0, omega arith, refl) } in
    elim ((lawful.0.once other_set).1 number was is_set datagram now now copy message there_too there) [
      | inl before_it ↦ omega (arith, before_it)
      | inr behind_it ↦ omega (arith, behind_it)
    ]

-- a Response by itself doesn't say that a Set was done
one_some : {A : Type 0} (a b : A) → Some a ≡ Some b → a ≡ b
one_some a b is = cc

none_some : {A : Type 0} (a : A) → None ≡ Some a → ⊥
none_some a is = cc

none_there : {X : Type 0} (x : X) → Contains [] x → ⊥
none_there x there = omega (arith, there.1)

nil_cons : {X : Type 0} (x : X) (xs : List X) → [] ≡ x ∷ xs → ⊥
nil_cons x xs is = cc

accepted_alone : (number now k : ℕ) (datagram : List ℕ) (message m : WaitingMessage) (by : Answering) (answer : ClientAnswer) → Contains (accepted number now datagram message ∷ []) (sent k m by answer) → ⊥
accepted_alone number now k datagram message m by answer (zero, within, is) = let wrong : accepted number now datagram message ≡ sent k m by answer = is in cc
accepted_alone number now k datagram message m by answer (suc i, within, is) = omega (arith, within)

pub no_set_is_done : (agent : AgentState) (devices : List Device) (number now : ℕ) (index : ℤ) (datagram : List ℕ) (message : WaitingMessage) (by : Answering) (answer : ClientAnswer) (set : Question) (first : Variable) (others : List Variable)
    → question_in message ≡ Some set → set.tag ≡ pdu_tag SetRequest → variables_of set.list ≡ first ∷ others → answer.says ≡ Some (record { status = NO_ERROR; index = index })
    → AreLawful agent devices (sent number message by answer ∷ accepted number now datagram message ∷ []) → ⊥
no_set_is_done agent devices number now index datagram message by answer set first others asks tag some says lawful =
    let before = accepted number now datagram message ∷ [] in
    let mediated = lawful.0.mediated in
    elim (done_so agent.tables set (told_in number before) mediated.1.0 (IsCauseFor agent.engine agent.tables devices before number set) by message.kept answer (record { status = NO_ERROR; index = index }) tag says refl (IsToldAgain before number message) mediated.1.1 (mediated.1.2 set asks)) [
      | inl empty ↦ nil_cons first others (sym empty ∙ some)
      | inr (inl device) ↦ none_there device.exchange device.there
      | inr (inr again) ↦ accepted_alone number now again.told.number datagram message again.told.message again.told.by again.told.answer again.told.there
    ]

-- ---- limits

pub none_waits_longer : (limits : GateLimits) (number at now : ℕ) (datagram : List ℕ) (message : WaitingMessage) → at + limits.retries.last + max 1 limits.retries.tries * limits.retries.again ≤ now
    → WaitInTime limits now (accepted number at datagram message ∷ []) → ⊥
none_waits_longer limits number at now datagram message late in_time =
    let waits : waiting_in number (accepted number at datagram message ∷ []) ≡ message ∷ [] = chosen number ([] ++ message ∷ []) [] in
    let some : 0 < length (waiting_in number (accepted number at datagram message ∷ [])) = omega (arith, ap (λ (ms : List WaitingMessage). length ms) waits) in
    let early = in_time number at datagram message (0, omega arith, refl) some in
    omega (arith, early, late)

pub none_is_answered_at_length : (limits : GateLimits) (devices : List Device) (number now : ℕ) (datagram : List ℕ) (message : WaitingMessage) (by : Answering) (answer : ClientAnswer) → MustBeShort limits message.kept.level
    → 2 * length datagram < length answer.datagram → SHORT_ANSWER < length answer.datagram → AlwaysKeepsTo limits devices (sent number message by answer ∷ accepted number now datagram message ∷ []) → ⊥
none_is_answered_at_length limits devices number now datagram message by answer must twice more keeps =
    let short = keeps.1.short must in
    let size : message.size ≡ length datagram = keeps.2.1 in
    omega (arith, short, size, twice, more)

pub none_is_notified_twice : (agent : AgentState) (devices : List Device) (receivers : List Receiver) (number device receiver : ℕ)
    (by again : Sealing) (datagram first second : List ℕ)
    → notifications.AreLawful agent devices receivers (notifications.sent number receiver again second ∷ notifications.sent number receiver by first ∷ notifications.taken number device datagram (receiver ∷ []) ∷ []) → ⊥
none_is_notified_twice agent devices receivers number device receiver by again datagram first second lawful =
    let next = lawful.0.turn.next in
    let came = notifications.taken number device datagram (receiver ∷ []) ∷ [] in
    let waits : notifications.left_in number came ≡ receiver ∷ [] = chosen number (receiver ∷ []) [] in
    let left = chosen number (drop 1 (notifications.left_in number came)) (notifications.left_in number came) ∙ ap (λ (xs : List ℕ). drop 1 xs) waits in
    none_left receiver receiver next.0 (sym left ∙ next.1)

-- ---- Informs and requests

pub none_is_informed : (s : informs.InformSetting) (number receiver now : ℕ) (message : SentMessage) (held : Held) (by : Sealing) (pending : Pending) (datagram : List ℕ)
    → informs.AreInformsLawful s (informs.asks number receiver now message held by pending datagram ∷ []) → ⊥
none_is_informed s number receiver now message held by pending datagram lawful =
    let begun = lawful.0.stands.is_begun in
    omega (arith, begun.1)

pub none_is_answered : (s : informs.InformSetting) (number : ℕ) (what : informs.Accepted) (heard : HearStep)
    → informs.AreInformsLawful s (informs.answers number what heard ∷ []) → ⊥
none_is_answered s number what heard lawful =
    let begun = lawful.0.stands.is_begun in
    omega (arith, begun.1)

pub none_ends_twice : (s : informs.InformSetting) (number receiver now later : ℕ) (why again : informs.InformEnd) (inform : Inform)
    → informs.AreInformsLawful s (informs.ends number receiver later again ∷ informs.ends number receiver now why ∷ informs.begins number inform ∷ []) → ⊥
none_ends_twice s number receiver now later why again inform lawful =
    let before = informs.begins number inform ∷ [] in
    let ended = informs.known_after (informs.ends number receiver now why) (informs.known_of number before) in
    let known : informs.known_of number (informs.ends number receiver now why ∷ before) ≡ ended = chosen number ended (informs.known_of number before) in
    false≢true (sym lawful.0.stands.not_over ∙ ap (λ (k : informs.InformKnown). k.over) known)

pub none_was_asked : (g : Given) (c : Contexts) (p : PduParts) (told : AnsweredRequest) (last : Outstanding)
    → IsRequestRun none_outstanding (accepts g c p (Some told) ∷ []) last → ⊥
none_was_asked g c p told last run =
    let is = run.1.0 in
    let none : None ≡ Some is.request = sym (get-empty nat_cmp (message_id_of told.token)) ∙ is.there in
    cc none
