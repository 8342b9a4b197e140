-- What happens by the calls of a forwarder.
use Rattle.std.specs.Prelude.{◌≡◌, ◌≢◌, ◌<◌, ◌≤◌, ◌+◌, ℕ, List, [], ◌∷◌, ◌++◌, drop, length, Contains, Some, slice_get}
use Rattle.std.proofs.Common.{refl, sym, ap, subst, ◌∙◌, inl, inr, arith, length-append}
use Rattle.std.proofs.lemmas.Bool.{cases_lt}
use Rattle.std.proofs.lemmas.List.{length-map}
use Rattle.std.proofs.lemmas.List.Elements.{All-contains_itself, All-head, All-weaker}
use Rattle.std.proofs.lemmas.Option.{same_Some}
use Rattle.snmp_agent.specs.Agent.{AgentState}
use Rattle.snmp_gate.specs.declared.devices.Devices.{Devices}
use Rattle.snmp_forward.specs.History.{Happening, IsLawful, IsTurn, TurnsInto, as_inform, left_in, number_of, sent, taken, unsent}
use Rattle.snmp_forward.specs.Informs.{IsInformOf}
use Rattle.snmp_forward.specs.Queue.{IsFull, Waiting, after_first, waiting, waiting_of, waitings_of, with_left}
use Rattle.snmp_forward.specs.Sending.{AreChosen, MayBeSent}
use Rattle.snmp_forward.specs.Standing.{ForwarderStands, Happens, QueueStands, SendHappens, Stays, WaitingStands}
use Rattle.snmp_forward.specs.Written.{GoesAsInform, GoesAsTrap, IsWritten, MayGo, told_of}
use Rattle.snmp_forward.specs.declared.forwarder.Forwarded.TheVariants.{AsInform}
use Rattle.snmp_forward.specs.declared.forwarder.Forwarder.{Forwarder}
use Rattle.snmp_forward.specs.declared.inform.Inform.{Inform}
use Rattle.snmp_forward.specs.declared.queue.WaitingNotification.{WaitingNotification}
use Rattle.snmp_forward.specs.declared.receivers.NotifyType.TheVariants as notify
use Rattle.snmp_forward.specs.declared.receivers.Receivers.{Receivers}
use Rattle.snmp_forward.specs.declared.sealing.Sealing.{Sealing}
use Rattle.snmp_forward.specs.declared.trap.Written.{Written}
use Rattle.snmp_forward.specs.declared.trap.Written.TheVariants.{Refused, Sends}
use Rattle.snmp_forward.proofs.Keeping.{queue_goes_on, queue_takes, same}

-- the queue of one forwarder, where another one has the same agent, devices and receivers
queue_of : (old new : Forwarder) (before : List Happening) (next : ℕ) (ws : List Waiting) → Stays old new → QueueStands old.agent.tables old.devices.list.items old.receivers.list.items before next ws
    → QueueStands new.agent.tables new.devices.list.items new.receivers.list.items before next ws
queue_of old new before next ws stays stands =
    subst (λ (a : AgentState). QueueStands a.tables new.devices.list.items new.receivers.list.items before next ws) (sym stays.agent)
    (subst (λ (d : Devices). QueueStands old.agent.tables d.list.items new.receivers.list.items before next ws) (sym stays.devices)
    (subst (λ (r : Receivers). QueueStands old.agent.tables old.devices.list.items r.list.items before next ws) (sym stays.receivers) stands))

engine_of : (old new : Forwarder) → Stays old new → old.engine ≡ old.agent.engine → new.engine ≡ new.agent.engine
engine_of old new stays is = stays.engine ∙ (is ∙ sym (ap (λ (a : AgentState). a.engine) stays.agent))

length_of : (ws : List WaitingNotification) → length (waitings_of ws) ≡ length ws
length_of ws = length-map ws waiting_of

-- ---- a notification waits from now on

few_of : (most len : ℕ) → (most ≤ len → ⊥) → len < most
few_of most len never = elim (cases_lt len most) [
  | inl less ↦ less
  | inr full ↦ absurd (never full)
]

pub takes : (old new : Forwarder) (before : List Happening) (n device : ℕ) (datagram to : List ℕ) → Stays old new → n ≡ old.waiting.next
    → waitings_of new.waiting.list.items ≡ waitings_of old.waiting.list.items ++ waiting old.waiting.next device datagram to ∷ [] → new.waiting.next ≡ old.waiting.next + 1
    → ¬ IsFull old.waiting → to ≢ [] → AreChosen old.agent.tables old.devices.list.items old.receivers.list.items device datagram to → ForwarderStands before old → Happens old before (taken n device datagram to) new
takes old new before n device datagram to stays number list next room some chosen stands =
    let may = All-weaker (Contains to) (MayBeSent old.agent.tables old.devices.list.items old.receivers.list.items device datagram) (λ m there. (chosen.each m).0 there) to (All-contains_itself to) in
    let taking = queue_takes old.agent.tables old.devices.list.items old.receivers.list.items before old.waiting.next device datagram to (waitings_of old.waiting.list.items) stands.queue may in
    let few : length old.waiting.list.items < old.waiting.most = few_of (old.waiting.most) (length old.waiting.list.items) (λ full. room (inl full)) in
    subst (λ (m : ℕ). Happens old before (taken m device datagram to) new) (sym number) (record {
      lawful = record { own = stands.queue.past; some = some; chosen = chosen };
      stands = record {
        engine = engine_of old new stays stands.engine;
        queue = queue_of old new (taken old.waiting.next device datagram to ∷ before) new.waiting.next (waitings_of new.waiting.list.items) stays
            (subst (λ (m : ℕ). QueueStands old.agent.tables old.devices.list.items old.receivers.list.items (taken old.waiting.next device datagram to ∷ before) m (waitings_of new.waiting.list.items)) (sym next)
            (subst (λ (ws : List Waiting). QueueStands old.agent.tables old.devices.list.items old.receivers.list.items (taken old.waiting.next device datagram to ∷ before) (old.waiting.next + 1) ws) (sym list) taking));
        few =
            let more : length new.waiting.list.items ≡ length old.waiting.list.items + 1 =
            sym (length_of new.waiting.list.items) ∙ ap length list ∙ length-append (waitings_of old.waiting.list.items) (waiting old.waiting.next device datagram to ∷ []) ∙ ap (λ (m : ℕ). m + 1) (length_of old.waiting.list.items) in
            omega (arith, more, few, stays.most);
      };
    })

-- ---- the first is dealt with

pub split_first : {A : Type 0} (xs : List A) (x : A) → slice_get xs 0 ≡ Some x → (rest : List A) × (xs ≡ x ∷ rest)
split_first [] x is = absurd (cc is)
split_first (y ∷ ys) x is = (ys, ap (λ (z : _). z ∷ ys) (same_Some y x is))

shorter : (w : Waiting) (left : List ℕ) (ws : List Waiting) → length (with_left w left ws) ≤ length (w ∷ ws)
shorter w [] ws = omega arith
shorter w (n ∷ ns) ws = omega arith

-- what is known of the first that waits
abbrev FirstStands : Forwarder → List Happening → WaitingNotification → Type 0
FirstStands f before w = WaitingStands f.agent.tables f.devices.list.items f.receivers.list.items before (waiting_of w)

abbrev IsLawfulOf : Forwarder → List Happening → Happening → Type 0
IsLawfulOf f before e = IsLawful f.agent f.devices.list.items f.receivers.list.items before e

-- whatever happens to it by which it is dealt with for the first of its receivers
dealt : (old new : Forwarder) (before : List Happening) (w : WaitingNotification) (e : Happening) → Stays old new → slice_get old.waiting.list.items 0 ≡ Some w
    → number_of e ≡ w.number → left_in w.number (e ∷ before) ≡ drop 1 (left_in w.number before) → (FirstStands old before w → IsLawfulOf old before e)
    → waitings_of new.waiting.list.items ≡ after_first (waitings_of old.waiting.list.items) → new.waiting.next ≡ old.waiting.next → ForwarderStands before old → Happens old before e new
dealt old new before w e stays first number turn lawful list next stands =
    let split = split_first old.waiting.list.items w first in
    let rest = waitings_of split.0 in
    let is : waitings_of old.waiting.list.items ≡ waiting_of w ∷ rest = ap waitings_of split.1 in
    let queue = subst (λ (ws : List Waiting). QueueStands old.agent.tables old.devices.list.items old.receivers.list.items before old.waiting.next ws) is stands.queue in
    let on = queue_goes_on old.agent.tables old.devices.list.items old.receivers.list.items e before old.waiting.next (waiting_of w) w.receiver w.others.items rest number refl turn queue in
    let left : waitings_of new.waiting.list.items ≡ with_left (waiting_of w) w.others.items rest = list ∙ ap after_first is in record {
      lawful = lawful (All-head (WaitingStands old.agent.tables old.devices.list.items old.receivers.list.items before) (waiting_of w) rest queue.all);
      stands = record {
        engine = engine_of old new stays stands.engine;
        queue = queue_of old new (e ∷ before) new.waiting.next (waitings_of new.waiting.list.items) stays
            (subst (λ (m : ℕ). QueueStands old.agent.tables old.devices.list.items old.receivers.list.items (e ∷ before) m (waitings_of new.waiting.list.items)) (sym next)
            (subst (λ (ws : List Waiting). QueueStands old.agent.tables old.devices.list.items old.receivers.list.items (e ∷ before) old.waiting.next ws) (sym left) on));
        few =
            let news = sym (length_of new.waiting.list.items) ∙ ap length left in
            let olds = sym (length_of old.waiting.list.items) ∙ ap length is in
            omega (arith, shorter (waiting_of w) w.others.items rest, news, olds, stays.most, stands.few);
      };
    }

-- it may be sent to the first of its receivers, whose turn it is
abbrev may_go : (old : Forwarder) (before : List Happening) (w : WaitingNotification) → FirstStands old before w → MayGo old w
may_go old before w stands = All-head (MayBeSent old.agent.tables old.devices.list.items old.receivers.list.items w.device w.datagram.items) w.receiver w.others.items stands.may

abbrev its_turn : (old : Forwarder) (before : List Happening) (w : WaitingNotification) → FirstStands old before w → IsTurn old.agent old.devices.list.items old.receivers.list.items before w.number w.receiver
its_turn old before w stands = record { next = (w.others.items, stands.left); device = w.device; datagram = w.datagram.items; to = stands.to; is_taken = stands.is_taken; may = may_go old before w stands }

-- ---- as a Trap

-- what happens to it
abbrev happens_to : WaitingNotification → Sealing → Written → Happening
happens_to w by (Sends datagram) = sent w.number w.receiver by datagram.items
happens_to w by (Refused why) = unsent w.number w.receiver by why

is_number : (w : WaitingNotification) (by : Sealing) (written : Written) → number_of (happens_to w by written) ≡ w.number
is_number w by (Sends datagram) = refl
is_number w by (Refused why) = refl

takes_turn : (w : WaitingNotification) (by : Sealing) (written : Written) (before : List Happening) → left_in w.number (happens_to w by written ∷ before) ≡ drop 1 (left_in w.number before)
takes_turn w by (Sends datagram) before = same w.number (drop 1 (left_in w.number before)) (left_in w.number before)
takes_turn w by (Refused why) before = same w.number (drop 1 (left_in w.number before)) (left_in w.number before)

lawful_of : (old : Forwarder) (before : List Happening) (w : WaitingNotification) (by : Sealing) (written : Written) → FirstStands old before w → ((may : MayGo old w) → may.to.notify_type ≡ notify.Trap)
    → ((may : MayGo old w) → IsWritten old.agent by may.to may.from.context.items may.pdu written) → IsLawfulOf old before (happens_to w by written)
lawful_of old before w by (Sends datagram) stands trap written = record { turn = its_turn old before w stands; type_is = trap (may_go old before w stands); seals = written (may_go old before w stands) }
lawful_of old before w by (Refused why) stands trap written = record { turn = its_turn old before w stands; type_is = trap (may_go old before w stands); seals = written (may_go old before w stands) }

as_told : (old new : Forwarder) (before : List Happening) (w : WaitingNotification) (by : Sealing) (written : Written) → Happens old before (happens_to w by written) new → SendHappens old before by (told_of w.number w.receiver written) new
as_told old new before w by (Sends datagram) happens = happens
as_told old new before w by (Refused why) happens = happens

pub deals : (old new : Forwarder) (before : List Happening) (w : WaitingNotification) (by : Sealing) (written : Written) → Stays old new → slice_get old.waiting.list.items 0 ≡ Some w → GoesAsTrap old
    → (old.engine ≡ old.agent.engine → (may : MayGo old w) → IsWritten old.agent by may.to may.from.context.items may.pdu written)
    → waitings_of new.waiting.list.items ≡ after_first (waitings_of old.waiting.list.items) → new.waiting.next ≡ old.waiting.next → ForwarderStands before old → SendHappens old before by (told_of w.number w.receiver written) new
deals old new before w by written stays first trap seals list next stands =
    as_told old new before w by written
    (dealt old new before w (happens_to w by written) stays first (is_number w by written) (takes_turn w by written before) (λ it. lawful_of old before w by written it (trap w first) (seals stands.engine)) list next stands)

-- ---- as an Inform

-- it is the turn of this receiver, for this Inform
record TurnsAt (old : Forwarder) (before : List Happening) (number : ℕ) (inform : Inform) (receiver : ℕ) : Type 0 where
  turn : IsTurn old.agent old.devices.list.items old.receivers.list.items before number receiver
  type_is : turn.may.to.notify_type ≡ notify.Inform
  inform_is : IsInformOf receiver turn.may.to turn.may.from.context.items turn.datagram inform

turns_into : (old : Forwarder) (before : List Happening) (number : ℕ) (inform : Inform) (goes : GoesAsInform old number inform) → FirstStands old before goes.first → TurnsInto old.agent old.devices.list.items old.receivers.list.items before number inform
turns_into old before number inform goes stands =
    let may = may_go old before goes.first stands in
    let first : TurnsAt old before goes.first.number inform goes.first.receiver = record { turn = its_turn old before goes.first stands; type_is = goes.type_is may; inform_is = goes.inform_is may } in
    let here : TurnsAt old before number inform inform.receiver =
    subst (λ (n : ℕ). TurnsAt old before n inform inform.receiver) (sym goes.number_is) (subst (λ (r : ℕ). TurnsAt old before goes.first.number inform r) (sym goes.receiver_is) first) in
    record { turn = here.turn; type_is = here.type_is; inform_is = here.inform_is }

pub passes : (old new : Forwarder) (before : List Happening) (by : Sealing) (number : ℕ) (inform : Inform) → Stays old new → GoesAsInform old number inform
    → waitings_of new.waiting.list.items ≡ after_first (waitings_of old.waiting.list.items) → new.waiting.next ≡ old.waiting.next → ForwarderStands before old → SendHappens old before by (AsInform number inform) new
passes old new before by number inform stays goes list next stands =
    dealt old new before goes.first (as_inform number inform) stays goes.at goes.number_is (turned goes.first.number number goes.number_is) (turns_into old before number inform goes) list next stands
  where
    turned : (n m : ℕ) → m ≡ n → left_in n (as_inform m inform ∷ before) ≡ drop 1 (left_in n before)
    turned n m is = subst (λ (k : ℕ). left_in n (as_inform k inform ∷ before) ≡ drop 1 (left_in n before)) (sym is) (same n (drop 1 (left_in n before)) (left_in n before))
