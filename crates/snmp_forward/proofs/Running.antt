-- Runs of a forwarder, and the receivers of a notification.
use Rattle.std.specs.Prelude.{◌≡◌, ◌≢◌, ◌<◌, ◌≤◌, ℕ, List, [], ◌∷◌, ◌++◌, cond, drop, nat_eq, length, All, AllPairs, Bool}
use Rattle.std.proofs.Common.{refl, sym, ap, subst, ◌∙◌, inl, inr, append_assoc, arith}
use Rattle.std.proofs.lemmas.List.{append-nil}
use Rattle.std.proofs.lemmas.Bool.Decides.{eqb_tells}
use Rattle.std.proofs.lemmas.List.Elements.{All-contains, All-head, All-tail}
use Rattle.snmp_agent.specs.Agent.{AgentState}
use Rattle.snmp_gate.specs.declared.devices.Device.{Device}
use Rattle.snmp_gate.specs.declared.devices.Devices.{Devices}
use Rattle.snmp_forward.specs.History.{AreLawful, Happening, IsLawful, as_inform, chosen_for, dealt_with, left_in, number_of, sent, taken, unsent}
use Rattle.snmp_forward.proofs.Keeping.{other, pairs_front}
use Rattle.snmp_forward.specs.Runs.{Event, IsHistoryOf, IsRun, came, finds_no_memory, goes_out, sent_in, taken_in, trap_comes, turned, turned_in, went_out}
use Rattle.snmp_forward.specs.Standing.{ForwarderStands, Happens, IsAsBefore, QueueStands, SendHappens, Stays, TrapHappens, sealing_at}
use Rattle.snmp_forward.specs.declared.forwarder.Forwarded.{Forwarded}
use Rattle.snmp_forward.specs.declared.forwarder.Forwarded.TheVariants as out
use Rattle.snmp_forward.specs.declared.forwarder.Forwarder.{Forwarder}
use Rattle.snmp_forward.specs.declared.forwarder.TrapTaken.{TrapTaken}
use Rattle.snmp_forward.specs.declared.forwarder.TrapTaken.TheVariants as trap
use Rattle.snmp_forward.specs.Queue.{Waiting, waitings_of}
use Rattle.snmp_forward.specs.declared.inform.Inform.{Inform}
use Rattle.snmp_forward.specs.declared.queue.WaitingNotification.{WaitingNotification}
use Rattle.snmp_forward.specs.declared.receivers.Receiver.{Receiver}
use Rattle.snmp_forward.specs.declared.receivers.Receivers.{Receivers}

-- ---- the same law, by a forwarder that has the same agent, devices and receivers

lawful_same : (first old : Forwarder) (before : List Happening) (e : Happening) → Stays first old → IsLawful old.agent old.devices.list.items old.receivers.list.items before e
    → IsLawful first.agent first.devices.list.items first.receivers.list.items before e
lawful_same first old before e stays is =
    subst (λ (a : AgentState). IsLawful a first.devices.list.items first.receivers.list.items before e) stays.agent
    (subst (λ (d : Devices). IsLawful old.agent d.list.items first.receivers.list.items before e) stays.devices
    (subst (λ (r : Receivers). IsLawful old.agent old.devices.list.items r.list.items before e) stays.receivers is))

stays_on : (a b c : Forwarder) → Stays a b → Stays b c → Stays a c
stays_on a b c first second = record {
  agent = second.agent ∙ first.agent;
  devices = second.devices ∙ first.devices;
  receivers = second.receivers ∙ first.receivers;
  engine = second.engine ∙ first.engine;
  most = second.most ∙ first.most;
}

-- ---- nothing changes

pub stands_as_before : (old new : Forwarder) (before : List Happening) → IsAsBefore old new → ForwarderStands before old → ForwarderStands before new
stands_as_before old new before same stands = record {
  engine = same.stays.engine ∙ (stands.engine ∙ sym (ap (λ (a : AgentState). a.engine) same.stays.agent));
  queue =
      subst (λ (a : AgentState). QueueStands a.tables new.devices.list.items new.receivers.list.items before new.waiting.next (waitings_of new.waiting.list.items)) (sym same.stays.agent)
      (subst (λ (d : Devices). QueueStands old.agent.tables d.list.items new.receivers.list.items before new.waiting.next (waitings_of new.waiting.list.items)) (sym same.stays.devices)
      (subst (λ (r : Receivers). QueueStands old.agent.tables old.devices.list.items r.list.items before new.waiting.next (waitings_of new.waiting.list.items)) (sym same.stays.receivers)
      (subst (λ (n : ℕ). QueueStands old.agent.tables old.devices.list.items old.receivers.list.items before n (waitings_of new.waiting.list.items)) (sym same.next)
      (subst (λ (ws : List WaitingNotification). QueueStands old.agent.tables old.devices.list.items old.receivers.list.items before old.waiting.next (waitings_of ws)) (sym same.list) stands.queue))));
  few = subst (λ (m : ℕ). length new.waiting.list.items ≤ m) (sym same.stays.most) (subst (λ (ws : List WaitingNotification). length ws ≤ old.waiting.most) (sym same.list) stands.few);
}

-- ---- a run

-- a run has a history
pub record RunStands (first : Forwarder) (events : List Event) (last : Forwarder) : Type 0 where
  pub history : List Happening
  pub is : IsHistoryOf first events history
  pub stands : ForwarderStands history last
  pub stays : Stays first last

-- a history with what happens now
happened : (first middle last : Forwarder) (e : Happening) (history : List Happening) (events : List Event) (event : Event) → Stays first middle → IsHistoryOf first events history → Happens middle history e last
    → came (event ∷ events) ≡ taken_in (e ∷ history) → went_out (event ∷ events) ≡ sent_in (e ∷ history) → turned (event ∷ events) ≡ turned_in (e ∷ history) → IsHistoryOf first (event ∷ events) (e ∷ history)
happened first middle last e history events event stays is happens inwards outwards informs = record {
  lawful = (lawful_same first middle history e stays happens.lawful, is.lawful);
  inwards = inwards;
  outwards = outwards;
  informs = informs;
}

trap_stands : (first middle last : Forwarder) (device : ℕ) (w : List ℕ) (becomes : TrapTaken) (events : List Event) (known : RunStands first events middle) → Stays middle last → TrapHappens middle known.history device w becomes last
    → RunStands first (trap_comes device w becomes ∷ events) last
trap_stands first middle last device w (trap.Waits n) events known stays happens =
    let e = taken n device w happens.0 in record {
      history = e ∷ known.history;
      is = happened first middle last e known.history events (trap_comes device w (trap.Waits n)) known.stays known.is happens.1 (ap (λ (xs : List (ℕ × List ℕ)). (device, w) ∷ xs) known.is.inwards) known.is.outwards known.is.informs;
      stands = happens.1.stands;
      stays = stays_on first middle last known.stays stays;
    }
trap_stands first middle last device w (trap.NotNotification why) events known stays happens = record { history = known.history; is = record { lawful = known.is.lawful; inwards = known.is.inwards; outwards = known.is.outwards; informs = known.is.informs }; stands = happens; stays = stays_on first middle last known.stays stays }
trap_stands first middle last device w trap.OtherCommunity events known stays happens = record { history = known.history; is = record { lawful = known.is.lawful; inwards = known.is.inwards; outwards = known.is.outwards; informs = known.is.informs }; stands = happens; stays = stays_on first middle last known.stays stays }
trap_stands first middle last device w trap.ForNobody events known stays happens = record { history = known.history; is = record { lawful = known.is.lawful; inwards = known.is.inwards; outwards = known.is.outwards; informs = known.is.informs }; stands = happens; stays = stays_on first middle last known.stays stays }
trap_stands first middle last device w trap.NoRoom events known stays happens = record { history = known.history; is = record { lawful = known.is.lawful; inwards = known.is.inwards; outwards = known.is.outwards; informs = known.is.informs }; stands = happens; stays = stays_on first middle last known.stays stays }

send_stands : (first middle last : Forwarder) (now : ℕ) (salt : List ℕ) (id : ℕ) (what : Forwarded) (events : List Event) (known : RunStands first events middle) → Stays middle last → SendHappens middle known.history (sealing_at now salt id) what last
    → RunStands first (goes_out now salt id what ∷ events) last
send_stands first middle last now salt id (out.ToReceiver n to w) events known stays happens =
    let e = sent n to (sealing_at now salt id) w.items in record {
      history = e ∷ known.history;
      is = happened first middle last e known.history events (goes_out now salt id (out.ToReceiver n to w)) known.stays known.is happens known.is.inwards (ap (λ (xs : List (ℕ × List ℕ)). (to, w.items) ∷ xs) known.is.outwards) known.is.informs;
      stands = happens.stands;
      stays = stays_on first middle last known.stays stays;
    }
send_stands first middle last now salt id (out.Unsent n to why) events known stays happens =
    let e = unsent n to (sealing_at now salt id) why in record {
      history = e ∷ known.history;
      is = happened first middle last e known.history events (goes_out now salt id (out.Unsent n to why)) known.stays known.is happens known.is.inwards known.is.outwards known.is.informs;
      stands = happens.stands;
      stays = stays_on first middle last known.stays stays;
    }
send_stands first middle last now salt id (out.AsInform n inform) events known stays happens =
    let e = as_inform n inform in record {
      history = e ∷ known.history;
      is = happened first middle last e known.history events (goes_out now salt id (out.AsInform n inform)) known.stays known.is happens known.is.inwards known.is.outwards (ap (λ (is : List Inform). inform ∷ is) known.is.informs);
      stands = happens.stands;
      stays = stays_on first middle last known.stays stays;
    }
send_stands first middle last now salt id out.Nothing events known stays happens = record { history = known.history; is = record { lawful = known.is.lawful; inwards = known.is.inwards; outwards = known.is.outwards; informs = known.is.informs }; stands = happens; stays = stays_on first middle last known.stays stays }

pub run_stands : (first : Forwarder) (events : List Event) (last : Forwarder) → ForwarderStands [] first → IsRun first events last → RunStands first events last
run_stands first [] last stands run = subst (RunStands first []) (sym run) (record {
  history = [];
  is = record { lawful = tt; inwards = refl; outwards = refl; informs = refl };
  stands = stands;
  stays = record { agent = refl; devices = refl; receivers = refl; engine = refl; most = refl };
})
run_stands first (trap_comes device w becomes ∷ events) last stands run =
    let known = run_stands first events run.0 stands run.1 in
    trap_stands first run.0 last device w becomes events known run.2.0 (run.2.1 known.history known.stands)
run_stands first (goes_out now salt id what ∷ events) last stands run =
    let known = run_stands first events run.0 stands run.1 in
    send_stands first run.0 last now salt id what events known run.2.0 (run.2.1 known.history known.stands)
run_stands first (finds_no_memory ∷ events) last stands run =
    let known = run_stands first events run.0 stands run.1 in record {
      history = known.history;
      is = record { lawful = known.is.lawful; inwards = known.is.inwards; outwards = known.is.outwards; informs = known.is.informs };
      stands = stands_as_before run.0 last known.history run.2 known.stands;
      stays = stays_on first run.0 last known.stays run.2.stays;
    }

-- ---- each receiver has its turn

turn_ends : (n k receiver : ℕ) (before : List Happening) (others : List ℕ) → left_in k before ≡ receiver ∷ others → dealt_with n before ++ left_in n before ≡ chosen_for n before
    → cond (nat_eq n k) (dealt_with n before ++ receiver ∷ []) (dealt_with n before) ++ cond (nat_eq n k) (drop 1 (left_in n before)) (left_in n before) ≡ chosen_for n before
turn_ends n k receiver before others is turns = elim (eqb_tells n k) [
  | inl (test, one) ↦
      let first = ap (λ (b : Bool). cond b (dealt_with n before ++ receiver ∷ []) (dealt_with n before)) test in
      let rest = ap (λ (b : Bool). cond b (drop 1 (left_in n before)) (left_in n before)) test in
      let left : left_in n before ≡ receiver ∷ others = ap (λ (i : ℕ). left_in i before) one ∙ is in
      (λ i. first i ++ rest i)
      ∙ ap (λ (ns : List ℕ). (dealt_with n before ++ receiver ∷ []) ++ drop 1 ns) left
      ∙ append_assoc (dealt_with n before) (receiver ∷ []) others
      ∙ ap (λ (ns : List ℕ). dealt_with n before ++ ns) (sym left)
      ∙ turns
  | inr (test, different) ↦
      let first = ap (λ (b : Bool). cond b (dealt_with n before ++ receiver ∷ []) (dealt_with n before)) test in
      let rest = ap (λ (b : Bool). cond b (drop 1 (left_in n before)) (left_in n before)) test in
      (λ i. first i ++ rest i) ∙ turns
]

none_dealt : (n : ℕ) (before : List Happening) → All (λ (e : Happening). number_of e < n) before → dealt_with n before ≡ []
none_dealt n [] less = refl
none_dealt n (taken k device w to ∷ before) less = none_dealt n before (All-tail (λ (e : Happening). number_of e < n) (taken k device w to) before less)
none_dealt n (sent k receiver by w ∷ before) less =
    let head = All-head (λ (e : Happening). number_of e < n) (sent k receiver by w) before less in
    other n k (dealt_with n before ++ receiver ∷ []) (dealt_with n before) (λ is. absurd (omega (arith, head, is)))
    ∙ none_dealt n before (All-tail (λ (e : Happening). number_of e < n) (sent k receiver by w) before less)
none_dealt n (unsent k receiver by why ∷ before) less =
    let head = All-head (λ (e : Happening). number_of e < n) (unsent k receiver by why) before less in
    other n k (dealt_with n before ++ receiver ∷ []) (dealt_with n before) (λ is. absurd (omega (arith, head, is)))
    ∙ none_dealt n before (All-tail (λ (e : Happening). number_of e < n) (unsent k receiver by why) before less)
none_dealt n (as_inform k inform ∷ before) less =
    let head = All-head (λ (e : Happening). number_of e < n) (as_inform k inform) before less in
    other n k (dealt_with n before ++ inform.receiver ∷ []) (dealt_with n before) (λ is. absurd (omega (arith, head, is)))
    ∙ none_dealt n before (All-tail (λ (e : Happening). number_of e < n) (as_inform k inform) before less)

turn_begins : (n k : ℕ) (to : List ℕ) (before : List Happening) → All (λ (e : Happening). number_of e < k) before → dealt_with n before ++ left_in n before ≡ chosen_for n before
    → dealt_with n before ++ cond (nat_eq n k) to (left_in n before) ≡ cond (nat_eq n k) to (chosen_for n before)
turn_begins n k to before less turns = elim (eqb_tells n k) [
  | inl (test, one) ↦
      ap (λ (b : Bool). dealt_with n before ++ cond b to (left_in n before)) test
      ∙ ap (λ (ns : List ℕ). ns ++ to) (none_dealt n before (subst (λ (m : ℕ). All (λ (e : Happening). number_of e < m) before) (sym one) less))
      ∙ sym (ap (λ (b : Bool). cond b to (chosen_for n before)) test)
  | inr (test, different) ↦
      ap (λ (b : Bool). dealt_with n before ++ cond b to (left_in n before)) test
      ∙ turns
      ∙ sym (ap (λ (b : Bool). cond b to (chosen_for n before)) test)
]

module _ (agent : AgentState) (devices : List Device) (receivers : List Receiver) where
  pub turns : (n : ℕ) (history : List Happening) → AreLawful agent devices receivers history → dealt_with n history ++ left_in n history ≡ chosen_for n history
  turns n [] lawful = refl
  turns n (taken k device w to ∷ before) lawful = turn_begins n k to before lawful.0.own (turns n before lawful.1)
  turns n (sent k receiver by w ∷ before) lawful = turn_ends n k receiver before lawful.0.turn.next.0 lawful.0.turn.next.1 (turns n before lawful.1)
  turns n (unsent k receiver by why ∷ before) lawful = turn_ends n k receiver before lawful.0.turn.next.0 lawful.0.turn.next.1 (turns n before lawful.1)
  turns n (as_inform k inform ∷ before) lawful = turn_ends n k inform.receiver before lawful.0.turn.next.0 lawful.0.turn.next.1 (turns n before lawful.1)

  rises : (n : ℕ) (history : List Happening) → AreLawful agent devices receivers history → AllPairs (λ (a b : ℕ). a < b) (chosen_for n history)
  rises n [] lawful i j d less within = absurd (omega (arith, within))
  rises n (taken k device w to ∷ before) lawful i j d less within = elim (eqb_tells n k) [
    | inl (test, one) ↦ subst (λ (b : Bool). AllPairs (λ (x y : ℕ). x < y) (cond b to (chosen_for n before))) (sym test) lawful.0.chosen.rise i j d less within
    | inr (test, different) ↦ subst (λ (b : Bool). AllPairs (λ (x y : ℕ). x < y) (cond b to (chosen_for n before))) (sym test) (rises n before lawful.1) i j d less within
  ]
  rises n (sent k receiver by w ∷ before) lawful i j d less within = rises n before lawful.1 i j d less within
  rises n (unsent k receiver by why ∷ before) lawful i j d less within = rises n before lawful.1 i j d less within
  rises n (as_inform k inform ∷ before) lawful i j d less within = rises n before lawful.1 i j d less within

  pub once : (n : ℕ) (history : List Happening) → AreLawful agent devices receivers history → AllPairs (λ (a b : ℕ). a < b) (dealt_with n history)
  once n history lawful = pairs_front (λ (a b : ℕ). a < b) (dealt_with n history) (left_in n history) (subst (AllPairs (λ (a b : ℕ). a < b)) (sym (turns n history lawful)) (rises n history lawful))

-- ---- what waits no more was dealt with for each

none_or : (xs : List ℕ) → (xs ≢ [] → ⊥) → xs ≡ []
none_or [] never = refl
none_or (x ∷ xs) never = absurd (never (λ is. cc is))

pub dealt_with_each : (first : Forwarder) (events : List Event) (last : Forwarder) (known : RunStands first events last) (n : ℕ) → All (λ (w : Waiting). w.number ≢ n) (waitings_of last.waiting.list.items)
    → dealt_with n known.history ≡ chosen_for n known.history
dealt_with_each first events last known n none =
    let gone : left_in n known.history ≡ [] = none_or (left_in n known.history) (λ some.
    let w = known.stands.queue.kept n some in
    All-contains (λ (w : Waiting). w.number ≢ n) (waitings_of last.waiting.list.items) w.0 none w.1 w.2) in
    sym (append-nil (dealt_with n known.history))
    ∙ ap (λ (ns : List ℕ). dealt_with n known.history ++ ns) (sym gone)
    ∙ turns first.agent first.devices.list.items first.receivers.list.items n known.history known.is.lawful
