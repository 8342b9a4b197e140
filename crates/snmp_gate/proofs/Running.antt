-- Runs of a gateway, and the messages of a request.
use Rattle.std.specs.Prelude.{◌≡◌, ◌/◌, ℕ, List, [], ◌∷◌, ◌++◌, cond, drop, nat_eq, Bool, Ok}
use Rattle.std.specs.List.{HoldsAt}
use Rattle.std.proofs.Common.{refl, sym, ap, subst, ◌∙◌, inl, inr, append_assoc}
use Rattle.std.proofs.lemmas.Bool.Decides.{eqb_tells}
use Rattle.std.proofs.lemmas.List.Elements.{All-cons, All-nil}
use Rattle.vacm_core.specs.Tables.{Tables}
use Rattle.snmp_incoming.specs.Outcome.{Outcome}
use Rattle.snmp_agent.specs.Agent.{AgentState, taker_of}
use Rattle.snmp_gate.specs.Bounds.{AreBounded, AsksBounded, IsBounded}
use Rattle.snmp_gate.specs.Limits.{AlwaysKeepsTo, IsAllowedBy, KeepsTo, WaitInTime}
use Rattle.snmp_gate.specs.History.{Happening, IsCauseFor, IsMediated, IsAskWithin, accepted, answered, asked, given_up, sent, told_in, unanswered, waiting_in}
use Rattle.snmp_gate.specs.Lawful.{AreLawful, IsLawful}
use Rattle.snmp_gate.specs.Replies.{IsAnswerTo, SameAgent, answer_with}
use Rattle.snmp_gate.specs.Runs.{Event, IsHistoryOf, IsRun, IsSealedBy, accepted_for, accepted_in, answered_in, answers_of, asked_in, client_comes, device_comes, ended_for, finds_no_memory, goes_out, moment_of, sealed_in, sealed_with, sent_in, taken_from, to_clients, to_devices}
use Rattle.snmp_gate.specs.Waiting.{ClientHappens, DeviceHappens, Fresh, GateStands, Happens, SendHappens, Stays}
use Rattle.snmp_gate.specs.declared.devices.Device.{Device}
use Rattle.snmp_gate.specs.declared.devices.Devices.{Devices}
use Rattle.snmp_gate.specs.declared.gate.ClientTaken.{ClientTaken}
use Rattle.snmp_gate.specs.declared.gate.ClientTaken.TheVariants as client
use Rattle.snmp_gate.specs.declared.gate.DeviceTaken.{DeviceTaken}
use Rattle.snmp_gate.specs.declared.gate.DeviceTaken.TheVariants as device
use Rattle.snmp_gate.specs.declared.gate.Gate.{Gate}
use Rattle.snmp_gate.specs.declared.gate.Sent.{Sent}
use Rattle.snmp_gate.specs.declared.gate.Sent.TheVariants as out
use Rattle.snmp_gate.specs.declared.limits.GateLimits.{GateLimits}
use Rattle.snmp_gate.specs.declared.waiting_message.WaitingMessage.{WaitingMessage}
use Rattle.snmp_gate.proofs.AtOnce.{keeps_to, wait_in_time}
use Rattle.snmp_gate.proofs.Bounded.{stays_on, stays_same}

-- ---- the same law, by an agent that is the same but for its counters

mediated_same : (a b : AgentState) (devices others : List Device) (before : List Happening) (e : Happening) → SameAgent a b → others ≡ devices → IsMediated b others before e → IsMediated a devices before e
mediated_same a b devices others before (accepted n now w m) same d is =
    subst (λ (engine : List ℕ). Outcome (taker_of (record a { engine = engine })) a.users (now / 1000) w (Ok m.kept)) same.engine
    (subst (λ (boots : ℕ). Outcome (taker_of (record a { engine = b.engine; boots = boots })) a.users (now / 1000) w (Ok m.kept)) same.boots
    (subst (λ (started : ℕ). Outcome (taker_of (record a { engine = b.engine; boots = b.boots; started = started })) a.users (now / 1000) w (Ok m.kept)) same.started
    (subst (λ users. Outcome (taker_of b) users (now / 1000) w (Ok m.kept)) same.users is)))
mediated_same a b devices others before (asked n to id what w) same d is =
    subst (λ (ds : List Device). IsMediated a ds before (asked n to id what w)) d
    (is.0, is.1, is.2, subst (λ (t : Tables). HoldsAt (λ (x : Device). IsAskWithin t x is.0 (told_in n before) id what w) others to) same.tables is.3)
mediated_same a b devices others before (answered n to p w) same d is = subst (λ (ds : List Device). IsMediated a ds before (answered n to p w)) d is
mediated_same a b devices others before (sent n m by w) same d is = (
  is.0,
  (
    is.1.0,
    is.1.1,
    λ q asks.
        subst (λ (engine : List ℕ). IsAnswerTo by a.tables q (told_in n before) is.1.0 (IsCauseFor engine a.tables devices before n q) m.kept w) same.engine
        (subst (λ (ds : List Device). IsAnswerTo by a.tables q (told_in n before) is.1.0 (IsCauseFor b.engine a.tables ds before n q) m.kept w) d
        (subst (λ (t : Tables). IsAnswerTo by t q (told_in n before) is.1.0 (IsCauseFor b.engine t others before n q) m.kept w) same.tables (is.1.2 q asks))),
  ),
)
mediated_same a b devices others before (unanswered n m by why) same d is = is
mediated_same a b devices others before (given_up n to) same d is = subst (λ (ds : List Device). IsMediated a ds before (given_up n to)) d is

lawful_same : (first old : Gate) (before : List Happening) (e : Happening) → Stays first old → IsLawful old.agent old.devices.list.items before e → IsLawful first.agent first.devices.list.items before e
lawful_same first old before e stays is = record {
  mediated = mediated_same first.agent old.agent first.devices.list.items old.devices.list.items before e stays.agent (ap (λ (d : Devices). d.list.items) stays.devices) is.mediated;
  in_turn = is.in_turn;
  own_id = is.own_id;
  once = is.once;
}

-- ---- a run

-- a run has a history
pub record RunStands (first : Gate) (events : List Event) (last : Gate) : Type 0 where
  pub history : List Happening
  pub is : IsHistoryOf first events history
  pub stands : GateStands (moment_of events) history last
  pub stays : Stays first last
  pub keeps : IsBounded first → AlwaysKeepsTo first.limits first.devices.list.items history

-- the history keeps to the gateway's limits, with what happens now
keeps_more : (first last : Gate) (now : ℕ) (history : List Happening) → Stays first last → GateStands now history last → IsBounded first → KeepsTo first.limits first.devices.list.items history
keeps_more first last now history stays stands b =
    let bounded = stays.bounded b in
    keeps_to last.agent.tables first.limits history first.devices.list.items last.devices.list.items last.requests last.asks.items stands.requests stands.asks
    (subst (λ (l : GateLimits). AreBounded l last.requests) stays.limits bounded.requests) (subst (λ (d : Devices). AsksBounded d.list.items last.asks.items) stays.devices bounded.asks)

-- the limits are the same
allowed_first : (first middle : Gate) (before : List Happening) (e : Happening) → Stays first middle → IsAllowedBy middle.limits middle.devices.list.items before e → IsAllowedBy first.limits first.devices.list.items before e
allowed_first first middle before e stays allowed =
    subst (λ (l : GateLimits). IsAllowedBy l first.devices.list.items before e) stays.limits
    (subst (λ (d : Devices). IsAllowedBy middle.limits d.list.items before e) stays.devices allowed)

-- a history with what happens now
happened : (first middle last : Gate) (now : ℕ) (e : Happening) (history : List Happening) (events : List Event) (event : Event) → Stays first middle → IsHistoryOf first events history → Happens middle now history e last
    → taken_from (event ∷ events) ≡ accepted_in (e ∷ history) → answers_of (event ∷ events) ≡ answered_in (e ∷ history) → sealed_with (event ∷ events) ≡ sealed_in (e ∷ history) → IsSealedBy first.agent e
    → to_devices (event ∷ events) ≡ asked_in (e ∷ history) → to_clients (event ∷ events) ≡ sent_in (e ∷ history) → IsHistoryOf first (event ∷ events) (e ∷ history)
happened first middle last now e history events event stays is happens requests answers seals own devices clients = record {
  lawful = (lawful_same first middle history e stays happens.lawful, is.lawful);
  requests = requests;
  answers = answers;
  seals = seals;
  senders = All-cons (IsSealedBy first.agent) e history own is.senders;
  devices = devices;
  clients = clients;
}

client_stands : (first middle last : Gate) (now : ℕ) (from w : List ℕ) (taken : ClientTaken) (events : List Event) (known : RunStands first events middle) → Stays middle last → ClientHappens middle now known.history from w taken last
    → RunStands first (client_comes now from w taken ∷ events) last
client_stands first middle last now from w (client.Begins n) events known stays happens = record {
  history = accepted n now w happens.0 ∷ known.history;
  is = happened first middle last now (accepted n now w happens.0) known.history events (client_comes now from w (client.Begins n)) known.stays known.is happens.2 (λ i. (now, sym happens.1 i, w) ∷ known.is.requests i) known.is.answers known.is.seals tt known.is.devices known.is.clients;
  stands = happens.2.stands;
  stays = stays_on first middle last known.stays stays;
  keeps = λ b. (keeps_more first last now (accepted n now w happens.0 ∷ known.history) (stays_on first middle last known.stays stays) happens.2.stands b, allowed_first first middle known.history (accepted n now w happens.0) known.stays happens.2.allowed, known.keeps b);
}
client_stands first middle last now from w (client.Joins n) events known stays happens = record {
  history = accepted n now w happens.0 ∷ known.history;
  is = happened first middle last now (accepted n now w happens.0) known.history events (client_comes now from w (client.Joins n)) known.stays known.is happens.2 (λ i. (now, sym happens.1 i, w) ∷ known.is.requests i) known.is.answers known.is.seals tt known.is.devices known.is.clients;
  stands = happens.2.stands;
  stays = stays_on first middle last known.stays stays;
  keeps = λ b. (keeps_more first last now (accepted n now w happens.0 ∷ known.history) (stays_on first middle last known.stays stays) happens.2.stands b, allowed_first first middle known.history (accepted n now w happens.0) known.stays happens.2.allowed, known.keeps b);
}
client_stands first middle last now from w (client.Refused why) events known stays happens = record { history = known.history; is = record { lawful = known.is.lawful; requests = known.is.requests; answers = known.is.answers; seals = known.is.seals; senders = known.is.senders; devices = known.is.devices; clients = known.is.clients }; stands = happens; stays = stays_on first middle last known.stays stays; keeps = known.keeps }
client_stands first middle last now from w client.NoRoom events known stays happens = record { history = known.history; is = record { lawful = known.is.lawful; requests = known.is.requests; answers = known.is.answers; seals = known.is.seals; senders = known.is.senders; devices = known.is.devices; clients = known.is.clients }; stands = happens; stays = stays_on first middle last known.stays stays; keeps = known.keeps }
client_stands first middle last now from w client.SetOfBefore events known stays happens = record { history = known.history; is = record { lawful = known.is.lawful; requests = known.is.requests; answers = known.is.answers; seals = known.is.seals; senders = known.is.senders; devices = known.is.devices; clients = known.is.clients }; stands = happens; stays = stays_on first middle last known.stays stays; keeps = known.keeps }

device_stands : (first middle last : Gate) (now number : ℕ) (w : List ℕ) (taken : DeviceTaken) (events : List Event) (known : RunStands first events middle) → Stays middle last → DeviceHappens middle now known.history number w taken last
    → RunStands first (device_comes now number w taken ∷ events) last
device_stands first middle last now number w (device.Answers n says why hidden) events known stays happens = record {
  history = answered n number happens.0 w ∷ known.history;
  is = happened first middle last now (answered n number happens.0 w) known.history events (device_comes now number w (device.Answers n says why hidden)) known.stays known.is happens.1 known.is.requests (λ i. (number, w) ∷ known.is.answers i) known.is.seals tt known.is.devices known.is.clients;
  stands = happens.1.stands;
  stays = stays_on first middle last known.stays stays;
  keeps = λ b. (keeps_more first last now (answered n number happens.0 w ∷ known.history) (stays_on first middle last known.stays stays) happens.1.stands b, allowed_first first middle known.history (answered n number happens.0 w) known.stays happens.1.allowed, known.keeps b);
}
device_stands first middle last now number w device.Unreadable events known stays happens = record { history = known.history; is = record { lawful = known.is.lawful; requests = known.is.requests; answers = known.is.answers; seals = known.is.seals; senders = known.is.senders; devices = known.is.devices; clients = known.is.clients }; stands = happens; stays = stays_on first middle last known.stays stays; keeps = known.keeps }
device_stands first middle last now number w device.NotWaitedFor events known stays happens = record { history = known.history; is = record { lawful = known.is.lawful; requests = known.is.requests; answers = known.is.answers; seals = known.is.seals; senders = known.is.senders; devices = known.is.devices; clients = known.is.clients }; stands = happens; stays = stays_on first middle last known.stays stays; keeps = known.keeps }

send_stands : (first middle last : Gate) (now : ℕ) (f : Fresh) (what : Sent) (events : List Event) (known : RunStands first events middle) → Stays middle last → SendHappens middle now known.history f what last → RunStands first (goes_out now f what ∷ events) last
send_stands first middle last now f (out.ToClient n to says w ended) events known stays happens =
    let e = sent n happens.0 (record { agent = middle.agent; now = now / 1000; salt = f.salt }) (answer_with says w) in record {
      history = e ∷ known.history;
      is = happened first middle last now e known.history events (goes_out now f (out.ToClient n to says w ended)) known.stays known.is happens.2 known.is.requests known.is.answers (λ i. (now / 1000, f.salt) ∷ known.is.seals i) known.stays.agent known.is.devices
          (λ i. ((happens.1 i).client.items, answer_with says w) ∷ known.is.clients i);
      stands = happens.2.stands;
      stays = stays_on first middle last known.stays stays;
      keeps = λ b. (keeps_more first last now (e ∷ known.history) (stays_on first middle last known.stays stays) happens.2.stands b, allowed_first first middle known.history e known.stays happens.2.allowed, known.keeps b);
    }
send_stands first middle last now f (out.ToDevice n to w again) events known stays happens =
    let e = asked n to happens.0 happens.1 w.items in record {
      history = e ∷ known.history;
      is = happened first middle last now e known.history events (goes_out now f (out.ToDevice n to w again)) known.stays known.is happens.3 known.is.requests known.is.answers known.is.seals tt (λ i. (to, w.items) ∷ known.is.devices i) known.is.clients;
      stands = happens.3.stands;
      stays = stays_on first middle last known.stays stays;
      keeps = λ b. (keeps_more first last now (e ∷ known.history) (stays_on first middle last known.stays stays) happens.3.stands b, allowed_first first middle known.history e known.stays happens.3.allowed, known.keeps b);
    }
send_stands first middle last now f (out.Unanswered n to why ended) events known stays happens =
    let e = unanswered n happens.0 (record { agent = middle.agent; now = now / 1000; salt = f.salt }) why in record {
      history = e ∷ known.history;
      is = happened first middle last now e known.history events (goes_out now f (out.Unanswered n to why ended)) known.stays known.is happens.2 known.is.requests known.is.answers known.is.seals known.stays.agent known.is.devices known.is.clients;
      stands = happens.2.stands;
      stays = stays_on first middle last known.stays stays;
      keeps = λ b. (keeps_more first last now (e ∷ known.history) (stays_on first middle last known.stays stays) happens.2.stands b, allowed_first first middle known.history e known.stays happens.2.allowed, known.keeps b);
    }
send_stands first middle last now f (out.GivenUp n to times) events known stays happens =
    let e = given_up n to in record {
      history = e ∷ known.history;
      is = happened first middle last now e known.history events (goes_out now f (out.GivenUp n to times)) known.stays known.is happens known.is.requests known.is.answers known.is.seals tt known.is.devices known.is.clients;
      stands = happens.stands;
      stays = stays_on first middle last known.stays stays;
      keeps = λ b. (keeps_more first last now (e ∷ known.history) (stays_on first middle last known.stays stays) happens.stands b, allowed_first first middle known.history e known.stays happens.allowed, known.keeps b);
    }
send_stands first middle last now f out.Nothing events known stays happens = record { history = known.history; is = record { lawful = known.is.lawful; requests = known.is.requests; answers = known.is.answers; seals = known.is.seals; senders = known.is.senders; devices = known.is.devices; clients = known.is.clients }; stands = happens; stays = stays_on first middle last known.stays stays; keeps = known.keeps }

pub run_stands : (first : Gate) (events : List Event) (last : Gate) → GateStands 0 [] first → IsRun first events last → RunStands first events last
run_stands first [] last stands run = subst (RunStands first []) (sym run) (record {
  history = [];
  is = record { lawful = tt; requests = refl; answers = refl; seals = refl; senders = All-nil (IsSealedBy first.agent); devices = refl; clients = refl };
  stands = stands;
  stays = stays_same first;
  keeps = λ b. tt;
})
run_stands first (client_comes now from w taken ∷ events) last stands run =
    let known = run_stands first events run.1.0 stands run.1.1 in
    client_stands first run.1.0 last now from w taken events known run.1.2.0 (run.1.2.1 (moment_of events) known.history run.0 known.stands)
run_stands first (device_comes now number w taken ∷ events) last stands run =
    let known = run_stands first events run.1.0 stands run.1.1 in
    device_stands first run.1.0 last now number w taken events known run.1.2.0 (run.1.2.1 (moment_of events) known.history run.0 known.stands)
run_stands first (goes_out now f what ∷ events) last stands run =
    let known = run_stands first events run.1.0 stands run.1.1 in
    send_stands first run.1.0 last now f what events known run.1.2.0 (run.1.2.2 (moment_of events) known.history run.0 known.stands)
run_stands first (finds_no_memory now ∷ events) last stands run =
    let known = run_stands first events run.1.0 stands run.1.1 in record {
      history = known.history;
      is = record { lawful = known.is.lawful; requests = known.is.requests; answers = known.is.answers; seals = known.is.seals; senders = known.is.senders; devices = known.is.devices; clients = known.is.clients };
      stands = run.1.3.stands (moment_of events) known.history run.0 known.stands;
      stays = stays_on first run.1.0 last known.stays run.1.2;
      keeps = known.keeps;
    }

-- what stays the same over a run
pub run_keeps : (first : Gate) (events : List Event) (last : Gate) → IsRun first events last → Stays first last
run_keeps first [] last run = subst (Stays first) (sym run) (stays_same first)
run_keeps first (client_comes now from w taken ∷ events) last run = stays_on first run.1.0 last (run_keeps first events run.1.0 run.1.1) run.1.2.0
run_keeps first (device_comes now number w taken ∷ events) last run = stays_on first run.1.0 last (run_keeps first events run.1.0 run.1.1) run.1.2.0
run_keeps first (goes_out now f what ∷ events) last run = stays_on first run.1.0 last (run_keeps first events run.1.0 run.1.1) run.1.2.0
run_keeps first (finds_no_memory now ∷ events) last run = stays_on first run.1.0 last (run_keeps first events run.1.0 run.1.1) run.1.2

-- after `next` returned nothing, no message waits for long
pub run_in_time : (first last : Gate) (now : ℕ) (f : Fresh) (events : List Event) (stands : GateStands 0 [] first) (bounded : IsBounded first) (run : IsRun first (goes_out now f out.Nothing ∷ events) last)
    → WaitInTime first.limits now (run_stands first (goes_out now f out.Nothing ∷ events) last stands run).history
run_in_time first last now f events stands bounded run =
    let known = run_stands first (goes_out now f out.Nothing ∷ events) last stands run in
    let own = known.stays.bounded bounded in
    subst (λ (l : GateLimits). WaitInTime l now known.history) known.stays.limits
    (wait_in_time last.agent.tables last.limits now known.history last.devices.list.items last.requests known.stands.requests own.requests (run.1.2.1 refl))

-- ---- each message is answered once at most

after_first : (ended others : List WaitingMessage) (m : WaitingMessage) → (ended ++ m ∷ []) ++ others ≡ ended ++ m ∷ others
after_first ended others m = append_assoc ended (m ∷ []) others

-- what is ended, and then what waits, is what was accepted
ended_turn : (n k : ℕ) (m : WaitingMessage) (before : List Happening) (others : List WaitingMessage) → waiting_in k before ≡ m ∷ others → ended_for n before ++ waiting_in n before ≡ accepted_for n before
    → cond (nat_eq n k) (ended_for n before ++ m ∷ []) (ended_for n before) ++ cond (nat_eq n k) (drop 1 (waiting_in n before)) (waiting_in n before) ≡ accepted_for n before
ended_turn n k m before others is same = elim (eqb_tells n k) [
  | inl (test, one) ↦
      let first = ap (λ (b : Bool). cond b (ended_for n before ++ m ∷ []) (ended_for n before)) test in
      let rest = ap (λ (b : Bool). cond b (drop 1 (waiting_in n before)) (waiting_in n before)) test in
      let waits : waiting_in n before ≡ m ∷ others = ap (λ (i : ℕ). waiting_in i before) one ∙ is in
      (λ i. first i ++ rest i)
      ∙ ap (λ (ms : List WaitingMessage). (ended_for n before ++ m ∷ []) ++ drop 1 ms) waits
      ∙ after_first (ended_for n before) others m
      ∙ ap (λ (ms : List WaitingMessage). ended_for n before ++ ms) (sym waits)
      ∙ same
  | inr (test, other) ↦
      let first = ap (λ (b : Bool). cond b (ended_for n before ++ m ∷ []) (ended_for n before)) test in
      let rest = ap (λ (b : Bool). cond b (drop 1 (waiting_in n before)) (waiting_in n before)) test in
      (λ i. first i ++ rest i) ∙ same
]

accepted_turn : (n k : ℕ) (m : WaitingMessage) (before : List Happening) → ended_for n before ++ waiting_in n before ≡ accepted_for n before
    → ended_for n before ++ cond (nat_eq n k) (waiting_in n before ++ m ∷ []) (waiting_in n before) ≡ cond (nat_eq n k) (accepted_for n before ++ m ∷ []) (accepted_for n before)
accepted_turn n k m before same = elim (eqb_tells n k) [
  | inl (test, one) ↦
      ap (λ (b : Bool). ended_for n before ++ cond b (waiting_in n before ++ m ∷ []) (waiting_in n before)) test
      ∙ sym (append_assoc (ended_for n before) (waiting_in n before) (m ∷ []))
      ∙ ap (λ (ms : List WaitingMessage). ms ++ m ∷ []) same
      ∙ sym (ap (λ (b : Bool). cond b (accepted_for n before ++ m ∷ []) (accepted_for n before)) test)
  | inr (test, other) ↦
      ap (λ (b : Bool). ended_for n before ++ cond b (waiting_in n before ++ m ∷ []) (waiting_in n before)) test
      ∙ same
      ∙ sym (ap (λ (b : Bool). cond b (accepted_for n before ++ m ∷ []) (accepted_for n before)) test)
]

pub ended_in_turn : (agent : AgentState) (devices : List Device) (n : ℕ) (history : List Happening) → AreLawful agent devices history → ended_for n history ++ waiting_in n history ≡ accepted_for n history
ended_in_turn agent devices n [] lawful = refl
ended_in_turn agent devices n (accepted k now w m ∷ before) lawful = accepted_turn n k m before (ended_in_turn agent devices n before lawful.1)
ended_in_turn agent devices n (asked k d id what w ∷ before) lawful = ended_in_turn agent devices n before lawful.1
ended_in_turn agent devices n (answered k d p w ∷ before) lawful = ended_in_turn agent devices n before lawful.1
ended_in_turn agent devices n (sent k m by w ∷ before) lawful = ended_turn n k m before lawful.0.in_turn.0 lawful.0.in_turn.1 (ended_in_turn agent devices n before lawful.1)
ended_in_turn agent devices n (unanswered k m by why ∷ before) lawful = ended_turn n k m before lawful.0.in_turn.0 lawful.0.in_turn.1 (ended_in_turn agent devices n before lawful.1)
ended_in_turn agent devices n (given_up k d ∷ before) lawful = ended_in_turn agent devices n before lawful.1
