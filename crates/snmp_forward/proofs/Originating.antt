-- Runs of an originator: what it does is what its forwarder and its Informs do.
use Rattle.std.specs.Prelude.{◌≡◌, ◌≤◌, ◌%◌, ℕ, List, [], ◌∷◌, ◌++◌, All, length, map}
use Rattle.std.proofs.Common.{refl, sym, ap, subst, ◌∙◌, inl, inr}
use Rattle.std.proofs.lemmas.List.Elements.{All-cons, All-head, All-nil, All-tail}
use Rattle.snmp_agent.specs.Agent.{AgentState}
use Rattle.snmp_gate.specs.declared.asks.TheConstants.{REQUEST_IDS}
use Rattle.snmp_gate.specs.declared.devices.Device.{Device}
use Rattle.snmp_forward.specs.History.{AreLawful, Happening, as_inform, sent, taken, unsent}
use Rattle.snmp_forward.specs.InformHistory.{InformHappening}
use Rattle.snmp_forward.specs.InformRuns.{InformEvent, IsInformRun, acknowledged, acknowledged_by, begun_in, comes, informs_of}
use Rattle.snmp_forward.specs.InformRuns as informs
use Rattle.snmp_forward.specs.InformStanding.{InformsStand}
use Rattle.snmp_forward.specs.Informs.{IsMediated}
use Rattle.snmp_forward.specs.Originating.{DoesInform, IsOriginatorHistoryOf, IsOriginatorRun, IsPartOf, OriginatorEvent, OriginatorSteps, Originates, begun_by, begun_for, came_by, ended_by, finds_no_memory, goes_out, in_all, message_in, messages_by, receiver_of, receives, trap_comes, trap_in, traps_by}
use Rattle.snmp_forward.specs.Runs.{Event, IsRun, came, turned, turned_in, waits_by, went_out}
use Rattle.snmp_forward.specs.Runs as runs
use Rattle.snmp_forward.specs.Standing.{ForwarderStands}
use Rattle.snmp_forward.specs.declared.forwarder.Forwarded.TheVariants as forwarded
use Rattle.snmp_forward.specs.declared.inform.Inform.{Inform}
use Rattle.snmp_forward.specs.declared.informs.InformSent.{InformSent}
use Rattle.snmp_forward.specs.declared.informs.InformSent.TheVariants as sends
use Rattle.snmp_forward.specs.declared.originator.Originated.{Originated}
use Rattle.snmp_forward.specs.declared.originator.Originated.TheVariants as out
use Rattle.snmp_forward.specs.declared.originator.Originator.{Originator}
use Rattle.snmp_forward.specs.declared.receivers.Receiver.{Receiver}
use Rattle.snmp_forward.proofs.InformRunning as asking
use Rattle.snmp_forward.proofs.Running as notifying

-- ---- parts of lists

skips : {A : Type 0} (y : A) (xs ys : List A) → IsPartOf xs ys → IsPartOf xs (y ∷ ys)
skips y [] ys part = tt
skips y (x ∷ xs) ys part = inr part

all_of_part : {A : Type 0} (P : A → Type 0) (xs ys : List A) → IsPartOf xs ys → All P ys → All P xs
all_of_part P [] ys part all = All-nil P
all_of_part P (x ∷ xs) [] part all = absurd part
all_of_part P (x ∷ xs) (y ∷ ys) part all = elim part [
  | inl first ↦ All-cons P x xs (subst P (sym first.0) (All-head P y ys all)) (all_of_part P xs ys first.1 (All-tail P y ys all))
  | inr later ↦ all_of_part P (x ∷ xs) ys later (All-tail P y ys all)
]

-- ---- the events of its forwarder, and of its Informs

record Splits (first : Originator) (events : List OriginatorEvent) (last : Originator) : Type 0 where
  notified : List Event
  asked : List InformEvent
  runs : IsRun first.forwarder notified last.forwarder
  asks : IsInformRun first.informs asked last.informs
  part : IsPartOf (informs_of asked) (turned notified)
  came_is : in_all came_by events ≡ came notified
  traps_is : in_all traps_by events ≡ went_out notified
  begins_is : in_all begun_by events ≡ map receiver_of (informs_of asked)
  messages_is : in_all messages_by events ≡ informs.went_out asked
  ended_is : in_all ended_by events ≡ acknowledged asked

abbrev PairsOf : Type 0
PairsOf = List (ℕ × List ℕ)

same_forwarder : (first : Originator) (notified : List Event) (middle last : Originator) → last.forwarder ≡ middle.forwarder → IsRun first.forwarder notified middle.forwarder → IsRun first.forwarder notified last.forwarder
same_forwarder first notified middle last same run = subst (IsRun first.forwarder notified) (sym same) run

same_informs : (first : Originator) (asked : List InformEvent) (middle last : Originator) → last.informs ≡ middle.informs → IsInformRun first.informs asked middle.informs → IsInformRun first.informs asked last.informs
same_informs first asked middle last same run = subst (IsInformRun first.informs asked) (sym same) run

-- what is done for Informs is an event of these alone
inform_splits : (first middle last : Originator) (now : ℕ) (salt : List ℕ) (ask_id : ℕ) (what : InformSent) (out : Originated) (events : List OriginatorEvent) → DoesInform middle now salt ask_id what last → Splits first events middle
    → trap_in out ≡ [] → begun_for out ≡ [] → message_in out ≡ informs.sent_by what → Splits first (goes_out now salt ask_id out ∷ events) last
inform_splits first middle last now salt ask_id what out events does known traps begins messages = record {
  notified = known.notified;
  asked = informs.goes_out now salt (ask_id % REQUEST_IDS) what ∷ known.asked;
  runs = same_forwarder first known.notified middle last does.forwarder known.runs;
  asks = (middle.informs, known.asks, does.sends);
  part = known.part;
  came_is = known.came_is;
  traps_is = ap (λ (xs : PairsOf). xs ++ in_all traps_by events) traps ∙ known.traps_is;
  begins_is = ap (λ (ns : List ℕ). ns ++ in_all begun_by events) begins ∙ known.begins_is;
  messages_is = (λ i. messages i ++ known.messages_is i);
  ended_is = known.ended_is;
}

sends_splits : (first middle last : Originator) (now : ℕ) (salt : List ℕ) (ask_id : ℕ) (what : Originated) (events : List OriginatorEvent) → Originates middle now salt ask_id what last → Splits first events middle
    → Splits first (goes_out now salt ask_id what ∷ events) last
sends_splits first middle last now salt ask_id (out.Trap n r w) events goes known = record {
  notified = runs.goes_out now salt ask_id (forwarded.ToReceiver n r w) ∷ known.notified;
  asked = known.asked;
  runs = (middle.forwarder, known.runs, goes.0);
  asks = same_informs first known.asked middle last goes.1 known.asks;
  part = known.part;
  came_is = known.came_is;
  traps_is = ap (λ (xs : PairsOf). (r, w.items) ∷ xs) known.traps_is;
  begins_is = known.begins_is;
  messages_is = known.messages_is;
  ended_is = known.ended_is;
}
sends_splits first middle last now salt ask_id (out.Unsent n r why) events goes known = record {
  notified = runs.goes_out now salt ask_id (forwarded.Unsent n r why) ∷ known.notified;
  asked = known.asked;
  runs = (middle.forwarder, known.runs, goes.0);
  asks = same_informs first known.asked middle last goes.1 known.asks;
  part = known.part;
  came_is = known.came_is;
  traps_is = known.traps_is;
  begins_is = known.begins_is;
  messages_is = known.messages_is;
  ended_is = known.ended_is;
}
sends_splits first middle last now salt ask_id (out.InformBegins n r k) events goes known = record {
  notified = runs.goes_out now salt ask_id (forwarded.AsInform n goes.0) ∷ known.notified;
  asked = comes goes.0 k ∷ known.asked;
  runs = (middle.forwarder, known.runs, goes.1.turn);
  asks = (middle.informs, known.asks, goes.2);
  part = inl (refl, known.part);
  came_is = known.came_is;
  traps_is = known.traps_is;
  begins_is = (λ i. sym goes.1.to i ∷ known.begins_is i);
  messages_is = known.messages_is;
  ended_is = known.ended_is;
}
sends_splits first middle last now salt ask_id (out.NoRoom n r) events goes known = record {
  notified = runs.goes_out now salt ask_id (forwarded.AsInform n goes.0) ∷ known.notified;
  asked = known.asked;
  runs = (middle.forwarder, known.runs, goes.1.turn);
  asks = same_informs first known.asked middle last goes.3 known.asks;
  part = skips goes.0 (informs_of known.asked) (turned known.notified) known.part;
  came_is = known.came_is;
  traps_is = known.traps_is;
  begins_is = known.begins_is;
  messages_is = known.messages_is;
  ended_is = known.ended_is;
}
sends_splits first middle last now salt ask_id (out.InformSent n r m w) events goes known = inform_splits first middle last now salt ask_id (sends.ToReceiver n r m w) (out.InformSent n r m w) events goes known refl refl refl
sends_splits first middle last now salt ask_id (out.InformUnsent n r why) events goes known = inform_splits first middle last now salt ask_id (sends.Unsent n r why) (out.InformUnsent n r why) events goes known refl refl refl
sends_splits first middle last now salt ask_id (out.InformGivenUp n r hint) events goes known = inform_splits first middle last now salt ask_id (sends.GivenUp n r hint) (out.InformGivenUp n r hint) events goes known refl refl refl
sends_splits first middle last now salt ask_id out.Nothing events goes known = inform_splits first middle last now salt ask_id sends.Nothing out.Nothing events goes known refl refl refl

step_splits : (first middle last : Originator) (event : OriginatorEvent) (events : List OriginatorEvent) → OriginatorSteps middle event last → Splits first events middle → Splits first (event ∷ events) last
step_splits first middle last (trap_comes device w becomes) events step known = record {
  notified = runs.trap_comes device w becomes ∷ known.notified;
  asked = known.asked;
  runs = (middle.forwarder, known.runs, step.0);
  asks = same_informs first known.asked middle last step.1 known.asks;
  part = known.part;
  came_is = ap (λ (xs : PairsOf). waits_by device w becomes ++ xs) known.came_is;
  traps_is = known.traps_is;
  begins_is = known.begins_is;
  messages_is = known.messages_is;
  ended_is = known.ended_is;
}
step_splits first middle last (receives now receiver w becomes) events step known = record {
  notified = known.notified;
  asked = informs.receives now receiver w becomes ∷ known.asked;
  runs = same_forwarder first known.notified middle last step.1 known.runs;
  asks = (middle.informs, known.asks, step.0);
  part = known.part;
  came_is = known.came_is;
  traps_is = known.traps_is;
  begins_is = known.begins_is;
  messages_is = known.messages_is;
  ended_is = ap (λ (ns : List ℕ). acknowledged_by becomes ++ ns) known.ended_is;
}
step_splits first middle last (goes_out now salt ask_id what) events step known = sends_splits first middle last now salt ask_id what events step known
step_splits first middle last finds_no_memory events step known = record {
  notified = runs.finds_no_memory ∷ known.notified;
  asked = informs.finds_no_memory ∷ known.asked;
  runs = (middle.forwarder, known.runs, step.forwarder);
  asks = (middle.informs, known.asks, step.informs);
  part = known.part;
  came_is = known.came_is;
  traps_is = known.traps_is;
  begins_is = known.begins_is;
  messages_is = known.messages_is;
  ended_is = known.ended_is;
}

splits : (first : Originator) (events : List OriginatorEvent) (last : Originator) → IsOriginatorRun first events last → Splits first events last
splits first [] last run = subst (Splits first []) (sym run) (record {
  notified = [];
  asked = [];
  runs = refl;
  asks = refl;
  part = tt;
  came_is = refl;
  traps_is = refl;
  begins_is = refl;
  messages_is = refl;
  ended_is = refl;
})
splits first (event ∷ events) last run = step_splits first run.0 last event events run.2 (splits first events run.0 run.1)

-- ---- each Inform that a notification became is mediated

module _ (agent : AgentState) (devices : List Device) (receivers : List Receiver) where
  pub turned_mediated : (history : List Happening) → AreLawful agent devices receivers history → All (IsMediated agent.tables devices receivers) (turned_in history)
  turned_mediated [] lawful = All-nil (IsMediated agent.tables devices receivers)
  turned_mediated (taken n device w to ∷ before) lawful = turned_mediated before lawful.1
  turned_mediated (sent n receiver by w ∷ before) lawful = turned_mediated before lawful.1
  turned_mediated (unsent n receiver by why ∷ before) lawful = turned_mediated before lawful.1
  turned_mediated (as_inform n inform ∷ before) lawful =
      let is = lawful.0 in
      All-cons (IsMediated agent.tables devices receivers) inform (turned_in before)
      (record { device = is.turn.device; datagram = is.turn.datagram; receiver = inform.receiver; may = is.turn.may; is_of = is.inform_is }) (turned_mediated before lawful.1)

-- ---- a run has its histories

pub record OriginatorStands (first : Originator) (events : List OriginatorEvent) (last : Originator) : Type 0 where
  pub notifications : List Happening
  pub happened : List InformHappening
  pub is : IsOriginatorHistoryOf first events notifications happened
  pub few : (length last.forwarder.waiting.list.items ≤ first.forwarder.waiting.most) × (length last.informs.list.items ≤ first.informs.most)

pub originator_stands : (first : Originator) (events : List OriginatorEvent) (last : Originator) → ForwarderStands [] first.forwarder → InformsStand [] first.informs → IsOriginatorRun first events last → OriginatorStands first events last
originator_stands first events last forwarder_stands informs_stand run =
    let split = splits first events last run in
    let forwarder = notifying.run_stands first.forwarder split.notified last.forwarder forwarder_stands split.runs in
    let asks = asking.run_stands first.informs split.asked last.informs informs_stand split.asks in
    let part : IsPartOf (begun_in asks.history) (turned_in forwarder.history) =
    subst (λ (is : List Inform). IsPartOf is (turned_in forwarder.history)) asks.is.begun (subst (IsPartOf (informs_of split.asked)) forwarder.is.informs split.part) in
    let agent = first.forwarder.agent in
    let devices = first.forwarder.devices.list.items in
    let receivers = first.forwarder.receivers.list.items in record {
      notifications = forwarder.history;
      happened = asks.history;
      is = record {
        lawful = forwarder.is.lawful;
        informs_lawful = asks.is.lawful;
        begun = part;
        mediated = all_of_part (IsMediated agent.tables devices receivers) (begun_in asks.history) (turned_in forwarder.history) part (turned_mediated agent devices receivers forwarder.history forwarder.is.lawful);
        came = split.came_is ∙ forwarder.is.inwards;
        traps = split.traps_is ∙ forwarder.is.outwards;
        begins = split.begins_is ∙ ap (map receiver_of) asks.is.begun;
        messages = split.messages_is ∙ asks.is.sent;
        acknowledged = split.ended_is ∙ asks.is.answered;
      };
      few = (
        subst (λ (most : ℕ). length last.forwarder.waiting.list.items ≤ most) forwarder.stays.most forwarder.stands.few,
        subst (λ (most : ℕ). length last.informs.list.items ≤ most) asks.stays.most asks.stands.few,
      );
    }
