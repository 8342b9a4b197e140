-- Each call on the handle of a gateway goes on its run, and what is true after all of them.
use Rattle.std.proofs.Common.{◌≡◌, ◌≤◌, ℕ, List, [], ◌∷◌, length, refl, subst, sym}
use Rattle.std.specs.Prelude.{Result}
use Rattle.snmp_gate.specs.Bounds.{IsBounded}
use Rattle.snmp_gate.specs.History.{Happening}
use Rattle.snmp_gate.specs.Limits.{AlwaysKeepsTo}
use Rattle.snmp_gate.specs.Runs.{Event, IsHistoryOf, IsRun}
use Rattle.snmp_gate.specs.Waiting.{GateStands}
use Rattle.snmp_gate.specs.declared.gate.Gate.{Gate}
use Rattle.snmp_handles.specs.declared.fault.CallFault.{CallFault}
use Rattle.gate_handles.specs.Calls.{AreEventsOf, Call, HaveRun, held_after, latest, sent_next, took_client, took_device}
use Rattle.gate_handles.specs.Gates.{GateHeld, IsGateOf, SendsNext, TakesClient, TakesDevice}
use Rattle.gate_handles.specs.declared.event.GateEvent.{GateEvent}
use Rattle.tests_callers.specs.GateServed.{HasMediated}

abbrev ServedBy : (Call → Type 0) → GateHeld → ℕ → GateHeld → Type 0
ServedBy P old now new = (first : GateHeld) (calls : List Call) → HaveRun first calls → held_after first calls ≡ old → latest calls ≤ now
    → (call : Call) × P call × HaveRun first (call ∷ calls) × (held_after first (call ∷ calls) ≡ new) × (latest (call ∷ calls) ≡ now)

pub client : (old new : GateHeld) (now : ℕ) (from w : List ℕ) (told : Result GateEvent CallFault) → TakesClient old now from w told new
    → ServedBy (λ call. (t : Result GateEvent CallFault) × (call ≡ took_client now from w t new)) old now new
client old new now from w told takes = λ first calls run is le.
    (took_client now from w told new, (told, refl), (run, le, subst (λ (h : GateHeld). TakesClient h now from w told new) (sym is) takes), refl, refl)

pub device : (old new : GateHeld) (now number : ℕ) (w : List ℕ) (told : Result GateEvent CallFault) → TakesDevice old now number w told new
    → ServedBy (λ call. (t : Result GateEvent CallFault) × (call ≡ took_device now number w t new)) old now new
device old new now number w told takes = λ first calls run is le.
    (took_device now number w told new, (told, refl), (run, le, subst (λ (h : GateHeld). TakesDevice h now number w told new) (sym is) takes), refl, refl)

pub next : (old new : GateHeld) (now : ℕ) (salt : List ℕ) (ask_id : ℕ) (told : Result GateEvent CallFault) → SendsNext old now salt ask_id told new
    → ServedBy (λ call. (t : Result GateEvent CallFault) × (call ≡ sent_next now salt ask_id t new)) old now new
next old new now salt ask_id told sends = λ first calls run is le.
    (sent_next now salt ask_id told new, (told, refl), (run, le, subst (λ (h : GateHeld). SendsNext h now salt ask_id told new) (sym is) sends), refl, refl)

module _ (runs : (first : GateHeld) (calls : List Call) → HaveRun first calls → (events : List Event) × AreEventsOf calls events × IsRun first.gate events (held_after first calls).gate)
    (keeps : (first last : Gate) (events : List Event) → GateStands 0 [] first → IsBounded first → IsRun first events last
    → (history : List Happening) × IsHistoryOf first events history × AlwaysKeepsTo first.limits first.devices.list.items history) where
  pub mediated : (config : List ℕ) (boots started count : ℕ) (made left : GateHeld) (calls : List Call) → IsGateOf config boots started made → length calls ≡ count → HaveRun made calls → held_after made calls ≡ left
      → HasMediated config boots started count left
  mediated config boots started count made left calls is each run to =
      let events = runs made calls run in
      let history = keeps made.gate (held_after made calls).gate events.0 is.gate.stands is.gate.bounded events.2 in
      record {
        made = made;
        is_made = is;
        calls = calls;
        each = each;
        run = run;
        left_is = to;
        events = events.0;
        are_events = events.1;
        history = history.0;
        is_history = history.1;
        keeps = history.2;
      }
