-- Calls on a handle are a run of its gateway.
use Rattle.std.specs.Prelude.{◌≡◌, ◌≤◌, ◌⊎◌, ℕ, List, [], ◌∷◌, Result}
use Rattle.std.proofs.Common.{refl, sym, subst, inl, inr}
use Rattle.snmp_gate.specs.Runs.{Event, IsRun, client_comes, device_comes, finds_no_memory, goes_out, moment_of}
use Rattle.snmp_gate.specs.Waiting.{fresh}
use Rattle.snmp_handles.specs.declared.fault.CallFault.{CallFault}
use Rattle.gate_handles.specs.Calls.{AreEventsOf, Call, HaveRun, held_after, latest, sent_next, took_client, took_device}
use Rattle.gate_handles.specs.Gates.{GateHeld, RunsOut, Sends, TookClient, TookDevice}
use Rattle.gate_handles.specs.declared.event.GateEvent.{GateEvent}

pub record Handled (first : GateHeld) (calls : List Call) : Type 0 where
  pub events : List Event
  pub are : AreEventsOf calls events
  pub run : IsRun first.gate events (held_after first calls).gate
  pub moment : moment_of events ≡ latest calls

in_turn : (first : GateHeld) (before : List Call) (now : ℕ) (known : Handled first before) → latest before ≤ now → moment_of known.events ≤ now
in_turn first before now known turn = subst (λ (moment : ℕ). moment ≤ now) (sym known.moment) turn

client : (first : GateHeld) (before : List Call) (now : ℕ) (from w : List ℕ) (told : Result GateEvent CallFault) (left : GateHeld) (known : Handled first before) → latest before ≤ now
    → TookClient (held_after first before) now from w told left ⊎ RunsOut (held_after first before) now told left → Handled first (took_client now from w told left ∷ before)
client first before now from w told left known turn (inl took) = record {
  events = client_comes now from w took.taken ∷ known.events;
  are = (inl (took.taken, refl, took.tells), known.are);
  run = (in_turn first before now known turn, ((held_after first before).gate, known.run, took.takes));
  moment = refl;
}
client first before now from w told left known turn (inr out) = record {
  events = finds_no_memory now ∷ known.events;
  are = (inr (refl, out.fault, out.quiet), known.are);
  run = (in_turn first before now known turn, ((held_after first before).gate, known.run, out.stays, out.as_before));
  moment = refl;
}

device : (first : GateHeld) (before : List Call) (now number : ℕ) (w : List ℕ) (told : Result GateEvent CallFault) (left : GateHeld) (known : Handled first before) → latest before ≤ now
    → TookDevice (held_after first before) now number w told left ⊎ RunsOut (held_after first before) now told left → Handled first (took_device now number w told left ∷ before)
device first before now number w told left known turn (inl took) = record {
  events = device_comes now number w took.taken ∷ known.events;
  are = (inl (took.taken, refl, took.tells), known.are);
  run = (in_turn first before now known turn, ((held_after first before).gate, known.run, took.takes));
  moment = refl;
}
device first before now number w told left known turn (inr out) = record {
  events = finds_no_memory now ∷ known.events;
  are = (inr (refl, out.fault, out.quiet), known.are);
  run = (in_turn first before now known turn, ((held_after first before).gate, known.run, out.stays, out.as_before));
  moment = refl;
}

next : (first : GateHeld) (before : List Call) (now : ℕ) (salt : List ℕ) (ask_id : ℕ) (told : Result GateEvent CallFault) (left : GateHeld) (known : Handled first before) → latest before ≤ now
    → Sends (held_after first before) now (fresh salt ask_id) told left ⊎ RunsOut (held_after first before) now told left → Handled first (sent_next now salt ask_id told left ∷ before)
next first before now salt ask_id told left known turn (inl went) = record {
  events = goes_out now (fresh salt ask_id) went.sent ∷ known.events;
  are = (inl (went.sent, refl, went.tells), known.are);
  run = (in_turn first before now known turn, ((held_after first before).gate, known.run, went.sends));
  moment = refl;
}
next first before now salt ask_id told left known turn (inr out) = record {
  events = finds_no_memory now ∷ known.events;
  are = (inr (refl, out.fault, out.quiet), known.are);
  run = (in_turn first before now known turn, ((held_after first before).gate, known.run, out.stays, out.as_before));
  moment = refl;
}

pub handled : (first : GateHeld) (calls : List Call) → HaveRun first calls → Handled first calls
handled first [] run = record { events = []; are = tt; run = refl; moment = refl }
handled first (took_client now from w told left ∷ before) run = client first before now from w told left (handled first before run.0) run.1 run.2.1
handled first (took_device now number w told left ∷ before) run = device first before now number w told left (handled first before run.0) run.1 run.2.1
handled first (sent_next now salt ask_id told left ∷ before) run = next first before now salt ask_id told left (handled first before run.0) run.1 run.2.1
