-- Calls on a handle are a run of its listener.
use Rattle.std.specs.Prelude.{◌≤◌, ⊤, ℕ, List, [], ◌∷◌, Result, Ok, Err}
use Rattle.std.proofs.Common.{ap, arith, inl, inr, refl, subst, sym}
use Rattle.snmp_listener.specs.Listening.{ListenerState, state_of}
use Rattle.snmp_listener.specs.Runs.{Event, IsRun, finds_no_memory, latest, takes}
use Rattle.snmp_handles.specs.declared.fault.CallFault.{CallFault}
use Rattle.listener_handles.specs.Calls.{AreEventsOf, Call, HaveRun, held_after, latest_call, saved, took}
use Rattle.listener_handles.specs.Listeners.{ListenerHeld, SavesListener, TakesListener}
use Rattle.listener_handles.specs.declared.event.ListenerEvent.{ListenerEvent}

pub record Handled (since : ℕ) (first : ListenerHeld) (calls : List Call) : Type 0 where
  pub events : List Event
  pub are : AreEventsOf calls events
  pub run : IsRun since (state_of first.listener) events (state_of (held_after first calls).listener)
  pub moment : latest since events ≤ latest_call since calls

taken : (since : ℕ) (first : ListenerHeld) (before : List Call) (now : ℕ) (from w salt : List ℕ) (told : Result ListenerEvent CallFault) (left : ListenerHeld) → Handled since first before → latest_call since before ≤ now
    → TakesListener (held_after first before) now from w salt told left → Handled since first (took now from w salt told left ∷ before)
taken since first before now from w salt (Ok event) left known turn (what, takes_it, is, holds) = record {
  events = takes now from w salt what left.listener.manager.clocks ∷ known.events;
  are = (inl (what, refl, ap (λ e. Ok e) is, holds), known.are);
  run = (state_of (held_after first before).listener, known.run, omega (arith, known.moment, turn), takes_it, refl);
  moment = omega arith;
}
taken since first before now from w salt (Err fault) left known turn (is, same, last, message) = record {
  events = finds_no_memory ∷ known.events;
  are = (inr (refl, ap (λ f. Err f) is), known.are);
  run = subst (λ (l : ListenerState). IsRun since (state_of first.listener) known.events l) (sym same) known.run;
  moment = omega (arith, known.moment, turn);
}

saved_after : (since : ℕ) (first : ListenerHeld) (before : List Call) (told : Result ⊤ CallFault) (left : ListenerHeld) → Handled since first before → SavesListener (held_after first before) told left → Handled since first (saved told left ∷ before)
saved_after since first before (Ok done) left known (are, is) = record {
  events = known.events;
  are = known.are;
  run = subst (λ (h : ListenerHeld). IsRun since (state_of first.listener) known.events (state_of h.listener)) (sym is) known.run;
  moment = known.moment;
}
saved_after since first before (Err fault) left known (why, is) = record {
  events = known.events;
  are = known.are;
  run = subst (λ (h : ListenerHeld). IsRun since (state_of first.listener) known.events (state_of h.listener)) (sym is) known.run;
  moment = known.moment;
}

pub handled : (since : ℕ) (first : ListenerHeld) (calls : List Call) → HaveRun since first calls → Handled since first calls
handled since first [] run = record { events = []; are = tt; run = refl; moment = omega arith }
handled since first (took now from w salt told left ∷ before) run = taken since first before now from w salt told left (handled since first before run.0) run.1 run.2
handled since first (saved told left ∷ before) run = saved_after since first before told left (handled since first before run.0) run.1
