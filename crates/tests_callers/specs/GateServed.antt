-- The handle of a gateway, that is called one call after another.
--
-- `IsHandleServed`: what comes at a moment is taken, or something is sent, by one call. `HasMediated`: what is true
-- after all calls of a handle that was made of a configuration.
use Rattle.std.specs.Prelude.{◌≡◌, ◌≤◌, ℕ, List, ◌∷◌, length, Result}
use Rattle.std.specs.Int.{to_be_bytes, w64}
use Rattle.snmp_gate.specs.History.{Happening}
use Rattle.snmp_gate.specs.Limits.{AlwaysKeepsTo}
use Rattle.snmp_gate.specs.Runs.{Event, IsHistoryOf}
use Rattle.snmp_handles.specs.declared.fault.CallFault.{CallFault}
use Rattle.gate_handles.specs.Calls.{AreEventsOf, Call, HaveRun, held_after, latest}
use Rattle.gate_handles.specs.Calls.{sent_next, took_client, took_device}
use Rattle.gate_handles.specs.Gates.{GateHeld, IsGateOf}
use Rattle.gate_handles.specs.declared.event.GateEvent.{GateEvent}
use Rattle.tests_callers.specs.declared.gateway_handles.GateCome.{GateCome}
use Rattle.tests_callers.specs.declared.gateway_handles.GateCome.TheVariants as come

-- it is a call on the handle, for what comes at this moment
abbrev pub IsCallFor : ℕ → GateCome → GateHeld → Call → Type 0
IsCallFor now (come.Client from datagram) left call = (told : Result GateEvent CallFault)
    × (call ≡ took_client now from.now datagram.now told left)
IsCallFor now (come.Device device datagram) left call = (told : Result GateEvent CallFault)
    × (call ≡ took_device now device datagram.now told left)
IsCallFor now (come.Next salt ask_id) left call = (told : Result GateEvent CallFault)
    × (call ≡ sent_next now (to_be_bytes w64 salt) ask_id told left)

-- the call goes on any run of calls up to it
abbrev pub IsHandleServed : GateHeld → ℕ → GateCome → GateHeld → Type 0
IsHandleServed old now what new = (first : GateHeld) (calls : List Call) → HaveRun first calls
    → held_after first calls ≡ old → latest calls ≤ now
    → (call : Call) × IsCallFor now what new call × HaveRun first (call ∷ calls)
    × (held_after first (call ∷ calls) ≡ new) × (latest (call ∷ calls) ≡ now)

-- The handle was made of the configuration, and what is left was made of it by so many calls. They are a run of it, and
-- what its gateway got and sent by them has a lawful history, which always keeps to the limits.
pub record HasMediated (config : List ℕ) (boots started count : ℕ) (left : GateHeld) : Type 0 where
  pub made : GateHeld
  pub is_made : IsGateOf config boots started made
  pub calls : List Call
  pub each : length calls ≡ count
  pub run : HaveRun made calls
  pub left_is : held_after made calls ≡ left
  pub events : List Event
  pub are_events : AreEventsOf calls events
  pub history : List Happening
  pub is_history : IsHistoryOf made.gate events history
  pub keeps : AlwaysKeepsTo made.gate.limits made.gate.devices.list.items history
