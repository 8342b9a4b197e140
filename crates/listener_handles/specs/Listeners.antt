-- A listener with what it reported last and what is to be sent, and what its calls leave.
--
-- `ListenerHeld`: a listener, the notification that was reported last, and the message. `MakesListener`: one of these
-- settings that took nothing; `RefusesListener`: why there is none. `TakesListener`: what becomes of a datagram, by the
-- listener's own definition. `CountsListener`: a counter. `SavesListener`, `TellsSender`: the clocks of senders.
-- `EmptiesListener`: all is given back.
use Rattle.std.specs.Prelude.{◌≡◌, ◌<◌, ◌≤◌, ℕ, List, [], Option, Some, None, Result, Ok, Err, replicate}
use Rattle.std.specs.Prelude.{slice_index}
use Rattle.std.specs.FinMap as map
use Rattle.std.specs.Option.{option_map}
use Rattle.snmp_ber.specs.declared.level.Level.{Level}
use Rattle.engine_clock.specs.Pairs.{BootsAndTime}
use Rattle.engine_clock.specs.Marks.{Marks, pair_at}
use Rattle.engine_clock.specs.Saved.{AreMarks, Saves, listing}
use Rattle.snmp_message.specs.declared.refusal.Refusal.TheVariants.{OutOfMemory}
use Rattle.usm_core.specs.Authentic.{HasEngineLength}
use Rattle.usm_users.specs.User.{User}
use Rattle.vacm_core.specs.Tables.{Tables}
use Rattle.snmp_incoming.specs.Outcome.{Given}
use Rattle.snmp_manager.specs.Views.{held_by}
use Rattle.snmpsec_config.specs.Refusals.{Loads}
use Rattle.snmp_handles.specs.Agents.{IsEngineAt, begins}
use Rattle.snmp_handles.specs.declared.fault.CallFault.{CallFault}
use Rattle.snmp_handles.specs.declared.fault.CallFault.TheVariants.{Refused, BadArgument, BadClocks, BadConfiguration}
use Rattle.snmp_handles.specs.declared.fault.CallFault.TheVariants.{NothingTaken}
use Rattle.snmp_listener.specs.Counting.{places}
use Rattle.snmp_listener.specs.Listening.{ListenerTakes, new_listener, state_of}
use Rattle.snmp_listener.specs.declared.dropped.Dropped.TheVariants as drops
use Rattle.snmp_listener.specs.declared.listener.Listener.{Listener}
use Rattle.snmp_listener.specs.declared.listener.ListenerTaken.{ListenerTaken}
use Rattle.snmp_listener.specs.declared.listener.ListenerTaken.TheVariants.{Trap, Inform, Copy, Dropped}
use Rattle.snmp_listener.specs.declared.rules.ListenerRules.{ListenerRules}
use Rattle.listener_handles.specs.Rules.{AreRules, RefusesRules, least_of}
use Rattle.listener_handles.specs.declared.event.ListenerEvent.{ListenerEvent}
use Rattle.listener_handles.specs.declared.event.ListenerEvent.TheVariants as events
use Rattle.listener_handles.specs.declared.settings.ListenerSettings.{ListenerSettings}

pub record ListenerHeld : Type 0 where
  pub listener : Listener
  -- the notification that was reported last, if the datagram that was taken last was reported
  pub last : Option Given
  -- what is to be sent to the sender of that datagram, or the saved text of the clocks
  pub message : Option (List ℕ)

-- ---- making one

-- a listener of these settings that took nothing, with these rules and clocks
pub record IsMadeOf (settings : ListenerSettings) (clocks : Marks) (rules : ListenerRules) (listener : Listener)
    : Type 0 where
  pub users : List User
  pub tables : Tables
  pub loads : Loads settings.config.now users tables
  pub is_new : state_of listener ≡ new_listener settings.engine.now
      (begins settings.engine.now settings.boots settings.started users tables).agent (held_by users clocks) rules

pub record IsListenerOf (settings : ListenerSettings) (made : ListenerHeld) : Type 0 where
  pub engine : IsEngineAt settings.engine.now settings.boots
  pub least : Option Level
  pub is_least : least_of settings.least_level ≡ Some least
  pub clocks : Marks
  pub saves : Saves settings.clocks_moment settings.clocks.now clocks
  pub rules : ListenerRules
  pub are_rules : AreRules settings least rules
  pub made_of : IsMadeOf settings clocks rules made.listener
  pub no_last : made.last ≡ None
  pub no_message : made.message ≡ None

-- the least level, the engine ID and the boots are in their ranges
abbrev pub IsInRange : ListenerSettings → Type 0
IsInRange settings = IsEngineAt settings.engine.now settings.boots
    × ((least : Option Level) × (least_of settings.least_level ≡ Some least))

-- why there is none, the first that applies
abbrev pub RefusesListener : ListenerSettings → CallFault → Type 0
RefusesListener settings BadArgument = IsInRange settings → ⊥
RefusesListener settings BadClocks = IsInRange settings
    × ((clocks : Marks) → Saves settings.clocks_moment settings.clocks.now clocks → ⊥)
RefusesListener settings BadConfiguration = IsInRange settings
    × ((clocks : Marks) × Saves settings.clocks_moment settings.clocks.now clocks)
    × RefusesRules settings.config.now BadConfiguration
RefusesListener settings (Refused fault) = IsInRange settings × (fault ≡ OutOfMemory)
RefusesListener settings _ = ⊥

abbrev pub MakesListener : ListenerSettings → Result ListenerHeld CallFault → Type 0
MakesListener settings (Ok made) = IsListenerOf settings made
MakesListener settings (Err fault) = RefusesListener settings fault

-- ---- taking

abbrev pub event_of : ListenerTaken → ListenerEvent
event_of (Trap g) = events.Trap
event_of (Inform g text) = events.Inform
event_of (Copy text) = events.Dropped drops.Copy
event_of (Dropped why answer) = events.Dropped why

-- the notification that is reported is kept, and what is to be sent is the message
abbrev pub Holds : ListenerTaken → ListenerHeld → Type 0
Holds (Trap g) new = (new.last ≡ Some g) × (new.message ≡ None)
Holds (Inform g text) new = (new.last ≡ Some g) × (new.message ≡ Some text.items)
Holds (Copy text) new = (new.last ≡ None) × (new.message ≡ option_map (λ v. v.items) text)
Holds (Dropped why answer) new = (new.last ≡ None) × (new.message ≡ option_map (λ v. v.items) answer)

-- The datagram is taken, and this becomes of it. If there is no memory, all is as before.
abbrev pub TakesListener : ListenerHeld → ℕ → List ℕ → List ℕ → List ℕ → Result ListenerEvent CallFault → ListenerHeld
    → Type 0
TakesListener old now from w salt (Ok event) new =
    (what : ListenerTaken) × ListenerTakes (state_of old.listener) now from w salt what (state_of new.listener)
    × (event ≡ event_of what) × Holds what new
TakesListener old now from w salt (Err fault) new = (fault ≡ Refused OutOfMemory)
    × (state_of new.listener ≡ state_of old.listener) × (new.last ≡ old.last) × (new.message ≡ old.message)

-- ---- counters and clocks

abbrev pub CountsListener : ListenerHeld → ℕ → Result ℕ CallFault → Type 0
CountsListener held place (Ok count) = (place < places) × (count ≡ slice_index held.listener.counts place)
CountsListener held place (Err BadArgument) = places ≤ place
CountsListener held place (Err _) = ⊥

-- The saved text of the marks, which are within their bounds, is the message.
abbrev pub SavesListener : {V : Type 0} → ListenerHeld → Result V CallFault → ListenerHeld → Type 0
SavesListener old (Ok done) new = AreMarks old.listener.manager.clocks
    × (new ≡ record old { message = Some (listing old.listener.manager.clocks) })
SavesListener old (Err fault) new = (fault ≡ Refused OutOfMemory) × (new ≡ old)

-- the pair that is held of a sender's engine
abbrev pub TellsSender : ListenerHeld → List ℕ → Result BootsAndTime CallFault → Type 0
TellsSender held engine (Ok pair) = HasEngineLength engine × (pair_at held.listener.manager.clocks engine ≡ Some pair)
TellsSender held engine (Err BadArgument) = HasEngineLength engine → ⊥
TellsSender held engine (Err NothingTaken) = HasEngineLength engine
    × (pair_at held.listener.manager.clocks engine ≡ None)
TellsSender held engine (Err _) = ⊥

-- ---- giving it back

-- a listener without users, that took nothing
pub record IsEmptyListener (listener : Listener) : Type 0 where
  pub tables : Tables
  pub rules : ListenerRules
  pub no_sources : rules.sources.items ≡ []
  pub no_names : rules.viewed.items ≡ []
  pub is_new : state_of listener ≡ new_listener (replicate 5 0) (begins (replicate 5 0) 0 0 [] tables).agent
      (held_by [] map.empty) rules

-- Nothing is held any more. A refusal changes nothing.
abbrev pub EmptiesListener : {V : Type 0} → ListenerHeld → Result V CallFault → ListenerHeld → Type 0
EmptiesListener old (Ok done) new = IsEmptyListener new.listener × (new.last ≡ None) × (new.message ≡ None)
EmptiesListener old (Err fault) new = (fault ≡ Refused OutOfMemory) × (new ≡ old)
