-- What an agent accepted, kept outside of its handle until it is answered: the request, and what is cached of it under
-- its stateReference (RFC 3412, sections 7.1 and 7.2).
--
-- `KeepsLast`: what was accepted last is moved out of the agent's handle. `RestoresLast`: it is moved back.
-- `holding`: the agent as if what is kept had been accepted last; `WithKept`: what a call does to the agent for a
-- message that is kept.
use Rattle.std.specs.Prelude.{◌≡◌, Option, Some, None, Result, Ok, Err}
use Rattle.snmp_incoming.specs.Outcome.{Given}
use Rattle.snmp_handles.specs.Agents.{AgentHeld}
use Rattle.snmp_handles.specs.declared.fault.CallFault.{CallFault}
use Rattle.snmp_handles.specs.declared.fault.CallFault.TheVariants.{NothingTaken}

-- the agent as if this had been accepted last
abbrev pub holding : Option Given → AgentHeld → AgentHeld
holding kept held = record held { last = kept }

-- What was accepted last is kept, and the agent holds it no longer. Where there is none, nothing changes.
abbrev pub KeepsLast : {V : Type 0} → AgentHeld → Option Given → Result V CallFault → AgentHeld → Option Given → Type 0
KeepsLast old kept (Ok done) new kept_new =
    (g : Given) × (old.last ≡ Some g) × (kept_new ≡ Some g) × (new ≡ holding None old)
KeepsLast old kept (Err NothingTaken) new kept_new = (old.last ≡ None) × (kept_new ≡ kept) × (new ≡ old)
KeepsLast old kept (Err _) new kept_new = ⊥

-- What is kept is what the agent accepted last, and is kept no longer. Where nothing is kept, nothing changes.
abbrev pub RestoresLast : {V : Type 0} → AgentHeld → Option Given → Result V CallFault → AgentHeld → Option Given
    → Type 0
RestoresLast old kept (Ok done) new kept_new =
    (g : Given) × (kept ≡ Some g) × (kept_new ≡ None) × (new ≡ holding kept old)
RestoresLast old kept (Err NothingTaken) new kept_new = (kept ≡ None) × (kept_new ≡ None) × (new ≡ old)
RestoresLast old kept (Err _) new kept_new = ⊥

-- A call does for what is kept just what it does for what was accepted last; what was accepted last stays, and so
-- does what is kept.
abbrev pub WithKept : (AgentHeld → AgentHeld → Type 0) → AgentHeld → Option Given → AgentHeld → Option Given → Type 0
WithKept Does old kept new kept_new = Does (holding kept old) (holding kept new)
    × (new.last ≡ old.last) × (kept_new ≡ kept)
