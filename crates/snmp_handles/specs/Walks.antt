-- What a walk gets of a handle: the next name that the sender of what is kept may see (RFC 3416, sections 4.2.2
-- and 4.2.3; RFC 3415, section 3).
--
-- `WritesNext`: the arcs of the least such name, at or after a name, go into a buffer of the caller. If there is
-- no such name, the number of arcs is 0.
use Rattle.std.specs.Prelude.{◌≡◌, ◌⊎◌, ⊤, ℕ, List, Option, Some, None, Result, Ok, Err, IsSome}
use Rattle.snmp_message.specs.Scoped.{Contexts, ScopedFront}
use Rattle.snmp_incoming.specs.Outcome.{Given}
use Rattle.snmp_agent.specs.Decides.{NextSeen, question_of}
use Rattle.vacm_core.specs.declared.access.ViewType.{ViewType}
use Rattle.snmp_handles.specs.declared.fault.CallFault.{CallFault}
use Rattle.snmp_handles.specs.declared.fault.CallFault.TheVariants.{BadArgument, NothingTaken, ShortBuffer}
use Rattle.snmp_handles.specs.Agents.{AgentHeld, AreNoArcs}
use Rattle.snmp_handles.specs.Numbers.{view_of}
use Rattle.snmp_handles.specs.Parts.{Copies, CopiesNothing}

-- the arcs of the name are copied, or there is no name
abbrev pub CopiesName : Option (List ℕ) → List ℕ → List ℕ → ℕ → Result ⊤ CallFault → Type 0
CopiesName None old new written (Ok done) = (new ≡ old) × (written ≡ 0)
CopiesName None old new written (Err _) = ⊥
CopiesName (Some name) old new written told = Copies name old new written told

-- the least name that the sender of what is kept may see, by the view of this number, is copied
abbrev pub WritesHeld : AgentHeld → ℕ → List ℕ → List ℕ → List ℕ → ℕ → Result ⊤ CallFault → Type 0
WritesHeld held view from old new written told =
    (g : Given) × (asked : ViewType) × (next : Option (List ℕ)) × (held.last ≡ Some g) × (view_of view ≡ Some asked)
    × (AreNoArcs from → ⊥)
    × ((c : Contexts) → ScopedFront g.text c → NextSeen held.agent.tables (question_of g c) asked from next)
    × CopiesName next old new written told

abbrev pub WritesNext : AgentHeld → ℕ → List ℕ → List ℕ → List ℕ → ℕ → ℕ → Result ⊤ CallFault → Type 0
WritesNext held view from old new written written_new (Ok done) =
    WritesHeld held view from old new written_new (Ok done)
WritesNext held view from old new written written_new (Err ShortBuffer) =
    WritesHeld held view from old new written_new (Err ShortBuffer)
WritesNext held view from old new written written_new (Err BadArgument) =
    ((view_of view ≡ None) ⊎ AreNoArcs from) × CopiesNothing old new written written_new
WritesNext held view from old new written written_new (Err NothingTaken) =
    ((held.last ≡ None) × IsSome (view_of view) × (AreNoArcs from → ⊥)) × CopiesNothing old new written written_new
WritesNext held view from old new written written_new (Err _) = ⊥
