-- A walk gets a name or none, or its buffer is too short.
use Rattle.std.specs.Prelude.{⊤}
use Rattle.std.proofs.Common.{ℕ, List, Option, Some, None, Result, Ok, Err}
use Rattle.snmp_handles.specs.declared.fault.CallFault.{CallFault}
use Rattle.snmp_handles.specs.declared.fault.CallFault.TheVariants.{BadArgument, NothingTaken, NotAsked, BadBindings, ShortBuffer, BadConfiguration, BadClocks, Refused, TooManyRequests}
use Rattle.snmp_handles.specs.Agents.{AgentHeld}
use Rattle.snmp_handles.specs.Walks.{CopiesName, WritesHeld, WritesNext}

abbrev IsShort : CallFault → Type 0
IsShort ShortBuffer = ⊤
IsShort _ = ⊥

is_short : (old new : List ℕ) (written : ℕ) (next : Option (List ℕ)) (fault : CallFault) → CopiesName next old new written (Err fault) → IsShort fault
is_short old new written None fault copies = absurd copies
is_short old new written (Some name) ShortBuffer copies = tt
is_short old new written (Some name) BadArgument copies = absurd copies
is_short old new written (Some name) NothingTaken copies = absurd copies
is_short old new written (Some name) NotAsked copies = absurd copies
is_short old new written (Some name) BadBindings copies = absurd copies
is_short old new written (Some name) BadConfiguration copies = absurd copies
is_short old new written (Some name) BadClocks copies = absurd copies
is_short old new written (Some name) TooManyRequests copies = absurd copies
is_short old new written (Some name) (Refused refusal) copies = absurd copies

pub written_next : (held : AgentHeld) (view : ℕ) (from old new : List ℕ) (written written_new : ℕ) (told : Result ⊤ CallFault)
    → WritesHeld held view from old new written_new told → WritesNext held view from old new written written_new told
written_next held view from old new written written_new (Ok done) h = h
written_next held view from old new written written_new (Err ShortBuffer) h = h
written_next held view from old new written written_new (Err BadArgument) h = absurd (is_short old new written_new h.2 BadArgument h.7)
written_next held view from old new written written_new (Err NothingTaken) h = absurd (is_short old new written_new h.2 NothingTaken h.7)
written_next held view from old new written written_new (Err NotAsked) h = absurd (is_short old new written_new h.2 NotAsked h.7)
written_next held view from old new written written_new (Err BadBindings) h = absurd (is_short old new written_new h.2 BadBindings h.7)
written_next held view from old new written written_new (Err BadConfiguration) h = absurd (is_short old new written_new h.2 BadConfiguration h.7)
written_next held view from old new written written_new (Err BadClocks) h = absurd (is_short old new written_new h.2 BadClocks h.7)
written_next held view from old new written written_new (Err TooManyRequests) h = absurd (is_short old new written_new h.2 TooManyRequests h.7)
written_next held view from old new written written_new (Err (Refused refusal)) h = absurd (is_short old new written_new h.2 (Refused refusal) h.7)
