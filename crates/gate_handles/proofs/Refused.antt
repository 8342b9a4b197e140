-- The two lines of a refusal that the buffer has no room for.
use Rattle.std.proofs.Common.{ℕ, List, Some, Err}
use Rattle.std.specs.Prelude.{⊤}
use Rattle.snmpsec_gate_config.specs.Refusals.{RefusesText}
use Rattle.snmpsec_gate_config.specs.declared.fault.GateFault.{GateFault}
use Rattle.snmp_handles.specs.Parts.{CopiesMessage}
use Rattle.snmp_handles.specs.declared.fault.CallFault.{CallFault}
use Rattle.snmp_handles.specs.declared.fault.CallFault.TheVariants.{Refused, BadArgument, NothingTaken, NotAsked, BadBindings, ShortBuffer, BadConfiguration, BadClocks, TooManyRequests}
use Rattle.gate_handles.specs.Told.{IsTold, TellsGate}

pub no_room : (config out out_new : List ℕ) (written written_new : ℕ) (fault : GateFault) (text : List ℕ) (why : CallFault) → RefusesText config fault → IsTold fault text
    → CopiesMessage {V = ⊤} (Some text) out out_new written written_new (Err why) → TellsGate config out out_new written written_new (Err why)
no_room config out out_new written written_new fault text ShortBuffer refuses told h = (text, (fault, refuses, told), h.0, h.1, h.2)
no_room config out out_new written written_new fault text (Refused refusal) refuses told h = absurd h
no_room config out out_new written written_new fault text BadArgument refuses told h = absurd h
no_room config out out_new written written_new fault text NothingTaken refuses told h = absurd h
no_room config out out_new written written_new fault text NotAsked refuses told h = absurd h
no_room config out out_new written written_new fault text BadBindings refuses told h = absurd h
no_room config out out_new written written_new fault text BadConfiguration refuses told h = absurd h
no_room config out out_new written written_new fault text BadClocks refuses told h = absurd h
no_room config out out_new written written_new fault text TooManyRequests refuses told h = absurd h
