use Rattle.std.proofs.Common.{◌≡◌, ℕ, List, Some, Result, Ok, Err, subst, w64}
use Rattle.std.specs.Int.{to_be_bytes}
use Rattle.snmp_incoming.specs.Outcome.{Given}
use Rattle.snmp_handles.specs.Agents.{AgentHeld, AreInRange}
use Rattle.snmp_handles.specs.Dispatch.{CountsRoom, FitsHeld}
use Rattle.snmp_handles.specs.declared.fault.CallFault.{CallFault}
use Rattle.snmp_handles.specs.declared.fault.CallFault.TheVariants.{Refused, BadArgument, NothingTaken, NotAsked, BadBindings, ShortBuffer, BadConfiguration, BadClocks, TooManyRequests}
use Rattle.snmp_handles.proofs.agent.AgentHandle.fits.Goals as goal

-- what is counted of what is kept
counted : (held : AgentHeld) (g : Given) (now status index : ℕ) (list salt : List ℕ) (limit : ℕ) (told : Result ℕ CallFault)
    → held.last ≡ Some g → AreInRange status index → CountsRoom held.agent now g status index list salt limit told
    → FitsHeld held now status index list salt limit told
counted held g now status index list salt limit (Ok count) kept range says = (range, (g, (kept, says.0), says.1))
counted held g now status index list salt limit (Err (Refused fault)) kept range says = (range, (g, (kept, says.0), says.1))
counted held g now status index list salt limit (Err NotAsked) kept range says = (range, (g, kept, says))
counted held g now status index list salt limit (Err BadBindings) kept range says = (range, (g, (kept, says.0), says.1))
counted held g now status index list salt limit (Err BadArgument) kept range says = absurd says
counted held g now status index list salt limit (Err NothingTaken) kept range says = absurd says
counted held g now status index list salt limit (Err ShortBuffer) kept range says = absurd says
counted held g now status index list salt limit (Err BadConfiguration) kept range says = absurd says
counted held g now status index list salt limit (Err BadClocks) kept range says = absurd says
counted held g now status index list salt limit (Err TooManyRequests) kept range says = absurd says

pub returns : goal.returns
returns c =
    let salt : List ℕ = to_be_bytes w64 c.args.salt in
    let reply = c.in-Some.ensures in
    let kept : c.args.self.now.last ≡ Some c.in-Some-last.kept = subst (λ (h : AgentHeld). h.last ≡ Some c.in-Some-last.kept) c.self.view_is c.in-Some-last.is in
    let says : CountsRoom c.self.inside.agent c.args.now c.in-Some-last.kept c.args.status c.args.index c.args.list.now salt c.args.limit c.room_of.result = rw (reply.1, reply.2, reply.3, reply.4) at c.room_of.ensures in
    counted c.args.self.now c.in-Some-last.kept c.args.now c.args.status c.args.index c.args.list.now salt c.args.limit c.room_of.result kept reply.0
    (subst (λ (h : AgentHeld). CountsRoom h.agent c.args.now c.in-Some-last.kept c.args.status c.args.index c.args.list.now salt c.args.limit c.room_of.result) c.self.view_is says)
