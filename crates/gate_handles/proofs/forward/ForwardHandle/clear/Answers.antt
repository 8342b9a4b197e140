use Rattle.std.proofs.Common.{◌∙◌, [], ap, sym, subst}
use Rattle.gate_handles.specs.Gates.{IsEmptyAgent}
use Rattle.gate_handles.specs.Forwards.{IsNewOriginator, begun}
use Rattle.gate_handles.proofs.forward.ForwardHandle.clear.Goals as goal

pub returns : goal.returns
returns c =
    let agent_is = c.in-Ok.ensures.forwarder.agent_is in
    let empty = rw (c.in_ok-users.ensures.users, c.deref.ensures.value, c.new-devices.ensures.items, c.deref-2.ensures.value, c.new-receivers.ensures.items) at c.in-Ok.ensures in record {
      no_users = rw c.begin_call.ensures.originator (subst IsEmptyAgent (sym agent_is) c.in_ok-agent.ensures.agent);
      originator = rw c.begin_call.ensures.originator (subst (λ a. IsNewOriginator a [] [] [] c.in-Ok.originator) (sym agent_is) empty);
      quiet = c.begin_call.ensures.noted ∙ ap begun (sym c.begin_call.ensures.noted);
    }
