use Rattle.std.proofs.Common.{◌∙◌}
use Rattle.gate_handles.proofs.Forwards.{no_inform_waits}
use Rattle.gate_handles.proofs.forward.informs_of.Goals as goal

pub returns : goal.returns
returns c =
    let manager = c.new-2.ensures.manager in record {
      engine_is = c.new-2.ensures.engine;
      users_are = cc (manager, c.new-manager.ensures.users);
      no_clocks = cc (manager, c.new-manager.ensures.clocks, c.new.ensures);
      limits = c.new-2.ensures.limits ∙ c.default.ensures;
      most = c.new-2.ensures.most;
      none_wait = no_inform_waits c.new-2.result c.new-2.ensures.stands;
      stands = c.new-2.ensures.stands;
    }
