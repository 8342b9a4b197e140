use Rattle.std.proofs.Common.{refl, subst, sym}
use Rattle.vacm_core.specs.Tables.{tables_of}
use Rattle.snmp_agent.specs.Agent.{AgentState}
use Rattle.gate_handles.specs.Gates.{IsAgentWithoutUsers}
use Rattle.gate_handles.proofs.handle.GateHandle.read.Goals as goal

pub returns : goal.returns
returns c =
    let made = c.in-Ok.ensures.new in
    let said = c.in_ok-said.said in record {
      users = said.rows.users.items;
      rows = tables_of said.rows.access;
      sound = c.in_ok-said.ensures.says;
      access = refl;
      views = c.in_ok-views.ensures.views;
      agent = subst (λ (a : AgentState). IsAgentWithoutUsers said.gate.engine (tables_of said.rows.access) a) (sym made.agent_is) (rw c.copy.ensures at c.in_ok-agent.ensures.agent);
      gate = record {
        agent_is = refl;
        asks = rw (c.deref.ensures.value, c.new-none.ensures.items) at made.asks;
        stands = made.stands;
        bounded = made.bounded;
        none_wait = made.none_wait;
      };
      limits = c.in-Ok.ensures.limits;
      quiet = record { message = refl; client = refl; note = refl };
    }
