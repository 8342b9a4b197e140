use Rattle.std.proofs.Common.{All, [], subst, sym}
use Rattle.std.proofs.lemmas.List.Elements.{All-nil}
use Rattle.snmp_gate.specs.Groups.{groups_of}
use Rattle.snmp_gate.specs.Sending.{Requests}
use Rattle.snmp_gate.specs.Waiting.{EndsByCause}
use Rattle.snmp_gate.proofs.AsksKept.{asks_first}
use Rattle.snmp_gate.proofs.Repeating.{outcomes_first}
use Rattle.snmp_gate.proofs.SetsKept.{nothing_stands, sets_first}
use Rattle.snmp_gate.proofs.gate.Gate.new.Goals as goal

pub returns-clause-stands : goal.returns-clause-stands
returns-clause-stands c = record {
  requests = nothing_stands c.args.agent.tables c.args.devices.list.items c.new.result.next c.new.result.list.items c.new.ensures.list;
  asks = asks_first c.in_ok-asks.asks.items c.in_ok-asks.ensures.none;
  sets = sets_first c.new.result.list.items c.new-2.result.sets.items;
  outcomes = outcomes_first c.new.result.list.items c.new-2.result.sets.items c.new.ensures.list c.new-2.ensures;
  causes = subst (λ (rs : Requests). All (EndsByCause c.args.limits c.args.agent.engine c.args.agent.tables c.args.devices.list.items []) (groups_of rs)) (sym c.new.ensures.list)
      (All-nil (EndsByCause c.args.limits c.args.agent.engine c.args.agent.tables c.args.devices.list.items []));
}
