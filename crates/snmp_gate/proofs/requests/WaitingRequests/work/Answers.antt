use Rattle.std.proofs.Common.{◌∙◌, ◌∷◌, ap, slice_set}
use Rattle.snmp_gate.specs.Groups.{group_of, groups_of}
use Rattle.snmp_gate.proofs.GroupSteps.{group_at, groups_set}
use Rattle.snmp_gate.proofs.requests.WaitingRequests.work.Goals as goal

pub returns-clause-worked : goal.returns-clause-worked
returns-clause-worked g c = record {
  group = group_of c.index_mut.result.now;
  at = group_at c.args.self.now.list.items c.args.place c.index_mut.result.now c.requires c.index_mut.ensures.value;
  before_is = c.replace.ensures.value;
  new_is = groups_set c.args.self.now.list.items c.args.place _ ∙ ap (λ w. slice_set (groups_of c.args.self.now.list.items) c.args.place (record { number = c.index_mut.result.now.number; messages = c.index_mut.result.now.first ∷ c.index_mut.result.now.others.items; work = w })) c.replace.ensures.after;
}
