use Rattle.std.proofs.Common.{subst, List, MatchOption}
use Rattle.snmp_gate.specs.Devices.{IsDeviceOf, IsUnknownContext}
use Rattle.snmp_gate.specs.declared.devices.Device.{Device}
use Rattle.snmp_gate.proofs.Contexts.{only_found}
use Rattle.snmp_gate.proofs.devices.Devices.find.Goals as goal

pub returns-clause-only : goal.returns-clause-only
returns-clause-only c =
    let context = c.args.context.now in
    only_found c.args.self.now.list.items context c.number_of.result
    (subst (λ (ds : List Device). MatchOption c.number_of.result (IsUnknownContext ds context) (IsDeviceOf ds context)) c.deref.ensures.value c.number_of.ensures)
