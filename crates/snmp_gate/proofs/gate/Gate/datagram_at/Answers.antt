use Rattle.std.proofs.Common.{subst, sym}
use Rattle.std.proofs.lemmas.List.Elements.{at_read}
use Rattle.snmp_gate.specs.History.{IsAskFor}
use Rattle.snmp_gate.specs.Sending.{MayAskOf}
use Rattle.snmp_gate.specs.Work.{TaskStands, request_of_task}
use Rattle.snmp_gate.specs.declared.devices.Device.{Device}
use Rattle.snmp_gate.specs.declared.work.OpenRequest.{OpenRequest}
use Rattle.snmp_gate.proofs.Endings.{one_open}
use Rattle.snmp_gate.proofs.Sending.{on_some}
use Rattle.snmp_gate.proofs.gate.Gate.datagram_at.Goals as goal

pub returns : goal.returns
returns c =
    on_some c.in_ok-datagram.datagram _ _ (λ v may.
    at_read c.args.self.now.requests.list.items (MayAskOf c.args.self.now.agent.tables c.args.self.now.devices.list.items c.args.device c.args.id v) c.args.place c.index-request.result.now c.requires.place c.index-request.ensures
    (λ o q told is asked stands.
    let same = one_open c.index-request.result.now.work c.in-Open.waiting o c.in-Open.is is in
    at_read c.args.self.now.devices.list.items (λ (d : Device). IsAskFor c.args.self.now.agent.tables d q told c.args.id (request_of_task q o.task.task) v.items) c.args.device c.index-device.result.now c.requires.device c.index-device.ensures
    (subst (λ (x : OpenRequest). IsAskFor c.args.self.now.agent.tables c.index-device.result.now q told c.args.id (request_of_task q x.task.task) v.items) same
    (may c.args.self.now.agent.tables q told asked (subst (λ (x : OpenRequest). TaskStands c.args.self.now.agent.tables q told x.task.task) (sym same) stands)))))
    c.in_ok-datagram.ensures
