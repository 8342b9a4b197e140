use Rattle.std.proofs.Common.{◌≡◌, refl}
use Rattle.std.proofs.lemmas.List.Elements.{at_read}
use Rattle.snmp_gate.specs.declared.requests.WaitingRequest.{WaitingRequest}
use Rattle.snmp_gate.specs.declared.waiting_message.WaitingMessage.{WaitingMessage}
use Rattle.snmp_gate.specs.declared.work.OpenRequest.{OpenRequest}
use Rattle.snmp_gate.specs.declared.work.Work.{Work}
use Rattle.snmp_gate.specs.declared.work.Work.TheVariants.{Open}
use Rattle.snmp_gate.proofs.gate.Gate.device_at.Goals as goal

pub returns : goal.returns
returns c =
    let r = c.index-request.result.now in
    let device = c.in-Open.waiting.device in
    at_read c.args.self.now.requests.list.items (λ (x : WaitingRequest WaitingMessage Work). (x.number ≡ r.number) × ((o : OpenRequest) × (x.work ≡ Open o) × (o.device ≡ device))) c.args.place r c.requires.place c.index-request.ensures
    (refl, (c.in-Open.waiting, c.in-Open.is, refl))
