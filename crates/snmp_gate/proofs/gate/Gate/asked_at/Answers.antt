use Rattle.std.proofs.Common.{◌≡◌, Some, arith}
use Rattle.std.proofs.lemmas.List.Elements.{at_read}
use Rattle.snmp_gate.specs.declared.requests.WaitingRequest.{WaitingRequest}
use Rattle.snmp_gate.specs.declared.waiting_message.WaitingMessage.{WaitingMessage}
use Rattle.snmp_gate.specs.declared.work.OpenRequest.{OpenRequest}
use Rattle.snmp_gate.specs.declared.work.Work.{Work}
use Rattle.snmp_gate.specs.declared.work.Work.TheVariants.{Open}
use Rattle.snmp_gate.proofs.gate.Gate.asked_at.Goals as goal

pub returns : goal.returns
returns c = (
  omega (arith, c.if-id-ge-REQUEST_IDS.false),
  at_read c.args.self.now.requests.list.items (λ (x : WaitingRequest WaitingMessage Work). (o : OpenRequest) × (x.work ≡ Open o) × (o.asked ≡ Some c.in-Some.id)) c.args.place c.index.result.now c.requires c.index.ensures
      (c.in-Open.waiting, c.in-Open.is, c.in-Some.is),
)
