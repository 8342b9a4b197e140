use Rattle.std.proofs.Common.{ap, refl, subst, sym, ◌∙◌, ◌≡◌, List, slice_get}
use Rattle.snmp_gate.specs.declared.devices.Device.{Device}
use Rattle.snmp_forward.specs.Sending.{MayBeSent}
use Rattle.snmp_forward.specs.Standing.{sealing_at}
use Rattle.snmp_forward.specs.Written.{IsWritten}
use Rattle.snmp_forward.specs.declared.queue.WaitingNotification.{WaitingNotification}
use Rattle.snmp_forward.proofs.Dealing.{deals}
use Rattle.snmp_forward.proofs.forwarder.Forwarder.next_trap.Goals as goal

pub returns-clause-happens : goal.returns-clause-happens
returns-clause-happens c = λ before stands trap.
    let old = c.args.self.now in
    let w = c.in-Some.first.now in
    let by = sealing_at c.args.now c.args.salt c.args.ask_id in
    let seals = subst (λ (ds : List Device). old.engine ≡ old.agent.engine → (may : MayBeSent old.agent.tables ds old.receivers.list.items w.device w.datagram.items w.receiver) → IsWritten old.agent by may.to may.from.context.items may.pdu c.in_ok-written.written)
    c.list-2.ensures c.in_ok-written.ensures.written in
    deals old _ before w by c.in_ok-written.written (record { agent = c.in_ok-written.ensures.same; devices = refl; receivers = refl; engine = refl; most = c.advance.ensures.most })
    (ap (λ (ws : List WaitingNotification). slice_get ws 0) (sym c.list.ensures) ∙ sym c.in-Some.ensures.value) trap seals c.advance.ensures.list c.advance.ensures.next stands
