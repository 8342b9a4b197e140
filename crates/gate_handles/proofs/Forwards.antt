-- Nothing waits at a new forwarder; and a Trap that is taken is a step of the originator.
use Rattle.std.proofs.Common.{◌≡◌, ℕ, List, [], ◌∷◌, Result, inl, refl, subst, arith}
use Rattle.std.specs.Prelude.{All}
use Rattle.vacm_core.specs.Tables.{Tables}
use Rattle.snmp_gate.specs.declared.devices.Device.{Device}
use Rattle.snmp_requests.specs.Outstanding.{Outstanding}
use Rattle.snmp_forward.specs.InformStanding.{InformStands, InformsStand}
use Rattle.snmp_forward.specs.Queue.{waitings_of, waiting_of}
use Rattle.snmp_forward.specs.Runs as runs
use Rattle.snmp_forward.specs.Standing.{ForwarderStands, IsTrapTaken, WaitingStands}
use Rattle.snmp_forward.specs.declared.exchange.InformLimits.{InformLimits}
use Rattle.snmp_forward.specs.declared.forwarder.Forwarder.{Forwarder}
use Rattle.snmp_forward.specs.declared.forwarder.TrapTaken.{TrapTaken}
use Rattle.snmp_forward.specs.declared.informs.Informs.{Informs}
use Rattle.snmp_forward.specs.declared.originator.Originator.{Originator}
use Rattle.snmp_forward.specs.declared.queue.WaitingNotification.{WaitingNotification}
use Rattle.snmp_forward.specs.declared.receivers.Receiver.{Receiver}
use Rattle.snmp_forward.specs.declared.waiting_inform.WaitingInform.{WaitingInform}
use Rattle.snmp_handles.specs.declared.fault.CallFault.{CallFault}
use Rattle.gate_handles.specs.Forwards.{ForwardHeld, Noted, TakesTrap, TellsTrap, begun}
use Rattle.gate_handles.specs.declared.forward_event.ForwardEvent.{ForwardEvent}

none_of : (tables : Tables) (devices : List Device) (receivers : List Receiver) (list : List WaitingNotification) → All (WaitingStands tables devices receivers []) (waitings_of list) → list ≡ []
none_of tables devices receivers [] all = refl
none_of tables devices receivers (w ∷ list) all =
    let first : WaitingStands tables devices receivers [] (waiting_of w) = all 0 (waiting_of w) (omega arith) in
    let within = first.is_taken.1 in
    absurd (omega (arith, within))

pub none_waits : (f : Forwarder) → ForwarderStands [] f → f.waiting.list.items ≡ []
none_waits f stands = none_of f.agent.tables f.devices.list.items f.receivers.list.items f.waiting.list.items stands.queue.all

none_begun : (limits : InformLimits) (requests : Outstanding) (list : List WaitingInform) → All (InformStands limits requests []) list → list ≡ []
none_begun limits requests [] all = refl
none_begun limits requests (w ∷ list) all =
    let first : InformStands limits requests [] w = all 0 w (omega arith) in
    let within = first.at.is_begun.1 in
    absurd (omega (arith, within))

pub no_inform_waits : (f : Informs) → InformsStand [] f → f.list.items ≡ []
no_inform_waits f stands = none_begun f.limits f.requests f.list.items stands.all

-- the originator of a handle, `o` as the call finds it and `made` as it leaves it, has taken a datagram
pub took : (old new : ForwardHeld) (o made : Originator) (start : Noted) (device : ℕ) (datagram : List ℕ) (taken : TrapTaken) (told : Result ForwardEvent CallFault) → o ≡ old.originator → new.originator ≡ made → start ≡ begun old.noted
    → runs.TakesTrap o.forwarder device datagram taken made.forwarder → IsTrapTaken o.forwarder device datagram taken → made.informs ≡ o.informs → TellsTrap taken told start new.noted → TakesTrap old device datagram told new
took old new o made start device datagram taken told was becomes quiet takes is informs tells =
    inl (record {
      taken = taken;
      tells = subst (λ (n : Noted). TellsTrap taken told n new.noted) quiet tells;
      is = subst (λ (x : Originator). IsTrapTaken x.forwarder device datagram taken) was is;
      step = rw becomes (subst (λ (x : Originator). runs.TakesTrap x.forwarder device datagram taken made.forwarder × (made.informs ≡ x.informs)) was (takes, informs));
    })
