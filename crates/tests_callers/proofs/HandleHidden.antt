-- What the handle of a gateway leaves to be sent, and what a caller copies of it.
use Rattle.std.proofs.Common.{◌≡◌, ◌∙◌, ◌≤◌, ℕ, List, Some, refl, sym, subst, inl, inr}
use Rattle.std.specs.Prelude.{Result, Ok}
use Rattle.std.specs.Global.{Vec}
use Rattle.snmp_gate.specs.History.{Happening}
use Rattle.snmp_gate.specs.Waiting.{Fresh, GateStands, SendHappens, fresh}
use Rattle.snmp_gate.specs.declared.gate.Sent.{Sent}
use Rattle.snmp_gate.specs.declared.gate.Sent.TheVariants as out
use Rattle.snmp_handles.specs.declared.fault.CallFault.{CallFault}
use Rattle.gate_handles.specs.Gates.{GateHeld, SendsNext, TellsSent}
use Rattle.gate_handles.specs.declared.event.GateEvent.{GateEvent}
use Rattle.gate_handles.specs.declared.event.GateEvent.TheVariants as event
use Rattle.tests_callers.specs.Hidden.{KeepsHidden}
use Rattle.tests_callers.specs.declared.gateways.Out.TheVariants.{Client, Device}
use Rattle.tests_callers.proofs.Seen.{to_client, to_device}

-- ---- to a client

-- the datagram and the address that are left, which show nothing hidden
pub record LeavesToClient (old new : GateHeld) (before : List Happening) : Type 0 where
  pub client : Vec ℕ
  pub datagram : Vec ℕ
  pub client_is : new.client ≡ Some client.items
  pub message_is : new.message ≡ Some datagram.items
  pub hides : KeepsHidden old.gate before (Client client datagram)

client_left : (old new : GateHeld) (now : ℕ) (before : List Happening) (f : Fresh) (what : Sent) (told : Result GateEvent CallFault) → told ≡ Ok event.ToClient → TellsSent what told new
    → SendHappens old.gate now before f what new.gate → LeavesToClient old new before
client_left old new now before f (out.ToClient number message says datagram ended) told is tells happens = record {
  client = message.client;
  datagram = datagram;
  client_is = tells.2.0;
  message_is = tells.2.1;
  hides = to_client old.gate new.gate now before f (out.ToClient number message says datagram ended) number message says datagram ended refl happens;
}
client_left old new now before f (out.ToDevice number to datagram again) told is tells happens = let e = sym is ∙ tells.0 in cc e
client_left old new now before f (out.Unanswered number message why ended) told is tells happens = let e = sym is ∙ tells.0 in cc e
client_left old new now before f (out.GivenUp number to times) told is tells happens = let e = sym is ∙ tells.0 in cc e
client_left old new now before f out.Nothing told is tells happens = let e = sym is ∙ tells.0 in cc e

pub leaves_to_client : (old new : GateHeld) (now : ℕ) (salt : List ℕ) (ask_id : ℕ) (told : Result GateEvent CallFault) → told ≡ Ok event.ToClient → SendsNext old now salt ask_id told new
    → (since : ℕ) (before : List Happening) → since ≤ now → GateStands since before old.gate → LeavesToClient old new before
leaves_to_client old new now salt ask_id told is (keeps, inl sends) since before past stands =
    client_left old new now before (fresh salt ask_id) sends.sent told is sends.tells (sends.sends.2 since before past stands)
leaves_to_client old new now salt ask_id told is (keeps, inr none) since before past stands = let e = sym is ∙ none.fault in cc e

-- ---- to a device

pub record LeavesToDevice (old new : GateHeld) (before : List Happening) : Type 0 where
  pub datagram : Vec ℕ
  pub message_is : new.message ≡ Some datagram.items
  pub hides : KeepsHidden old.gate before (Device new.device datagram)

device_left : (old new : GateHeld) (now : ℕ) (before : List Happening) (f : Fresh) (what : Sent) (told : Result GateEvent CallFault) → told ≡ Ok event.ToDevice → TellsSent what told new
    → SendHappens old.gate now before f what new.gate → LeavesToDevice old new before
device_left old new now before f (out.ToDevice number to datagram again) told is tells happens = record {
  datagram = datagram;
  message_is = tells.3.1;
  hides = subst (λ (n : ℕ). KeepsHidden old.gate before (Device n datagram)) (sym tells.2) (to_device old.gate new.gate now before f (out.ToDevice number to datagram again) number to datagram again refl happens);
}
device_left old new now before f (out.ToClient number message says datagram ended) told is tells happens = let e = sym is ∙ tells.0 in cc e
device_left old new now before f (out.Unanswered number message why ended) told is tells happens = let e = sym is ∙ tells.0 in cc e
device_left old new now before f (out.GivenUp number to times) told is tells happens = let e = sym is ∙ tells.0 in cc e
device_left old new now before f out.Nothing told is tells happens = let e = sym is ∙ tells.0 in cc e

pub leaves_to_device : (old new : GateHeld) (now : ℕ) (salt : List ℕ) (ask_id : ℕ) (told : Result GateEvent CallFault) → told ≡ Ok event.ToDevice → SendsNext old now salt ask_id told new
    → (since : ℕ) (before : List Happening) → since ≤ now → GateStands since before old.gate → LeavesToDevice old new before
leaves_to_device old new now salt ask_id told is (keeps, inl sends) since before past stands =
    device_left old new now before (fresh salt ask_id) sends.sent told is sends.tells (sends.sends.2 since before past stands)
leaves_to_device old new now salt ask_id told is (keeps, inr none) since before past stands = let e = sym is ∙ none.fault in cc e
