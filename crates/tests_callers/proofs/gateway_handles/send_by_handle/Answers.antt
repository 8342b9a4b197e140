use Rattle.std.proofs.Common.{◌≡◌, ◌∙◌, ℕ, Ok, ap, refl, subst, sym}
use Rattle.std.specs.Int.{to_be_bytes, w64}
use Rattle.gate_handles.specs.Notes.{tells_note}
use Rattle.gate_handles.specs.Told.{about}
use Rattle.gate_handles.specs.declared.event.GateEvent.TheVariants.{ToClient, ToDevice}
use Rattle.gate_handles.specs.declared.note.GateInfo.{GateInfo}
use Rattle.gate_handles.specs.declared.note.GateNote.{GateNote}
use Rattle.gate_handles.specs.declared.note.GateNote.TheVariants as note
use Rattle.tests_callers.specs.Hidden.{KeepsHidden}
use Rattle.tests_callers.specs.declared.gateways.Out.TheVariants.{Device}
use Rattle.tests_callers.proofs.HandleHidden.{leaves_to_client, leaves_to_device}
use Rattle.tests_callers.proofs.HandleAnswers.{copied_text}
use Rattle.tests_callers.proofs.gateway_handles.send_by_handle.Goals as goal

-- what a call told isn't the device that it was about
device_told : (at : GateInfo) (told : GateNote) → (tells_note at told).device ≡ at.device
device_told at note.Nothing = refl
device_told at (note.Request tag) = refl
device_told at (note.Response says ended) = refl
device_told at (note.Report ended) = refl
device_told at (note.Unanswered ended) = refl
device_told at (note.Asked again) = refl
device_told at (note.GivenUp times) = refl
device_told at (note.Answer says fault hidden) = refl

pub returns-in-Ok-message : goal.returns-in-Ok-message
returns-in-Ok-message c = λ since before past stands.
    let told : c.next.result ≡ Ok ToClient = cc (c.in-Ok.is, c.in-ToClient.is) in
    let left = leaves_to_client c.args.gate.now c.next.new.self c.args.now (to_be_bytes w64 c.args.salt) c.args.ask_id c.next.result told c.next.ensures since before past stands in (
      left.client,
      left.datagram,
      copied_text left.client.items c.args.to.now c.client.new.out 0 c.client.new.written c.next.new.self.client left.client_is c.in-Ok-client.ensures,
      copied_text left.datagram.items c.args.out.now c.message.new.out 0 c.message.new.written c.next.new.self.message left.message_is c.in-Ok-message.ensures,
      left.hides,
    )

pub returns-in-Ok-message-2 : goal.returns-in-Ok-message-2
returns-in-Ok-message-2 c = λ since before past stands.
    let told : c.next.result ≡ Ok ToDevice = cc (c.in-Ok.is, c.in-ToDevice.is) in
    let left = leaves_to_device c.args.gate.now c.next.new.self c.args.now (to_be_bytes w64 c.args.salt) c.args.ask_id c.next.result told c.next.ensures since before past stands in
    let device : c.info.result.device ≡ c.next.new.self.device = ap (λ (info : GateInfo). info.device) c.info.ensures ∙ device_told (about c.next.new.self) c.next.new.self.note in (
      left.datagram,
      copied_text left.datagram.items c.args.out.now c.message-in-ToDevice.new.out 0 c.message-in-ToDevice.new.written c.next.new.self.message left.message_is c.in-Ok-message-2.ensures,
      subst (λ (n : ℕ). KeepsHidden c.args.gate.now.gate before (Device n left.datagram)) (sym device) left.hides,
    )
