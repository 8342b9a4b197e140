-- Who may be sent what, as it is read from a datagram.
use Rattle.std.specs.Prelude.{◌≡◌, ◌<◌, ◌≤◌, ℕ, List, Some, length, slice_get, slice_index_or}
use Rattle.std.proofs.Common.{refl, sym, ap, subst, ◌∙◌, arith}
use Rattle.std.proofs.lemmas.Option.{same_Some, slice_get_read, slice_get_within}
use Rattle.snmp_msg.specs.Pdu.{PduParts}
use Rattle.snmp_msg.specs.Variables.{variables_of}
use Rattle.vacm_core.specs.Tables.{Tables}
use Rattle.snmp_gate.specs.declared.devices.Device.{Device}
use Rattle.snmp_forward.specs.Informs.{IsInformFor, IsInformOf}
use Rattle.snmp_forward.specs.Notifications.{IsNotification}
use Rattle.snmp_forward.specs.Receivers.{MayBeNotified}
use Rattle.snmp_forward.specs.Sending.{MayBeSent}
use Rattle.snmp_forward.specs.declared.inform.Inform.{Inform}
use Rattle.snmp_forward.specs.declared.receivers.Receiver.{Receiver}
use Rattle.snmp_forward.proofs.Choices.{IsOne}

-- an element that is looked up in a list, and none
pub at_in : {X : Type 0} (xs ys : List X) (n : ℕ) (x : X) → ys ≡ xs → n < length ys → x ≡ slice_index_or ys n x → slice_get xs n ≡ Some x
at_in xs ys n x same within is = subst (λ (zs : List _). slice_get zs n ≡ Some x) same (slice_get_read ys (length ys) n x refl within is)

pub none_in : {X : Type 0} (xs ys : List X) (n : ℕ) (x : X) → ys ≡ xs → length ys ≤ n → slice_get xs n ≡ Some x → ⊥
none_in xs ys n x same past is = let within = slice_get_within xs n x is in absurd (omega (arith, past, within, ap length same))

module _ (one : IsOne) (tables : Tables) (devices : List Device) (receivers : List Receiver) (device receiver : ℕ) (w community : List ℕ) (p : PduParts) (oid : List ℕ) (from : Device) (at : slice_get devices device ≡ Some from)
    (is : IsNotification w community p oid) where
  pub its_community : MayBeSent tables devices receivers device w receiver → from.community.items ≡ community
  its_community may =
      let same = one w community may.from.community.items p may.pdu oid may.trap_oid is may.is in
      ap (λ (d : Device). d.community.items) (same_Some from may.from (sym at ∙ may.is_from)) ∙ sym same.0

  module _ (to : Receiver) (goes : slice_get receivers receiver ≡ Some to) where
    pub may_notify : MayBeSent tables devices receivers device w receiver → MayBeNotified tables to from.context.items (variables_of p.list) oid
    may_notify may =
        let same = one w may.from.community.items community may.pdu p may.trap_oid oid may.is is in
        subst (λ (r : Receiver). MayBeNotified tables r from.context.items (variables_of p.list) oid) (same_Some may.to to (sym may.is_to ∙ goes))
        (subst (λ (d : Device). MayBeNotified tables may.to d.context.items (variables_of p.list) oid) (same_Some may.from from (sym may.is_from ∙ at))
        (subst (λ (x : List ℕ). MayBeNotified tables may.to may.from.context.items (variables_of p.list) x) same.2
        (subst (λ (q : PduParts). MayBeNotified tables may.to may.from.context.items (variables_of q.list) may.trap_oid) same.1 may.may)))

    pub its_inform : (inform : Inform) → from.community.items ≡ community → MayBeNotified tables to from.context.items (variables_of p.list) oid → IsInformOf receiver to from.context.items w inform → IsInformFor tables devices receivers device w receiver (Some inform)
    its_inform inform same may of = (
      record {
        from = from;
        is_from = at;
        to = to;
        is_to = goes;
        pdu = p;
        trap_oid = oid;
        is = subst (λ (x : List ℕ). IsNotification w x p oid) (sym same) is;
        may = may;
      },
      of,
    )
