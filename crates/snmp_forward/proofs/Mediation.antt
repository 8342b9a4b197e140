-- What goes to a receiver is what it may be notified of.
use Rattle.std.specs.Prelude.{◌≡◌, ⊤, ℕ, List, [], ◌∷◌, All, Contains, Option, Some, None, IsSome}
use Rattle.std.proofs.Common.{refl, sym, ◌∙◌}
use Rattle.std.proofs.lemmas.List.Elements.{All-cons, All-contains, All-head, All-nil, All-tail}
use Rattle.vacm_core.specs.Tables.{Tables}
use Rattle.snmp_gate.specs.declared.devices.Device.{Device}
use Rattle.snmp_manager.specs.Views.{Held}
use Rattle.snmp_manager.specs.declared.pending.Pending.{Pending}
use Rattle.snmp_requests.specs.declared.device_request.SentMessage.TheVariants.{Request}
use Rattle.snmp_forward.specs.InformHistory.{InformHappening, InformSetting, IsAsk, answers, asks, begins, ends, known_of}
use Rattle.snmp_forward.specs.InformRuns.{IsMediatedAsk, begun_in}
use Rattle.snmp_forward.specs.Informs.{IsMediated}
use Rattle.snmp_forward.specs.WaitingInforms.{SendsMessage}
use Rattle.snmp_forward.specs.declared.inform.Inform.{Inform}
use Rattle.snmp_forward.specs.declared.receivers.Receiver.{Receiver}
use Rattle.snmp_forward.specs.declared.sealing.Sealing.{Sealing}

module _ (P : Inform → Type 0) where
  -- if an Inform begins by it, that has P
  abbrev BeginsWell : InformHappening → Type 0
  BeginsWell (begins number inform) = P inform
  BeginsWell (asks number receiver now message held by pending datagram) = ⊤
  BeginsWell (answers number what heard) = ⊤
  BeginsWell (ends number receiver now why) = ⊤

  all_begin : (before : List InformHappening) → All P (begun_in before) → All BeginsWell before
  all_begin [] all = All-nil BeginsWell
  all_begin (begins n i ∷ before) all = All-cons BeginsWell (begins n i) before (All-head P i (begun_in before) all) (all_begin before (All-tail P i (begun_in before) all))
  all_begin (asks n r now m held by pending w ∷ before) all = All-cons BeginsWell (asks n r now m held by pending w) before tt (all_begin before all)
  all_begin (answers n what heard ∷ before) all = All-cons BeginsWell (answers n what heard) before tt (all_begin before all)
  all_begin (ends n r now why ∷ before) all = All-cons BeginsWell (ends n r now why) before tt (all_begin before all)

  began : (before : List InformHappening) (n : ℕ) (i : Inform) → All P (begun_in before) → Contains before (begins n i) → P i
  began before n i all there = All-contains BeginsWell before (begins n i) (all_begin before all) there

no_engine : (engine : Option (List ℕ)) → engine ≡ None → IsSome engine → ⊥
no_engine None is some = cc some
no_engine (Some engine) is some = cc is

module _ (tables : Tables) (devices : List Device) (receivers : List Receiver) (s : InformSetting) (before : List InformHappening) (number receiver : ℕ) (held : Held) (by : Sealing) (pending : Pending) (datagram : List ℕ) (inform : Inform)
    (mediated : IsMediated tables devices receivers inform) (to : mediated.receiver ≡ receiver) where
  -- an engine that is known
  to_engine : (engine : Option (List ℕ)) → IsSome engine → (known_of number before).engine ≡ engine → SendsMessage held s.own engine inform Request by pending datagram → IsMediatedAsk tables devices receivers s before number receiver held by pending datagram
  to_engine None some is goes = absurd (no_engine None refl some)
  to_engine (Some engine) some is goes = record { inform = inform; mediated = mediated; to = to; engine = engine; engine_is = is; goes = goes }

pub asks_mediated : (tables : Tables) (devices : List Device) (receivers : List Receiver) (s : InformSetting) (before : List InformHappening) (number receiver now : ℕ) (held : Held) (by : Sealing) (pending : Pending) (datagram : List ℕ)
    → All (IsMediated tables devices receivers) (begun_in before) → IsAsk s before number receiver now Request held by pending datagram → IsMediatedAsk tables devices receivers s before number receiver held by pending datagram
asks_mediated tables devices receivers s before number receiver now held by pending datagram all ask =
    let mediated = began (IsMediated tables devices receivers) before number ask.inform all ask.stands.is_begun in
    to_engine tables devices receivers s before number receiver held by pending datagram ask.inform mediated (sym mediated.is_of.receiver ∙ ask.to) (known_of number before).engine (ask.known (λ e. cc e)) refl ask.goes
