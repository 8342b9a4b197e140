-- Each call on the handle of a forwarder goes on its run, and what is true after all of them.
use Rattle.std.proofs.Common.{◌≡◌, ◌≤◌, ◌⊎◌, ℕ, List, [], ◌∷◌, length, refl, ap, subst, inl, inr}
use Rattle.std.specs.Prelude.{Result}
use Rattle.snmp_forward.specs.History as notified
use Rattle.snmp_forward.specs.InformHistory.{InformHappening}
use Rattle.snmp_forward.specs.InformStanding.{InformsStand}
use Rattle.snmp_forward.specs.Originating.{IsOriginatorHistoryOf, IsOriginatorRun, OriginatorEvent}
use Rattle.snmp_forward.specs.Originating.{finds_no_memory, goes_out, receives, trap_comes}
use Rattle.snmp_forward.specs.Standing.{ForwarderStands}
use Rattle.snmp_forward.specs.declared.forwarder.TrapTaken.{TrapTaken}
use Rattle.snmp_forward.specs.declared.informs.ReceiverTaken.{ReceiverTaken}
use Rattle.snmp_forward.specs.declared.originator.Originated.{Originated}
use Rattle.snmp_forward.specs.declared.originator.Originator.{Originator}
use Rattle.snmp_handles.specs.declared.fault.CallFault.{CallFault}
use Rattle.gate_handles.specs.Forwards.{ForwardHeld, IsForwarderOf, SendsOn, TakesReceiver, TakesTrap}
use Rattle.gate_handles.specs.declared.forward_event.ForwardEvent.{ForwardEvent}
use Rattle.tests_callers.specs.ForwardServed.{HandleSteps, HasForwarded, IsHandleRun}

abbrev StepsBy : (OriginatorEvent → Type 0) → ForwardHeld → ForwardHeld → Type 0
StepsBy P old new = (event : OriginatorEvent) × P event × HandleSteps old event new

pub trap : (old new : ForwardHeld) (from : ℕ) (w : List ℕ) (told : Result ForwardEvent CallFault) → TakesTrap old from w told new
    → StepsBy (λ event. (event ≡ finds_no_memory) ⊎ ((taken : TrapTaken) × (event ≡ trap_comes from w taken))) old new
trap old new from w told (inl took) = (trap_comes from w took.taken, inr (took.taken, refl), (took.step, (told, took.tells)))
trap old new from w told (inr out) = (finds_no_memory, inl refl, (out.as_before, (told, (out.fault, out.noted))))

pub receiver : (old new : ForwardHeld) (now from : ℕ) (w : List ℕ) (told : Result ForwardEvent CallFault) → TakesReceiver old now from w told new
    → StepsBy (λ event. (event ≡ finds_no_memory) ⊎ ((taken : ReceiverTaken) × (event ≡ receives now from w taken))) old new
receiver old new now from w told (inl took) = (receives now from w took.taken, inr (took.taken, refl), (took.step, (told, took.tells)))
receiver old new now from w told (inr out) = (finds_no_memory, inl refl, (out.as_before, (told, (out.fault, out.noted))))

pub originated : (old new : ForwardHeld) (now : ℕ) (salt : List ℕ) (ask_id : ℕ) (told : Result ForwardEvent CallFault) → SendsOn old now salt ask_id told new
    → StepsBy (λ event. (event ≡ finds_no_memory) ⊎ ((what : Originated) × (event ≡ goes_out now salt ask_id what))) old new
originated old new now salt ask_id told (inl sent) = (goes_out now salt ask_id sent.what, inr (sent.what, refl), (sent.step, (told, sent.tells)))
originated old new now salt ask_id told (inr out) = (finds_no_memory, inl refl, (out.as_before, (told, (out.fault, out.noted))))

-- the same events lead from one originator to the other
originates : (first last : ForwardHeld) (events : List OriginatorEvent) → IsHandleRun first events last → IsOriginatorRun first.originator events last.originator
originates first last [] same = ap (λ (h : ForwardHeld). h.originator) same
originates first last (event ∷ before) run = (run.0.originator, originates first run.0 before run.1, run.2.0)

module _ (history : (first last : Originator) (events : List OriginatorEvent) → ForwarderStands [] first.forwarder → InformsStand [] first.informs → IsOriginatorRun first events last
    → (notifications : List notified.Happening) × (informs : List InformHappening) × IsOriginatorHistoryOf first events notifications informs)
    (few : (first last : Originator) (events : List OriginatorEvent) → ForwarderStands [] first.forwarder → InformsStand [] first.informs → IsOriginatorRun first events last
    → (length last.forwarder.waiting.list.items ≤ first.forwarder.waiting.most) × (length last.informs.list.items ≤ first.informs.most)) where
  pub forwarded : (config : List ℕ) (boots started count : ℕ) (made left : ForwardHeld) (events : List OriginatorEvent) → IsForwarderOf config boots started made → length events ≡ count
      → IsHandleRun made events left → HasForwarded config boots started count left
  forwarded config boots started count made left events is each steps =
      let new = is.originator in
      let run = originates made left events steps in
      let lawful = history made.originator left.originator events new.forwarder.stands new.informs.stands run in
      let wait = few made.originator left.originator events new.forwarder.stands new.informs.stands run in
      record {
        made = made;
        is_made = is;
        events = events;
        each = each;
        run = steps;
        notifications = lawful.0;
        informs = lawful.1;
        is_history = lawful.2;
        few_wait = subst (λ (n : ℕ). length left.originator.forwarder.waiting.list.items ≤ n) new.forwarder.most wait.0;
        few_informs = subst (λ (n : ℕ). length left.originator.informs.list.items ≤ n) new.informs.most wait.1;
      }
