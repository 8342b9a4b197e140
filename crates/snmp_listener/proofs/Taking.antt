-- What becomes of a datagram, put together.
use Rattle.std.proofs.Common.{◌≡◌, ◌≢◌, ℕ, List, Option, None, Some, ap, inr, refl, subst, sym}
use Rattle.std.specs.Prelude.{Err, IfSome, Result}
use Rattle.std.specs.Option.{option_map}
use Rattle.snmp_message.specs.Numbers.{in_table}
use Rattle.snmp_message.specs.declared.refusal.Refusal.{Refusal}
use Rattle.snmp_incoming.specs.Outcome.{Given}
use Rattle.snmp_incoming.proofs.Rows.{is_in_table}
use Rattle.usm_core.specs.Table.{refusal_answer}
use Rattle.snmp_listener.specs.declared.dropped.Dropped.{Dropped}
use Rattle.snmp_listener.specs.declared.dropped.Dropped.TheVariants as drops
use Rattle.snmp_listener.specs.Listening.{DropsAs, IsFit, IsUnacknowledged, IsUnfit, Kind, ListenerState, NotesNothing, TakesAs, inform}
use Rattle.snmp_listener.specs.Acknowledging.{Acknowledges}
use Rattle.snmp_listener.specs.declared.listener.ListenerTaken.{ListenerTaken}

pub refused_answer : (r : Refusal) → in_table r ≢ None → refusal_answer {X = Given} r ≡ Some (Err r)
refused_answer r told = ap (λ (o : Option Refusal). option_map (λ (x : Refusal). Err x) o) (is_in_table r (λ is. told (ap in_table is)))

pub drops_unfit : (kind : Kind) (old : ListenerState) (now : ℕ) (from w salt : List ℕ) (why : Dropped) (new : ListenerState) → IsUnfit kind old now from w why new → DropsAs kind old now from w salt why None new
drops_unfit kind old now from w salt (drops.Refused r) new unfit = absurd unfit.unwanted
drops_unfit kind old now from w salt drops.OtherPdu new unfit = (refl, unfit)
drops_unfit kind old now from w salt drops.LowLevel new unfit = (refl, unfit)
drops_unfit kind old now from w salt drops.OtherAddress new unfit = (refl, unfit)
drops_unfit kind old now from w salt drops.OutsideView new unfit = (refl, unfit)
drops_unfit kind old now from w salt drops.Copy new unfit = absurd unfit.unwanted
drops_unfit kind old now from w salt drops.NoRoom new unfit = absurd unfit.unwanted

-- an Inform whose acknowledgement is refused
pub unacknowledged_takes : (old new : ListenerState) (now : ℕ) (from w salt : List ℕ) (g : Given) (refusal : Refusal) (what : ListenerTaken) → IsFit inform old now from w g new → NotesNothing old new
    → IfSome (refusal_answer refusal) (Acknowledges old.agent now g salt) → IsUnacknowledged old.agent now g salt refusal what → TakesAs inform old now from w salt what new
unacknowledged_takes old new now from w salt g refusal what fit notes refused is = subst (λ (x : ListenerTaken). TakesAs inform old now from w salt x new) (sym is.1.1) (inr (record {
  given = g;
  fit = fit;
  refused = subst (λ (o : Option (Result (List ℕ) Refusal)). IfSome o (Acknowledges old.agent now g salt)) (ap (λ (o : Option Refusal). option_map (λ (x : Refusal). Err x) o) is.0) refused;
  too_big = is.1.2;
  notes = notes;
}))
