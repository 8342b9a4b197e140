-- Events that happen one after another, and the one that is refused.
use Rattle.std.proofs.Common.{◌≡◌, ◌<◌, ◌+◌, ℕ, List, [], ◌∷◌, ◌++◌, length, take, get_or, refl, sym, subst, false, true}
use Rattle.std.specs.Prelude.{Result, Err}
use Rattle.std.proofs.lemmas.List.{take_more}
use Rattle.usm_users.specs.User.{User}
use Rattle.snmp_manager.specs.State.{WorldState}
use Rattle.snmp_manager.specs.Knowledge.{Knowing, HasGreatest, HaveUsers, Steps, StepsAll, NamesMissing, TakesNoMemory, RefusesEvent, knows_after, knows_after_all}
use Rattle.snmp_manager.proofs.Worlds.{greatest_after, users_after}
use Rattle.snmp_manager.specs.declared.event.Event.{Event}
use Rattle.snmp_manager.specs.declared.event.WorldFault.{WorldFault}
use Rattle.snmp_manager.specs.declared.event.WorldFault.TheVariants.{NoSuch, OutOfMemory}

-- one event more
steps_more : (old mid new : WorldState) (events : List Event) (event : Event) → StepsAll old events mid → Steps mid event new → StepsAll old (events ++ event ∷ []) new
steps_more old mid new [] event all step = (new, subst (λ (w : WorldState). Steps w event new) all step, refl)
steps_more old mid new (e ∷ es) event all step = (all.0, all.1, steps_more all.0 mid new es event all.2 step)

pub steps_next : (old mid new : WorldState) (events : List Event) (i : ℕ) (event : Event) → i < length events → event ≡ get_or events i event
    → StepsAll old (take i events) mid → Steps mid event new → StepsAll old (take (i + 1) events) new
steps_next old mid new events i event within is all step =
    rw (take_more events i event within, ← is) (steps_more old mid new (take i events) event all step)

-- why an event is refused, by what a step says of it
pub refuses_event : (why : WorldFault) (event : Event) (world : WorldState) → (◌≡◌ {A = Result (Unit {0}) WorldFault} (Err why) (Err NoSuch) → NamesMissing event world)
    → (NamesMissing event world → ◌≡◌ {A = Result (Unit {0}) WorldFault} (Err why) (Err NoSuch)) → (TakesNoMemory event world → false ≡ true) → RefusesEvent why event world
refuses_event NoSuch event world missing told none = missing refl
refuses_event OutOfMemory event world missing told none = (λ m. let e = told m in cc e, λ t. let e = none t in cc e)

-- ---- all that happened

pub all_greatest : (users : List User) (k : Knowing) (old new : WorldState) (events : List Event) → HaveUsers users old → HasGreatest k old → StepsAll old events new → HasGreatest (knows_after_all users events k) new
all_greatest users k old new [] have greatest all = subst (λ (w : WorldState). HasGreatest k w) (sym all) greatest
all_greatest users k old new (event ∷ events) have greatest all =
    all_greatest users (knows_after users event k) all.0 new events (users_after users old all.0 event all.1 have) (greatest_after users k old all.0 event have greatest all.1) all.2

pub all_users : (users : List User) (old new : WorldState) (events : List Event) → HaveUsers users old → StepsAll old events new → HaveUsers users new
all_users users old new [] have all = subst (λ (w : WorldState). HaveUsers users w) (sym all) have
all_users users old new (event ∷ events) have all = all_users users all.0 new events (users_after users old all.0 event all.1 have) all.2

pub all_joined : (a b c : WorldState) (xs ys : List Event) → StepsAll a xs b → StepsAll b ys c → StepsAll a (xs ++ ys) c
all_joined a b c [] ys first next = subst (λ (w : WorldState). StepsAll w ys c) first next
all_joined a b c (x ∷ xs) ys first next = (first.0, first.1, all_joined first.0 b c xs ys first.2 next)
