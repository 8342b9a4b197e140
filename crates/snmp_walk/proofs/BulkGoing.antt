-- Dialogues for a GetBulkRequest that go on.
use Rattle.std.specs.Prelude.{◌≡◌, ◌⊎◌, ◌<◌, ◌+◌, ◌-◌, ℕ, zero, suc, List, [], ◌∷◌, All, drop, length, map, slice_index_or}
use Rattle.std.specs.List.{HoldsAt, AllZip}
use Rattle.std.proofs.Common.{refl, sym, ap, subst, ◌∙◌, inl, inr, arith}
use Rattle.std.proofs.lemmas.Bool.{cases_lt}
use Rattle.std.proofs.lemmas.List.{get_or-drop, length-drop}
use Rattle.std.proofs.lemmas.Slice.Zip.{AllZip-long}
use Rattle.snmp_msg.specs.Variables.{Variable}
use Rattle.snmp_walk.specs.Bindings.{given_says}
use Rattle.snmp_walk.specs.Column.{IsAsked, IsOpen}
use Rattle.snmp_walk.specs.Steps.{GoesOn}
use Rattle.snmp_walk.specs.BulkColumn.{BulkStands, StandsInBulk, Wants, bulk_request, given_in}
use Rattle.snmp_walk.specs.BulkSteps.{BulkGoesOn, ColumnWaits}
use Rattle.snmp_walk.specs.BulkAsk.{Chooses, IsDue, IsFewest, NoneAsked, SomeAsked}
use Rattle.snmp_walk.specs.BulkDialogue.{BulkAllGoOn, IsFirstWanting, NoneWants}
use Rattle.snmp_walk.specs.declared.given.GivenVariable.{GivenVariable}
use Rattle.snmp_walk.specs.declared.operation.ReadOperation.TheVariants.{GetNext}
use Rattle.snmp_walk.specs.declared.column.Progress.{Progress}
use Rattle.snmp_walk.specs.declared.column.Progress.TheVariants.{Wanting, Asked, Given, Hidden, Ended}
use Rattle.snmp_walk.specs.declared.bulk_column.BulkColumn.{BulkColumn}
use Rattle.snmp_walk.proofs.Bulk.{bulk_goes_on, bulk_waits}
use Rattle.snmp_walk.proofs.BulkReads.{zip_at}
use Rattle.snmp_walk.proofs.Zipped.{zip_all, zip_same}

-- a column that is chosen or waits
abbrev pub StaysWaits : BulkColumn → BulkColumn → Type 0
StaysWaits old new = (new ≡ old) ⊎ ColumnWaits old new

pub chooses_each : (non_repeaters fewest number room : ℕ) (olds news : List BulkColumn) → Chooses non_repeaters fewest number room olds news → AllZip StaysWaits olds news
chooses_each non_repeaters fewest number room [] [] chooses = tt
chooses_each non_repeaters fewest number room [] (new ∷ news) chooses = absurd (none chooses)
  where
    none : new ∷ news ≡ [] → ⊥
    none e = cc e
chooses_each non_repeaters fewest number room (c ∷ cs) [] chooses = absurd chooses
chooses_each non_repeaters fewest number room (c ∷ cs) (new ∷ news) chooses = elim chooses [
  | inl stays ↦ (inl stays.2, chooses_each non_repeaters fewest (number + 1) (room - 1) cs news stays.3)
  | inr waits ↦ (inr waits.1, chooses_each non_repeaters fewest (number + 1) room cs news waits.2)
]

pub all_goes_same : (Seen : List ℕ → Type 0) (olds news : List BulkColumn) → BulkAllGoOn Seen olds news → map bulk_request news ≡ map bulk_request olds
all_goes_same Seen olds news goes = zip_same (BulkGoesOn Seen) bulk_request (λ old new one. one.same) olds news goes

pub all_chosen_same : (non_repeaters fewest number room : ℕ) (olds news : List BulkColumn) → Chooses non_repeaters fewest number room olds news → map bulk_request news ≡ map bulk_request olds
all_chosen_same non_repeaters fewest number room olds news chooses =
    zip_same StaysWaits bulk_request (λ old new one. elim one [ inl stays ↦ ap bulk_request stays | inr waits ↦ waits.same ]) olds news (chooses_each non_repeaters fewest number room olds news chooses)

pub all_wait_same : (olds news : List BulkColumn) → AllZip ColumnWaits olds news → map bulk_request news ≡ map bulk_request olds
all_wait_same olds news waits = zip_same ColumnWaits bulk_request (λ old new one. one.same) olds news waits

module _ (Seen : List ℕ → Type 0) (told : List Variable) where
  -- a column with another progress
  pub stands_with : (old new : BulkColumn) (p : Progress) → bulk_request new ≡ bulk_request old → new.got.items ≡ old.got.items → new.progress ≡ p → StandsInBulk Seen told old.first (given_in old) p → BulkStands Seen told new
  stands_with old new p same given progress stands =
      subst (λ (x : Progress). StandsInBulk Seen told new.first (given_in new) x) (sym progress)
      (subst (λ (gs : List GivenVariable). StandsInBulk Seen told new.first (map given_says gs) p) (sym given)
      (subst (λ (r : List ℕ × ℕ). StandsInBulk Seen told r.0 (given_in old) p) (sym same) stands))

  goes_stands : (old new : BulkColumn) → BulkGoesOn Seen old new → BulkStands Seen told old → BulkStands Seen told new
  goes_stands old new goes stands = elim (cases_lt (length old.got.items) old.most) [
    | inl few ↦ stands_with old new new.progress goes.same goes.given refl (bulk_goes_on Seen told old.first (given_in old) old.progress new.progress (goes.goes_on few) stands)
    | inr all ↦ stands_with old new old.progress goes.same goes.given (goes.has_all all) stands
  ]

  pub waits_stands : (old new : BulkColumn) → ColumnWaits old new → BulkStands Seen told old → BulkStands Seen told new
  waits_stands old new waits stands =
      stands_with old new new.progress waits.same waits.given refl (bulk_waits Seen told old.first (given_in old) old.progress new.progress waits.waits stands)

  pub all_go_stand : (olds news : List BulkColumn) → BulkAllGoOn Seen olds news → All (BulkStands Seen told) olds → All (BulkStands Seen told) news
  all_go_stand olds news goes all = zip_all (BulkGoesOn Seen) (BulkStands Seen told) (BulkStands Seen told) goes_stands olds news goes all

  pub all_wait_stand : (olds news : List BulkColumn) → AllZip ColumnWaits olds news → All (BulkStands Seen told) olds → All (BulkStands Seen told) news
  all_wait_stand olds news waits all = zip_all ColumnWaits (BulkStands Seen told) (BulkStands Seen told) waits_stands olds news waits all

  pub all_chosen_stand : (non_repeaters fewest number room : ℕ) (olds news : List BulkColumn) → Chooses non_repeaters fewest number room olds news → All (BulkStands Seen told) olds → All (BulkStands Seen told) news
  all_chosen_stand non_repeaters fewest number room olds news chooses all =
      zip_all StaysWaits (BulkStands Seen told) (BulkStands Seen told)
      (λ old new one stands. elim one [ inl stays ↦ subst (BulkStands Seen told) (sym stays) stands | inr waits ↦ waits_stands old new waits stands ])
      olds news (chooses_each non_repeaters fewest number room olds news chooses) all

one_wants : (cs : List BulkColumn) (number : ℕ) → number < length cs → HoldsAt Wants cs number → ¬ NoneWants cs
one_wants [] number within wants none = absurd (omega (arith, within))
one_wants (c ∷ cs) number within wants none = none number c within (wants c)

-- Where one wants more, not all is there.
pub some_wants : (cs : List BulkColumn) (number : ℕ) → IsFirstWanting cs number → ¬ NoneWants cs
some_wants cs number first = one_wants cs number first.within first.wants

-- ---- one is asked

-- a walk that goes on and isn't at its end was asked
open_is_asked : (Seen : List ℕ → Type 0) (old new : Progress) → GoesOn Seen GetNext old new → IsOpen new → IsAsked new
open_is_asked Seen (Wanting from) (Wanting name) goes is = absurd goes
open_is_asked Seen (Wanting from) (Asked ask) goes is = tt
open_is_asked Seen (Wanting from) (Given g) goes is = absurd goes
open_is_asked Seen (Wanting from) Hidden goes is = absurd goes
open_is_asked Seen (Wanting from) Ended goes is = absurd is
open_is_asked Seen (Asked ask) new goes is = subst IsAsked (sym goes) tt
open_is_asked Seen _ new goes is = absurd (subst IsOpen goes is)

wants_is_asked : (Seen : List ℕ → Type 0) (old new : BulkColumn) → BulkGoesOn Seen old new → Wants new → IsAsked new.progress
wants_is_asked Seen old new goes wants =
    let few : length old.got.items < old.most =
    omega (arith, wants.few, ap length goes.given, ap (λ (r : List ℕ × ℕ). r.1) goes.same) in
    open_is_asked Seen old.progress new.progress (goes.goes_on few) wants.opened

one_is_due : (non_repeaters fewest : ℕ) (cs : List BulkColumn) (number : ℕ) → number < length cs → HoldsAt (λ (c : BulkColumn). IsAsked c.progress) cs number
    → IsFewest (drop non_repeaters cs) fewest ⊎ NoneAsked (drop non_repeaters cs) → (n : ℕ) × (n < length cs) × HoldsAt (λ (c : BulkColumn). IsDue non_repeaters fewest n c) cs n
one_is_due non_repeaters fewest cs number within asked is = elim (cases_lt number non_repeaters) [
  | inl single ↦ (number, within, λ d. (asked d, inl single))
  | inr from ↦ elim is [
    | inl least ↦ (
      non_repeaters + least.number,
      omega (arith, least.within, length-drop non_repeaters cs),
      λ d. (
        subst (λ (c : BulkColumn). IsAsked c.progress) (get_or-drop non_repeaters cs least.number d) (least.asked d),
        inr (sym (ap (λ (c : BulkColumn). length c.got.items) (get_or-drop non_repeaters cs least.number d)) ∙ least.has d),
      ),
    )
    | inr none ↦ (
      number,
      within,
      λ d.
          let k = number - non_repeaters in
          let same : non_repeaters + k ≡ number = omega (arith, from) in
          let here : slice_index_or (drop non_repeaters cs) k d ≡ slice_index_or cs number d = get_or-drop non_repeaters cs k d ∙ ap (λ n. slice_index_or cs n d) same in
          absurd (none k d (omega (arith, from, within, length-drop non_repeaters cs)) (subst (λ (c : BulkColumn). IsAsked c.progress) (sym here) (asked d))),
    )
  ]
]

chooses_some : (non_repeaters fewest number room : ℕ) (cs news : List BulkColumn) (k at : ℕ) → at ≡ number + k → Chooses non_repeaters fewest number room cs news → 0 < room → k < length cs
    → HoldsAt (λ (c : BulkColumn). IsDue non_repeaters fewest at c) cs k → SomeAsked news
chooses_some non_repeaters fewest number room [] news k at place chooses some within due = absurd (omega (arith, within))
chooses_some non_repeaters fewest number room (c ∷ cs) [] k at place chooses some within due = absurd chooses
chooses_some non_repeaters fewest number room (c ∷ cs) (new ∷ news) zero at place chooses some within due = elim chooses [
  | inl stays ↦ record { number = 0; within = omega arith; asked = λ d. subst (λ (x : BulkColumn). IsAsked x.progress) (sym stays.2) stays.0.0 }
  | inr waits ↦
      let same : at ≡ number = omega (arith, place) in
      absurd (waits.0 (subst (λ n. IsDue non_repeaters fewest n c) same (due c), some))
]
chooses_some non_repeaters fewest number room (c ∷ cs) (new ∷ news) (suc k) at place chooses some within due = elim chooses [
  | inl stays ↦ record { number = 0; within = omega arith; asked = λ d. subst (λ (x : BulkColumn). IsAsked x.progress) (sym stays.2) stays.0.0 }
  | inr waits ↦
      let rest = chooses_some non_repeaters fewest (number + 1) room cs news k at (omega (arith, place)) waits.2 some (omega (arith, within)) due in
      record { number = suc rest.number; within = omega (arith, rest.within); asked = rest.asked }
]

-- Of columns that went on, one of which wants more, one is asked.
pub some_asked : (Seen : List ℕ → Type 0) (olds mids news : List BulkColumn) (non_repeaters fewest room number : ℕ) → BulkAllGoOn Seen olds mids → IsFirstWanting mids number
    → IsFewest (drop non_repeaters mids) fewest ⊎ NoneAsked (drop non_repeaters mids) → 0 < room → Chooses non_repeaters fewest 0 room mids news → SomeAsked news
some_asked Seen olds mids news non_repeaters fewest room number goes first is some chooses =
    let asked : HoldsAt (λ (c : BulkColumn). IsAsked c.progress) mids number = λ d.
    wants_is_asked Seen (slice_index_or olds number d) (slice_index_or mids number d)
    (zip_at (BulkGoesOn Seen) olds mids number d d (omega (arith, first.within, AllZip-long (BulkGoesOn Seen) olds mids goes)) goes).1 (first.wants d) in
    let due = one_is_due non_repeaters fewest mids number first.within asked is in
    chooses_some non_repeaters fewest 0 room mids news due.0 due.0 (omega arith) chooses some due.1 due.2
