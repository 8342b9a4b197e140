-- What is remembered of Sets, over runs of steps.
use Rattle.std.specs.Prelude.{◌≡◌, ◌≢◌, ◌⊎◌, ℕ, ◌+◌, ◌<◌, ◌≤◌, Bool, true, false, cond, List, [], ◌∷◌, Contains, filter, length, not, slice_index_or}
use Rattle.std.specs.Str.{bytes_eq}
use Rattle.std.proofs.Common.{refl, sym, ap, subst, ◌∙◌, inl, inr, arith, le-leb}
use Rattle.std.proofs.lemmas.List.{get_or_default, get_or-set_other, get_or-set_same, length-append, length-set}
use Rattle.std.proofs.lemmas.List.Elements.{Contains-append_cases, Contains-append_left, Contains-append_right, Contains-push, Contains-push_cases}
use Rattle.std.proofs.lemmas.List.Filters.{length-filter_both}
use Rattle.std.proofs.lemmas.Bool.Decides.{eqb_tells, leb_tells}
use Rattle.std.proofs.lemmas.Slice.Eq.{bytes_eq-Decides}
use Rattle.snmp_gate.specs.Sets.{IsKept, IsNoted, IsTold, lasting, lasts, new_set, with_outcome}
use Rattle.snmp_gate.specs.SetRuns.{ComesWithin, IsSetRun, IsWithin, SetStep, forgets, notes, tells, times_new}
use Rattle.snmp_gate.specs.declared.set_answer.ResponseStatus.{ResponseStatus}
use Rattle.snmp_gate.specs.declared.sets.RememberedSet.{RememberedSet}
use Rattle.snmp_gate.specs.declared.sets.SetNote.{SetNote}
use Rattle.snmp_gate.specs.declared.sets.SetNote.TheVariants.{New, NoRoom, Repeated}
use Rattle.snmp_gate.specs.declared.sets.TheConstants.{REMEMBERED, SETS_LIMIT}

-- what a filter keeps
pub contains_filtered : (p : RememberedSet → Bool) (xs : List RememberedSet) (x : RememberedSet) → Contains xs x → p x ≡ true → Contains (filter p xs) x
contains_filtered p [] x there passes = absurd (omega (arith, there.1))
contains_filtered p (y ∷ ys) x there passes = elim (Contains-append_cases (y ∷ []) ys x there) [
  | inl first ↦ elim (Contains-push_cases [] y x first) [
    | inl none ↦ absurd (omega (arith, none.1))
    | inr is ↦ subst (λ (b : Bool). Contains (cond b (y ∷ filter p ys) (filter p ys)) x) (sym (ap p is ∙ passes)) (Contains-append_left (y ∷ []) (filter p ys) x first)
  ]
  | inr later ↦
      let more = contains_filtered p ys x later passes in
      elim (p y) as (λ b. Contains (cond b (y ∷ filter p ys) (filter p ys)) x) [
        | true ↦ Contains-append_right (y ∷ []) (filter p ys) x more
        | false ↦ more
      ]
]

pub kept_lasts : (digest : List ℕ) (from now : ℕ) (sets : List RememberedSet) → now ≤ from + REMEMBERED → IsKept digest from sets → IsKept digest from (lasting now sets)
kept_lasts digest from now sets soon kept = record {
  set = kept.set;
  there = contains_filtered (lasts now) sets kept.set kept.there (le-leb now (kept.set.came + REMEMBERED) (omega (arith, soon, kept.came)));
  digest_is = kept.digest_is;
  came = kept.came;
}

pub kept_told : (digest other : List ℕ) (from : ℕ) (outcome : ResponseStatus) (old new : List RememberedSet) → IsTold other outcome old new → IsKept digest from old → IsKept digest from new
kept_told digest other from outcome old new told kept = elim told [
  | inl same ↦ subst (IsKept digest from) (sym same.1) kept
  | inr at_place ↦
      let place = at_place.0 in
      let at = at_place.2 in
      let k = kept.there.0 in
      let value = with_outcome outcome at.set in
      elim (eqb_tells k place) [
        | inl (test, is) ↦
            let same : at.set ≡ kept.set = at.set_is ∙ ap (λ (n : ℕ). slice_index_or old n at.set) (sym is) ∙ get_or_default old k at.set kept.set kept.there.1 ∙ kept.there.2 in
            let within : place < length old = at_place.1.within in
            subst (IsKept digest from) (sym at.new_is) (record {
              set = value;
              there = (place, omega (arith, length-set old place value, within), get_or-set_same old place value value within);
              digest_is = ap (λ (s : RememberedSet). s.digest) same ∙ kept.digest_is;
              came = omega (arith, ap (λ (s : RememberedSet). s.came) same, kept.came);
            })
        | inr (test, differs) ↦ subst (IsKept digest from) (sym at.new_is) (record {
          set = kept.set;
          there = (k, omega (arith, length-set old place value, kept.there.1), get_or-set_other old place k value kept.set differs ∙ kept.there.2);
          digest_is = kept.digest_is;
          came = kept.came;
        })
      ]
]

-- 1 for one that is counted
abbrev count : Bool → ℕ
count b = cond b 1 0

-- what is no other one isn't counted
uncounted : (b : Bool) → ¬ (b ≡ true) → count b ≡ 0
uncounted true isnt = absurd (isnt refl)
uncounted false isnt = refl

other_uncounted : (other digest : List ℕ) → other ≢ digest → count (bytes_eq other digest) ≡ 0
other_uncounted other digest differs = uncounted (bytes_eq other digest) (λ is. differs ((bytes_eq-Decides other digest).0 is))

-- a Set of this digest is remembered, or the time is over in which its datagram may come
abbrev IsGuarded : List ℕ → ℕ → ℕ → List RememberedSet → Type 0
IsGuarded digest from since sets = IsKept digest from sets ⊎ (from + REMEMBERED < since)

-- what is remembered after a Set came is what lasts, and perhaps one more
pub noted_keeps : (digest other : List ℕ) (from now : ℕ) (old new : List RememberedSet) (note : SetNote) → IsNoted now other old new note → IsKept digest from (lasting now old) → IsKept digest from new
noted_keeps digest other from now old new New noted kept = subst (IsKept digest from) (sym noted.2) (record {
  set = kept.set;
  there = Contains-append_left (lasting now old) (new_set now other ∷ []) kept.set kept.there;
  digest_is = kept.digest_is;
  came = kept.came;
})
noted_keeps digest other from now old new (Repeated outcome) noted kept = subst (IsKept digest from) (sym noted.1) kept
noted_keeps digest other from now old new NoRoom noted kept = subst (IsKept digest from) (sym noted.2) kept

guarded_lasts : (digest : List ℕ) (from since now : ℕ) (sets : List RememberedSet) → since ≤ now → IsGuarded digest from since sets → IsGuarded digest from now (lasting now sets)
guarded_lasts digest from since now sets later guarded =
    elim (leb_tells now (from + REMEMBERED)) [
      | inl (test, soon) ↦ elim guarded [
        | inl kept ↦ inl (kept_lasts digest from now sets soon kept)
        | inr over ↦ absurd (omega (arith, soon, over, later))
      ]
      | inr (test, over) ↦ inr over
    ]

guarded_noted : (digest other : List ℕ) (from now : ℕ) (old new : List RememberedSet) (note : SetNote) → IsNoted now other old new note → IsGuarded digest from now (lasting now old) → IsGuarded digest from now new
guarded_noted digest other from now old new note noted guarded = elim guarded [
  | inl kept ↦ inl (noted_keeps digest other from now old new note noted kept)
  | inr over ↦ inr over
]

-- a Set that is guarded isn't new
not_new : (digest other : List ℕ) (from now : ℕ) (old new : List RememberedSet) → IsNoted now other old new New → (other ≡ digest → IsWithin from now) → IsGuarded digest from now (lasting now old) → other ≢ digest
not_new digest other from now old new noted comes guarded is = elim guarded [
  | inl kept ↦ noted.0 kept.set (record { there = kept.there; digest_is = kept.digest_is ∙ sym is })
  | inr over ↦ omega (arith, over, (comes is).most)
]

never_again : (digest : List ℕ) (from : ℕ) (steps : List SetStep) (since : ℕ) (first last : List RememberedSet) → IsGuarded digest from since first → IsSetRun since first steps last → ComesWithin digest from steps → times_new digest steps ≡ 0
never_again digest from [] since first last guarded run comes = refl
never_again digest from (notes now other New ∷ steps) since first last guarded run comes =
    let lasts = guarded_lasts digest from since now first run.1 guarded in
    let none = other_uncounted other digest (not_new digest other from now first run.0 run.2 comes.0 lasts) in
    omega (arith, none, never_again digest from steps now run.0 last (guarded_noted digest other from now first run.0 New run.2 lasts) run.3 comes.1)
never_again digest from (notes now other (Repeated outcome) ∷ steps) since first last guarded run comes =
    never_again digest from steps now run.0 last (guarded_noted digest other from now first run.0 (Repeated outcome) run.2 (guarded_lasts digest from since now first run.1 guarded)) run.3 comes.1
never_again digest from (notes now other NoRoom ∷ steps) since first last guarded run comes =
    never_again digest from steps now run.0 last (guarded_noted digest other from now first run.0 NoRoom run.2 (guarded_lasts digest from since now first run.1 guarded)) run.3 comes.1
never_again digest from (tells other outcome ∷ steps) since first last guarded run comes =
    never_again digest from steps since run.0 last (elim guarded [ inl kept ↦ inl (kept_told digest other from outcome first run.0 run.1 kept) | inr over ↦ inr over ]) run.2 comes
never_again digest from (forgets now ∷ steps) since first last guarded run comes =
    never_again digest from steps now (lasting now first) last (guarded_lasts digest from since now first run.0 guarded) run.1 comes

-- a Set that comes now is remembered
new_kept : (digest other : List ℕ) (from now : ℕ) (old new : List RememberedSet) → IsNoted now other old new New → (other ≡ digest → IsWithin from now) → other ≡ digest → IsKept digest from new
new_kept digest other from now old new noted comes is = subst (IsKept digest from) (sym noted.2) (record {
  set = new_set now other;
  there = Contains-push (lasting now old) (new_set now other);
  digest_is = is;
  came = (comes is).least;
})

-- one that is counted, and one that isn't
counted_or_not : (b : Bool) (rest : ℕ) → (b ≡ true → rest ≡ 0) → rest ≤ 1 → count b + rest ≤ 1
counted_or_not true rest none few = omega (arith, none refl)
counted_or_not false rest none few = omega arith

pub new_once : (digest : List ℕ) (from : ℕ) (steps : List SetStep) (since : ℕ) (first last : List RememberedSet) → IsSetRun since first steps last → ComesWithin digest from steps → times_new digest steps ≤ 1
new_once digest from [] since first last run comes = omega arith
new_once digest from (notes now other New ∷ steps) since first last run comes =
    counted_or_not (bytes_eq other digest) (times_new digest steps)
    (λ is. never_again digest from steps now run.0 last (inl (new_kept digest other from now first run.0 run.2 comes.0 ((bytes_eq-Decides other digest).0 is))) run.3 comes.1)
    (new_once digest from steps now run.0 last run.3 comes.1)
new_once digest from (notes now other (Repeated outcome) ∷ steps) since first last run comes = new_once digest from steps now run.0 last run.3 comes.1
new_once digest from (notes now other NoRoom ∷ steps) since first last run comes = new_once digest from steps now run.0 last run.3 comes.1
new_once digest from (tells other outcome ∷ steps) since first last run comes = new_once digest from steps since run.0 last run.2 comes
new_once digest from (forgets now ∷ steps) since first last run comes = new_once digest from steps now (lasting now first) last run.1 comes

few_last : (now : ℕ) (sets : List RememberedSet) → length sets ≤ SETS_LIMIT → length (lasting now sets) ≤ SETS_LIMIT
few_last now sets few = omega (arith, length-filter_both (lasts now) (λ (s : RememberedSet). not (lasts now s)) (λ (s : RememberedSet). refl) sets)

few_noted : (now : ℕ) (other : List ℕ) (old new : List RememberedSet) (note : SetNote) → IsNoted now other old new note → length old ≤ SETS_LIMIT → length new ≤ SETS_LIMIT
few_noted now other old new New noted few = omega (arith, ap (λ (s : List RememberedSet). length s) noted.2, length-append (lasting now old) (new_set now other ∷ []), noted.1)
few_noted now other old new (Repeated outcome) noted few = omega (arith, ap (λ (s : List RememberedSet). length s) noted.1, few_last now old few)
few_noted now other old new NoRoom noted few = omega (arith, ap (λ (s : List RememberedSet). length s) noted.2, few_last now old few)

few_told : (other : List ℕ) (outcome : ResponseStatus) (old new : List RememberedSet) → IsTold other outcome old new → length old ≤ SETS_LIMIT → length new ≤ SETS_LIMIT
few_told other outcome old new told few = elim told [
  | inl same ↦ omega (arith, ap (λ (s : List RememberedSet). length s) same.1)
  | inr at_place ↦ omega (arith, ap (λ (s : List RememberedSet). length s) at_place.2.new_is, length-set old at_place.0 (with_outcome outcome at_place.2.set))
]

pub few_remembered : (steps : List SetStep) (since : ℕ) (first last : List RememberedSet) → length first ≤ SETS_LIMIT → IsSetRun since first steps last → length last ≤ SETS_LIMIT
few_remembered [] since first last few run = omega (arith, ap (λ (s : List RememberedSet). length s) run)
few_remembered (notes now other note ∷ steps) since first last few run = few_remembered steps now run.0 last (few_noted now other first run.0 note run.2 few) run.3
few_remembered (tells other outcome ∷ steps) since first last few run = few_remembered steps since run.0 last (few_told other outcome first run.0 run.1 few) run.2
few_remembered (forgets now ∷ steps) since first last few run = few_remembered steps now (lasting now first) last (few_last now first few) run.1
