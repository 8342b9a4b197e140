-- Outcomes of Sets, over runs of steps.
use Rattle.std.specs.Prelude.{◌≡◌, ℕ, List, [], ◌∷◌, All, Contains, Option, Some, None}
use Rattle.std.proofs.Common.{sym, ap, subst, ◌∙◌, inl, inr}
use Rattle.std.proofs.lemmas.List.Elements.{All-contains, All-filter, All-nil, All-push, All-set, All-weaker, Contains-append_left, Contains-append_right, Contains-push}
use Rattle.snmp_gate.specs.Sets.{HasDigest, IsNoted, IsTold, lasting, lasts, new_set, with_outcome}
use Rattle.snmp_gate.specs.SetRuns.{AreAsTold, IsAsTold, IsSetRun, SetStep, forgets, notes, tells}
use Rattle.snmp_gate.specs.declared.set_answer.ResponseStatus.{ResponseStatus}
use Rattle.snmp_gate.specs.declared.sets.RememberedSet.{RememberedSet}
use Rattle.snmp_gate.specs.declared.sets.SetNote.{SetNote}
use Rattle.snmp_gate.specs.declared.sets.SetNote.TheVariants.{New, NoRoom, Repeated}

-- if the outcome is known, it was told of the digest
abbrev pub WasTold : List SetStep → List ℕ → Option ResponseStatus → Type 0
WasTold before digest None = Unit {0}
WasTold before digest (Some outcome) = Contains before (tells digest outcome)

abbrev pub IsToldSet : List SetStep → RememberedSet → Type 0
IsToldSet before set = WasTold before set.digest set.outcome

-- one step later
told_on : (before : List SetStep) (step : SetStep) (digest : List ℕ) (outcome : Option ResponseStatus) → WasTold before digest outcome → WasTold (step ∷ before) digest outcome
told_on before step digest None told = tt
told_on before step digest (Some outcome) told = Contains-append_right (step ∷ []) before (tells digest outcome) told

all_on : (before : List SetStep) (step : SetStep) (sets : List RememberedSet) → All (IsToldSet before) sets → All (IsToldSet (step ∷ before)) sets
all_on before step sets all = All-weaker (IsToldSet before) (IsToldSet (step ∷ before)) (λ set told. told_on before step set.digest set.outcome told) sets all

all_last : (before : List SetStep) (now : ℕ) (sets : List RememberedSet) → All (IsToldSet before) sets → All (IsToldSet before) (lasting now sets)
all_last before now sets all = All-filter (lasts now) (IsToldSet before) sets all

all_noted : (before : List SetStep) (now : ℕ) (digest : List ℕ) (old new : List RememberedSet) (note : SetNote) → IsNoted now digest old new note → All (IsToldSet before) old → All (IsToldSet before) new
all_noted before now digest old new New noted all =
    subst (All (IsToldSet before)) (sym noted.2) (All-push (IsToldSet before) (lasting now old) (new_set now digest) (all_last before now old all) tt)
all_noted before now digest old new (Repeated outcome) noted all = subst (All (IsToldSet before)) (sym noted.1) (all_last before now old all)
all_noted before now digest old new NoRoom noted all = subst (All (IsToldSet before)) (sym noted.2) (all_last before now old all)

-- what was told just now was told
just_told : (before : List SetStep) (digest other : List ℕ) (outcome : ResponseStatus) → other ≡ digest → WasTold (tells digest outcome ∷ before) other (Some outcome)
just_told before digest other outcome is =
    subst (λ (d : List ℕ). Contains (tells digest outcome ∷ before) (tells d outcome)) (sym is)
    (Contains-append_left (tells digest outcome ∷ []) before (tells digest outcome) (Contains-push [] (tells digest outcome)))

all_told : (before : List SetStep) (digest : List ℕ) (outcome : ResponseStatus) (old new : List RememberedSet) → IsTold digest outcome old new → All (IsToldSet before) old → All (IsToldSet (tells digest outcome ∷ before)) new
all_told before digest outcome old new told all = elim told [
  | inl same ↦ subst (All (IsToldSet (tells digest outcome ∷ before))) (sym same.1) (all_on before (tells digest outcome) old all)
  | inr at ↦
      let set = at.2.set in
      let is : set.digest ≡ digest = ap (λ (s : RememberedSet). s.digest) at.2.set_is ∙ at.1.digest_is set in
      subst (All (IsToldSet (tells digest outcome ∷ before))) (sym at.2.new_is)
      (All-set (IsToldSet (tells digest outcome ∷ before)) old at.0 (with_outcome outcome set) (just_told before digest set.digest outcome is) (all_on before (tells digest outcome) old all))
]

-- a Set that came before has an outcome that was told
found_told : (before : List SetStep) (sets : List RememberedSet) (set : RememberedSet) (digest : List ℕ) (outcome : ResponseStatus) → HasDigest digest sets set → set.outcome ≡ Some outcome → All (IsToldSet before) sets
    → Contains before (tells digest outcome)
found_told before sets set digest outcome has is all =
    subst (λ (d : List ℕ). Contains before (tells d outcome)) has.digest_is
    (subst (λ (o : Option ResponseStatus). WasTold before set.digest o) is (All-contains (IsToldSet before) sets set all has.there))

noted_as_told : (before : List SetStep) (now : ℕ) (digest : List ℕ) (old new : List RememberedSet) (note : SetNote) → IsNoted now digest old new note → All (IsToldSet before) old → IsAsTold before (notes now digest note)
noted_as_told before now digest old new New noted all = tt
noted_as_told before now digest old new (Repeated None) noted all = tt
noted_as_told before now digest old new (Repeated (Some outcome)) noted all =
    found_told before (lasting now old) noted.0.0 digest outcome noted.0.1 noted.0.2 (all_last before now old all)
noted_as_told before now digest old new NoRoom noted all = tt

run_as_told : (before steps : List SetStep) (since : ℕ) (first last : List RememberedSet) → All (IsToldSet before) first → IsSetRun since first steps last → AreAsTold before steps
run_as_told before [] since first last all run = tt
run_as_told before (notes now digest note ∷ steps) since first last all run = (
  noted_as_told before now digest first run.0 note run.2 all,
  run_as_told (notes now digest note ∷ before) steps now run.0 last (all_on before (notes now digest note) run.0 (all_noted before now digest first run.0 note run.2 all)) run.3,
)
run_as_told before (tells digest outcome ∷ steps) since first last all run =
    (tt, run_as_told (tells digest outcome ∷ before) steps since run.0 last (all_told before digest outcome first run.0 run.1 all) run.2)
run_as_told before (forgets now ∷ steps) since first last all run =
    (tt, run_as_told (forgets now ∷ before) steps now (lasting now first) last (all_on before (forgets now) (lasting now first) (all_last before now first all)) run.1)

pub outcomes_told : (steps : List SetStep) (last : List RememberedSet) → IsSetRun 0 [] steps last → AreAsTold [] steps
outcomes_told steps last run = run_as_told [] steps 0 [] last (All-nil (IsToldSet [])) run
