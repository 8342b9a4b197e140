-- What is remembered of Sets over any run of steps.
--
-- `IsSetRun`: the steps lead from one memory to the other, and time doesn't go back. `times_new`: how often the device
-- may be asked a datagram's Set. `ComesWithin`: a datagram comes only within 301 seconds of a moment. `AreAsTold`: a
-- Set that came before has an outcome that was told of it.
use Rattle.std.specs.Prelude.{◌≡◌, ℕ, ◌+◌, ◌≤◌, cond, List, [], ◌∷◌, Contains, Some, None}
use Rattle.std.specs.Str.{bytes_eq}
use Rattle.snmp_gate.specs.Sets.{IsNoted, IsTold, lasting}
use Rattle.snmp_gate.specs.declared.set_answer.ResponseStatus.{ResponseStatus}
use Rattle.snmp_gate.specs.declared.sets.RememberedSet.{RememberedSet}
use Rattle.snmp_gate.specs.declared.sets.SetNote.{SetNote}
use Rattle.snmp_gate.specs.declared.sets.SetNote.TheVariants.{New, Repeated, NoRoom}
use Rattle.snmp_gate.specs.declared.sets.TheConstants.{REMEMBERED}

-- what happens: a Set comes, its outcome is reported, or those that came too long ago are forgotten
pub data SetStep : Type 0 where
  notes : (now : ℕ) (digest : List ℕ) (note : SetNote) → SetStep
  tells : (digest : List ℕ) (outcome : ResponseStatus) → SetStep
  forgets : (now : ℕ) → SetStep

-- the steps lead from one memory to the other; the first of their moments isn't before `since`
abbrev pub IsSetRun : ℕ → List RememberedSet → List SetStep → List RememberedSet → Type 0
IsSetRun since first [] last = last ≡ first
IsSetRun since first (notes now digest note ∷ steps) last = (second : List RememberedSet) × (since ≤ now)
    × IsNoted now digest first second note × IsSetRun now second steps last
IsSetRun since first (tells digest outcome ∷ steps) last = (second : List RememberedSet)
    × IsTold digest outcome first second × IsSetRun since second steps last
IsSetRun since first (forgets now ∷ steps) last = (since ≤ now) × IsSetRun now (lasting now first) steps last

-- how often the device may be asked the Set of this digest
abbrev pub times_new : List ℕ → List SetStep → ℕ
times_new digest [] = 0
times_new digest (notes now other New ∷ steps) = cond (bytes_eq other digest) 1 0 + times_new digest steps
times_new digest (notes now other (Repeated outcome) ∷ steps) = times_new digest steps
times_new digest (notes now other NoRoom ∷ steps) = times_new digest steps
times_new digest (tells other outcome ∷ steps) = times_new digest steps
times_new digest (forgets now ∷ steps) = times_new digest steps

-- the moment is within 301 seconds from the other one
pub record IsWithin (from now : ℕ) : Type 0 where
  pub least : from ≤ now
  pub most : now ≤ from + REMEMBERED

-- the datagram with this digest comes only within 301 seconds from this moment
abbrev pub ComesWithin : List ℕ → ℕ → List SetStep → Type 0
ComesWithin digest from [] = Unit {0}
ComesWithin digest from (notes now other note ∷ steps) = (other ≡ digest → IsWithin from now)
    × ComesWithin digest from steps
ComesWithin digest from (tells other outcome ∷ steps) = ComesWithin digest from steps
ComesWithin digest from (forgets now ∷ steps) = ComesWithin digest from steps

-- if the step is a Set that came before, and its outcome is known: among the earlier steps it was told of it
abbrev pub IsAsTold : List SetStep → SetStep → Type 0
IsAsTold before (notes now digest New) = Unit {0}
IsAsTold before (notes now digest (Repeated None)) = Unit {0}
IsAsTold before (notes now digest (Repeated (Some outcome))) = Contains before (tells digest outcome)
IsAsTold before (notes now digest NoRoom) = Unit {0}
IsAsTold before (tells digest outcome) = Unit {0}
IsAsTold before (forgets now) = Unit {0}

-- of each of the steps; those before them are in reverse order
abbrev pub AreAsTold : List SetStep → List SetStep → Type 0
AreAsTold before [] = Unit {0}
AreAsTold before (step ∷ steps) = IsAsTold before step × AreAsTold (step ∷ before) steps
