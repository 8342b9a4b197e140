-- What the readers of saved clocks hand on.
use Rattle.std.specs.Prelude.{◌≡◌, ℕ, ◌<◌, ◌^◌, List, ◌∷◌, ◌++◌, decimal}
use Rattle.engine_clock.specs.Listings.{BeginsWellBy, IsFirstFaultBy}
use Rattle.engine_clock.specs.Saved.{heading_in, line_in, FitsIn}
use Rattle.snmp_ber.specs.Splits.{Lacks}
use Rattle.engine_clock.specs.declared.saved.Form.{Form}
use Rattle.engine_clock.specs.declared.saved.Form.TheVariants.{WithMoments, ReadAt}
use Rattle.engine_clock.specs.declared.saved.ClockFault.{ClockFault}
use Rattle.engine_clock.specs.declared.saved.ClockFault.TheVariants.{Line, OutOfMemory}

-- what comes after the boots: the time, which has no octet that ends it, and the moment where the form has it
abbrev pub IsTail : Form → List ℕ → List ℕ → ℕ → List ℕ → Type 0
IsTail WithMoments text time seen rest = (text ≡ time ++ (32 ∷ (decimal seen ++ (10 ∷ rest)))) × Lacks 32 time
    × (seen < 2 ^ 64)
IsTail (ReadAt now) text time seen rest = (text ≡ time ++ (10 ∷ rest)) × Lacks 10 time × (seen ≡ now) × (seen < 2 ^ 64)

-- the fault is the text's in this form; or it is OutOfMemory, which comes only where an entry is as it has to be
abbrev pub IsFaultIn : Form → List ℕ → ClockFault → Type 0
IsFaultIn form text (Line n) = IsFirstFaultBy (heading_in form) (line_in form) (FitsIn form) text n
IsFaultIn form text OutOfMemory = BeginsWellBy (heading_in form) (line_in form) (FitsIn form) text 2
