-- What reading saved clocks answers.
use Rattle.std.specs.Prelude.{◌≡◌, ℕ, ⊤, List, Result, Ok, Err}
use Rattle.engine_clock.specs.Marks.{Marks}
use Rattle.engine_clock.specs.Saved.{BeginsWell, IsFirstFault}
use Rattle.engine_clock.specs.declared.saved.ClockFault.{ClockFault}
use Rattle.engine_clock.specs.declared.saved.ClockFault.TheVariants.{Line, OutOfMemory}

-- the fault is the text's; or it is OutOfMemory, which comes only where the heading and an entry are as
-- they have to be
abbrev pub IsFaultOf : ℕ → List ℕ → ClockFault → Type 0
IsFaultOf now text (Line n) = IsFirstFault now text n
IsFaultOf now text OutOfMemory = BeginsWell now text 2

-- the map is given back, unless memory runs out
abbrev pub GivesBack : Marks → Result Marks ClockFault → Type 0
GivesBack marks (Ok read) = read ≡ marks
GivesBack marks (Err (Line n)) = ⊥
GivesBack marks (Err OutOfMemory) = ⊤
