-- What `snmpsec merge-clocks` prints.
use Rattle.std.specs.Prelude.{◌≡◌, ◌⊎◌, ℕ, List, [], ◌∷◌, ◌++◌, map, codes, decimal}
use Rattle.engine_clock.specs.declared.saved.ClockFault.{ClockFault}
use Rattle.engine_clock.specs.declared.saved.ClockFault.TheVariants as clock_faults
use Rattle.engine_clock.specs.Marks.{Marks}
use Rattle.engine_clock.specs.Saved.{IsFirstFault}
use Rattle.engine_clock.specs.Merging.{IsMergeOf, HoldsMergeOf}
use Rattle.snmpsec_output.specs.Questions.{Printed}

-- a file: its name and its octets
abbrev pub NamedText : Type 0
NamedText = List ℕ × List ℕ

abbrev pub texts_of : List NamedText → List (List ℕ)
texts_of files = map (λ file. file.1) files

-- the line for a file whose line n is the first that isn't as it has to be
abbrev pub refused_line : List ℕ → ℕ → List ℕ
refused_line name n = codes "refused clocks " ++ (name ++ (codes " line " ++ (decimal n ++ codes "\n")))

-- what is printed for a fault; if memory runs out nothing is
abbrev pub TellsFault : List ℕ → ClockFault → Printed → Type 0
TellsFault name (clock_faults.Line n) printed = (printed.out ≡ refused_line name n) × (printed.err ≡ [])
    × (printed.status ≡ 1)
TellsFault name clock_faults.OutOfMemory printed = ⊥

-- Each file is saved clocks, and the text of the join of their maps is printed. The marks of a file of
-- version 1 were seen at the moment.
pub record Merges (moment : ℕ) (files : List NamedText) (printed : Printed) : Type 0 where
  pub out : IsMergeOf moment (texts_of files) printed.out
  pub err : printed.err ≡ []
  pub status : printed.status ≡ 0

-- The files up to one are saved clocks, that one is none, and its first fault is printed.
pub record RefusesFile (moment : ℕ) (files : List NamedText) (printed : Printed) : Type 0 where
  pub before : List NamedText
  pub file : NamedText
  pub after : List NamedText
  pub parts : files ≡ before ++ file ∷ after
  pub held : Marks
  pub accepted : HoldsMergeOf moment (texts_of before) held
  pub line : ℕ
  pub fault : IsFirstFault moment file.1 line
  pub out : printed.out ≡ refused_line file.0 line
  pub err : printed.err ≡ []
  pub status : printed.status ≡ 1

-- The files are merged, or the first that is no saved text is refused.
abbrev pub MergeAnswers : ℕ → List NamedText → Printed → Type 0
MergeAnswers moment files printed = Merges moment files printed ⊎ RefusesFile moment files printed
