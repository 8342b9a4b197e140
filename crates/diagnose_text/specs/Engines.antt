-- What is said of engines in the summary is what the clocks hold of them.
--
-- `IsKnown`: boots, time and moment of an engine are those that the clocks have of it (RFC 3414, section 2.3).
use Rattle.std.specs.Prelude.{◌≡◌, ℕ, List, Some}
use Rattle.engine_clock.specs.Marks.{Marks, SeenPair, mark_at}
use Rattle.diagnose_text.specs.declared.summary.EngineFacts.{EngineFacts}

-- what is said of the engine with these octets is what the clocks hold of it
pub record AreFactsOf (clocks : Marks) (octets : List ℕ) (facts : EngineFacts) : Type 0 where
  pub engine : facts.engine ≡ octets
  pub mark : SeenPair
  pub held : mark_at clocks octets ≡ Some mark
  pub boots : facts.boots ≡ mark.pair.boots
  pub time : facts.time ≡ mark.pair.time
  pub seen : facts.seen ≡ mark.seen

abbrev pub IsKnown : Marks → EngineFacts → Type 0
IsKnown clocks facts = AreFactsOf clocks facts.engine facts
