-- What a follower makes of a datagram.
use Rattle.std.specs.Prelude.{◌≡◌, ℕ, List, Option}
use Rattle.diagnose_exchanges.specs.Exchanges.{Step, TakesBy}
use Rattle.diagnose_exchanges.specs.declared.asked.Asked.{Asked}
use Rattle.diagnose_judge.specs.Judging.{Judgement}
use Rattle.diagnose_text.specs.Datagrams.{IsStepOf, JudgesAs}
use Rattle.diagnose_text.specs.declared.facts.Answer.{Answer}
use Rattle.diagnose_text.specs.declared.facts.First.{First}
use Rattle.diagnose_text.specs.declared.follower.Follower.{Follower}
use Rattle.diagnose_text.specs.declared.line.Line.{Line}

-- One datagram is taken, by a step like this, and no exchange is taken out.
pub record Follows (IsMade : Step Asked First Answer → Type 0) (old new : Follower) : Type 0 where
  pub place : new.exchanges.gone ≡ old.exchanges.gone
  pub step : Step Asked First Answer
  pub made : IsMade step
  pub takes : TakesBy step old.exchanges.gone old.exchanges.list.items new.exchanges.list.items

-- This datagram is judged, and taken by the step that it makes.
pub record Sees (line : Line) (w : List ℕ) (judgement : Option Judgement) (old new : Follower) : Type 0 where
  pub judged : JudgesAs old.observer line.at.seconds w judgement new.observer
  pub follows : Follows (IsStepOf line w judgement) old new
