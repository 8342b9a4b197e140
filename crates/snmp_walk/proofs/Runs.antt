-- Whole dialogues.
use Rattle.std.specs.Prelude.{◌≡◌, ◌+◌, ℕ, List, [], ◌∷◌, All}
use Rattle.std.proofs.Common.{sym, ap, subst, ◌∙◌, arith}
use Rattle.std.proofs.lemmas.List.Elements.{All-weaker}
use Rattle.snmp_msg.specs.Variables.{Variable}
use Rattle.snmp_walk.specs.Column.{Asks, MayAsk, Stands, StandsIn}
use Rattle.snmp_walk.specs.Dialogue.{AllStand, IsNext, requests}
use Rattle.snmp_walk.specs.Run.{AsksWell, IsRun, Step, asks_in, asks_of_next, came, goes}
use Rattle.snmp_walk.specs.declared.operation.ReadOperation.{ReadOperation}
use Rattle.snmp_walk.specs.declared.operation.ReadOperation.TheVariants.{Get, GetNext}
use Rattle.snmp_walk.specs.declared.column.Column.{Column}
use Rattle.snmp_walk.specs.declared.column.Progress.{Progress}
use Rattle.snmp_walk.specs.declared.column.Progress.TheVariants.{Asked}
use Rattle.snmp_walk.specs.declared.dialogue.Dialogue.{Dialogue}
use Rattle.snmp_walk.specs.declared.dialogue.Next.{Next}
use Rattle.snmp_walk.specs.declared.dialogue.Next.TheVariants as next
use Rattle.snmp_walk.proofs.Each.{same_after_going, stand_after_going}
use Rattle.snmp_walk.proofs.After.{rounds_after, same_after, stand_after}

-- a column that stands asks well
asks_well : (Seen : List ℕ → Type 0) (told : List Variable) (o : ReadOperation) (first : List ℕ) (p : Progress) → StandsIn Seen told o first p → (name : List ℕ) → Asks p name → MayAsk Seen told o first name
asks_well Seen told Get first (Asked ask) stands name asks = (sym asks ∙ stands.0, stands.1)
asks_well Seen told Get first _ stands name asks = absurd asks
asks_well Seen told GetNext first (Asked ask) stands name asks = subst (λ (n : List ℕ). MayAsk Seen told GetNext first n) asks (ask.from, stands.0, stands.1)
asks_well Seen told GetNext first _ stands name asks = absurd asks

module _ (Seen : List ℕ → Type 0) (told : List Variable) where
  pub run_stands : (steps : List Step) (first last : Dialogue) → AllStand Seen told first → IsRun Seen told first steps last → AllStand Seen told last
  run_stands [] first last stand run = subst (AllStand Seen told) (sym run) stand
  run_stands (goes becomes ∷ steps) first last stand run = run_stands steps run.0 last (stand_after_going Seen told first.columns.items run.0.columns.items run.1.0 stand) run.2
  run_stands (came answer becomes ∷ steps) first last stand run = run_stands steps run.0 last (stand_after Seen told first run.0 answer becomes run.1.0 run.1.1 stand) run.2

  pub run_asks_well : (steps : List Step) (first last : Dialogue) → AllStand Seen told first → IsRun Seen told first steps last → All (AsksWell Seen told) last.columns.items
  run_asks_well steps first last stand run =
      All-weaker (Stands Seen told) (AsksWell Seen told) (λ (c : Column) stands. asks_well Seen told c.operation c.first c.progress stands) last.columns.items (run_stands steps first last stand run)

  after_going : (old new : Dialogue) (becomes : Next) → IsNext old new becomes → asks_of_next becomes + new.rounds ≡ old.rounds
  after_going old new (next.RoundsUsedUp number) is = omega (arith, is.0, is.1)
  after_going old new _ is = omega (arith, is.0)

  pub run_rounds : (steps : List Step) (first last : Dialogue) → IsRun Seen told first steps last → asks_in steps + last.rounds ≡ first.rounds
  run_rounds [] first last run = omega (arith, ap (λ (d : Dialogue). d.rounds) run)
  run_rounds (goes becomes ∷ steps) first last run = omega (arith, run_rounds steps run.0 last run.2, after_going first run.0 becomes run.1.1)
  run_rounds (came answer becomes ∷ steps) first last run = run_rounds steps run.0 last run.2 ∙ rounds_after Seen first run.0 answer becomes run.1.0

  pub run_requests : (steps : List Step) (first last : Dialogue) → IsRun Seen told first steps last → requests last ≡ requests first
  run_requests [] first last run = ap requests run
  run_requests (goes becomes ∷ steps) first last run = run_requests steps run.0 last run.2 ∙ same_after_going Seen first.columns.items run.0.columns.items run.1.0
  run_requests (came answer becomes ∷ steps) first last run = run_requests steps run.0 last run.2 ∙ same_after Seen first run.0 answer becomes run.1.0
