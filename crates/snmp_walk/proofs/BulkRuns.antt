-- Whole dialogues for a GetBulkRequest.
use Rattle.std.specs.Prelude.{◌≡◌, ◌+◌, ◌⊎◌, ℕ, List, [], ◌∷◌, All, Contains, map, max}
use Rattle.std.proofs.Common.{refl, sym, ap, subst, ◌∙◌, arith, inl, inr}
use Rattle.std.proofs.lemmas.List.Elements.{All-head, All-tail, All-weaker}
use Rattle.snmp_msg.specs.Variables.{Variable}
use Rattle.vacm_next.proofs.Names.{upto_itself}
use Rattle.vacm_next.proofs.Order.{before_is_upto, upto_trans}
use Rattle.snmp_walk.specs.Bindings.{given_says}
use Rattle.snmp_walk.specs.Column.{Asks, MayAsk, StandsAt}
use Rattle.snmp_walk.specs.BulkColumn.{Ascends, BulkStands, IsGiven, StandsInBulk, last_name}
use Rattle.snmp_walk.specs.BulkDialogue.{BulkAllStand, IsBulkNext, bulk_requests}
use Rattle.snmp_walk.specs.BulkRun.{BulkAsksWell, BulkStep, IsBulkRun, asks_of_bulk, bulk_asks_in, came, goes}
use Rattle.snmp_walk.specs.declared.operation.ReadOperation.TheVariants.{GetNext}
use Rattle.snmp_walk.specs.declared.column.Progress.{Progress}
use Rattle.snmp_walk.specs.declared.column.Progress.TheVariants.{Asked}
use Rattle.snmp_walk.specs.declared.bulk_column.BulkColumn.{BulkColumn}
use Rattle.snmp_walk.specs.declared.bulk_dialogue.BulkDialogue.{BulkDialogue}
use Rattle.snmp_walk.specs.declared.bulk_dialogue.BulkNext.{BulkNext}
use Rattle.snmp_walk.specs.declared.bulk_dialogue.BulkNext.TheVariants as next
use Rattle.snmp_walk.proofs.BulkAfter.{answered_rounds, answered_same, answered_stand}
use Rattle.snmp_walk.proofs.BulkGoing.{all_chosen_same, all_chosen_stand, all_go_stand, all_goes_same}

module _ (Seen : List ℕ → Type 0) (told : List Variable) where
  -- at the last name that was given a walk may go on
  shown_stands : (first : List ℕ) (given : List Variable) → Ascends first given → All (IsGiven Seen told) given → StandsAt first told (last_name first given)
  shown_stands first [] ascends all = record { place = inl refl; upto = upto_itself first }
  shown_stands first (v ∷ vs) ascends all =
      let rest = shown_stands v.name vs ascends.1 (All-tail (IsGiven Seen told) v vs all) in
      let one = All-head (IsGiven Seen told) v vs all in
      record {
        place = elim rest.place [
          | inl same ↦ inr (v, one.there, sym same)
          | inr there ↦ inr there
        ];
        upto = upto_trans first v.name (last_name v.name vs) (before_is_upto first v.name ascends.0) rest.upto;
      }

  -- where a walk stands that goes on from there
  stands_on : (first last from : List ℕ) → StandsAt first told last → StandsAt last told from → StandsAt first told from
  stands_on first last from a b = record {
    place = elim b.place [
      | inl same ↦ subst (λ (name : List ℕ). (name ≡ first) ⊎ ((v : Variable) × Contains told v × (v.name ≡ name))) (sym same) a.place
      | inr there ↦ inr there
    ];
    upto = upto_trans first last from a.upto b.upto;
  }

  asks_well : (first : List ℕ) (given : List Variable) (p : Progress) → StandsInBulk Seen told first given p → (name : List ℕ) → Asks p name → MayAsk Seen told GetNext first name
  asks_well first given (Asked ask) stands name asks =
      subst (λ (n : List ℕ). MayAsk Seen told GetNext first n) asks
      (ask.from, stands_on first (last_name first given) ask.from (shown_stands first given stands.ascends stands.are_given) stands.walk.0, stands.walk.1)
  asks_well first given _ stands name asks = absurd asks

  next_stands : (old new : BulkDialogue) (becomes : BulkNext) → IsBulkNext Seen old new becomes → BulkAllStand Seen told old → BulkAllStand Seen told new
  next_stands old new (next.Asks ask) is all =
      all_chosen_stand Seen told old.non_repeaters is.1.chosen.fewest 0 (max old.at_once 1) is.1.columns new.columns.items is.1.chosen.chooses
      (all_go_stand Seen told old.columns.items is.1.columns is.1.goes_on all)
  next_stands old new _ is all = all_go_stand Seen told old.columns.items new.columns.items is.1 all

  next_same : (old new : BulkDialogue) (becomes : BulkNext) → IsBulkNext Seen old new becomes → bulk_requests new ≡ bulk_requests old
  next_same old new (next.Asks ask) is =
      all_chosen_same old.non_repeaters is.1.chosen.fewest 0 (max old.at_once 1) is.1.columns new.columns.items is.1.chosen.chooses
      ∙ all_goes_same Seen old.columns.items is.1.columns is.1.goes_on
  next_same old new _ is = all_goes_same Seen old.columns.items new.columns.items is.1

  next_rounds : (old new : BulkDialogue) (becomes : BulkNext) → IsBulkNext Seen old new becomes → asks_of_bulk becomes + new.rounds ≡ old.rounds
  next_rounds old new (next.Asks ask) is = omega (arith, is.1.rounds)
  next_rounds old new _ is = omega (arith, is.2)

  pub bulk_run_stands : (steps : List BulkStep) (first last : BulkDialogue) → BulkAllStand Seen told first → IsBulkRun Seen told first steps last → BulkAllStand Seen told last
  bulk_run_stands [] first last stand run = subst (BulkAllStand Seen told) (sym run) stand
  bulk_run_stands (goes becomes ∷ steps) first last stand run = bulk_run_stands steps run.0 last (next_stands first run.0 becomes run.1 stand) run.2
  bulk_run_stands (came answer becomes ∷ steps) first last stand run = bulk_run_stands steps run.0 last (answered_stand Seen told answer first run.0 becomes run.1.0 run.1.1 stand) run.2

  pub bulk_run_asks_well : (steps : List BulkStep) (first last : BulkDialogue) → BulkAllStand Seen told first → IsBulkRun Seen told first steps last → All (BulkAsksWell Seen told) last.columns.items
  bulk_run_asks_well steps first last stand run =
      All-weaker (BulkStands Seen told) (BulkAsksWell Seen told) (λ (c : BulkColumn) stands. asks_well c.first (map given_says c.got.items) c.progress stands) last.columns.items (bulk_run_stands steps first last stand run)

  pub bulk_run_rounds : (steps : List BulkStep) (first last : BulkDialogue) → IsBulkRun Seen told first steps last → bulk_asks_in steps + last.rounds ≡ first.rounds
  bulk_run_rounds [] first last run = omega (arith, ap (λ (d : BulkDialogue). d.rounds) run)
  bulk_run_rounds (goes becomes ∷ steps) first last run = omega (arith, bulk_run_rounds steps run.0 last run.2, next_rounds first run.0 becomes run.1)
  bulk_run_rounds (came answer becomes ∷ steps) first last run = bulk_run_rounds steps run.0 last run.2 ∙ answered_rounds Seen answer first run.0 becomes run.1.0

  pub bulk_run_requests : (steps : List BulkStep) (first last : BulkDialogue) → IsBulkRun Seen told first steps last → bulk_requests last ≡ bulk_requests first
  bulk_run_requests [] first last run = ap bulk_requests run
  bulk_run_requests (goes becomes ∷ steps) first last run = bulk_run_requests steps run.0 last run.2 ∙ next_same first run.0 becomes run.1
  bulk_run_requests (came answer becomes ∷ steps) first last run = bulk_run_requests steps run.0 last run.2 ∙ answered_same Seen answer first run.0 becomes run.1.0
