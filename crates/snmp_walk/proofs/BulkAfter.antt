-- A dialogue for a GetBulkRequest after an answer.
use Rattle.std.specs.Prelude.{◌≡◌, ℕ, zero, suc, ℤ, List, [], ◌∷◌, All, Contains, Result, Ok, Err, IfOk, OnErr, map, set, slice_index_or}
use Rattle.std.proofs.Common.{refl, sym, ap, subst, ◌∙◌, inr}
use Rattle.std.proofs.lemmas.List.Elements.{All-set}
use Rattle.snmp_msg.specs.Variables.{Variable, variables_of}
use Rattle.snmp_msg.specs.declared.pdu.Pdu.{Pdu}
use Rattle.snmp_walk.specs.BulkColumn.{BulkStands, StandsInBulk, bulk_request, given_in}
use Rattle.snmp_walk.specs.BulkSteps.{SaysSame}
use Rattle.snmp_walk.specs.BulkAnswer.{AllSaySame}
use Rattle.snmp_walk.specs.BulkDialogue.{BulkAllStand, bulk_requests}
use Rattle.snmp_walk.specs.BulkAnswered.{BulkTells, DialogueSaysSame, EndsBulk, IsBulkAnswered, IsBulkAskedAt, IsBulkEndAt, IsLessAnswered, IsTooBig, is_next, turns_of}
use Rattle.snmp_walk.specs.declared.column.Progress.TheVariants as progress
use Rattle.snmp_walk.specs.declared.bulk_column.BulkColumn.{BulkColumn}
use Rattle.snmp_walk.specs.declared.bulk_dialogue.BulkDialogue.{BulkDialogue}
use Rattle.snmp_walk.specs.declared.bulk_dialogue.BulkAnswered.{BulkAnswered}
use Rattle.snmp_walk.specs.declared.bulk_dialogue.BulkAnswered.TheVariants.{Taken, Unfit, Less, Front, TooBig, Ended, Failed}
use Rattle.snmp_walk.proofs.Asked.{name_asked}
use Rattle.snmp_walk.proofs.Zipped.{zip_all, zip_same}
use Rattle.snmp_walk.proofs.BulkAnswers.{read_same, read_stands, same_stands}
use Rattle.snmp_walk.proofs.BulkGoing.{all_wait_same, all_wait_stand, stands_with}

pub dialogue_same : (d : BulkDialogue) → DialogueSaysSame d d
dialogue_same d = record {
  columns = all d.columns.items;
  limits = record { non_repeaters = refl; max_repetitions = refl; repetitions = refl; at_once = refl; gathered = refl };
  rounds = refl;
  ask = refl;
}
  where
    all : (cs : List BulkColumn) → AllSaySame cs cs
    all [] = tt
    all (c ∷ cs) = (record { same = refl; given = refl; progress = refl }, all cs)

pub on_err : {A E : Type 0} (r : Result A E) (Q : Type 0) → Q → OnErr r Q
on_err (Ok x) Q q = tt
on_err (Err e) Q q = q

says_same : (old new : BulkDialogue) → DialogueSaysSame old new → bulk_requests new ≡ bulk_requests old
says_same old new says = zip_same SaysSame bulk_request (λ a b one. one.same) old.columns.items new.columns.items says.columns

-- a list in which one element is another of which f is the same
same_map : {A B : Type 0} (f : A → B) (xs : List A) (i : ℕ) (y : A) → f y ≡ f (slice_index_or xs i y) → map f (set xs i y) ≡ map f xs
same_map f [] i y e = refl
same_map f (x ∷ xs) zero y e = λ j. e j ∷ map f xs
same_map f (x ∷ xs) (suc i) y e = λ j. f x ∷ same_map f xs i y e j

module _ (Seen : List ℕ → Type 0) where
  pub less_answered : (answer : Pdu) (old new : BulkDialogue) (becomes : BulkAnswered) → IsTooBig old answer → IsLessAnswered old new becomes → IsBulkAnswered Seen answer old new becomes
  less_answered answer old new Less big less = (big, less)
  less_answered answer old new Front big less = (big, less)
  less_answered answer old new TooBig big less = (big, less)
  less_answered answer old new _ big less = absurd less

  pub answered_same : (answer : Pdu) (old new : BulkDialogue) (becomes : BulkAnswered) → IsBulkAnswered Seen answer old new becomes → bulk_requests new ≡ bulk_requests old
  answered_same answer old new Taken is = read_same Seen (is_next old.ask) old.columns.items (turns_of old) (variables_of answer.list.now) new.columns.items is.2
  answered_same answer old new (Unfit fault) is = says_same old new is.3
  answered_same answer old new Less is = all_wait_same old.columns.items new.columns.items is.1.waits
  answered_same answer old new (Ended number) is =
      all_wait_same (set old.columns.items number is.2.ended) new.columns.items is.2.waits ∙ same_map bulk_request old.columns.items number is.2.ended (is.2.same is.2.ended)
  answered_same answer old new (Failed column) is = ap bulk_requests is.4
  answered_same answer old new _ is = ap bulk_requests is.1.2

  pub result_same : {E : Type 0} (answer : Pdu) (old new : BulkDialogue) (r : Result BulkAnswered E) → IfOk r (λ becomes. IsBulkAnswered Seen answer old new becomes) → OnErr r (DialogueSaysSame old new) → bulk_requests new ≡ bulk_requests old
  result_same answer old new (Ok becomes) is same = answered_same answer old new becomes is
  result_same answer old new (Err e) is same = says_same old new same

  module _ (told : List Variable) where
    ends_stand : (olds : List BulkColumn) (number : ℕ) (news : List BulkColumn) (index : ℤ) (v : Variable) → Contains told v → IsBulkEndAt olds number v → IsBulkAskedAt olds index number → EndsBulk olds number news
        → All (BulkStands Seen told) olds → All (BulkStands Seen told) news
    ends_stand olds number news index v there end asked ends all =
        let ended = ends.ended in
        let column = slice_index_or olds number ended in
        let name = name_asked column.progress (asked.asked ended) in
        let is_ended = (end ended name.0 name.1).syntax_is in
        let old : BulkStands Seen told column = all number ended asked.within in
        let at_end : StandsInBulk Seen told column.first (given_in column) progress.Ended = record {
          ascends = old.ascends;
          are_given = old.are_given;
          walk = inr (v, there, is_ended);
        } in
        let new : BulkStands Seen told ended = stands_with Seen told column ended progress.Ended (ends.same ended) (ends.given ended) ends.is_ended at_end in
        all_wait_stand Seen told (set olds number ended) news ends.waits (All-set (BulkStands Seen told) olds number ended new all)

    pub answered_stand : (answer : Pdu) (old new : BulkDialogue) (becomes : BulkAnswered) → IsBulkAnswered Seen answer old new becomes → BulkTells old answer becomes told → BulkAllStand Seen told old → BulkAllStand Seen told new
    answered_stand answer old new Taken is tells all = read_stands Seen told (is_next old.ask) old.columns.items (turns_of old) (variables_of answer.list.now) new.columns.items is.2 tells all
    answered_stand answer old new (Unfit fault) is tells all = zip_all SaysSame (BulkStands Seen told) (BulkStands Seen told) (same_stands Seen told) old.columns.items new.columns.items is.3.columns all
    answered_stand answer old new Less is tells all = all_wait_stand Seen told old.columns.items new.columns.items is.1.waits all
    answered_stand answer old new (Ended number) is tells all = ends_stand old.columns.items number new.columns.items answer.third tells.0 tells.1 tells.2 is.1 is.2 all
    answered_stand answer old new (Failed column) is tells all = subst (BulkAllStand Seen told) (sym is.4) all
    answered_stand answer old new _ is tells all = subst (BulkAllStand Seen told) (sym is.1.2) all

  pub answered_rounds : (answer : Pdu) (old new : BulkDialogue) (becomes : BulkAnswered) → IsBulkAnswered Seen answer old new becomes → new.rounds ≡ old.rounds
  answered_rounds answer old new (Unfit fault) is = is.3.rounds
  answered_rounds answer old new Less is = is.1.rounds
  answered_rounds answer old new Front is = ap (λ (d : BulkDialogue). d.rounds) is.1.2
  answered_rounds answer old new TooBig is = ap (λ (d : BulkDialogue). d.rounds) is.1.2
  answered_rounds answer old new (Failed column) is = ap (λ (d : BulkDialogue). d.rounds) is.4
  answered_rounds answer old new _ is = is.4
