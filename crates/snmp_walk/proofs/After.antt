-- A dialogue after an answer.
use Rattle.std.specs.Prelude.{◌≡◌, ◌∷◌, List, [], ℕ, zero, suc, All, Contains, map, set, slice_index_or}
use Rattle.std.specs.List.{HoldsAt}
use Rattle.std.proofs.Common.{refl, sym, ap, subst, ◌∙◌, inr}
use Rattle.std.proofs.lemmas.List.Elements.{All-set}
use Rattle.snmp_msg.specs.Variables.{Variable, variables_of}
use Rattle.snmp_msg.specs.declared.pdu.Pdu.{Pdu}
use Rattle.snmp_walk.specs.Column.{Stands, StandsIn}
use Rattle.snmp_walk.specs.Dialogue.{AllStand, request, requests}
use Rattle.snmp_walk.specs.Answer.{EndsOne, IsAnswered, IsEndAt, Tells}
use Rattle.snmp_walk.specs.declared.operation.ReadOperation.{ReadOperation}
use Rattle.snmp_walk.specs.declared.operation.ReadOperation.TheVariants.{GetNext}
use Rattle.snmp_walk.specs.declared.column.Column.{Column}
use Rattle.snmp_walk.specs.declared.column.Progress.{Progress}
use Rattle.snmp_walk.specs.declared.column.Progress.TheVariants.{Ended}
use Rattle.snmp_walk.specs.declared.dialogue.Dialogue.{Dialogue}
use Rattle.snmp_walk.specs.declared.dialogue.Answered.{Answered}
use Rattle.snmp_walk.specs.declared.dialogue.Answered.TheVariants as answered
use Rattle.snmp_walk.proofs.Asked.{name_asked}
use Rattle.snmp_walk.proofs.Each.{same_after_taking, stand_after_taking}

-- A list in which one element is another of which f is the same.
same_map : {A B : Type 0} (f : A → B) (xs : List A) (i : ℕ) (y : A) → f y ≡ f (slice_index_or xs i y) → map f (set xs i y) ≡ map f xs
same_map f [] i y e = refl
same_map f (x ∷ xs) zero y e = λ j. e j ∷ map f xs
same_map f (x ∷ xs) (suc i) y e = λ j. f x ∷ same_map f xs i y e j

same_after_end : (olds : List Column) (number : ℕ) (news : List Column) → EndsOne olds number news → map request news ≡ map request olds
same_after_end olds number news ends = ap (λ (cs : List Column). map request cs) ends.news_are ∙ same_map request olds number ends.new (ends.same ends.new)

module _ (Seen : List ℕ → Type 0) where
  stand_after_end : (told : List Variable) (olds : List Column) (number : ℕ) (news : List Column) (v : Variable) → Contains told v → IsEndAt olds number v
      → HoldsAt (λ (c : Column). c.operation ≡ GetNext) olds number → EndsOne olds number news → All (Stands Seen told) olds → All (Stands Seen told) news
  stand_after_end told olds number news v there end walk ends stand =
      let new = ends.new in
      let column = slice_index_or olds number new in
      let name = name_asked column.progress (ends.asked new) in
      let operation : new.operation ≡ GetNext = ap (λ (r : ReadOperation × List ℕ). r.0) (ends.same new) ∙ walk new in
      let is_ended = (end new name.0 name.1).syntax_is in
      subst (λ (cs : List Column). All (Stands Seen told) cs) (sym ends.news_are)
      (All-set (Stands Seen told) olds number new
      (subst (λ (p : Progress). StandsIn Seen told new.operation new.first p) (sym ends.ended)
      (subst (λ (o : ReadOperation). StandsIn Seen told o new.first Ended) (sym operation) (inr (v, there, is_ended)))) stand)

  -- what is known of the columns, and what they are for
  pub stand_after : (told : List Variable) (old new : Dialogue) (answer : Pdu) (becomes : Answered) → IsAnswered Seen answer old new becomes → Tells old answer becomes told
      → AllStand Seen told old → AllStand Seen told new
  stand_after told old new answer answered.Taken is tells stand = stand_after_taking Seen told old.columns.items (variables_of answer.list.now) new.columns.items tells is.1 is.2 stand
  stand_after told old new answer (answered.Unfit fault) is tells stand = subst (AllStand Seen told) (sym is.2) stand
  stand_after told old new answer (answered.Ended number) is tells stand =
      stand_after_end told old.columns.items number new.columns.items tells.0 tells.1 tells.2 is.2.walk is.3 stand
  stand_after told old new answer (answered.Failed failure) is tells stand = subst (AllStand Seen told) (sym is.3) stand

  pub same_after : (old new : Dialogue) (answer : Pdu) (becomes : Answered) → IsAnswered Seen answer old new becomes → requests new ≡ requests old
  same_after old new answer answered.Taken is = same_after_taking Seen old.columns.items (variables_of answer.list.now) new.columns.items is.2
  same_after old new answer (answered.Unfit fault) is = ap requests is.2
  same_after old new answer (answered.Ended number) is = same_after_end old.columns.items number new.columns.items is.3
  same_after old new answer (answered.Failed failure) is = ap requests is.3

  pub rounds_after : (old new : Dialogue) (answer : Pdu) (becomes : Answered) → IsAnswered Seen answer old new becomes → new.rounds ≡ old.rounds
  rounds_after old new answer answered.Taken is = is.3
  rounds_after old new answer (answered.Unfit fault) is = ap (λ (d : Dialogue). d.rounds) is.2
  rounds_after old new answer (answered.Ended number) is = is.4
  rounds_after old new answer (answered.Failed failure) is = ap (λ (d : Dialogue). d.rounds) is.3
