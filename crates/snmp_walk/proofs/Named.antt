-- Names that a device is asked.
use Rattle.std.specs.Prelude.{ℕ, List, [], ◌∷◌, All}
use Rattle.std.proofs.Common.{sym, subst, inl, inr}
use Rattle.std.proofs.lemmas.List.Elements.{All-cons, All-head, All-set, All-tail}
use Rattle.snmp_ber.specs.Oid.{IsObjectId}
use Rattle.snmp_msg.specs.Variables.{Variable, variables_of}
use Rattle.snmp_msg.specs.declared.pdu.Pdu.{Pdu}
use Rattle.vacm_next.specs.Walk.{WalksFrom}
use Rattle.snmp_walk.specs.Dialogue.{AllGoOn, AllTake, ColumnGoesOn}
use Rattle.snmp_walk.specs.Steps.{Begins, GoesOn, GoesOnFrom, Takes}
use Rattle.snmp_walk.specs.Answer.{EndsOne, IsAnswered}
use Rattle.snmp_walk.specs.ObjectIds.{AllNamed, IsNamed}
use Rattle.snmp_walk.specs.Run.{IsRun, Step, came, goes}
use Rattle.snmp_walk.specs.declared.operation.ReadOperation.{ReadOperation}
use Rattle.snmp_walk.specs.declared.operation.ReadOperation.TheVariants.{Get, GetNext}
use Rattle.snmp_walk.specs.declared.column.Column.{Column}
use Rattle.snmp_walk.specs.declared.column.Progress.{Progress}
use Rattle.snmp_walk.specs.declared.column.Progress.TheVariants.{Wanting, Asked, Given, Hidden, Ended}
use Rattle.snmp_walk.specs.declared.dialogue.Dialogue.{Dialogue}
use Rattle.snmp_walk.specs.declared.dialogue.Answered.{Answered}
use Rattle.snmp_walk.specs.declared.dialogue.Answered.TheVariants as answered
use Rattle.snmp_walk.proofs.Names.{HasObjectId, all_named}
use Rattle.snmp_walk.proofs.Zipped.{zip_all}

abbrev pub IsNamedColumn : Column → Type 0
IsNamedColumn c = IsNamed c.progress

module _ (Seen : List ℕ → Type 0) where
  pub begun_named : (o : ReadOperation) (first : List ℕ) (p : Progress) → Begins Seen o first p → IsObjectId first → IsNamed p
  begun_named Get first (Wanting from) b named = subst IsObjectId (sym b.0) named
  begun_named Get first (Asked ask) b named = absurd b
  begun_named Get first (Given g) b named = absurd b
  begun_named Get first Hidden b named = tt
  begun_named Get first Ended b named = absurd b
  begun_named GetNext first (Wanting from) b named = subst IsObjectId (sym b) named
  begun_named GetNext first _ b named = absurd b

  place_named : (from place : List ℕ) → WalksFrom Seen from place → IsObjectId from → IsObjectId place
  place_named from place walks named = elim walks.is_place [
    | inl before ↦ subst IsObjectId (sym before.2) before.0
    | inr same ↦ subst IsObjectId (sym same.1) named
  ]

  went_named : (o : ReadOperation) (from : List ℕ) (p : Progress) → GoesOnFrom Seen o from p → IsObjectId from → IsNamed p
  went_named Get from (Asked ask) g named = (subst IsObjectId (sym g.0) named, subst IsObjectId (sym g.1) named)
  went_named Get from _ g named = absurd g
  went_named GetNext from (Asked ask) g named = (subst IsObjectId (sym g.0) named, place_named from ask.name g.1 named)
  went_named GetNext from Ended g named = tt
  went_named GetNext from _ g named = absurd g

  pub goes_on_named : (o : ReadOperation) (old new : Progress) → GoesOn Seen o old new → IsNamed old → IsNamed new
  goes_on_named o (Wanting from) new g named = went_named o from new g named
  goes_on_named o _ new g named = subst IsNamed (sym g) named

  takes_named : (o : ReadOperation) (v : Variable) (p : Progress) → Takes Seen o v p → IsObjectId v.name → IsNamed p
  takes_named Get v (Given g) t named = tt
  takes_named Get v _ t named = absurd t
  takes_named GetNext v (Wanting from) t named = subst IsObjectId (sym t.2) named
  takes_named GetNext v (Given g) t named = tt
  takes_named GetNext v Ended t named = tt
  takes_named GetNext v _ t named = absurd t

  pub named_after_going : (olds news : List Column) → AllGoOn Seen olds news → All IsNamedColumn olds → All IsNamedColumn news
  named_after_going olds news all named =
      zip_all (ColumnGoesOn Seen) IsNamedColumn IsNamedColumn (λ old new one is. goes_on_named old.operation old.progress new.progress one.goes_on is) olds news all named

  pub named_after_taking : (olds : List Column) (vs : List Variable) (news : List Column) → AllTake Seen olds vs news → All HasObjectId vs → All IsNamedColumn olds → All IsNamedColumn news
  named_after_taking [] vs news all ids named = subst (λ (cs : List Column). All IsNamedColumn cs) (sym all.1) named
  named_after_taking (old ∷ olds) vs [] all ids named = absurd all
  named_after_taking (old ∷ olds) vs (new ∷ news) all ids named = elim all [
    | inl stays ↦ All-cons IsNamedColumn new news (subst IsNamedColumn (sym stays.1) (All-head IsNamedColumn old olds named))
        (named_after_taking olds vs news stays.2 ids (All-tail IsNamedColumn old olds named))
    | inr takes ↦
        let v = takes.0 in
        let rest = takes.1 in
        let said = subst (All HasObjectId) takes.2 ids in
        All-cons IsNamedColumn new news (takes_named old.operation v new.progress takes.3.takes (All-head HasObjectId v rest said))
        (named_after_taking olds rest news takes.4 (All-tail HasObjectId v rest said) (All-tail IsNamedColumn old olds named))
  ]

  named_after_end : (olds : List Column) (number : ℕ) (news : List Column) → EndsOne olds number news → All IsNamedColumn olds → All IsNamedColumn news
  named_after_end olds number news ends named =
      subst (λ (cs : List Column). All IsNamedColumn cs) (sym ends.news_are)
      (All-set IsNamedColumn olds number ends.new (subst IsNamed (sym ends.ended) tt) named)

  pub named_after : (old new : Dialogue) (answer : Pdu) (becomes : Answered) → IsAnswered Seen answer old new becomes → AllNamed old → AllNamed new
  named_after old new answer answered.Taken is named =
      named_after_taking old.columns.items (variables_of answer.list.now) new.columns.items is.2 (all_named answer.list.now) named
  named_after old new answer (answered.Unfit fault) is named = subst AllNamed (sym is.2) named
  named_after old new answer (answered.Ended number) is named = named_after_end old.columns.items number new.columns.items is.3 named
  named_after old new answer (answered.Failed failure) is named = subst AllNamed (sym is.3) named

  pub run_named : (told : List Variable) (steps : List Step) (first last : Dialogue) → AllNamed first → IsRun Seen told first steps last → AllNamed last
  run_named told [] first last named run = subst AllNamed (sym run) named
  run_named told (goes becomes ∷ steps) first last named run =
      run_named told steps run.0 last (named_after_going first.columns.items run.0.columns.items run.1.0 named) run.2
  run_named told (came answer becomes ∷ steps) first last named run =
      run_named told steps run.0 last (named_after first run.0 answer becomes run.1.0 named) run.2
