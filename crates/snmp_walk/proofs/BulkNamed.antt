-- Names that a device is asked for a GetBulkRequest.
use Rattle.std.specs.Prelude.{⊤, ℕ, List, [], ◌∷◌, All, Option, Some, None, Result, Ok, Err, IfOk, OnErr, length, max, set, slice_index_or}
use Rattle.std.specs.List.{AllZip}
use Rattle.std.proofs.Common.{sym, subst, inl, inr, Bool}
use Rattle.std.proofs.lemmas.Bool.{cases_lt}
use Rattle.std.proofs.lemmas.List.Elements.{All-head, All-set, All-tail}
use Rattle.snmp_ber.specs.Oid.{IsObjectId}
use Rattle.snmp_msg.specs.Variables.{Variable, variables_of}
use Rattle.snmp_msg.specs.declared.pdu.Pdu.{Pdu}
use Rattle.snmp_walk.specs.BulkColumn.{given_in}
use Rattle.snmp_walk.specs.BulkSteps.{BulkGoesOn, BulkTakes, ColumnReads, ColumnWaits, IsBegun, IsSettled, SaysSame, Settles, Waits, turn_of}
use Rattle.snmp_walk.specs.BulkAnswer.{IsRead}
use Rattle.snmp_walk.specs.BulkAnswered.{DialogueSaysSame, EndsBulk, IsBulkAnswered, is_next, turns_of}
use Rattle.snmp_walk.specs.BulkAsk.{Chooses}
use Rattle.snmp_walk.specs.BulkDialogue.{BulkAllGoOn, IsBulkNext}
use Rattle.snmp_walk.specs.BulkRun.{BulkStep, IsBulkRun, came, goes}
use Rattle.snmp_walk.specs.ObjectIds.{BulkAllNamed, IsNamed}
use Rattle.snmp_walk.specs.Turns.{ReadsTurns}
use Rattle.snmp_walk.specs.declared.operation.ReadOperation.TheVariants.{GetNext}
use Rattle.snmp_walk.specs.declared.column.Progress.{Progress}
use Rattle.snmp_walk.specs.declared.column.Progress.TheVariants as progress
use Rattle.snmp_walk.specs.declared.bulk_column.BulkColumn.{BulkColumn}
use Rattle.snmp_walk.specs.declared.bulk_dialogue.BulkDialogue.{BulkDialogue}
use Rattle.snmp_walk.specs.declared.bulk_dialogue.BulkAnswered.{BulkAnswered}
use Rattle.snmp_walk.specs.declared.bulk_dialogue.BulkAnswered.TheVariants.{Taken, Unfit, Less, Ended, Failed}
use Rattle.snmp_walk.specs.declared.bulk_dialogue.BulkNext.{BulkNext}
use Rattle.snmp_walk.specs.declared.bulk_dialogue.BulkNext.TheVariants as next
use Rattle.snmp_walk.proofs.BulkGoing.{StaysWaits, chooses_each}
use Rattle.snmp_walk.proofs.Named.{goes_on_named}
use Rattle.snmp_walk.proofs.Names.{HasObjectId, all_named}
use Rattle.snmp_walk.proofs.Zipped.{zip_all}

abbrev pub IsNamedBulk : BulkColumn → Type 0
IsNamedBulk c = IsNamed c.progress

waits_named : (old new : Progress) → Waits old new → IsNamed old → IsNamed new
waits_named (progress.Asked ask) new w named = subst IsNamed (sym w) named.0
waits_named _ new w named = subst IsNamed (sym w) named

all_wait_named : (olds news : List BulkColumn) → AllZip ColumnWaits olds news → All IsNamedBulk olds → All IsNamedBulk news
all_wait_named olds news waits named =
    zip_all ColumnWaits IsNamedBulk IsNamedBulk (λ old new one is. waits_named old.progress new.progress one.waits is) olds news waits named

pub all_chosen_named : (non_repeaters fewest number room : ℕ) (olds news : List BulkColumn) → Chooses non_repeaters fewest number room olds news → All IsNamedBulk olds → All IsNamedBulk news
all_chosen_named non_repeaters fewest number room olds news chooses named =
    zip_all StaysWaits IsNamedBulk IsNamedBulk
    (λ old new one is. elim one [ inl stays ↦ subst IsNamedBulk (sym stays) is | inr waits ↦ waits_named old.progress new.progress waits.waits is ])
    olds news (chooses_each non_repeaters fewest number room olds news chooses) named

-- while an answer is read, the names are those of where it has come
abbrev IsTurnNamed : Option Progress → Type 0
IsTurnNamed (Some turn) = IsNamed turn
IsTurnNamed None = ⊤

abbrev IsReadNamed : BulkColumn → Type 0
IsReadNamed c = IsNamed c.progress × IsTurnNamed c.reading

turn_named : (p : Progress) → IsNamed p → IsTurnNamed (turn_of p)
turn_named (progress.Asked ask) named = named
turn_named _ named = tt

begun_named : (old new : BulkColumn) → IsBegun old new → IsNamedBulk old → IsReadNamed new
begun_named old new begun named =
    (subst IsNamed (sym begun.says_same.progress) named, subst IsTurnNamed (sym begun.turn) (turn_named old.progress named))

settled_named : (old new : BulkColumn) → IsSettled old new → IsReadNamed old → IsNamedBulk new
settled_named old new settled named = by old.reading settled.settles named.1
  where
    by : (r : Option Progress) → Settles r old.progress new.progress → IsTurnNamed r → IsNamedBulk new
    by (Some turn) settles is = waits_named turn new.progress settles is
    by None settles is = subst IsNamed (sym settles) named.0

module _ (Seen : List ℕ → Type 0) where
  bulk_takes_named : (given : List Variable) (v : Variable) (more : List Variable) (p : Progress) → BulkTakes Seen given v more p → IsObjectId v.name → IsNamed p
  bulk_takes_named given v more p takes named = elim takes [
    | inl ends ↦ subst IsNamed (sym ends.2) tt
    | inr value ↦ subst IsNamed (sym value.1.0) (named, named)
  ]

  reads_named : (old new : BulkColumn) (v : Variable) → ColumnReads Seen old v new → IsObjectId v.name → IsReadNamed old → IsReadNamed new
  reads_named old new v reads id named = (
    subst IsNamed (sym reads.grows.progress) named.0,
    subst IsTurnNamed (sym reads.after_is) (bulk_takes_named (given_in old) v (given_in new) reads.after reads.takes id),
  )

  turns_named : (cs : List BulkColumn) (ts : List ℕ) (vs : List Variable) (news : List BulkColumn) → ReadsTurns Seen cs ts vs news → All HasObjectId vs → All IsReadNamed cs → All IsReadNamed news
  turns_named cs [] [] news reads ids all = subst (All IsReadNamed) (sym reads) all
  turns_named cs [] (v ∷ vs) news reads ids all = absurd reads
  turns_named cs (t ∷ ts) [] news reads ids all = absurd reads
  turns_named cs (t ∷ ts) (v ∷ vs) news reads ids all =
      let new = reads.1 in
      let one = reads_named (slice_index_or cs t new) new v (reads.2 new) (All-head HasObjectId v vs ids) (all t new reads.0) in
      turns_named (set cs t new) ts vs news reads.3 (All-tail HasObjectId v vs ids) (All-set IsReadNamed cs t new one all)

  read_named : (whole : Bool) (olds : List BulkColumn) (ts : List ℕ) (vs : List Variable) (news : List BulkColumn) → IsRead Seen whole olds ts vs news → All HasObjectId vs → All IsNamedBulk olds → All IsNamedBulk news
  read_named whole olds ts vs news read ids all =
      zip_all IsSettled IsReadNamed IsNamedBulk settled_named read.ended news read.settles
      (turns_named read.begun read.reads.done vs read.ended read.reads.reads ids (zip_all IsBegun IsNamedBulk IsReadNamed begun_named olds read.begun read.begins all))

  one_goes_named : (old new : BulkColumn) → BulkGoesOn Seen old new → IsNamedBulk old → IsNamedBulk new
  one_goes_named old new one named = elim (cases_lt (length old.got.items) old.most) [
    | inl few ↦ goes_on_named Seen GetNext old.progress new.progress (one.goes_on few) named
    | inr all ↦ subst IsNamed (sym (one.has_all all)) named
  ]

  pub all_go_named : (olds news : List BulkColumn) → BulkAllGoOn Seen olds news → All IsNamedBulk olds → All IsNamedBulk news
  all_go_named olds news all named = zip_all (BulkGoesOn Seen) IsNamedBulk IsNamedBulk one_goes_named olds news all named

  pub next_named : (old new : BulkDialogue) (becomes : BulkNext) → IsBulkNext Seen old new becomes → BulkAllNamed old → BulkAllNamed new
  next_named old new (next.Asks ask) is named =
      all_chosen_named old.non_repeaters is.1.chosen.fewest 0 (max old.at_once 1) is.1.columns new.columns.items is.1.chosen.chooses
      (all_go_named old.columns.items is.1.columns is.1.goes_on named)
  next_named old new _ is named = all_go_named old.columns.items new.columns.items is.1 named

  same_named : (olds news : List BulkColumn) → AllZip SaysSame olds news → All IsNamedBulk olds → All IsNamedBulk news
  same_named olds news same named =
      zip_all SaysSame IsNamedBulk IsNamedBulk (λ old new one is. subst IsNamed (sym one.progress) is) olds news same named

  ends_named : (olds : List BulkColumn) (number : ℕ) (news : List BulkColumn) → EndsBulk olds number news → All IsNamedBulk olds → All IsNamedBulk news
  ends_named olds number news ends named =
      all_wait_named (set olds number ends.ended) news ends.waits (All-set IsNamedBulk olds number ends.ended (subst IsNamed (sym ends.is_ended) tt) named)

  pub answered_named : (answer : Pdu) (old new : BulkDialogue) (becomes : BulkAnswered) → IsBulkAnswered Seen answer old new becomes → BulkAllNamed old → BulkAllNamed new
  answered_named answer old new Taken is named =
      read_named (is_next old.ask) old.columns.items (turns_of old) (variables_of answer.list.now) new.columns.items is.2 (all_named answer.list.now) named
  answered_named answer old new (Unfit fault) is named = same_named old.columns.items new.columns.items is.3.columns named
  answered_named answer old new Less is named = all_wait_named old.columns.items new.columns.items is.1.waits named
  answered_named answer old new (Ended number) is named = ends_named old.columns.items number new.columns.items is.2 named
  answered_named answer old new (Failed column) is named = subst BulkAllNamed (sym is.4) named
  answered_named answer old new _ is named = subst BulkAllNamed (sym is.1.2) named

  pub result_named : {E : Type 0} (answer : Pdu) (old new : BulkDialogue) (r : Result BulkAnswered E) → IfOk r (λ becomes. IsBulkAnswered Seen answer old new becomes) → OnErr r (DialogueSaysSame old new) → BulkAllNamed old → BulkAllNamed new
  result_named answer old new (Ok becomes) is same named = answered_named answer old new becomes is named
  result_named answer old new (Err e) is same named = same_named old.columns.items new.columns.items same.columns named

  pub bulk_run_named : (told : List Variable) (steps : List BulkStep) (first last : BulkDialogue) → BulkAllNamed first → IsBulkRun Seen told first steps last → BulkAllNamed last
  bulk_run_named told [] first last named run = subst BulkAllNamed (sym run) named
  bulk_run_named told (goes becomes ∷ steps) first last named run = bulk_run_named told steps run.0 last (next_named first run.0 becomes run.1 named) run.2
  bulk_run_named told (came answer becomes ∷ steps) first last named run =
      bulk_run_named told steps run.0 last (answered_named answer first run.0 becomes run.1.0 named) run.2
