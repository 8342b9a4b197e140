-- The columns of a GetBulkRequest, while answers are read.
use Rattle.std.specs.Prelude.{◌≡◌, ◌<◌, ◌++◌, Bool, ℕ, zero, suc, List, [], ◌∷◌, length, set}
use Rattle.std.specs.List.{AllZip, HoldsAt}
use Rattle.std.proofs.Common.{arith, subst, sym}
use Rattle.std.proofs.lemmas.List.Elements.{All-cons, All-head, All-nil, All-tail}
use Rattle.snmp_msg.specs.Variables.{Variable}
use Rattle.snmp_responder.specs.Instrumentation.{Known}
use Rattle.snmp_responder.specs.Next.{IsNextAnswer}
use Rattle.snmp_walk.specs.BulkAnswer.{IsRead}
use Rattle.snmp_walk.specs.BulkSteps.{ColumnReads, IsBegun, IsSettled}
use Rattle.snmp_walk.specs.Column.{Asks}
use Rattle.snmp_walk.specs.Turns.{ReadsTurns}
use Rattle.snmp_walk.specs.declared.column.Progress.{Progress}
use Rattle.snmp_walk.specs.declared.column.Progress.TheVariants.{Asked}
use Rattle.snmp_walk.specs.declared.bulk_column.BulkColumn.{BulkColumn}
use Rattle.gateway_laws.specs.Bulk.{AreNamesAsked, IsTrueInTurn}
use Rattle.gateway_laws.specs.BulkTracks.{AllBulkTrack, BulkColumnTracks}
use Rattle.gateway_laws.specs.Device.{AllSeen, IsDevice}
use Rattle.gateway_laws.proofs.BulkTracks.{TracksReading, begun_reading, one_read, settled_tracks}

-- the name that was asked for a column, or none
abbrev name_in : Progress → List ℕ
name_in (Asked ask) = ask.name
name_in _ = []

is_name_in : (p : Progress) (asked : List ℕ) → Asks p asked → name_in p ≡ asked
is_name_in (Asked ask) asked asks = asks
is_name_in _ asked asks = absurd asks

abbrev pub names_in : List BulkColumn → List (List ℕ)
names_in [] = []
names_in (c ∷ cs) = name_in c.progress ∷ names_in cs

pub are_names_in : (cs : List BulkColumn) → AreNamesAsked cs (names_in cs)
are_names_in [] = tt
are_names_in (c ∷ cs) = (is_name_in c.progress, are_names_in cs)

-- the turns of the front
true_front : (device : Known) (names : List (List ℕ)) (done left : List ℕ) (vs : List Variable) → IsTrueInTurn device names (done ++ left) vs → IsTrueInTurn device names done vs
true_front device names done left [] is = tt
true_front device names [] left (v ∷ vs) is = tt
true_front device names (column ∷ done) left (v ∷ vs) is = (is.0, true_front device (set names column v.name) done left vs is.1)

module _ (device : Known) (Seen : List ℕ → Type 0) where
  abbrev pub AllReading : List BulkColumn → List (List ℕ) → Type 0
  AllReading cs names = AllZip (TracksReading device Seen) cs names

  all_begun : (olds news : List BulkColumn) (names : List (List ℕ)) → AllZip IsBegun olds news → AreNamesAsked olds names → AllBulkTrack device Seen olds → AllReading news names
  all_begun [] [] [] begun asked tracks = tt
  all_begun [] [] (name ∷ names) begun asked tracks = absurd asked
  all_begun [] (new ∷ news) names begun asked tracks = absurd begun
  all_begun (old ∷ olds) [] names begun asked tracks = absurd begun
  all_begun (old ∷ olds) (new ∷ news) [] begun asked tracks = absurd asked
  all_begun (old ∷ olds) (new ∷ news) (name ∷ names) begun asked tracks = (
    begun_reading device Seen old new name begun.0 asked.0 (All-head (BulkColumnTracks device Seen) old olds tracks),
    all_begun olds news names begun.1 asked.1 (All-tail (BulkColumnTracks device Seen) old olds tracks),
  )

  all_settled : (olds news : List BulkColumn) (names : List (List ℕ)) → AllZip IsSettled olds news → AllReading olds names → AllBulkTrack device Seen news
  all_settled [] [] names settled reading = All-nil (BulkColumnTracks device Seen)
  all_settled [] (new ∷ news) names settled reading = absurd settled
  all_settled (old ∷ olds) [] names settled reading = absurd settled
  all_settled (old ∷ olds) (new ∷ news) [] settled reading = absurd reading
  all_settled (old ∷ olds) (new ∷ news) (name ∷ names) settled reading =
      All-cons (BulkColumnTracks device Seen) new news (settled_tracks device Seen old new name settled.0 reading.0) (all_settled olds news names settled.1 reading.1)

  module _ (is : IsDevice device) where
    -- the column of this number reads a variable
    read_at : (cs : List BulkColumn) (names : List (List ℕ)) (turn : ℕ) (v : Variable) (new : BulkColumn) → turn < length cs → HoldsAt (λ (c : BulkColumn). ColumnReads Seen c v new) cs turn
        → HoldsAt (λ (name : List ℕ). IsNextAnswer device AllSeen name v) names turn → AllReading cs names → AllReading (set cs turn new) (set names turn v.name)
    read_at [] names turn v new within reads answer all = absurd (omega (arith, within))
    read_at (c ∷ cs) [] turn v new within reads answer all = absurd all
    read_at (c ∷ cs) (name ∷ names) zero v new within reads answer all = (one_read device Seen is c new name v (reads c) (answer name) all.0, all.1)
    read_at (c ∷ cs) (name ∷ names) (suc turn) v new within reads answer all = (all.0, read_at cs names turn v new (omega (arith, within)) reads answer all.1)

    reads_turns : (cs : List BulkColumn) (names : List (List ℕ)) (ts : List ℕ) (vs : List Variable) (news : List BulkColumn) → ReadsTurns Seen cs ts vs news → IsTrueInTurn device names ts vs → AllReading cs names
        → (after : List (List ℕ)) × AllReading news after
    reads_turns cs names [] [] news reads truly all = (names, subst (λ (columns : List BulkColumn). AllReading columns names) (sym reads) all)
    reads_turns cs names [] (v ∷ vs) news reads truly all = absurd reads
    reads_turns cs names (turn ∷ ts) [] news reads truly all = absurd reads
    reads_turns cs names (turn ∷ ts) (v ∷ vs) news reads truly all =
        reads_turns (set cs turn reads.1) (set names turn v.name) ts vs news reads.3 truly.1 (read_at cs names turn v reads.1 reads.0 reads.2 truly.0 all)

    pub read_tracks : (whole : Bool) (olds : List BulkColumn) (ts : List ℕ) (vs : List Variable) (news : List BulkColumn) → IsRead Seen whole olds ts vs news
        → ((names : List (List ℕ)) → AreNamesAsked olds names → IsTrueInTurn device names ts vs) → AllBulkTrack device Seen olds → AllBulkTrack device Seen news
    read_tracks whole olds ts vs news r truly tracks =
        let names = names_in olds in
        let begun = all_begun olds r.begun names r.begins (are_names_in olds) tracks in
        let front = true_front device names r.reads.done r.left vs (subst (λ (turns : List ℕ). IsTrueInTurn device names turns vs) r.reads.joined (truly names (are_names_in olds))) in
        let ended = reads_turns r.begun names r.reads.done vs r.ended r.reads.reads front begun in
        all_settled r.ended news ended.0 r.settles ended.1
