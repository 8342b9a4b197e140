-- What a Response to a GetBulkRequest holds of columns that have come so far.
use Rattle.std.specs.Prelude.{◌≡◌, ◌<◌, ◌≤◌, ◌+◌, ℕ, zero, suc, List, [], ◌∷◌, Contains, length, map, drop, take, slice_index_or}
use Rattle.std.proofs.Common.{ap, arith, inl, inr, refl, subst, sym, ◌∙◌}
use Rattle.std.proofs.lemmas.List.{take_all}
use Rattle.std.proofs.lemmas.List.Elements.{All-cons, All-head, All-nil, All-tail}
use Rattle.snmp_msg.specs.Variables.{Variable}
use Rattle.snmp_responder.specs.Bulk.{AreEnded, IsEnded}
use Rattle.snmp_responder.specs.Instrumentation.{Known}
use Rattle.snmp_responder.specs.Next.{AreNextAnswers, IsNext, IsNextAnswer}
use Rattle.snmp_walk.specs.BulkColumn.{IsAt, given_in, last_name, name_before, shown}
use Rattle.snmp_walk.specs.Front.{AreKnown, AreOverAt, IsCutRow, IsFront, IsOverAt, IsRowAt}
use Rattle.snmp_walk.specs.declared.column.Progress.{Progress}
use Rattle.snmp_walk.specs.declared.bulk_column.BulkColumn.{BulkColumn}
use Rattle.gateway_laws.specs.Bulk.{AreFirstAnswers, IsFrontOfBulk, IsFrontOfRepetitions}
use Rattle.gateway_laws.specs.BulkTracks.{AllBulkTrack, AreNexts, BulkColumnTracks}
use Rattle.gateway_laws.specs.Device.{IsDevice}
use Rattle.gateway_laws.specs.Tracks.{TracksWalk}

-- the names before a repetition, of each column
abbrev names_before : ℕ → List BulkColumn → List (List ℕ)
names_before k cs = map (λ (c : BulkColumn). name_before c k) cs

abbrev names_of : List Variable → List (List ℕ)
names_of vs = map (λ (v : Variable). v.name) vs

-- the name after one more variable
name_after : (first : List ℕ) (vs : List Variable) (k : ℕ) (d : Variable) → k < length vs → last_name first (take (suc k) vs) ≡ (slice_index_or vs k d).name
name_after first [] k d within = absurd (omega (arith, within))
name_after first (v ∷ vs) zero d within = refl
name_after first (v ∷ vs) (suc k) d within = name_after v.name vs k d (omega (arith, within))

-- past the end it is the last one
name_past : (first : List ℕ) (vs : List Variable) (k : ℕ) → length vs ≤ k → last_name first (take k vs) ≡ last_name first vs
name_past first vs k past = ap (last_name first) (take_all k vs past)

module _ (device : Known) (Seen : List ℕ → Type 0) where
  next_at : (first : List ℕ) (vs : List Variable) (k : ℕ) (d : Variable) → k < length vs → AreNexts device Seen first vs → IsNext device Seen (last_name first (take k vs)) (slice_index_or vs k d)
  next_at first [] k d within are = absurd (omega (arith, within))
  next_at first (v ∷ vs) zero d within are = are.0
  next_at first (v ∷ vs) (suc k) d within are = next_at v.name vs k d (omega (arith, within)) are.1

  -- what a column has in a repetition
  answer_at : (c : BulkColumn) (k : ℕ) (v : Variable) → BulkColumnTracks device Seen c → IsAt c k v → IsNextAnswer device Seen (name_before c k) v
  answer_at c k v t (inl (within, is)) = inl (subst (IsNext device Seen (name_before c k)) (sym (is v)) (next_at c.first (given_in c) k v within t.nexts))
  answer_at c k v t (inr (past, ended, end)) =
      let over = subst (λ (p : Progress). TracksWalk device Seen (shown c) p) ended t.walk in
      subst (λ (name : List ℕ). IsNextAnswer device Seen name v) (sym (name_past c.first (given_in c) k past)) (inr (over, end))

  name_then : (c : BulkColumn) (k : ℕ) (v : Variable) → IsAt c k v → v.name ≡ name_before c (suc k)
  name_then c k v (inl (within, is)) = ap (λ (w : Variable). w.name) (is v) ∙ sym (name_after c.first (given_in c) k v within)
  name_then c k v (inr (past, ended, end)) = end.named ∙ sym (name_past c.first (given_in c) (suc k) (omega (arith, past)))

  row_answers : (cs : List BulkColumn) (k : ℕ) (row : List Variable) → AllBulkTrack device Seen cs → IsRowAt cs k row → AreNextAnswers device Seen (names_before k cs) row
  row_answers [] k [] tracks row = tt
  row_answers [] k (v ∷ vs) tracks row = absurd row
  row_answers (c ∷ cs) k [] tracks row = absurd row
  row_answers (c ∷ cs) k (v ∷ vs) tracks row = (
    answer_at c k v (All-head (BulkColumnTracks device Seen) c cs tracks) row.0,
    row_answers cs k vs (All-tail (BulkColumnTracks device Seen) c cs tracks) row.1,
  )

  row_names : (cs : List BulkColumn) (k : ℕ) (row : List Variable) → IsRowAt cs k row → names_of row ≡ names_before (suc k) cs
  row_names [] k [] row = refl
  row_names [] k (v ∷ vs) row = absurd row
  row_names (c ∷ cs) k [] row = absurd row
  row_names (c ∷ cs) k (v ∷ vs) row = λ i. name_then c k v row.0 i ∷ row_names cs k vs row.1 i

  cut_answers : (cs : List BulkColumn) (k : ℕ) (vs : List Variable) → AllBulkTrack device Seen cs → IsCutRow cs k vs → AreFirstAnswers device Seen (names_before k cs) vs
  cut_answers [] k vs tracks cut = absurd cut
  cut_answers (c ∷ cs) k vs tracks (inl (unknown, none)) = subst (AreFirstAnswers device Seen (names_before k (c ∷ cs))) (sym none) tt
  cut_answers (c ∷ cs) k vs tracks (inr (v, rest, are, at, cut)) =
      subst (AreFirstAnswers device Seen (names_before k (c ∷ cs))) (sym are) (
        answer_at c k v (All-head (BulkColumnTracks device Seen) c cs tracks) at,
        cut_answers cs k rest (All-tail (BulkColumnTracks device Seen) c cs tracks) cut,
      )

  over_at : (c : BulkColumn) (k : ℕ) (v : Variable) → IsOverAt k c → IsAt c k v → IsEnded v
  over_at c k v over (inl (within, is)) = absurd (let past = over.behind in omega (arith, within, past))
  over_at c k v over (inr (past, ended, end)) = end.syntax_is

  row_over : (cs : List BulkColumn) (k : ℕ) (row : List Variable) → AreOverAt cs k → IsRowAt cs k row → AreEnded row
  row_over [] k [] over row = All-nil IsEnded
  row_over [] k (v ∷ vs) over row = absurd row
  row_over (c ∷ cs) k [] over row = absurd row
  row_over (c ∷ cs) k (v ∷ vs) over row = All-cons IsEnded v vs (over_at c k v (All-head (IsOverAt k) c cs over) row.0) (row_over cs k vs (All-tail (IsOverAt k) c cs over) row.1)

  module _ (is : IsDevice device) where
    ended_at : (c : BulkColumn) (k : ℕ) (v : Variable) → BulkColumnTracks device Seen c → IsEnded v → IsAt c k v → IsOverAt k c
    ended_at c k v t end (inl (within, same)) =
        let next = next_at c.first (given_in c) k v within t.nexts in
        absurd ((is.values v (subst (λ (w : Variable). Contains device.variables w) (sym (same v)) next.comes.there)).reply.not_end end)
    ended_at c k v t end (inr (past, ended, exception)) = record { behind = past; ended = ended }

    row_ended : (cs : List BulkColumn) (k : ℕ) (row : List Variable) → AllBulkTrack device Seen cs → AreEnded row → IsRowAt cs k row → AreOverAt cs k
    row_ended [] k [] tracks end row = All-nil (IsOverAt k)
    row_ended [] k (v ∷ vs) tracks end row = absurd row
    row_ended (c ∷ cs) k [] tracks end row = absurd row
    row_ended (c ∷ cs) k (v ∷ vs) tracks end row =
        All-cons (IsOverAt k) c cs (ended_at c k v (All-head (BulkColumnTracks device Seen) c cs tracks) (All-head IsEnded v vs end) row.0)
        (row_ended cs k vs (All-tail (BulkColumnTracks device Seen) c cs tracks) (All-tail IsEnded v vs end) row.1)

    known_front : (cs : List BulkColumn) (n k : ℕ) (vs : List Variable) → AllBulkTrack device Seen cs → AreKnown cs n k vs → IsFrontOfRepetitions device Seen n (names_before k cs) vs
    known_front cs zero k vs tracks known = known
    known_front cs (suc n) k vs tracks (inl cut) = inl (cut_answers cs k vs tracks cut)
    known_front cs (suc n) k vs tracks (inr (row, rest, are, is_row, inl (over, none))) =
        inr (row, rest, are, row_answers cs k row tracks is_row, inl (row_over cs k row over is_row, none))
    known_front cs (suc n) k vs tracks (inr (row, rest, are, is_row, inr (not_over, more))) =
        inr (
          row,
          rest,
          are,
          row_answers cs k row tracks is_row,
          inr (
            λ end. not_over (row_ended cs k row tracks end is_row),
            subst (λ (names : List (List ℕ)). IsFrontOfRepetitions device Seen n names rest) (sym (row_names cs k row is_row)) (known_front cs n (suc k) rest tracks (subst (λ (m : ℕ). AreKnown cs n m rest) one_more more)),
          ),
        )
      where
        one_more : k + 1 ≡ suc k
        one_more = omega arith

    all_take : (n : ℕ) (cs : List BulkColumn) → AllBulkTrack device Seen cs → AllBulkTrack device Seen (take n cs)
    all_take zero cs tracks = All-nil (BulkColumnTracks device Seen)
    all_take (suc n) [] tracks = tracks
    all_take (suc n) (c ∷ cs) tracks = All-cons (BulkColumnTracks device Seen) c (take n cs) (All-head (BulkColumnTracks device Seen) c cs tracks) (all_take n cs (All-tail (BulkColumnTracks device Seen) c cs tracks))

    all_drop : (n : ℕ) (cs : List BulkColumn) → AllBulkTrack device Seen cs → AllBulkTrack device Seen (drop n cs)
    all_drop zero cs tracks = tracks
    all_drop (suc n) [] tracks = tracks
    all_drop (suc n) (c ∷ cs) tracks = all_drop n cs (All-tail (BulkColumnTracks device Seen) c cs tracks)

    taken_names : (n : ℕ) (cs : List BulkColumn) → names_before 0 (take n cs) ≡ take n (map (λ (c : BulkColumn). c.first) cs)
    taken_names zero cs = refl
    taken_names (suc n) [] = refl
    taken_names (suc n) (c ∷ cs) = ap (λ (names : List (List ℕ)). c.first ∷ names) (taken_names n cs)

    dropped_names : (n : ℕ) (cs : List BulkColumn) → names_before 0 (drop n cs) ≡ drop n (map (λ (c : BulkColumn). c.first) cs)
    dropped_names zero [] = refl
    dropped_names zero (c ∷ cs) = ap (λ (names : List (List ℕ)). c.first ∷ names) (dropped_names zero cs)
    dropped_names (suc n) [] = refl
    dropped_names (suc n) (c ∷ cs) = dropped_names n cs

    pub front_of_bulk : (non_repeaters most : ℕ) (cs : List BulkColumn) (vs : List Variable) → AllBulkTrack device Seen cs → IsFront non_repeaters most cs vs
        → IsFrontOfBulk device Seen (map (λ (c : BulkColumn). c.first) cs) non_repeaters most vs
    front_of_bulk n most cs vs tracks (inl cut) =
        inl (subst (λ (names : List (List ℕ)). AreFirstAnswers device Seen names vs) (taken_names n cs) (cut_answers (take n cs) 0 vs (all_take n cs tracks) cut))
    front_of_bulk n most cs vs tracks (inr (single, rest, are, is_row, known)) = inr (
      single,
      rest,
      are,
      subst (λ (names : List (List ℕ)). AreNextAnswers device Seen names single) (taken_names n cs) (row_answers (take n cs) 0 single (all_take n cs tracks) is_row),
      subst (λ (names : List (List ℕ)). IsFrontOfRepetitions device Seen most names rest) (dropped_names n cs) (known_front (drop n cs) most 0 rest (all_drop n cs tracks) known),
    )
