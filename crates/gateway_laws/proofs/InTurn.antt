-- What RFC 3416 says of a GetBulkRequest is true in turn: repetition by repetition, each column goes on from the name that it gave.
use Rattle.std.specs.Prelude.{◌≡◌, ◌≢◌, ◌<◌, ◌≤◌, ◌++◌, ⊤, ℕ, zero, suc, List, [], ◌∷◌, All, AllPairs, drop, length, map, set, slice_index_or, take}
use Rattle.std.proofs.Common.{ap, arith, inl, inr, refl, subst, sym, ◌∙◌}
use Rattle.std.proofs.lemmas.List.Elements.{All-cons, All-head, All-nil, All-tail}
use Rattle.std.proofs.lemmas.List.{get_or-set_other, get_or-set_same, get_or_default, length-set}
use Rattle.snmp_msg.specs.Variables.{Variable}
use Rattle.snmp_responder.specs.Bulk.{AreRepetitions, IsBulk}
use Rattle.snmp_responder.specs.Instrumentation.{Known}
use Rattle.snmp_responder.specs.Next.{AreNextAnswers, IsNextAnswer}
use Rattle.snmp_walk.specs.Turns.{repeated}
use Rattle.gateway_laws.specs.Bulk.{IsTrueInTurn}
use Rattle.gateway_laws.specs.Device.{AllSeen}

-- the name of a column
abbrev pub name_at : List (List ℕ) → ℕ → List ℕ
name_at names column = slice_index_or names column []

abbrev pub names_at : List (List ℕ) → List ℕ → List (List ℕ)
names_at names columns = map (λ (column : ℕ). name_at names column) columns

abbrev names_of : List Variable → List (List ℕ)
names_of vs = map (λ (v : Variable). v.name) vs

-- these columns, each of which has a name
abbrev pub AreWithin : List (List ℕ) → List ℕ → Type 0
AreWithin names columns = All (λ (column : ℕ). column < length names) columns

-- the column is none of them
abbrev pub IsOther : ℕ → List ℕ → Type 0
IsOther column columns = All (λ (other : ℕ). column ≢ other) columns

-- the names by column, after these columns gave these variables
abbrev pub gave : List (List ℕ) → List ℕ → List Variable → List (List ℕ)
gave names [] vs = names
gave names (column ∷ columns) [] = names
gave names (column ∷ columns) (v ∷ vs) = gave (set names column v.name) columns vs

within_set : (names : List (List ℕ)) (column : ℕ) (name : List ℕ) (columns : List ℕ) → AreWithin names columns → AreWithin (set names column name) columns
within_set names column name columns all k d below = subst (λ (n : ℕ). slice_index_or columns k d < n) (sym (length-set names column name)) (all k d below)

others_same : (names : List (List ℕ)) (column : ℕ) (name : List ℕ) (columns : List ℕ) → IsOther column columns → names_at (set names column name) columns ≡ names_at names columns
others_same names column name [] other = refl
others_same names column name (c ∷ cs) other =
    let first = All-head (λ (o : ℕ). column ≢ o) c cs other in
    λ i. get_or-set_other names column c name [] (λ same. first (sym same)) i ∷ others_same names column name cs (All-tail (λ (o : ℕ). column ≢ o) c cs other) i

-- columns of different numbers
abbrev pub Differ : List ℕ → Type 0
Differ [] = ⊤
Differ (column ∷ columns) = IsOther column columns × Differ columns

-- each of the columns is none of the others
abbrev AreOthers : List ℕ → List ℕ → Type 0
AreOthers [] others = ⊤
AreOthers (column ∷ columns) others = IsOther column others × AreOthers columns others

differ_split : (single again : List ℕ) → Differ (single ++ again) → Differ single × AreOthers single again × Differ again
differ_split [] again differ = (tt, tt, differ)
differ_split (c ∷ cs) again differ =
    let rest = differ_split cs again differ.1 in
    let parts = other_split c cs again differ.0 in
    ((parts.0, rest.0), (parts.1, rest.1), rest.2)
  where
    other_split : (c : ℕ) (xs ys : List ℕ) → IsOther c (xs ++ ys) → IsOther c xs × IsOther c ys
    other_split c [] ys all = (All-nil (λ (o : ℕ). c ≢ o), all)
    other_split c (x ∷ xs) ys all =
        let rest = other_split c xs ys (All-tail (λ (o : ℕ). c ≢ o) x (xs ++ ys) all) in
        (All-cons (λ (o : ℕ). c ≢ o) x xs (All-head (λ (o : ℕ). c ≢ o) x (xs ++ ys) all) rest.0, rest.1)

differ_all : (columns : List ℕ) → AllPairs (λ (a b : ℕ). a ≢ b) columns → Differ columns
differ_all [] pairs = tt
differ_all (c ∷ cs) pairs = (
  λ k d below. pairs 0 (suc k) d (omega arith) (omega (arith, below)),
  differ_all cs (λ i j d before below. pairs (suc i) (suc j) d (omega (arith, before)) (omega (arith, below))),
)

within_gave : (names : List (List ℕ)) (ts : List ℕ) (row : List Variable) (columns : List ℕ) → AreWithin names columns → AreWithin (gave names ts row) columns
within_gave names [] row columns all = all
within_gave names (t ∷ ts) [] columns all = all
within_gave names (t ∷ ts) (v ∷ vs) columns all = within_gave (set names t v.name) ts vs columns (within_set names t v.name columns all)

gave_others : (names : List (List ℕ)) (ts : List ℕ) (row : List Variable) (columns : List ℕ) → AreOthers ts columns → names_at (gave names ts row) columns ≡ names_at names columns
gave_others names [] row columns others = refl
gave_others names (t ∷ ts) [] columns others = refl
gave_others names (t ∷ ts) (v ∷ vs) columns others = gave_others (set names t v.name) ts vs columns others.1 ∙ others_same names t v.name columns others.0

gave_other : (names : List (List ℕ)) (ts : List ℕ) (row : List Variable) (c : ℕ) → IsOther c ts → name_at (gave names ts row) c ≡ name_at names c
gave_other names [] row c other = refl
gave_other names (t ∷ ts) [] c other = refl
gave_other names (t ∷ ts) (v ∷ vs) c other =
    gave_other (set names t v.name) ts vs c (All-tail (λ (o : ℕ). c ≢ o) t ts other) ∙ get_or-set_other names t c v.name [] (All-head (λ (o : ℕ). c ≢ o) t ts other)

front_true : (device : Known) (names : List (List ℕ)) (ts : List ℕ) (vs rest : List Variable) → IsTrueInTurn device names ts (vs ++ rest) → IsTrueInTurn device names ts vs
front_true device names ts [] rest is = tt
front_true device names [] (v ∷ vs) rest is = tt
front_true device names (t ∷ ts) (v ∷ vs) rest is = (is.0, front_true device (set names t v.name) ts vs rest is.1)

module _ (device : Known) where
  gave_at : (names : List (List ℕ)) (ts : List ℕ) (row : List Variable) (asked : List (List ℕ)) → length asked ≡ length ts → AreWithin names ts → Differ ts → AreNextAnswers device AllSeen asked row → names_at (gave names ts row) ts ≡ names_of row
  gave_at names [] [] asked long within differ answers = refl
  gave_at names [] (v ∷ vs) [] long within differ answers = absurd answers
  gave_at names [] (v ∷ vs) (a ∷ asked) long within differ answers = absurd (omega (arith, long))
  gave_at names (t ∷ ts) [] [] long within differ answers = absurd (omega (arith, long))
  gave_at names (t ∷ ts) [] (a ∷ asked) long within differ answers = absurd answers
  gave_at names (t ∷ ts) (v ∷ vs) [] long within differ answers = absurd answers
  gave_at names (t ∷ ts) (v ∷ vs) (a ∷ asked) long within differ answers =
      let now = set names t v.name in
      let here = gave_other now ts vs t differ.0 ∙ get_or-set_same names t v.name [] (All-head (λ (c : ℕ). c < length names) t ts within) in
      let rest = gave_at now ts vs asked (omega (arith, long)) (within_set names t v.name ts (All-tail (λ (c : ℕ). c < length names) t ts within)) differ.1 answers.1 in
      λ i. here i ∷ rest i

  pub row_true : (names : List (List ℕ)) (ts more : List ℕ) (row rest : List Variable) → AreWithin names ts → Differ ts → AreNextAnswers device AllSeen (names_at names ts) row → IsTrueInTurn device (gave names ts row) more rest
      → IsTrueInTurn device names (ts ++ more) (row ++ rest)
  row_true names [] more [] rest within differ answers later = later
  row_true names [] more (v ∷ vs) rest within differ answers later = absurd answers
  row_true names (t ∷ ts) more [] rest within differ answers later = absurd answers
  row_true names (t ∷ ts) more (v ∷ vs) rest within differ answers later =
      let inside = All-head (λ (c : ℕ). c < length names) t ts within in
      let now = set names t v.name in (
        λ d. subst (λ (name : List ℕ). IsNextAnswer device AllSeen name v) (get_or_default names t [] d inside) answers.0,
        row_true now ts more vs rest (within_set names t v.name ts (All-tail (λ (c : ℕ). c < length names) t ts within)) differ.1
            (subst (λ (asked : List (List ℕ)). AreNextAnswers device AllSeen asked vs) (sym (others_same names t v.name ts differ.0)) answers.1) later,
      )

  names_long : (names : List (List ℕ)) (columns : List ℕ) → length (names_at names columns) ≡ length columns
  names_long names [] = refl
  names_long names (c ∷ cs) = ap suc (names_long names cs)

  -- so many repetitions, of as many that were asked or more
  repetitions_true : (n most : ℕ) (names : List (List ℕ)) (again : List ℕ) (vs : List Variable) → n ≤ most → AreWithin names again → Differ again → AreRepetitions device AllSeen n (names_at names again) vs
      → IsTrueInTurn device names (repeated most again) vs
  repetitions_true zero most names again vs few within differ none = subst (IsTrueInTurn device names (repeated most again)) (sym none) tt
  repetitions_true (suc n) zero names again vs few within differ all = absurd (omega (arith, few))
  repetitions_true (suc n) (suc most) names again vs few within differ (row, rest, is, answers, more) =
      subst (IsTrueInTurn device names (again ++ repeated most again)) (sym is) (row_true names again (repeated most again) row rest within differ answers (elim more [
        | inl over ↦ subst (IsTrueInTurn device (gave names again row) (repeated most again)) (sym over.1) tt
        | inr further ↦ repetitions_true n most (gave names again row) again rest (omega (arith, few)) (within_gave names again row again within) differ
            (subst (λ (asked : List (List ℕ)). AreRepetitions device AllSeen n asked rest) (sym (gave_at names again row (names_at names again) (names_long names again) within differ answers)) further.1)
      ]))

  take_names : (names : List (List ℕ)) (single again : List ℕ) → take (length single) (names_at names (single ++ again)) ≡ names_at names single
  take_names names [] again = refl
  take_names names (c ∷ cs) again = ap (λ (xs : List (List ℕ)). name_at names c ∷ xs) (take_names names cs again)

  drop_names : (names : List (List ℕ)) (single again : List ℕ) → drop (length single) (names_at names (single ++ again)) ≡ names_at names again
  drop_names names [] again = drop_none (names_at names again)
    where
      drop_none : (xs : List (List ℕ)) → drop 0 xs ≡ xs
      drop_none [] = refl
      drop_none (x ∷ xs) = refl
  drop_names names (c ∷ cs) again = drop_names names cs again

  within_split : (names : List (List ℕ)) (single again : List ℕ) → AreWithin names (single ++ again) → AreWithin names single × AreWithin names again
  within_split names [] again all = (All-nil (λ (c : ℕ). c < length names), all)
  within_split names (c ∷ cs) again all =
      let rest = within_split names cs again (All-tail (λ (x : ℕ). x < length names) c (cs ++ again) all) in
      (All-cons (λ (x : ℕ). x < length names) c cs (All-head (λ (x : ℕ). x < length names) c (cs ++ again) all) rest.0, rest.1)

  pub bulk_in_turn : (names : List (List ℕ)) (single again : List ℕ) (n most : ℕ) (whole vs rest : List Variable) → n ≤ most → AreWithin names (single ++ again) → Differ (single ++ again)
      → IsBulk device AllSeen (map (λ (column : ℕ). slice_index_or names column []) (single ++ again)) (length single) n whole → whole ≡ vs ++ rest → IsTrueInTurn device names (single ++ repeated most again) vs
  bulk_in_turn names single again n most whole vs rest few within differs bulk is =
      let inside = within_split names single again within in
      let differ = differ_split single again differs in
      let answers = subst (λ (asked : List (List ℕ)). AreNextAnswers device AllSeen asked bulk.single) (take_names names single again) bulk.are_single in
      let repetitions = subst (λ (asked : List (List ℕ)). AreRepetitions device AllSeen n asked bulk.repeated) (drop_names names single again ∙ sym (gave_others names single bulk.single again differ.1)) bulk.are_repeated in
      let later = repetitions_true n most (gave names single bulk.single) again bulk.repeated few (within_gave names single bulk.single again inside.1) differ.2 repetitions in
      front_true device names (single ++ repeated most again) vs rest
      (subst (IsTrueInTurn device names (single ++ repeated most again)) (sym bulk.joined ∙ is) (row_true names single (repeated most again) bulk.single bulk.repeated inside.0 differ.0 answers later))

  pub bulk_true : (names : List (List ℕ)) (single again : List ℕ) (most : ℕ) (whole vs rest : List Variable) → AreWithin names (single ++ again) → AllPairs (λ (a b : ℕ). a ≢ b) (single ++ again)
      → IsBulk device AllSeen (map (λ (column : ℕ). slice_index_or names column []) (single ++ again)) (length single) most whole → whole ≡ vs ++ rest → IsTrueInTurn device names (single ++ repeated most again) vs
  bulk_true names single again most whole vs rest within pairs bulk is = bulk_in_turn names single again most most whole vs rest (omega arith) within (differ_all (single ++ again) pairs) bulk is
