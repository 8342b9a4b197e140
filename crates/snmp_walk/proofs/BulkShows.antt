-- What the front shows.
use Rattle.std.specs.Prelude.{◌+◌, ℕ, zero, suc, List, [], ◌∷◌, All, Contains, drop, take}
use Rattle.std.proofs.Common.{sym, subst, inl, inr}
use Rattle.std.proofs.lemmas.List.Elements.{All-append, All-cons, All-contains_itself, All-drop, All-head, All-nil, All-tail, All-take}
use Rattle.snmp_msg.specs.Variables.{Variable}
use Rattle.snmp_walk.specs.BulkColumn.{BulkStands, IsAt}
use Rattle.snmp_walk.specs.Front.{AreKnown, IsCutRow, IsFront, IsRowAt, IsShownOf}
use Rattle.snmp_walk.specs.declared.bulk_column.BulkColumn.{BulkColumn}
use Rattle.snmp_walk.proofs.Bulk.{at_shows}

module _ (Seen : List ℕ → Type 0) (told : List Variable) (all : List BulkColumn) where
  -- a column of the dialogue
  abbrev IsOne : BulkColumn → Type 0
  IsOne c = Contains all c × BulkStands Seen told c

  one_shows : (c : BulkColumn) (k : ℕ) (v : Variable) → IsOne c → IsAt c k v → IsShownOf Seen told all v
  one_shows c k v one at = record { column = c; there = one.0; repetition = k; is_at = at; shows = at_shows Seen told c k v one.1 at }

  row_shows : (cs : List BulkColumn) (k : ℕ) (row : List Variable) → All IsOne cs → IsRowAt cs k row → All (IsShownOf Seen told all) row
  row_shows [] k [] ones is = All-nil (IsShownOf Seen told all)
  row_shows [] k (v ∷ row) ones is = absurd is
  row_shows (c ∷ cs) k [] ones is = absurd is
  row_shows (c ∷ cs) k (v ∷ row) ones is =
      All-cons (IsShownOf Seen told all) v row (one_shows c k v (All-head IsOne c cs ones) is.0) (row_shows cs k row (All-tail IsOne c cs ones) is.1)

  cut_shows : (cs : List BulkColumn) (k : ℕ) (row : List Variable) → All IsOne cs → IsCutRow cs k row → All (IsShownOf Seen told all) row
  cut_shows [] k row ones cut = absurd cut
  cut_shows (c ∷ cs) k row ones cut = elim cut [
    | inl none ↦ subst (All (IsShownOf Seen told all)) (sym none.1) (All-nil (IsShownOf Seen told all))
    | inr some ↦ subst (All (IsShownOf Seen told all)) (sym some.2)
        (All-cons (IsShownOf Seen told all) some.0 some.1 (one_shows c k some.0 (All-head IsOne c cs ones) some.3) (cut_shows cs k some.1 (All-tail IsOne c cs ones) some.4))
  ]

  known_shows : (cs : List BulkColumn) (n k : ℕ) (vs : List Variable) → All IsOne cs → AreKnown cs n k vs → All (IsShownOf Seen told all) vs
  known_shows cs zero k vs ones known = subst (All (IsShownOf Seen told all)) (sym known) (All-nil (IsShownOf Seen told all))
  known_shows cs (suc n) k vs ones known = elim known [
    | inl cut ↦ cut_shows cs k vs ones cut
    | inr whole ↦
        let row = whole.0 in
        let rest = whole.1 in
        subst (All (IsShownOf Seen told all)) (sym whole.2) (All-append (IsShownOf Seen told all) row rest (row_shows cs k row ones whole.3) (elim whole.4 [
          | inl over ↦ subst (All (IsShownOf Seen told all)) (sym over.1) (All-nil (IsShownOf Seen told all))
          | inr more ↦ known_shows cs n (k + 1) rest ones more.1
        ]))
  ]

  pub front_shows : (non_repeaters most : ℕ) (vs : List Variable) → All (BulkStands Seen told) all → IsFront non_repeaters most all vs → All (IsShownOf Seen told all) vs
  front_shows non_repeaters most vs stand front =
      let ones : All IsOne all = λ k d below. (All-contains_itself all k d below, stand k d below) in
      let first : All IsOne (take non_repeaters all) = All-take IsOne non_repeaters all ones in
      let rest : All IsOne (drop non_repeaters all) = All-drop IsOne non_repeaters all ones in
      elim front [
        | inl cut ↦ cut_shows (take non_repeaters all) 0 vs first cut
        | inr whole ↦ subst (All (IsShownOf Seen told all)) (sym whole.2)
            (All-append (IsShownOf Seen told all) whole.0 whole.1 (row_shows (take non_repeaters all) 0 whole.0 first whole.3) (known_shows (drop non_repeaters all) most 0 whole.1 rest whole.4))
      ]
