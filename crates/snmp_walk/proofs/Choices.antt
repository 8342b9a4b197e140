-- Which columns are asked.
use Rattle.std.specs.Prelude.{◌≡◌, ◌⊎◌, ◌<◌, ◌≤◌, ◌+◌, ℕ, List, [], ◌∷◌, ◌++◌, length, drop, set, slice_index_or, Bool, IsTrue, ◌↔◌, Option, Some, None, MatchOption}
use Rattle.std.specs.List.{HoldsAt}
use Rattle.std.proofs.Common.{sym, ap, subst, ◌∙◌, inl, inr, arith, append_assoc}
use Rattle.std.proofs.lemmas.List.{drop_more, length-append, length-drop, length_push, set_at}
use Rattle.std.proofs.lemmas.Bool.{cases_lt}
use Rattle.snmp_walk.specs.Column.{IsAsked}
use Rattle.snmp_walk.specs.BulkAsk.{Chooses, IsDue, StaysOrWaits}
use Rattle.snmp_walk.specs.declared.bulk_column.BulkColumn.{BulkColumn}
use Rattle.snmp_walk.proofs.BulkReads.{at_any}
use Rattle.snmp_walk.proofs.Changed.{left_at}

-- of the first columns
pub record FewestUpto (cs : List BulkColumn) (n fewest : ℕ) : Type 0 where
  pub number : ℕ
  pub within : number < n
  pub asked : HoldsAt (λ (c : BulkColumn). IsAsked c.progress) cs number
  pub has : HoldsAt (λ (c : BulkColumn). length c.got.items ≡ fewest) cs number
  pub least : (k : ℕ) (d : BulkColumn) → k < n → IsAsked (slice_index_or cs k d).progress → fewest ≤ length (slice_index_or cs k d).got.items

-- the first columns were chosen
pub record ChosenUpto (non_repeaters fewest room : ℕ) (olds : List BulkColumn) (i left : ℕ) (now : List BulkColumn) : Type 0 where
  pub done : List BulkColumn
  pub long : length done ≡ i
  pub are : now ≡ done ++ drop i olds
  pub on : (rest : List BulkColumn) → Chooses non_repeaters fewest i left (drop i olds) rest → Chooses non_repeaters fewest 0 room olds (done ++ rest)

pub chosen_within : (non_repeaters fewest room : ℕ) (olds : List BulkColumn) (i left : ℕ) (now : List BulkColumn) → i < length olds → ChosenUpto non_repeaters fewest room olds i left now → i < length now
chosen_within non_repeaters fewest room olds i left now within upto =
    omega (arith, within, upto.long, ap length upto.are ∙ length-append upto.done (drop i olds), length-drop i olds)

pub one_chosen : (non_repeaters fewest room : ℕ) (olds : List BulkColumn) (i left : ℕ) (now : List BulkColumn) (d new : BulkColumn) (due : Bool) (after : ℕ) → i < length now → ChosenUpto non_repeaters fewest room olds i left now
    → (IsTrue due ↔ IsDue non_repeaters fewest i (slice_index_or now i d)) → StaysOrWaits due left (slice_index_or now i d) new after → ChosenUpto non_repeaters fewest room olds (i + 1) after (set now i new)
one_chosen non_repeaters fewest room olds i left now d new due after within upto is_due step =
    let done = upto.done in
    let c = slice_index_or now i d in
    let rest = drop (i + 1) olds in
    let at = left_at olds done now i d within upto.long upto.are in
    let split : drop i olds ≡ c ∷ rest = drop_more olds i d at.0 ∙ ap (λ (x : BulkColumn). x ∷ rest) (sym at.2) in
    record {
      done = done ++ new ∷ [];
      long = length_push done new ∙ ap (λ n. n + 1) upto.long;
      are = ap (λ (cs : List BulkColumn). set cs i new) at.1 ∙ set_at done c rest new i upto.long ∙ sym (append_assoc done (new ∷ []) rest);
      on = λ news chooses. subst (λ (cs : List BulkColumn). Chooses non_repeaters fewest 0 room olds cs) (sym (append_assoc done (new ∷ []) news))
          (upto.on (new ∷ news) (subst (λ (cs : List BulkColumn). Chooses non_repeaters fewest i left cs (new ∷ news)) (sym split) (elim step [
            | inl stays ↦ inl (is_due.0 stays.0, stays.1, stays.2, subst (λ k. Chooses non_repeaters fewest (i + 1) k rest news) stays.3 chooses)
            | inr waits ↦ inr (λ both. waits.0 (is_due.1 both.0, both.1), waits.1, subst (λ k. Chooses non_repeaters fewest (i + 1) k rest news) waits.2 chooses)
          ])));
    }

-- how one more count is the fewest
abbrev pub IsLesser : Option ℕ → ℕ → ℕ → Type 0
IsLesser before count fewest = MatchOption before (fewest ≡ count) (λ few. (fewest ≤ few) × (fewest ≤ count) × ((fewest ≡ few) ⊎ (fewest ≡ count)))

-- the fewest of the first columns, if one of them was asked
abbrev pub FewestSoFar : List BulkColumn → ℕ → Option ℕ → Type 0
FewestSoFar cs n found = MatchOption found ((k : ℕ) (d : BulkColumn) → k < n → ¬ IsAsked (slice_index_or cs k d).progress) (FewestUpto cs n)

-- a number below the next one
below_next : (k n : ℕ) → k < n + 1 → (k < n) ⊎ (k ≡ n)
below_next k n below = elim (cases_lt k n) [
  | inl less ↦ inl less
  | inr from ↦ inr (omega (arith, from, below))
]

itself : (cs : List BulkColumn) (i fewest : ℕ) (c : BulkColumn) → i < length cs → IsAsked (slice_index_or cs i c).progress → fewest ≡ length (slice_index_or cs i c).got.items
    → ((k : ℕ) (d : BulkColumn) → k < i → IsAsked (slice_index_or cs k d).progress → fewest ≤ length (slice_index_or cs k d).got.items) → FewestUpto cs (i + 1) fewest
itself cs i fewest c within asked is least = record {
  number = i;
  within = omega arith;
  asked = λ d. subst (λ (x : BulkColumn). IsAsked x.progress) (at_any cs i c d within) asked;
  has = λ d. sym (is ∙ ap (λ (x : BulkColumn). length x.got.items) (at_any cs i c d within));
  least = λ k d below asked_too. elim (below_next k i below) [
    | inl less ↦ least k d less asked_too
    | inr same ↦ omega (arith, is, ap (λ (x : BulkColumn). length x.got.items) (at_any cs i c d within), ap (λ n. length (slice_index_or cs n d).got.items) same)
  ];
}

pub fewest_more : (cs : List BulkColumn) (i : ℕ) (found : Option ℕ) (c : BulkColumn) (fewest : ℕ) → i < length cs → FewestSoFar cs i found → IsAsked (slice_index_or cs i c).progress
    → IsLesser found (length (slice_index_or cs i c).got.items) fewest → FewestUpto cs (i + 1) fewest
fewest_more cs i None c fewest within so_far asked lesser = itself cs i fewest c within asked lesser (λ k d below asked_too. absurd (so_far k d below asked_too))
fewest_more cs i (Some few) c fewest within so_far asked lesser = elim lesser.2 [
  | inr count ↦ itself cs i fewest c within asked count (λ k d below asked_too. omega (arith, lesser.0, so_far.least k d below asked_too))
  | inl same ↦ record {
    number = so_far.number;
    within = omega (arith, so_far.within);
    asked = so_far.asked;
    has = λ d. so_far.has d ∙ sym same;
    least = λ k d below asked_too. elim (below_next k i below) [
      | inl less ↦ omega (arith, lesser.0, so_far.least k d less asked_too)
      | inr is ↦ omega (arith, lesser.1, ap (λ (x : BulkColumn). length x.got.items) (at_any cs i c d within), ap (λ n. length (slice_index_or cs n d).got.items) is)
    ];
  }
]

pub fewest_stays : (cs : List BulkColumn) (i : ℕ) (found : Option ℕ) (c : BulkColumn) → i < length cs → FewestSoFar cs i found → ¬ IsAsked (slice_index_or cs i c).progress → FewestSoFar cs (i + 1) found
fewest_stays cs i None c within so_far not = λ k d below asked. elim (below_next k i below) [
  | inl less ↦ so_far k d less asked
  | inr same ↦ not (subst (λ (x : BulkColumn). IsAsked x.progress) (at_any cs i d c within) (subst (λ n. IsAsked (slice_index_or cs n d).progress) same asked))
]
fewest_stays cs i (Some few) c within so_far not = record {
  number = so_far.number;
  within = omega (arith, so_far.within);
  asked = so_far.asked;
  has = so_far.has;
  least = λ k d below asked. elim (below_next k i below) [
    | inl less ↦ so_far.least k d less asked
    | inr same ↦ absurd (not (subst (λ (x : BulkColumn). IsAsked x.progress) (at_any cs i d c within) (subst (λ n. IsAsked (slice_index_or cs n d).progress) same asked)))
  ];
}
