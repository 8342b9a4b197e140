-- A row is read pair by pair.
use Rattle.std.proofs.Common.{◌≡◌, ℕ, zero, suc, ◌+◌, ◌<◌, ◌≤◌, ◌==◌, if◌then◌else◌, Bool, true, false, List, [], ◌∷◌, ◌++◌, length, drop, Option, Some, None, sym, ap, ◌∙◌, subst, refl, arith, inl, inr, length-append}
use Rattle.std.specs.List.{list_all, prefix_len, suffix_len}
use Rattle.std.proofs.lemmas.Bool.{cases_lt, false≢true}
use Rattle.std.proofs.lemmas.List.{reverse-append, length-drop}
use Rattle.std.proofs.lemmas.List.Sums.{suffix_len-le-length}
use Rattle.std.proofs.lemmas.Option.{none-some, same_Some}
use Rattle.hex.specs.Hex.{hex_digit_value}
use Rattle.capture_dumps.specs.Dump.{is_blank, blanks}
use Rattle.capture_dumps.specs.Part.{joined_digits}
use Rattle.capture_dumps.specs.Column.{are_blanks, has_any_column, seen_size}
use Rattle.capture_dumps.specs.Row.{Read, and_behind, reads, Reads, next_pair, first_pair, goes_on, one_more, IsShownBehind, IsRow, IsNoRow, HasNoColumn}

-- ---- the octets up to the last that isn't a blank

suffix_at : (octets : List ℕ) (octet : ℕ) (b : Bool) → (octet == 32) ≡ b
    → suffix_len (λ c. c == 32) (octets ++ octet ∷ []) ≡ (if b then 1 + suffix_len (λ c. c == 32) octets else 0)
suffix_at octets octet true e = ap (prefix_len (λ c. c == 32)) (reverse-append octets (octet ∷ [])) ∙ rw e refl
suffix_at octets octet false e = ap (prefix_len (λ c. c == 32)) (reverse-append octets (octet ∷ [])) ∙ rw e refl

long : (octets : List ℕ) (octet : ℕ) → length (octets ++ octet ∷ []) ≡ suc (length octets)
long octets octet = omega (arith, length-append octets (octet ∷ []))

seen_at : (octets : List ℕ) (octet : ℕ) (b : Bool) → (octet == 32) ≡ b → seen_size (octets ++ octet ∷ []) ≡ (if b then seen_size octets else length (octets ++ octet ∷ []))
seen_at octets octet true e = omega (arith, suffix_at octets octet true e, long octets octet, suffix_len-le-length (λ (c : ℕ). c == 32) octets)
seen_at octets octet false e = omega (arith, suffix_at octets octet false e)

pub seen_more : (octets : List ℕ) (octet : ℕ) → seen_size (octets ++ octet ∷ []) ≡ (if octet == 32 then seen_size octets else length (octets ++ octet ∷ []))
seen_more octets octet = seen_at octets octet (octet == 32) refl

-- ---- pair by pair

-- The text was read so far: these octets, behind which this stands, and behind no fewer pairs stands a column that shows them.
pub record ReadTo (text octets rest : List ℕ) : Type 0 where
  pub are : reads (length octets) text ≡ Some (octets, rest)
  pub no_column : (n : ℕ) (said : List ℕ) → n ≤ length octets → IsShownBehind n text said → ⊥

-- where no pair stands, no more pairs are read
pub reads_stop : (text octets rest : List ℕ) (count n : ℕ) → reads count text ≡ Some (octets, rest) → next_pair rest ≡ None → count < n → reads n text ≡ None
reads_stop text octets rest count zero are none below = absurd (omega arith)
reads_stop text octets rest count (suc m) are none below = elim (cases_lt count m) [
  | inl lower ↦ ap goes_on (reads_stop text octets rest count m are none lower)
  | inr from ↦ let same : m ≡ count = omega arith in ap (λ k. goes_on (reads k text)) same ∙ ap goes_on are ∙ ap (one_more octets) none
]

-- blanks have no pair
passed_over : (text : List ℕ) (c : ℕ) (b : Bool) → is_blank c ≡ b → list_all is_blank (c ∷ text) ≡ true → drop (prefix_len is_blank text) text ≡ [] → drop (prefix_len is_blank (c ∷ text)) (c ∷ text) ≡ []
passed_over text c true is all rest = let one : suc (prefix_len is_blank text) ≡ 1 + prefix_len is_blank text = omega arith in rw is (subst (λ n. drop n (c ∷ text) ≡ []) one rest)
passed_over text c false is all rest = absurd (false≢true (rw is at all))

all_blank : (c : ℕ) (cs : List ℕ) → list_all is_blank (c ∷ cs) ≡ true → list_all is_blank cs ≡ true
all_blank c cs all = by (is_blank c) refl
  where
    by : (b : Bool) → is_blank c ≡ b → list_all is_blank cs ≡ true
    by true e = rw e at all
    by false e = absurd (false≢true (rw e at all))

pub all_passed : (text : List ℕ) → are_blanks text ≡ true → drop (blanks text) text ≡ []
all_passed [] all = refl
all_passed (c ∷ cs) all = passed_over cs c (is_blank c) refl all (all_passed cs (all_blank c cs all))

pub blank_no_pair : (text : List ℕ) → are_blanks text ≡ true → next_pair text ≡ None
blank_no_pair text all = ap first_pair (all_passed text all)

-- a pair and what stands before it are read
behind_is : (rest tail : List ℕ) (octet : ℕ) (v : Option ℕ) → and_behind tail v ≡ Some (octet, rest) → tail ≡ rest
behind_is rest tail octet None e = absurd (none-some (octet, rest) e)
behind_is rest tail octet (Some x) e = ap (λ (r : Read). r.1) (same_Some _ _ e)

first_shorter : (text rest : List ℕ) (octet : ℕ) → first_pair text ≡ Some (octet, rest) → length rest < length text
first_shorter (high ∷ low ∷ tail) rest octet e =
    let same = ap length (behind_is rest tail octet (joined_digits (hex_digit_value high) (hex_digit_value low)) e) in
    let two : length (high ∷ low ∷ tail) ≡ suc (suc (length tail)) = refl in
    omega (arith, same, two)
first_shorter _ rest octet e = absurd (none-some (octet, rest) e)

pub pair_shorter : (text rest : List ℕ) (octet : ℕ) → next_pair text ≡ Some (octet, rest) → length rest < length text
pair_shorter text rest octet e =
    let below = first_shorter (drop (blanks text) text) rest octet e in
    let less = length-drop (blanks text) text in
    omega (arith, below, less)

pub begun : (text : List ℕ) → ReadTo text [] text
begun text = record { are = refl; no_column = λ n said most is. let some = is.1 in absurd (omega (arith, some, most)) }

module _ (text octets rest : List ℕ) (to : ReadTo text octets rest) where
  more_read : (octet : ℕ) (behind : List ℕ) → next_pair rest ≡ Some (octet, behind) → reads (length (octets ++ octet ∷ [])) text ≡ Some (octets ++ octet ∷ [], behind)
  more_read octet behind next = ap (λ n. reads n text) (long octets octet) ∙ ap goes_on to.are ∙ ap (one_more octets) next

  pub shown : (octet : ℕ) (behind : List ℕ) → next_pair rest ≡ Some (octet, behind) → has_any_column (octets ++ octet ∷ []) behind ≡ true → IsRow text (octets ++ octet ∷ [])
  shown octet behind next column = inl (record {
    count = length (octets ++ octet ∷ []);
    shown = (behind, omega (arith, long octets octet), more_read octet behind next, column);
    first = λ n others below is. to.no_column n others (omega (arith, below, long octets octet)) is;
  })

  pub longer : (octet : ℕ) (behind : List ℕ) → next_pair rest ≡ Some (octet, behind) → has_any_column (octets ++ octet ∷ []) behind ≡ false → ReadTo text (octets ++ octet ∷ []) behind
  longer octet behind next column = record {
    are = more_read octet behind next;
    no_column = λ n said most is. elim (cases_lt (length octets) n) [
      | inl above ↦
          let same : length (octets ++ octet ∷ []) ≡ n = omega (arith, above, most, long octets octet) in
          let both = same_Some _ _ (sym (more_read octet behind next) ∙ ap (λ m. reads m text) same ∙ is.2) in
          false≢true (sym column ∙ ap (λ (r : Reads). has_any_column r.0 r.1) both ∙ is.3)
      | inr upto ↦ to.no_column n said upto is
    ];
  }

  module _ (none : next_pair rest ≡ None) where
    within : (n : ℕ) (said left : List ℕ) → reads n text ≡ Some (said, left) → n ≤ length octets
    within n said left e = elim (cases_lt (length octets) n) [
      | inl above ↦ absurd (none-some (said, left) (sym (reads_stop text octets rest (length octets) n to.are none above) ∙ e))
      | inr upto ↦ upto
    ]

    no_column : HasNoColumn text
    no_column n said is = to.no_column n said (within n said is.0 is.2) is

    pub bare : 0 < length octets → are_blanks rest ≡ true → IsRow text octets
    bare some all = inr (no_column, (length octets, rest, some, to.are, all))

    pub nothing_read : length octets ≡ 0 → IsNoRow text
    nothing_read empty = (no_column, λ said is. absurd (let w = within is.0 said is.1 is.3 in let s = is.2 in omega (arith, w, s, empty)))

    pub not_bare : are_blanks rest ≡ false → IsNoRow text
    not_bare other = (
      no_column,
      λ said is. elim (cases_lt is.0 (length octets)) [
        | inl before ↦ none-some (octets, rest) (sym (reads_stop text said is.1 is.0 (length octets) is.3 (blank_no_pair is.1 is.4) before) ∙ to.are)
        | inr from ↦
            let w = within is.0 said is.1 is.3 in
            let same : is.0 ≡ length octets = omega (arith, w, from) in
            let both = same_Some _ _ (sym to.are ∙ ap (λ n. reads n text) (sym same) ∙ is.3) in
            false≢true (sym other ∙ ap (λ (r : Reads). are_blanks r.1) both ∙ is.4)
      ],
    )
