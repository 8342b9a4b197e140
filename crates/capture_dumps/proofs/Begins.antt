-- The part that a text begins with: there is one at most, and it is found by the first octets.
use Rattle.std.proofs.Common.{◌≡◌, ◌≢◌, ◌⊎◌, ℕ, ◌+◌, ◌*◌, ◌/◌, ◌%◌, ◌<◌, ◌≤◌, eqb, true, false, List, [], ◌∷◌, ◌++◌, length, drop, slice_index, Option, Some, None, refl, sym, ap, ◌∙◌, subst, inl, inr, arith, append_assoc, length-append}
use Rattle.std.specs.Option.{is_some, unwrap_or}
use Rattle.std.proofs.lemmas.List.{get_or_past}
use Rattle.std.proofs.lemmas.Bool.{cases_Bool, cases_lt, false≢true, ne_eqb, and_right}
use Rattle.std.proofs.lemmas.Bool.Decides.{eqb_tells}
use Rattle.hex.specs.Hex.{hex_digit_value}
use Rattle.capture_dumps.specs.Text.{is_between, IsGap, IsPrefix, IsPart}
use Rattle.capture_dumps.specs.Part.{gap_size, prefix_size, joined_digits, pair_value, octet_part, first_part}
use Rattle.capture_dumps.specs.declared.part.Part.{Part}
use Rattle.capture_dumps.specs.declared.part.Part.TheVariants.{Gap, Octet}

-- a part of so many octets begins the text, and writes these
pub record Begins (text : List ℕ) (size : ℕ) (said : List ℕ) : Type 0 where
  pub part : List ℕ
  pub rest : List ℕ
  pub is : IsPart part said
  pub parts : text ≡ part ++ rest
  pub size_is : length part ≡ size

begins : (text part rest said : List ℕ) (size : ℕ) → IsPart part said → text ≡ part ++ rest → length part ≡ size → Begins text size said
begins text part rest said size is parts size_is = record { part = part; rest = rest; is = is; parts = parts; size_is = size_is }

abbrev Tells : ℕ → ℕ → Type 0
Tells a b = ((eqb a b ≡ true) × (a ≡ b)) ⊎ ((eqb a b ≡ false) × (a ≢ b))

-- ---- gaps

line_end : (c d e : ℕ) (t : List ℕ) → is_between c ≡ false → eqb c 92 ≡ true → eqb d 10 ≡ false → Tells d 13 → Tells e 10
    → c ≡ 92 → 0 < gap_size (c ∷ d ∷ e ∷ t) → Begins (c ∷ d ∷ e ∷ t) (gap_size (c ∷ d ∷ e ∷ t)) []
line_end c d e t b s l (inl (q, r)) (inl (u, v)) is h =
    begins _ (92 ∷ 13 ∷ 10 ∷ []) t [] _ (inl (inr (inr refl), refl)) (rw (is, r, v) refl) (rw (b, s, l, q, u) refl)
line_end c d e t b s l (inl (q, r)) (inr (u, v)) is h = absurd (omega (arith, rw (b, s, l, q, u) at h))
line_end c d e t b s l (inr (q, r)) w is h = absurd (omega (arith, rw (b, s, l, q) at h))

no_third : (c d : ℕ) → is_between c ≡ false → eqb c 92 ≡ true → eqb d 10 ≡ false → Tells d 13 → 0 < gap_size (c ∷ d ∷ [])
    → Begins (c ∷ d ∷ []) (gap_size (c ∷ d ∷ [])) []
no_third c d b s q (inl (u, is)) h = absurd (omega (arith, rw (b, s, q, u) at h))
no_third c d b s q (inr (u, is)) h = absurd (omega (arith, rw (b, s, q, u) at h))

line_feed : (c d : ℕ) (t : List ℕ) → is_between c ≡ false → eqb c 92 ≡ true → c ≡ 92 → Tells d 10 → 0 < gap_size (c ∷ d ∷ t) → Begins (c ∷ d ∷ t) (gap_size (c ∷ d ∷ t)) []
line_feed c d t b s is (inl (q, r)) h = begins _ (92 ∷ 10 ∷ []) t [] _ (inl (inr (inl refl), refl)) (rw (is, r) refl) (rw (b, s, q) refl)
line_feed c d [] b s is (inr (q, r)) h = no_third c d b s q (eqb_tells d 13) h
line_feed c d (e ∷ t) b s is (inr (q, r)) h = line_end c d e t b s q (eqb_tells d 13) (eqb_tells e 10) is h

backslash : (c : ℕ) (t : List ℕ) → is_between c ≡ false → Tells c 92 → 0 < gap_size (c ∷ t) → Begins (c ∷ t) (gap_size (c ∷ t)) []
backslash c [] b (inl (s, is)) h = absurd (omega (arith, rw (b, s) at h))
backslash c (d ∷ t) b (inl (s, is)) h = line_feed c d t b s is (eqb_tells d 10) h
backslash c t b (inr (s, is)) h = absurd (omega (arith, rw (b, s) at h))

gap_first : (c : ℕ) (t : List ℕ) → (is_between c ≡ true) ⊎ (is_between c ≡ false) → 0 < gap_size (c ∷ t) → Begins (c ∷ t) (gap_size (c ∷ t)) []
gap_first c t (inl b) h = begins _ (c ∷ []) t [] _ (inl (inl (c, refl, b), refl)) refl (rw b refl)
gap_first c t (inr b) h = backslash c t b (eqb_tells c 92) h

pub gap_begins : (text : List ℕ) → 0 < gap_size text → Begins text (gap_size text) []
gap_begins [] h = absurd (omega (arith, h))
gap_begins (c ∷ t) h = gap_first c t (cases_Bool (is_between c)) h

-- ---- pairs

-- what a digit is
pub record IsDigit (c value : ℕ) : Type 0 where
  pub small : value < 16
  pub no_gap : is_between c ≡ false
  pub no_slash : eqb c 92 ≡ false
  pub no_small_x : eqb c 120 ≡ false
  pub no_large_x : eqb c 88 ≡ false

none_some : (v : ℕ) → ◌≡◌ {A = Option ℕ} None (Some v) → ⊥
none_some v h = false≢true (ap is_some h)

other : (c k value : ℕ) → hex_digit_value c ≡ Some value → hex_digit_value k ≡ None → eqb c k ≡ false
other c k value h none = ne_eqb c k (λ same. none_some value (sym none ∙ (ap hex_digit_value (sym same) ∙ h)))

pub digit_is : (c value : ℕ) → hex_digit_value c ≡ Some value → IsDigit c value
digit_is c value h = record {
  small = grind arith;
  no_gap =
      rw (
        other c 32 value h refl,
        other c 9 value h refl,
        other c 10 value h refl,
        other c 13 value h refl,
        other c 58 value h refl,
        other c 44 value h refl,
        other c 45 value h refl,
        other c 34 value h refl,
      ) refl;
  no_slash = other c 92 value h refl;
  no_small_x = other c 120 value h refl;
  no_large_x = other c 88 value h refl;
}

past : (text : List ℕ) (place value : ℕ) → hex_digit_value (slice_index text place) ≡ Some value → (place < length text) ⊎ (length text ≤ place) → place < length text
past text place value h (inl below) = below
past text place value h (inr above) = absurd (none_some value (ap hex_digit_value (sym (get_or_past text place 0 above)) ∙ h))

there : (text : List ℕ) (place value : ℕ) → hex_digit_value (slice_index text place) ≡ Some value → place < length text
there text place value h = past text place value h (cases_lt place (length text))

-- two octets of a text
cut_two : (text : List ℕ) → 1 < length text → text ≡ slice_index text 0 ∷ slice_index text 1 ∷ drop 2 text
cut_two (c ∷ d ∷ t) h = refl
cut_two _ h = absurd (omega (arith, h))

joined : (a b : Option ℕ) (octet : ℕ) → joined_digits a b ≡ Some octet → (high : ℕ) × (low : ℕ) × (a ≡ Some high) × (b ≡ Some low) × (octet ≡ high * 16 + low)
joined None b octet h = absurd (none_some octet h)
joined (Some high) None octet h = absurd (none_some octet h)
joined (Some high) (Some low) octet h = (high, low, refl, refl, ap (λ o. unwrap_or o 0) (sym h))

-- a pair behind what may stand before it
pair_behind : (prefix text : List ℕ) (octet : ℕ) → IsPrefix prefix → pair_value text 0 ≡ Some octet → Begins (prefix ++ text) (length prefix + 2) (octet ∷ [])
pair_behind prefix text octet may h =
    let j = joined _ _ octet h in
    let d = (digit_is (slice_index text 0) j.0 j.2).small in
    let e = (digit_is (slice_index text 1) j.1 j.3).small in
    let sum = j.4 in
    let cut = cut_two text (there text 1 j.1 j.3) in
    begins _ (prefix ++ slice_index text 0 ∷ slice_index text 1 ∷ []) (drop 2 text) _ _
    (inr (
      octet,
      record {
        prefix = prefix;
        high = slice_index text 0;
        low = slice_index text 1;
        may_stand = may;
        parts = refl;
        high_is = j.2 ∙ ap Some (omega (arith, sum, d, e));
        low_is = j.3 ∙ ap Some (omega (arith, sum, d, e));
      },
      refl,
    )) (ap (λ t. prefix ++ t) cut ∙ sym (append_assoc prefix (slice_index text 0 ∷ slice_index text 1 ∷ []) (drop 2 text))) (length-append prefix _)

-- what stands before a pair
abbrev HasPrefix : List ℕ → Type 0
HasPrefix text = (a : ℕ) × (b : ℕ) × (rest : List ℕ) × IsPrefix (a ∷ b ∷ []) × (text ≡ a ∷ b ∷ rest) × (prefix_size text ≡ 2)

single : (c : ℕ) → Tells c 48 → Tells c 92 → prefix_size (c ∷ []) ≡ 0
single c (inl (p, e)) v = rw e refl
single c (inr (p, e)) (inl (q, f)) = rw f refl
single c (inr (p, e)) (inr (q, f)) = rw (p, q) refl

slashed : (c d : ℕ) (t : List ℕ) → eqb c 48 ≡ false → Tells c 92 → Tells d 120 → (prefix_size (c ∷ d ∷ t) ≡ 0) ⊎ HasPrefix (c ∷ d ∷ t)
slashed c d t p (inl (q, e)) (inl (u, f)) = inr (92, 120, t, inr (inr (inr refl)), rw (e, f) refl, rw (p, q, u) refl)
slashed c d t p (inl (q, e)) (inr (u, f)) = inl (rw (p, q, u) refl)
slashed c d t p (inr (q, e)) w = inl (rw (p, q) refl)

zeroed : (c d : ℕ) (t : List ℕ) → Tells c 48 → Tells d 120 → Tells d 88 → (prefix_size (c ∷ d ∷ t) ≡ 0) ⊎ HasPrefix (c ∷ d ∷ t)
zeroed c d t (inl (p, e)) (inl (u, f)) w = inr (48, 120, t, inr (inl refl), rw (e, f) refl, rw (p, u) refl)
zeroed c d t (inl (p, e)) (inr (u, f)) (inl (v, g)) = inr (48, 88, t, inr (inr (inl refl)), rw (e, g) refl, rw (p, u, v) refl)
zeroed c d t (inl (p, e)) (inr (u, f)) (inr (v, g)) = inl (rw (e, u, v) refl)
zeroed c d t (inr (p, e)) w x = slashed c d t p (eqb_tells c 92) (eqb_tells d 120)

has_prefix : (text : List ℕ) → (prefix_size text ≡ 0) ⊎ HasPrefix text
has_prefix [] = inl refl
has_prefix (c ∷ []) = inl (single c (eqb_tells c 48) (eqb_tells c 92))
has_prefix (c ∷ d ∷ t) = zeroed c d t (eqb_tells c 48) (eqb_tells d 120) (eqb_tells d 88)

pair_by : (text : List ℕ) (octet : ℕ) → (prefix_size text ≡ 0) ⊎ HasPrefix text → pair_value text (prefix_size text) ≡ Some octet → Begins text (prefix_size text + 2) (octet ∷ [])
pair_by text octet (inl none) h =
    subst (λ n. Begins text (n + 2) (octet ∷ [])) (sym none) (pair_behind [] text octet (inl refl) (rw none at h))
pair_by text octet (inr (a, b, rest, may, is, size)) h =
    let same : pair_value text 2 ≡ pair_value rest 0 = ap (λ t. pair_value t 2) is in
    let begun : Begins (a ∷ b ∷ rest) 4 (octet ∷ []) = pair_behind (a ∷ b ∷ []) rest octet may (sym same ∙ (rw size at h)) in
    subst (λ n. Begins text (n + 2) (octet ∷ [])) (sym size) (subst (λ t. Begins t 4 (octet ∷ [])) (sym is) begun)

pub pair_begins : (text : List ℕ) (octet : ℕ) → pair_value text (prefix_size text) ≡ Some octet → Begins text (prefix_size text + 2) (octet ∷ [])
pair_begins text octet h = pair_by text octet (has_prefix text) h

-- ---- the first part

-- how many octets a part has, and what it writes
abbrev pub size_of : Part → ℕ
size_of (Gap size) = size
size_of (Octet octet size) = size

abbrev pub said_of : Part → List ℕ
said_of (Gap size) = []
said_of (Octet octet size) = octet ∷ []

octet_begins : (text : List ℕ) (o : Option ℕ) (p : Part) → pair_value text (prefix_size text) ≡ o → octet_part (prefix_size text + 2) o ≡ Some p
    → Begins text (size_of p) (said_of p)
octet_begins text None p is h = absurd (false≢true (ap is_some h))
octet_begins text (Some octet) p is h =
    let same : Octet octet (prefix_size text + 2) ≡ p = ap (λ o. unwrap_or o (Gap 0)) h in
    subst (λ q. Begins text (size_of q) (said_of q)) same (pair_begins text octet is)

part_begins : (text : List ℕ) (p : Part) → Tells (gap_size text) 0 → first_part text ≡ Some p → Begins text (size_of p) (said_of p)
part_begins text p (inl (t, e)) h = octet_begins text _ p refl (rw t at h)
part_begins text p (inr (f, d)) h =
    let same : Gap (gap_size text) ≡ p = ap (λ o. unwrap_or o (Gap 0)) (rw f at h) in
    subst (λ q. Begins text (size_of q) (said_of q)) same (gap_begins text (omega (arith, d)))

-- the part that was found begins the text
pub found_begins : (text : List ℕ) (p : Part) → first_part text ≡ Some p → Begins text (size_of p) (said_of p)
found_begins text p h = part_begins text p (eqb_tells (gap_size text) 0) h

-- ---- a part is found

-- the part that is found where this one begins the text
abbrev pub IsFoundAs : List ℕ → List ℕ → List ℕ → Type 0
IsFoundAs text part said = (p : Part) × (first_part text ≡ Some p) × (size_of p ≡ length part) × (said_of p ≡ said)

gap_found : (part rest : List ℕ) → IsGap part → IsFoundAs (part ++ rest) part []
gap_found part rest (inl (c, is, b)) = subst (λ t. IsFoundAs (t ++ rest) t []) (sym is) (Gap 1, rw b refl, refl, refl)
gap_found part rest (inr (inl is)) = subst (λ t. IsFoundAs (t ++ rest) t []) (sym is) (Gap 2, refl, refl, refl)
gap_found part rest (inr (inr is)) = subst (λ t. IsFoundAs (t ++ rest) t []) (sym is) (Gap 3, refl, refl, refl)

-- the digits of an octet
made : (octet : ℕ) → octet / 16 * 16 + octet % 16 ≡ octet
made octet = omega arith

bare_found : (high low octet : ℕ) (rest : List ℕ) → hex_digit_value high ≡ Some (octet / 16) → hex_digit_value low ≡ Some (octet % 16)
    → first_part (high ∷ low ∷ rest) ≡ Some (Octet octet 2)
bare_found high low octet rest h l =
    let d = digit_is high (octet / 16) h in
    let e = digit_is low (octet % 16) l in
    let gap : gap_size (high ∷ low ∷ rest) ≡ 0 = rw (d.no_gap, d.no_slash) refl in
    let size : prefix_size (high ∷ low ∷ rest) ≡ 0 = rw (e.no_small_x, e.no_large_x, d.no_slash, and_right (eqb high 48) false refl) refl in
    let pair : pair_value (high ∷ low ∷ rest) 0 ≡ Some octet = rw (h, l) (ap Some (made octet)) in
    rw (gap, size, pair) refl

behind_found : (a b high low octet : ℕ) (rest : List ℕ) → gap_size (a ∷ b ∷ high ∷ low ∷ rest) ≡ 0 → prefix_size (a ∷ b ∷ high ∷ low ∷ rest) ≡ 2
    → hex_digit_value high ≡ Some (octet / 16) → hex_digit_value low ≡ Some (octet % 16) → first_part (a ∷ b ∷ high ∷ low ∷ rest) ≡ Some (Octet octet 4)
behind_found a b high low octet rest gap size h l =
    let pair : pair_value (a ∷ b ∷ high ∷ low ∷ rest) 2 ≡ Some octet = rw (h, l) (ap Some (made octet)) in
    rw (gap, size, pair) refl

pair_found : (prefix : List ℕ) (high low octet : ℕ) (rest : List ℕ) → IsPrefix prefix → hex_digit_value high ≡ Some (octet / 16) → hex_digit_value low ≡ Some (octet % 16)
    → IsFoundAs (prefix ++ high ∷ low ∷ rest) (prefix ++ high ∷ low ∷ []) (octet ∷ [])
pair_found prefix high low octet rest (inl is) h l =
    subst (λ t. IsFoundAs (t ++ high ∷ low ∷ rest) (t ++ high ∷ low ∷ []) (octet ∷ [])) (sym is) (Octet octet 2, bare_found high low octet rest h l, refl, refl)
pair_found prefix high low octet rest (inr (inl is)) h l =
    subst (λ t. IsFoundAs (t ++ high ∷ low ∷ rest) (t ++ high ∷ low ∷ []) (octet ∷ [])) (sym is)
    (Octet octet 4, behind_found 48 120 high low octet rest refl refl h l, refl, refl)
pair_found prefix high low octet rest (inr (inr (inl is))) h l =
    subst (λ t. IsFoundAs (t ++ high ∷ low ∷ rest) (t ++ high ∷ low ∷ []) (octet ∷ [])) (sym is)
    (Octet octet 4, behind_found 48 88 high low octet rest refl refl h l, refl, refl)
pair_found prefix high low octet rest (inr (inr (inr is))) h l =
    subst (λ t. IsFoundAs (t ++ high ∷ low ∷ rest) (t ++ high ∷ low ∷ []) (octet ∷ [])) (sym is)
    (Octet octet 4, behind_found 92 120 high low octet rest refl refl h l, refl, refl)

pub begun_found : (part said rest : List ℕ) → IsPart part said → IsFoundAs (part ++ rest) part said
begun_found part said rest (inl (gap, none)) = subst (IsFoundAs (part ++ rest) part) (sym none) (gap_found part rest gap)
begun_found part said rest (inr (octet, is, one)) =
    let found = pair_found is.prefix is.high is.low octet rest is.may_stand is.high_is is.low_is in
    let text : is.prefix ++ is.high ∷ is.low ∷ rest ≡ part ++ rest = sym (append_assoc is.prefix (is.high ∷ is.low ∷ []) rest) ∙ ap (λ t. t ++ rest) (sym is.parts) in
    subst (IsFoundAs (part ++ rest) part) (sym one) (subst (λ t. IsFoundAs t part (octet ∷ [])) text (subst (λ t. IsFoundAs (is.prefix ++ is.high ∷ is.low ∷ rest) t (octet ∷ [])) (sym is.parts) found))

-- no part is empty
pub part_some : (part said : List ℕ) → IsPart part said → 0 < length part
part_some part said (inl (inl (c, is, b), none)) = rw is (omega arith)
part_some part said (inl (inr (inl is), none)) = rw is (omega arith)
part_some part said (inl (inr (inr is), none)) = rw is (omega arith)
part_some part said (inr (octet, is, one)) =
    let long = length-append is.prefix (is.high ∷ is.low ∷ []) in
    rw is.parts (omega (arith, long))
