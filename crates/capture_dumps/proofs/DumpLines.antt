-- Texts that begin as a dump does, as they are read.
use Rattle.std.proofs.Common.{rules, ◌≡◌, ◌⊎◌, inl, inr, ℕ, suc, ◌+◌, ◌<◌, ◌≤◌, ◌==◌, ◌&&◌, ◌||◌, Bool, true, false, if◌then◌else◌, List, [], ◌∷◌, ◌++◌, length, take, drop, slice_index, refl, sym, ap, subst, ◌∙◌, ◌-◌, arith, take_all}
use Rattle.std.specs.List.{prefix_len}
use Rattle.std.proofs.Math.Seq.{drop-append_seam}
use Rattle.std.proofs.lemmas.Bool.{cases_lt, false≢true, leb-true, le-leb, eqb-true}
use Rattle.std.proofs.Math.ListN.{drop_of_length-le}
use Rattle.std.proofs.lemmas.List.{length-drop, take-append-drop}
use Rattle.std.proofs.lemmas.List.Folds.{length-prefix_len}
use Rattle.capture_dumps.specs.Dump.{AreOf, BeginsDump, HasNoDump, IsDumpFrom, is_blank, is_digit, is_zero, blanks, zeros, begins_pair, begins_octets, begins_behind, begins_offset, begins_prefix, begins_dump}

pub behind_is_drop : (n : ℕ) (text : List ℕ) → take (length text - n) (drop n text) ≡ drop n text
behind_is_drop n text = let long = length-drop n text in take_all (length text - n) (drop n text) (omega (arith, long))

-- ---- runs of octets of a kind

run_more : (p : ℕ → Bool) (x : ℕ) (xs : List ℕ) (b : Bool) → b ≡ p x → AreOf p (take (prefix_len p xs) xs) → AreOf p (take (if b then 1 + prefix_len p xs else 0) (x ∷ xs))
run_more p x xs true e h = let one : suc (prefix_len p xs) ≡ 1 + prefix_len p xs = omega arith in subst (λ n. AreOf p (take n (x ∷ xs))) one (sym e, h)
run_more p x xs false e h = tt

pub run_is : (p : ℕ → Bool) (xs : List ℕ) → AreOf p (take (prefix_len p xs) xs)
run_is p [] = tt
run_is p (x ∷ xs) = run_more p x xs (p x) refl (run_is p xs)

-- a run that goes no further
pub run_ends : (p : ℕ → Bool) (xs ys : List ℕ) → AreOf p xs → prefix_len p ys ≡ 0 → prefix_len p (xs ++ ys) ≡ length xs
run_ends p [] ys are none = none
run_ends p (x ∷ xs) ys (is, are) none =
    let one : 1 + length xs ≡ length (x ∷ xs) = omega arith in rw (is, run_ends p xs ys are none) one

-- ---- what is read begins as a dump does

split : (text : List ℕ) (n : ℕ) → text ≡ take n text ++ drop n text
split text n = sym (take-append-drop n text)

run_length : (p : ℕ → Bool) (xs : List ℕ) → length (take (prefix_len p xs) xs) ≡ prefix_len p xs
run_length p xs = length-prefix_len p xs

both : (a b : Bool) → (a && b) ≡ true → (a ≡ true) × (b ≡ true)
both true b e = (refl, e)
both false b e = absurd (false≢true e)

either : (a b : Bool) → (a || b) ≡ true → (a ≡ true) ⊎ (b ≡ true)
either true b e = inl refl
either false b e = inr e

same : (a b : ℕ) → (a == b) ≡ true → a ≡ b
same a b e = eqb-true a b e

pair_is : (text : List ℕ) → begins_pair text ≡ true → (high : ℕ) × (low : ℕ) × (rest : List ℕ) × (text ≡ high ∷ low ∷ rest) × (is_digit high ≡ true) × (is_digit low ≡ true)
pair_is [] e = absurd (false≢true e)
pair_is (x ∷ []) e = absurd (false≢true (both (is_digit x) false e).1)
pair_is (x ∷ y ∷ rest) e = let d = both (is_digit x) (is_digit y) e in (x, y, rest, refl, d.0, d.1)

abbrev IsOctets : List ℕ → Type 0
IsOctets text =
    (gap : List ℕ) × (high : ℕ) × (low : ℕ) × (rest : List ℕ) × (text ≡ gap ++ (high ∷ low ∷ rest)) × AreOf is_blank gap × (0 < length gap)
    × (is_digit high ≡ true) × (is_digit low ≡ true)

octets_is : (text : List ℕ) → begins_octets text ≡ true → IsOctets text
octets_is text e =
    let b = both _ _ e in
    let p = pair_is (drop (blanks text) text) b.1 in
    let least = leb-true 1 (blanks text) b.0 in
    let long = run_length is_blank text in (
      take (blanks text) text,
      p.0,
      p.1,
      p.2,
      split text (blanks text) ∙ ap (λ t. take (blanks text) text ++ t) p.3,
      run_is is_blank text,
      omega (arith, least, long),
      p.4,
      p.5,
    )

abbrev IsBehind : List ℕ → Type 0
IsBehind text = (colon : List ℕ) × (rest : List ℕ) × (text ≡ colon ++ rest) × ((colon ≡ []) ⊎ (colon ≡ 58 ∷ [])) × IsOctets rest

colon_at : (text : List ℕ) (c : Bool) → c ≡ (slice_index text 0 == 58) → begins_octets (drop (if c then 1 else 0) text) ≡ true → IsBehind text
colon_at [] true e h = absurd (false≢true (sym e))
colon_at (x ∷ text) true e h = (58 ∷ [], text, ap (λ y. y ∷ text) (same x 58 (sym e)), inr refl, octets_is text h)
colon_at text false e h = ([], text, refl, inl refl, octets_is text h)

behind_is : (text : List ℕ) → begins_behind text ≡ true → IsBehind text
behind_is text h = colon_at text (slice_index text 0 == 58) refl h

abbrev IsOffset : List ℕ → Type 0
IsOffset text = (zs : List ℕ) × (rest : List ℕ) × (text ≡ zs ++ rest) × AreOf is_zero zs × (4 ≤ length zs) × (length zs ≤ 8) × IsBehind rest

offset_is : (text : List ℕ) → begins_offset text ≡ true → IsOffset text
offset_is text e =
    let a = both _ _ e in
    let b = both _ _ a.1 in
    let least = leb-true 4 (zeros text) a.0 in
    let most = leb-true (zeros text) 8 b.0 in
    let long = run_length is_zero text in (
      take (zeros text) text,
      drop (zeros text) text,
      split text (zeros text),
      run_is is_zero text,
      omega (arith, least, long),
      omega (arith, most, long),
      behind_is (drop (zeros text) text) b.1,
    )

abbrev IsPrefixed : List ℕ → Type 0
IsPrefixed text = (prefix : List ℕ) × (rest : List ℕ) × (text ≡ prefix ++ rest) × ((prefix ≡ []) ⊎ ((prefix ≡ 48 ∷ 120 ∷ []) ⊎ (prefix ≡ 48 ∷ 88 ∷ []))) × IsOffset rest

x_is : (x y : ℕ) (text : List ℕ) → x ≡ 48 → (y ≡ 120) ⊎ (y ≡ 88) → IsOffset text → IsPrefixed (x ∷ y ∷ text)
x_is x y text e (inl f) h = (48 ∷ 120 ∷ [], text, ap (λ a. a ∷ y ∷ text) e ∙ ap (λ b. 48 ∷ b ∷ text) f, inr (inl refl), h)
x_is x y text e (inr f) h = (48 ∷ 88 ∷ [], text, ap (λ a. a ∷ y ∷ text) e ∙ ap (λ b. 48 ∷ b ∷ text) f, inr (inr refl), h)

x_or : (y : ℕ) → ((y == 120) ≡ true) ⊎ ((y == 88) ≡ true) → (y ≡ 120) ⊎ (y ≡ 88)
x_or y (inl e) = inl (same y 120 e)
x_or y (inr e) = inr (same y 88 e)

prefix_at : (text : List ℕ) (c : Bool) → c ≡ ((slice_index text 0 == 48) && ((slice_index text 1 == 120) || (slice_index text 1 == 88)))
    → begins_offset (drop (if c then 2 else 0) text) ≡ true → IsPrefixed text
prefix_at [] true e h = absurd (false≢true (sym e))
prefix_at (x ∷ []) true e h = absurd (false≢true (both (x == 48) false (sym e)).1)
prefix_at (x ∷ y ∷ text) true e h =
    let b = both (x == 48) ((y == 120) || (y == 88)) (sym e) in x_is x y text (same x 48 b.0) (x_or y (either (y == 120) (y == 88) b.1)) (offset_is text h)
prefix_at text false e h = ([], text, refl, inl refl, offset_is text h)

pub dump_is : (text : List ℕ) → begins_dump text ≡ true → BeginsDump text
dump_is text h =
    let p = prefix_at (drop (blanks text) text) _ refl h in
    let o = p.4 in
    let b = o.6 in
    let c = b.4 in
    record {
      indent = take (blanks text) text;
      prefix = p.0;
      zeros = o.0;
      colon = b.0;
      gap = c.0;
      high = c.1;
      low = c.2;
      rest = c.3;
      parts = split text (blanks text) ∙ ap (λ t. take (blanks text) text ++ t) (p.2 ∙ ap (λ t. p.0 ++ t) (o.2 ∙ ap (λ t. o.0 ++ t) (b.2 ∙ ap (λ t. b.0 ++ t) c.4)));
      indent_is = run_is is_blank text;
      prefix_is = p.3;
      zeros_are = o.3;
      least = o.4;
      most = o.5;
      colon_is = b.3;
      gap_is = c.5;
      gap_some = c.6;
      high_is = c.7;
      low_is = c.8;
    }

-- ---- what begins as a dump does is read so

blank_or : (c : ℕ) → is_blank c ≡ true → (c ≡ 32) ⊎ (c ≡ 9)
blank_or c e = elim (either (c == 32) (c == 9) e) [ inl f ↦ inl (same c 32 f) | inr f ↦ inr (same c 9 f) ]

no_blank_at : (c : ℕ) (b : Bool) → b ≡ is_blank c → is_digit c ≡ true → b ≡ false
no_blank_at c false e d = refl
no_blank_at c true e d = elim (blank_or c (sym e)) [ inl f ↦ absurd (false≢true (subst (λ x. is_digit x ≡ true) f d)) | inr f ↦ absurd (false≢true (subst (λ x. is_digit x ≡ true) f d)) ]

no_blank : (c : ℕ) → is_digit c ≡ true → is_blank c ≡ false
no_blank c d = no_blank_at c (is_blank c) refl d

no_zero : (c : ℕ) → is_blank c ≡ true → is_zero c ≡ false
no_zero c e = elim (blank_or c e) [ inl f ↦ rw f refl | inr f ↦ rw f refl ]

no_colon : (c : ℕ) → is_blank c ≡ true → (c == 58) ≡ false
no_colon c e = elim (blank_or c e) [ inl f ↦ rw f refl | inr f ↦ rw f refl ]

octets_again : (gap : List ℕ) (high low : ℕ) (rest : List ℕ) → AreOf is_blank gap → 0 < length gap → is_digit high ≡ true → is_digit low ≡ true
    → begins_octets (gap ++ (high ∷ low ∷ rest)) ≡ true
octets_again gap high low rest are some h l =
    let none : blanks (high ∷ low ∷ rest) ≡ 0 = rw (no_blank high h) refl in
    let long : blanks (gap ++ (high ∷ low ∷ rest)) ≡ length gap = run_ends is_blank gap (high ∷ low ∷ rest) are none in
    rw (long, drop-append_seam gap (high ∷ low ∷ rest), le-leb 1 (length gap) some, h, l) refl

behind_again : (colon gap more : List ℕ) → (colon ≡ []) ⊎ (colon ≡ 58 ∷ []) → AreOf is_blank gap → 0 < length gap → begins_octets (gap ++ more) ≡ true
    → begins_behind (colon ++ (gap ++ more)) ≡ true
behind_again colon [] more c are some h = absurd (search (rules, some))
behind_again colon (g ∷ gap) more (inl e) (is, are) some h = rw (e, no_colon g is) h
behind_again colon (g ∷ gap) more (inr e) (is, are) some h = rw e h

no_zeros : (colon gap more : List ℕ) → (colon ≡ []) ⊎ (colon ≡ 58 ∷ []) → AreOf is_blank gap → 0 < length gap → zeros (colon ++ (gap ++ more)) ≡ 0
no_zeros colon [] more c are some = absurd (search (rules, some))
no_zeros colon (g ∷ gap) more (inl e) (is, are) some = rw (e, no_zero g is) refl
no_zeros colon (g ∷ gap) more (inr e) (is, are) some = rw e refl

offset_again : (zs more : List ℕ) → AreOf is_zero zs → 4 ≤ length zs → length zs ≤ 8 → zeros more ≡ 0 → begins_behind more ≡ true → begins_offset (zs ++ more) ≡ true
offset_again zs more are least most none h =
    let long : zeros (zs ++ more) ≡ length zs = run_ends is_zero zs more are none in
    rw (long, drop-append_seam zs more, le-leb 4 (length zs) least, le-leb (length zs) 8 most, h) refl

two_zeros : (zs : List ℕ) → AreOf is_zero zs → 4 ≤ length zs → (more : List ℕ) × (zs ≡ 48 ∷ 48 ∷ more)
two_zeros [] are least = absurd (search (rules, least))
two_zeros (x ∷ []) are least = absurd (search (rules, least))
two_zeros (x ∷ y ∷ more) (a, (b, are)) least = (more, ap (λ c. c ∷ y ∷ more) (same x 48 a) ∙ ap (λ c. 48 ∷ c ∷ more) (same y 48 b))

prefix_again : (prefix zs more : List ℕ) → (prefix ≡ []) ⊎ ((prefix ≡ 48 ∷ 120 ∷ []) ⊎ (prefix ≡ 48 ∷ 88 ∷ [])) → (two : (t : List ℕ) × (zs ≡ 48 ∷ 48 ∷ t))
    → begins_offset (zs ++ more) ≡ true → begins_prefix (prefix ++ (zs ++ more)) ≡ true
prefix_again prefix zs more (inl e) (t, two) h = rw (e, two) (rw two at h)
prefix_again prefix zs more (inr (inl e)) (t, two) h = rw e h
prefix_again prefix zs more (inr (inr e)) (t, two) h = rw e h

no_blanks : (prefix zs more : List ℕ) → (prefix ≡ []) ⊎ ((prefix ≡ 48 ∷ 120 ∷ []) ⊎ (prefix ≡ 48 ∷ 88 ∷ [])) → (two : (t : List ℕ) × (zs ≡ 48 ∷ 48 ∷ t))
    → blanks (prefix ++ (zs ++ more)) ≡ 0
no_blanks prefix zs more (inl e) (t, two) = rw (e, two) refl
no_blanks prefix zs more (inr (inl e)) (t, two) = rw e refl
no_blanks prefix zs more (inr (inr e)) (t, two) = rw e refl

pub dump_again : (text : List ℕ) → BeginsDump text → begins_dump text ≡ true
dump_again text d =
    let octets = octets_again d.gap d.high d.low d.rest d.gap_is d.gap_some d.high_is d.low_is in
    let behind = behind_again d.colon d.gap (d.high ∷ d.low ∷ d.rest) d.colon_is d.gap_is d.gap_some octets in
    let stops = no_zeros d.colon d.gap (d.high ∷ d.low ∷ d.rest) d.colon_is d.gap_is d.gap_some in
    let offset = offset_again d.zeros _ d.zeros_are d.least d.most stops behind in
    let two = two_zeros d.zeros d.zeros_are d.least in
    let prefixed = prefix_again d.prefix d.zeros _ d.prefix_is two offset in
    let none = no_blanks d.prefix d.zeros (d.colon ++ (d.gap ++ (d.high ∷ d.low ∷ d.rest))) d.prefix_is two in
    let long : blanks (d.indent ++ (d.prefix ++ (d.zeros ++ (d.colon ++ (d.gap ++ (d.high ∷ d.low ∷ d.rest)))))) ≡ length d.indent = run_ends is_blank d.indent _ d.indent_is none in
    rw (d.parts, long, drop-append_seam d.indent (d.prefix ++ (d.zeros ++ (d.colon ++ (d.gap ++ (d.high ∷ d.low ∷ d.rest)))))) prefixed

-- ---- the places of a text

one_more_at : (P : ℕ → Type 0) (place : ℕ) → ((before : ℕ) → before < place → P before → ⊥) → (P place → ⊥) → (before : ℕ) → before < place + 1 → P before
    → (before < place) ⊎ (place ≤ before) → ⊥
one_more_at P place none here before less is (inl h) = none before h is
one_more_at P place none here before less is (inr h) = let e : before ≡ place = omega (arith, h, less) in here (subst P e is)

pub one_more : (P : ℕ → Type 0) (place : ℕ) → ((before : ℕ) → before < place → P before → ⊥) → (P place → ⊥) → (before : ℕ) → before < place + 1 → P before → ⊥
one_more P place none here before less is = one_more_at P place none here before less is (cases_lt before place)

no_dump_nil : begins_dump [] ≡ false
no_dump_nil = refl

nothing_at : (text : List ℕ) (place at : ℕ) → length text ≤ place → ((before : ℕ) → before < place → IsDumpFrom text before → ⊥) → IsDumpFrom text at
    → (at < place) ⊎ (place ≤ at) → ⊥
nothing_at text place at past none from (inl h) = none at h from
nothing_at text place at past none from (inr h) =
    let end : drop at text ≡ [] = drop_of_length-le text (omega (arith, past, h)) in
    false≢true (sym no_dump_nil ∙ dump_again [] (subst BeginsDump end from.1))

-- behind the end of a text there is no dump
pub nothing_begins : (text : List ℕ) (place : ℕ) → length text ≤ place → ((before : ℕ) → before < place → IsDumpFrom text before → ⊥) → HasNoDump text
nothing_begins text place past none = λ at from. nothing_at text place at past none from (cases_lt at place)
