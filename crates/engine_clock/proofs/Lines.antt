-- The parts of a line of saved clocks. No line begins another.
use Rattle.std.proofs.Common.{◌≡◌, ◌≢◌, ℕ, ◌<◌, ◌/◌, ◌%◌, ◌^◌, suc, List, [], ◌∷◌, ◌++◌, slice_index, Some, None, Result, refl, subst, sym, ap, ◌∙◌, arith, decimal}
use Rattle.std.specs.Result.{result_unwrap_or}
use Rattle.std.proofs.lemmas.List.{append_assoc}
use Rattle.std.proofs.lemmas.Fmt.{decimal_by_steps, decimal_injective}
use Rattle.hex.specs.declared.error.FromHexError.{FromHexError}
use Rattle.hex.specs.Hex.{decode_of, encode_lower, encode_with, lower_digits, hex_digit_value, IsBytes}
use Rattle.hex.proofs.HexLemmas.{IsDigits-lower_digits, decode_of-encode_lower}
use Rattle.engine_clock.specs.Engines.{IsEngine}
use Rattle.engine_clock.specs.Pairs.{BootsAndTime, IsPair}
use Rattle.engine_clock.specs.Saved.{Entry, IsEntry, line_in, FitsIn}
use Rattle.engine_clock.specs.Reading.{IsTail}
use Rattle.engine_clock.specs.declared.saved.Form.{Form}
use Rattle.engine_clock.specs.declared.saved.Form.TheVariants.{WithMoments, ReadAt}
use Rattle.snmp_ber.specs.Splits.{Lacks, IsSplit}
use Rattle.snmp_ber.proofs.Cuts.{Lacks-append, cut_is, one_cut, no_cut}

digit_not_space : (d : ℕ) → d < 16 → slice_index lower_digits d ≢ 32
digit_not_space d l e =
    let impossible : Some d ≡ None = sym (IsDigits-lower_digits d l) ∙ ap hex_digit_value e in
    cc impossible

pub Lacks-hex : (octets : List ℕ) → IsBytes octets → Lacks 32 (encode_lower octets)
unfolding encode_with
Lacks-hex [] h = tt
Lacks-hex (b ∷ rest) h =
    let fits : b < 256 = h 0 in
    (digit_not_space (b / 16) (omega arith), (digit_not_space (b % 16) (omega arith), Lacks-hex rest (λ k. h (suc k))))

pub Lacks-decimal : (b n : ℕ) → b < 48 → n < 2 ^ 64 → Lacks b (decimal n)
Lacks-decimal b n low h =
    decimal_by_steps (λ _ ds. Lacks b ds) (λ d l. (λ e. omega arith, tt)) (λ d ds l all. Lacks-append b ds _ all (λ e. omega arith, tt)) n h

-- what follows the boots, and what follows the engine
abbrev pub after_boots : Form → Entry → List ℕ → List ℕ
after_boots WithMoments e rest = decimal e.1.pair.time ++ (32 ∷ (decimal e.1.seen ++ (10 ∷ rest)))
after_boots (ReadAt now) e rest = decimal e.1.pair.time ++ (10 ∷ rest)

abbrev pub after_engine : Form → Entry → List ℕ → List ℕ
after_engine f e rest = decimal e.1.pair.boots ++ (32 ∷ after_boots f e rest)

-- a space and a line feed are below the digits
space_low : 32 < 48
space_low = omega arith

feed_low : 10 < 48
feed_low = omega arith

pub entry_of : (f : Form) (e : Entry) → FitsIn f e → IsEntry e
entry_of WithMoments e fits = fits
entry_of (ReadAt now) e fits = fits.0

four_parts : (a b c d e rest : List ℕ) → (a ++ b ++ c ++ d ++ e) ++ rest ≡ a ++ (b ++ (c ++ (d ++ (e ++ rest))))
four_parts a b c d e rest = simp append_assoc

three_parts : (a b c d rest : List ℕ) → (a ++ b ++ c ++ d) ++ rest ≡ a ++ (b ++ (c ++ (d ++ rest)))
three_parts a b c d rest = simp append_assoc

pub line-parts : (f : Form) (e : Entry) (rest : List ℕ) → line_in f e ++ rest ≡ encode_lower e.0 ++ (32 ∷ after_engine f e rest)
line-parts WithMoments e rest = four_parts (encode_lower e.0) (32 ∷ decimal e.1.pair.boots) (32 ∷ decimal e.1.pair.time) (32 ∷ decimal e.1.seen) (10 ∷ []) rest
line-parts (ReadAt now) e rest = three_parts (encode_lower e.0) (32 ∷ decimal e.1.pair.boots) (32 ∷ decimal e.1.pair.time) (10 ∷ []) rest

-- what follows the boots is the time and the moment
pub tail_of_line : (f : Form) (e : Entry) (rest : List ℕ) → FitsIn f e → IsTail f (after_boots f e rest) (decimal e.1.pair.time) e.1.seen rest
tail_of_line WithMoments e rest fits = (refl, Lacks-decimal 32 e.1.pair.time space_low (omega (arith, fits.pair.time)), fits.seen)
tail_of_line (ReadAt now) e rest fits = (refl, Lacks-decimal 10 e.1.pair.time feed_low (omega (arith, fits.0.pair.time)), fits.1, fits.0.seen)

-- there is one such time and one moment
pub one_tail : (f : Form) (text t t' : List ℕ) (n n' : ℕ) (r r' : List ℕ) → IsTail f text t n r → IsTail f text t' n' r' → (t ≡ t') × (n ≡ n') × (r ≡ r')
one_tail WithMoments text t t' n n' r r' a b =
    let first = one_cut 32 t t' (decimal n ++ (10 ∷ r)) (decimal n' ++ (10 ∷ r')) (sym a.0 ∙ b.0) a.1 b.1 in
    let second = one_cut 10 (decimal n) (decimal n') r r' first.1 (Lacks-decimal 10 n feed_low a.2) (Lacks-decimal 10 n' feed_low b.2) in
    (first.0, decimal_injective n n' a.2 b.2 second.0, second.1)
one_tail (ReadAt now) text t t' n n' r r' a b =
    let first = one_cut 10 t t' r r' (sym a.0 ∙ b.0) a.1 b.1 in
    (first.0, a.2 ∙ sym b.2, first.1)

module _ (f : Form) (e : Entry) (rest : List ℕ) (fits : FitsIn f e) where
  pub engine_cut : (text a r : List ℕ) → IsSplit 32 text a r → text ≡ line_in f e ++ rest → (a ≡ encode_lower e.0) × (r ≡ after_engine f e rest)
  engine_cut text a r s same = cut_is 32 text a r _ _ s (same ∙ line-parts f e rest) (Lacks-hex e.0 (entry_of f e fits).engine.bytes)

  pub boots_cut : (text a r : List ℕ) → IsSplit 32 text a r → text ≡ after_engine f e rest → (a ≡ decimal e.1.pair.boots) × (r ≡ after_boots f e rest)
  boots_cut text a r s same = cut_is 32 text a r _ _ s same (Lacks-decimal 32 e.1.pair.boots space_low (omega (arith, (entry_of f e fits).pair.boots)))

-- where there is no tail
module _ (f : Form) (text t : List ℕ) (n : ℕ) (r : List ℕ) (tail : IsTail f text t n r) where
  pub no_time : f ≡ WithMoments → Lacks 32 text → ⊥
  no_time is lacks = let new = subst (λ g. IsTail g text t n r) is tail in no_cut 32 text t _ lacks new.0

  pub seen_cut : (a b : List ℕ) → f ≡ WithMoments → IsSplit 32 text a b → b ≡ decimal n ++ (10 ∷ r)
  seen_cut a b is split = let new = subst (λ g. IsTail g text t n r) is tail in (cut_is 32 text a b t _ split new.0 new.1).1

  pub no_seen : (a b : List ℕ) → f ≡ WithMoments → IsSplit 32 text a b → Lacks 10 b → ⊥
  no_seen a b is split lacks = no_cut 10 b _ _ lacks (seen_cut a b is split)

  pub seen_is : (a b x y : List ℕ) → f ≡ WithMoments → IsSplit 32 text a b → IsSplit 10 b x y → (n < 2 ^ 64) × (x ≡ decimal n)
  seen_is a b x y is split second =
      let new = subst (λ g. IsTail g text t n r) is tail in
      (new.2, (cut_is 10 b x y (decimal n) r second (seen_cut a b is split) (Lacks-decimal 10 n feed_low new.2)).0)

  pub no_old_time : (now : ℕ) → f ≡ ReadAt now → Lacks 10 text → ⊥
  no_old_time now is lacks = let old = subst (λ g. IsTail g text t n r) is tail in no_cut 10 text t _ lacks old.0

-- the parts make a line
pub line_found : (f : Form) (e : Entry) (text a text' b text'' t rest : List ℕ) → IsSplit 32 text a text' → IsSplit 32 text' b text'' → IsTail f text'' t e.1.seen rest
    → a ≡ encode_lower e.0 → b ≡ decimal e.1.pair.boots → t ≡ decimal e.1.pair.time → text ≡ line_in f e ++ rest
line_found f e text a text' b text'' t rest first second tail ea eb et =
    let one : text ≡ encode_lower e.0 ++ (32 ∷ text') = first.parts ∙ ap (λ (x : List ℕ). x ++ (32 ∷ text')) ea in
    let two : text' ≡ decimal e.1.pair.boots ++ (32 ∷ text'') = second.parts ∙ ap (λ (x : List ℕ). x ++ (32 ∷ text'')) eb in
    let three : text' ≡ after_engine f e rest = two ∙ ap (λ (x : List ℕ). decimal e.1.pair.boots ++ (32 ∷ x)) (tail_is f tail) in
    let four : text ≡ encode_lower e.0 ++ (32 ∷ after_engine f e rest) = one ∙ ap (λ (x : List ℕ). encode_lower e.0 ++ (32 ∷ x)) three in
    four ∙ sym (line-parts f e rest)
  where
    tail_is : (f : Form) → IsTail f text'' t e.1.seen rest → text'' ≡ after_boots f e rest
    tail_is WithMoments tail = tail.0 ∙ ap (λ (x : List ℕ). x ++ (32 ∷ (decimal e.1.seen ++ (10 ∷ rest)))) et
    tail_is (ReadAt now) tail = tail.0 ∙ ap (λ (x : List ℕ). x ++ (10 ∷ rest)) et

pub fits_found : (f : Form) (engine : List ℕ) (pair : BootsAndTime) (seen : ℕ) (text t rest : List ℕ) → IsTail f text t seen rest → IsEngine engine → IsPair pair
    → FitsIn f (engine, record { pair = pair; seen = seen })
fits_found WithMoments engine pair seen text t rest tail he hp = record { engine = he; pair = hp; seen = tail.2 }
fits_found (ReadAt now) engine pair seen text t rest tail he hp = (record { engine = he; pair = hp; seen = tail.3 }, tail.2)

same_hex : (a b : List ℕ) → IsBytes a → IsBytes b → encode_lower a ≡ encode_lower b → a ≡ b
same_hex a b ha hb e =
    ap (λ (r : Result (List ℕ) FromHexError). result_unwrap_or r []) (sym (decode_of-encode_lower a ha) ∙ ap decode_of e ∙ decode_of-encode_lower b hb)

-- no line begins another
pub one_line : (f : Form) (x y : Entry) (r s : List ℕ) → FitsIn f x → FitsIn f y → line_in f x ++ r ≡ line_in f y ++ s → (x ≡ y) × (r ≡ s)
one_line f x y r s fx fy e =
    let hx = entry_of f x fx in
    let hy = entry_of f y fy in
    let bx : x.1.pair.boots < 2 ^ 64 = omega (arith, hx.pair.boots) in
    let by' : y.1.pair.boots < 2 ^ 64 = omega (arith, hy.pair.boots) in
    let tx : x.1.pair.time < 2 ^ 64 = omega (arith, hx.pair.time) in
    let ty : y.1.pair.time < 2 ^ 64 = omega (arith, hy.pair.time) in
    let first = one_cut 32 _ _ _ _ (sym (line-parts f x r) ∙ e ∙ line-parts f y s) (Lacks-hex x.0 hx.engine.bytes) (Lacks-hex y.0 hy.engine.bytes) in
    let second = one_cut 32 _ _ _ _ first.1 (Lacks-decimal 32 x.1.pair.boots space_low bx) (Lacks-decimal 32 y.1.pair.boots space_low by') in
    let third = one_tail f (after_boots f x r) _ _ _ _ _ _ (tail_of_line f x r fx)
    (subst (λ text. IsTail f text (decimal y.1.pair.time) y.1.seen s) (sym second.1) (tail_of_line f y s fy)) in
    let engines = same_hex x.0 y.0 hx.engine.bytes hy.engine.bytes first.0 in
    let boots = decimal_injective x.1.pair.boots y.1.pair.boots bx by' second.0 in
    let times = decimal_injective x.1.pair.time y.1.pair.time tx ty third.0 in
    (λ i. (engines i, record { pair = record { boots = boots i; time = times i }; seen = third.1 i }), third.2)

-- no line is empty
pub line-not_nil : (f : Form) (x : Entry) (r : List ℕ) → [] ≢ line_in f x ++ r
line-not_nil f x r e = not_nil (encode_lower x.0) (after_engine f x r) (e ∙ line-parts f x r)
  where
    not_nil : (a b : List ℕ) → [] ≢ a ++ 32 ∷ b
    not_nil [] b e = cc e
    not_nil (y ∷ a) b e = cc e
