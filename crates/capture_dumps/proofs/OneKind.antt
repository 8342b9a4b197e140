-- A text has one list of lines: each line is one text, and what it is to a dump is one thing.
use Rattle.std.proofs.Common.{◌≡◌, ℕ, suc, ◌<◌, true, false, List, [], ◌∷◌, ◌++◌, length, take, Option, Some, None, refl, sym, ap, ◌∙◌, subst, arith, inl, inr, length-append}
use Rattle.std.proofs.lemmas.Bool.{false≢true, cases_order}
use Rattle.std.proofs.lemmas.Option.{none-some, same_Some}
use Rattle.snmp_ber.proofs.Cuts.{cut_is, no_cut}
use Rattle.capture_dumps.specs.Column.{are_blanks}
use Rattle.capture_dumps.specs.Offset.{Offset, offset_of}
use Rattle.capture_dumps.specs.Row.{IsBare, IsNoRow, IsRow, Reads, reads}
use Rattle.capture_dumps.specs.Line.{AreLines, IsFirstLine, IsKindAt, IsKindFrom, IsKindOf, IsRowAt, Kind, are_pairs, bad, begin, has_pairs, more, other, without_return, word_size, words}
use Rattle.capture_dumps.proofs.Rows.{all_passed, blank_no_pair, reads_stop}

-- ---- the octets of a line

same_reads : (text a b : List ℕ) (m n : ℕ) (r s : List ℕ) → reads m text ≡ Some (a, r) → reads n text ≡ Some (b, s) → m ≡ n → a ≡ b
same_reads text a b m n r s p q e = ap (λ (z : Reads). z.0) (same_Some _ _ (sym p ∙ ap (λ k. reads k text) e ∙ q))

-- no pairs stand behind those that only blanks stand behind
bare_most : (text a b : List ℕ) (m n : ℕ) (r s : List ℕ) → reads m text ≡ Some (a, r) → are_blanks r ≡ true → reads n text ≡ Some (b, s) → m < n → ⊥
bare_most text a b m n r s p blank q below = none-some (b, s) (sym (reads_stop text a r m n p (blank_no_pair r blank) below) ∙ q)

one_bare : (text a b : List ℕ) → IsBare text a → IsBare text b → a ≡ b
one_bare text a b (m, r, some, p, blank) (n, s, more_than_none, q, blank_too) = elim (cases_order m n) [
  | inl same ↦ same_reads text a b m n r s p q same
  | inr (inl below) ↦ absurd (bare_most text a b m n r s p blank q below)
  | inr (inr above) ↦ absurd (bare_most text b a n m s r q blank_too p above)
]

pub one_row : (text a b : List ℕ) → IsRow text a → IsRow text b → a ≡ b
one_row text a b (inl s) (inl t) = elim (cases_order s.count t.count) [
  | inl same ↦ same_reads text a b s.count t.count s.shown.0 t.shown.0 s.shown.2 t.shown.2 same
  | inr (inl below) ↦ absurd (t.first s.count a below s.shown)
  | inr (inr above) ↦ absurd (s.first t.count b above t.shown)
]
one_row text a b (inl s) (inr (none, bare)) = absurd (none s.count a s.shown)
one_row text a b (inr (none, bare)) (inl t) = absurd (none t.count b t.shown)
one_row text a b (inr (none, bare)) (inr (none_too, bare_too)) = one_bare text a b bare bare_too

pub row_or_none : (text a : List ℕ) → IsRow text a → IsNoRow text → ⊥
row_or_none text a (inl s) neither = neither.0 s.count a s.shown
row_or_none text a (inr (none, bare)) neither = neither.1 a bare

-- ---- what a line is

-- blanks have no pairs
blank_pairs : (o : Offset) → are_blanks o.rest ≡ true → has_pairs o ≡ false
blank_pairs o blank = ap (λ (behind : List ℕ). are_pairs (take (word_size behind) behind)) (all_passed o.rest blank)

begin_more : (o : Offset) (a digits b : List ℕ) → IsKindAt o (begin a) → IsKindAt o (more digits b) → ⊥
begin_more o a digits b (zero_is, row) (same, inl (blank, none)) = false≢true (sym (blank_pairs o blank) ∙ row.pairs)
begin_more o a digits b (zero_is, row) (same, inr (other_is, row_too)) = false≢true (sym other_is ∙ zero_is)

row_words : (o : Offset) (a : List ℕ) → IsRowAt o a → IsKindAt o words → ⊥
row_words o a row (some, none) = false≢true (sym none ∙ row.pairs)

row_bad : (o : Offset) (a : List ℕ) → IsRowAt o a → IsKindAt o bad → ⊥
row_bad o a row (pairs, inl joined) = false≢true (sym joined ∙ row.apart)
row_bad o a row (pairs, inr neither) = row_or_none o.rest a row.row neither

more_words : (o : Offset) (digits a : List ℕ) → IsKindAt o (more digits a) → IsKindAt o words → ⊥
more_words o digits a (same, inl (blank, none)) (some, no_pairs) = false≢true (sym some ∙ blank)
more_words o digits a (same, inr (other_is, row)) w = row_words o a row w

more_bad : (o : Offset) (digits a : List ℕ) → IsKindAt o (more digits a) → IsKindAt o bad → ⊥
more_bad o digits a (same, inl (blank, none)) b = false≢true (sym (blank_pairs o blank) ∙ b.0)
more_bad o digits a (same, inr (other_is, row)) b = row_bad o a row b

words_bad : (o : Offset) → IsKindAt o words → IsKindAt o bad → ⊥
words_bad o w b = false≢true (sym w.1 ∙ b.0)

-- the octets of a line that goes on
one_said : (o : Offset) (digits a other_digits b : List ℕ) → IsKindAt o (more digits a) → IsKindAt o (more other_digits b) → a ≡ b
one_said o digits a other_digits b (same, inl (blank, none)) (same_too, inl (blank_too, none_too)) = none ∙ sym none_too
one_said o digits a other_digits b (same, inl (blank, none)) (same_too, inr (other_is, row)) = absurd (false≢true (sym (blank_pairs o blank) ∙ row.pairs))
one_said o digits a other_digits b (same, inr (other_is, row)) (same_too, inl (blank, none)) = absurd (false≢true (sym (blank_pairs o blank) ∙ row.pairs))
one_said o digits a other_digits b (same, inr (other_is, row)) (same_too, inr (other_is_too, row_too)) = one_row o.rest a b row.row row_too.row

one_more_line : (digits other_digits a b : List ℕ) → digits ≡ other_digits → a ≡ b → more digits a ≡ more other_digits b
one_more_line digits other_digits a b p q = ap (λ d. more d a) p ∙ ap (λ o. more other_digits o) q

one_at : (o : Offset) (k l : Kind) → IsKindAt o k → IsKindAt o l → k ≡ l
one_at o other l p q = absurd p
one_at o (begin a) other p q = absurd q
one_at o (begin a) (begin b) p q = ap begin (one_row o.rest a b p.1.row q.1.row)
one_at o (begin a) (more digits b) p q = absurd (begin_more o a digits b p q)
one_at o (begin a) words p q = absurd (row_words o a p.1 q)
one_at o (begin a) bad p q = absurd (row_bad o a p.1 q)
one_at o (more digits a) other p q = absurd q
one_at o (more digits a) (begin b) p q = absurd (begin_more o b digits a q p)
one_at o (more digits a) (more other_digits b) p q = one_more_line digits other_digits a b (p.0 ∙ sym q.0) (one_said o digits a other_digits b p q)
one_at o (more digits a) words p q = absurd (more_words o digits a p q)
one_at o (more digits a) bad p q = absurd (more_bad o digits a p q)
one_at o words other p q = absurd q
one_at o words (begin b) p q = absurd (row_words o b q.1 p)
one_at o words (more digits b) p q = absurd (more_words o digits b q p)
one_at o words words p q = refl
one_at o words bad p q = absurd (words_bad o p q)
one_at o bad other p q = absurd q
one_at o bad (begin b) p q = absurd (row_bad o b q.1 p)
one_at o bad (more digits b) p q = absurd (more_bad o digits b q p)
one_at o bad words p q = absurd (words_bad o q p)
one_at o bad bad p q = refl

one_from : (o : Option Offset) (k l : Kind) → IsKindFrom o k → IsKindFrom o l → k ≡ l
one_from None k l p q = p ∙ sym q
one_from (Some o) k l p q = one_at o k l p q

one_kind : (line : List ℕ) (k l : Kind) → IsKindOf line k → IsKindOf line l → k ≡ l
one_kind line k l p q = one_from (offset_of (without_return line)) k l p q

-- ---- the lines of a text

one_first : (text a r b s : List ℕ) → IsFirstLine text a r → IsFirstLine text b s → (a ≡ b) × (r ≡ s)
one_first text a r b s (inl p) (inl q) = cut_is 10 text a r b s p q.parts q.first
one_first text a r b s (inl p) (inr (some, lacks, e, none)) = absurd (no_cut 10 text a r lacks p.parts)
one_first text a r b s (inr (some, lacks, e, none)) (inl q) = absurd (no_cut 10 text b s lacks q.parts)
one_first text a r b s (inr (some, lacks, e, none)) (inr (some_too, lacks_too, e_too, none_too)) = (e ∙ sym e_too, none ∙ sym none_too)

-- a text without an octet has no line
no_line : (a r : List ℕ) → IsFirstLine [] a r → ⊥
no_line a r (inl p) =
    let long : 0 ≡ length (a ++ 10 ∷ r) = ap length p.parts in
    let both = length-append a (10 ∷ r) in
    let one : length (10 ∷ r) ≡ suc (length r) = refl in
    absurd (omega (arith, long, both, one))
no_line a r (inr (some, lacks, e, none)) = some refl

pub one_lines : (text : List ℕ) (ks ls : List Kind) → AreLines text ks → AreLines text ls → ks ≡ ls
one_lines text [] [] p q = refl
one_lines text [] (l ∷ ls) p (b, s, first, is, behind) = absurd (no_line b s (subst (λ t. IsFirstLine t b s) p first))
one_lines text (k ∷ ks) [] (a, r, first, is, behind) q = absurd (no_line a r (subst (λ t. IsFirstLine t a r) q first))
one_lines text (k ∷ ks) (l ∷ ls) (a, r, first, is, behind) (b, s, first_too, is_too, behind_too) =
    let same = one_first text a r b s first first_too in
    let head : k ≡ l = one_kind a k l is (subst (λ line. IsKindOf line l) (sym same.0) is_too) in
    let tail : ks ≡ ls = one_lines r ks ls behind (subst (λ rest. AreLines rest ls) (sym same.1) behind_too) in
    ap (λ (x : Kind). x ∷ ks) head ∙ ap (λ (xs : List Kind). l ∷ xs) tail
