-- Texts of parts: where two readings of a text stop, they are one.
use Rattle.std.proofs.Common.{◌≡◌, eqb, ℕ, zero, suc, ◌+◌, ◌-◌, ◌<◌, ◌≤◌, List, [], ◌∷◌, ◌++◌, length, take, drop, Some, refl, sym, ap, ◌∙◌, subst, arith, append_assoc, append-nil, length-append, take_at, take_all, drop_at, None, length-drop, take-append-drop}
use Rattle.std.proofs.lemmas.Bool.{false≢true}
use lib.Seq.{take-add}
use Rattle.std.specs.Option.{unwrap_or, is_some}
use Rattle.std.specs.List.{count_by, suffix_len}
use Rattle.capture_dumps.specs.Part.{first_part}
use Rattle.capture_dumps.specs.Text.{IsPart, AreParts, BeginsNone, IsHexText, IsFaultAt, IsBehind, IsFaultBehind, IsNoText, BeginsHex, goes_on as no_line_feed}
use Rattle.capture_dumps.specs.declared.text.HexFault.{HexFault}
use Rattle.capture_dumps.specs.declared.text.HexFault.TheVariants as fault
use Rattle.capture_dumps.specs.declared.part.Part.{Part}
use Rattle.capture_dumps.specs.declared.part.Part.TheVariants.{Gap}
use Rattle.capture_dumps.proofs.Begins.{size_of, said_of, begun_found, found_begins, part_some}

-- one part more
pub parts_more : (n : ℕ) (text octets part said : List ℕ) → AreParts n text octets → IsPart part said → AreParts (suc n) (text ++ part) (octets ++ said)
parts_more zero text octets part said (t, o) is = (
  part,
  said,
  [],
  [],
  is,
  ap (λ l. l ++ part) t ∙ sym (append-nil part),
  ap (λ l. l ++ said) o ∙ sym (append-nil said),
  (refl, refl),
)
parts_more (suc n) text octets part said (first, says, rest, more, begins, t, o, later) is = (
  first,
  says,
  rest ++ part,
  more ++ said,
  begins,
  ap (λ l. l ++ part) t ∙ append_assoc first rest part,
  ap (λ l. l ++ said) o ∙ append_assoc says more said,
  parts_more n rest more part said later is,
)

-- a text has one first part
one_first : (a says r b tells s : List ℕ) → IsPart a says → IsPart b tells → a ++ r ≡ b ++ s → (a ≡ b) × (says ≡ tells) × (r ≡ s)
one_first a says r b tells s is it e =
    let p = begun_found a says r is in
    let q = begun_found b tells s it in
    let found : p.0 ≡ q.0 = ap (λ o. unwrap_or o (Gap 0)) (sym p.1 ∙ (ap first_part e ∙ q.1)) in
    let long : length a ≡ length b = sym p.2 ∙ (ap size_of found ∙ q.2) in (
      sym (take_at a r (length b) long) ∙ (ap (take (length b)) e ∙ take_at b s (length b) refl),
      sym p.3 ∙ (ap said_of found ∙ q.3),
      sym (drop_at a r (length b) long) ∙ (ap (drop (length b)) e ∙ drop_at b s (length b) refl),
    )

-- two readings of a text that both go on with no part
pub one_stop : (n m : ℕ) (f a r g b s : List ℕ) → AreParts n f a → AreParts m g b → f ++ r ≡ g ++ s → BeginsNone r → BeginsNone s → (f ≡ g) × (a ≡ b) × (r ≡ s)
one_stop zero zero f a r g b s p q e stops ends = (p.0 ∙ sym q.0, p.1 ∙ sym q.1, ap (λ t. t ++ r) (sym p.0) ∙ (e ∙ ap (λ t. t ++ s) q.0))
one_stop zero (suc m) f a r g b s p (part, said, rest, more, is, t, o, later) e stops ends =
    absurd (stops part said (rest ++ s) is (ap (λ l. l ++ r) (sym p.0) ∙ (e ∙ (ap (λ l. l ++ s) t ∙ append_assoc part rest s))))
one_stop (suc n) zero f a r g b s (part, said, rest, more, is, t, o, later) q e stops ends =
    absurd (ends part said (rest ++ r) is (ap (λ l. l ++ s) (sym q.0) ∙ (sym e ∙ (ap (λ l. l ++ r) t ∙ append_assoc part rest r))))
one_stop (suc n) (suc m) f a r g b s (part, said, rest, more, is, t, o, later) (part', said', rest', more', is', t', o', later') e stops ends =
    let same : part ++ (rest ++ r) ≡ part' ++ (rest' ++ s) = sym (append_assoc part rest r) ∙ (ap (λ l. l ++ r) (sym t) ∙ (e ∙ (ap (λ l. l ++ s) t' ∙ append_assoc part' rest' s))) in
    let first = one_first part said (rest ++ r) part' said' (rest' ++ s) is is' same in
    let next = one_stop n m rest more r rest' more' s later later' first.2 stops ends in (
      t ∙ (ap (λ l. l ++ rest) first.0 ∙ (ap (λ l. part' ++ l) next.0 ∙ sym t')),
      o ∙ (ap (λ l. l ++ more) first.1 ∙ (ap (λ l. said' ++ l) next.1 ∙ sym o')),
      next.2,
    )

-- nothing begins with no part
pub none_in_nothing : BeginsNone []
none_in_nothing part said rest is e =
    let some = part_some part said is in
    let long = length-append part rest in
    let all : length {A = ℕ} [] ≡ length (part ++ rest) = ap length e in
    absurd (omega (arith, some, long, all))

pub one_octets : (text a b : List ℕ) → IsHexText text a → IsHexText text b → a ≡ b
one_octets text a b (n, p, some) (m, q, more) = (one_stop n m text a [] text b [] p q refl none_in_nothing none_in_nothing).1

pub never_both : (text octets : List ℕ) (line column : ℕ) → IsHexText text octets → IsFaultAt text line column → ⊥
never_both text octets line column (n, p, some) at =
    let stop = one_stop n at.number text octets [] at.front at.octets at.rest p at.are (append-nil text ∙ at.parts) none_in_nothing at.none in
    let none : octets ≡ [] = stop.1 ∙ at.empty (sym stop.2) in
    let zero_long : length octets ≡ 0 = ap length none in
    absurd (omega (arith, some, zero_long))

pub one_place : (text : List ℕ) (k l m n : ℕ) → IsFaultAt text k m → IsFaultAt text l n → (k ≡ l) × (m ≡ n)
one_place text k l m n at by =
    let stop = one_stop at.number by.number at.front at.octets at.rest by.front by.octets by.rest at.are by.are (sym at.parts ∙ by.parts) at.none by.none in
    let first = at.behind in
    let second = by.behind in (
      first.line_is ∙ (ap (λ t. count_by (λ c. eqb c 10) t + 1) stop.0 ∙ sym second.line_is),
      first.column_is ∙ (ap (λ t. suffix_len no_line_feed t + 1) stop.0 ∙ sym second.column_is),
    )

-- ---- reading on

-- what was read, with the part that comes next
pub record Goes (text octets said : List ℕ) (read size : ℕ) : Type 0 where
  pub are : (n : ℕ) × AreParts n (take (read + size) text) (octets ++ said)
  pub within : read + size ≤ length text
  pub some : 0 < size

rest_is : (text : List ℕ) (read : ℕ) → take (length text - read) (drop read text) ≡ drop read text
rest_is text read = take_all (length text - read) (drop read text) (omega (arith, length-drop read text))

pub reads_on : (text octets : List ℕ) (read n : ℕ) (p : Part) → AreParts n (take read text) octets → read ≤ length text → Some p ≡ first_part (take (length text - read) (drop read text))
    → Goes text octets (said_of p) read (size_of p)
reads_on text octets read n p are within found =
    let b = found_begins (drop read text) p (sym (found ∙ ap first_part (rest_is text read))) in
    let size = b.size_is in
    let front : take (size_of p) (drop read text) ≡ b.part = ap (take (size_of p)) b.parts ∙ take_at b.part b.rest (size_of p) size in
    let both : take (read + size_of p) text ≡ take read text ++ b.part = take-add read (size_of p) text ∙ ap (λ t. take read text ++ t) front in
    let left = length-drop read text in
    let parts : length (drop read text) ≡ length (b.part ++ b.rest) = ap length b.parts in
    let long = length-append b.part b.rest in
    let some = part_some b.part (said_of p) b.is in
    record {
      are = (suc n, subst (λ t. AreParts (suc n) t (octets ++ said_of p)) (sym both) (parts_more n (take read text) octets b.part (said_of p) are b.is));
      within = omega (arith, left, parts, long, size, within);
      some = omega (arith, some, size);
    }

-- an octet more was read
pub begins_hex : (text octets : List ℕ) (octet read size : ℕ) → Goes text octets (octet ∷ []) read size → BeginsHex text
begins_hex text octets octet read size on =
    let long = length-append octets (octet ∷ []) in
    (on.are.0, take (read + size) text, drop (read + size) text, octets ++ octet ∷ [], on.are.1, sym (take-append-drop (read + size) text), omega (arith, long))

pub stops : (text octets : List ℕ) (read n line column : ℕ) → AreParts n (take read text) octets → None ≡ first_part (take (length text - read) (drop read text)) → (drop read text ≡ [] → octets ≡ [])
    → IsBehind (take read text) line column → IsFaultAt text line column
stops text octets read n line column are none empty behind = record {
  number = n;
  front = take read text;
  rest = drop read text;
  octets = octets;
  are = are;
  parts = sym (take-append-drop read text);
  none = λ part said rest is e.
      let found = begun_found part said rest is in
      absurd (false≢true (ap is_some (none ∙ (ap first_part (rest_is text read ∙ e) ∙ found.1))));
  empty = empty;
  behind = behind;
}

pub not_at_end : (text octets : List ℕ) (read : ℕ) → read < length text → drop read text ≡ [] → octets ≡ []
not_at_end text octets read below none =
    let left = length-drop read text in
    let zero_left : length (drop read text) ≡ 0 = ap length none in
    absurd (omega (arith, left, zero_left, below))

pub ends : (text : List ℕ) (n line column : ℕ) → AreParts n text [] → IsBehind text line column → IsFaultAt text line column
ends text n line column are behind = record {
  number = n;
  front = text;
  rest = [];
  octets = [];
  are = are;
  parts = sym (append-nil text);
  none = none_in_nothing;
  empty = λ none. refl;
  behind = behind;
}

pub told : (text front : List ℕ) (f : HexFault) → ((line column : ℕ) → IsBehind front line column → IsFaultAt text line column) → IsFaultBehind front f → IsNoText text f
told text front (fault.At line column) is behind = is line column behind
told text front fault.OutOfMemory is behind = absurd behind
