-- Which bracket is the first that opens beside 16 others, piece by piece.
use Rattle.std.proofs.Common.{◌≡◌, ℕ, ◌≤◌, List, [], ◌∷◌, length, Option, Some, None, ap, refl, sym, ◌∙◌, subst, inl, inr, arith}
use Rattle.std.proofs.lemmas.Bool.{cases_lt}
use Rattle.toml_parser.specs.Lexical.{skip_blank}
use Rattle.snmpsec_config.specs.declared.nesting.Mark.{Mark}
use Rattle.snmpsec_config.specs.declared.nesting.Mark.TheVariants.{Opens, Closes, Neither}
use Rattle.snmpsec_config.specs.Nesting.{piece, ArePieces, open_behind, open_behind_all, StayWithin, OpensTooMany}

-- one piece more in front
pub deep_in_front : (n : ℕ) (mark : Mark) (text behind : List ℕ) (left : ℕ) → piece (skip_blank text) ≡ Some (mark, behind) → n ≤ 16 → OpensTooMany (open_behind mark n) behind left → OpensTooMany n text left
deep_in_front n mark text behind left is within w = record {
  marks = mark ∷ w.marks;
  rest = w.rest;
  behind = w.behind;
  are_pieces = (behind, is, w.are_pieces);
  within = (within, w.within);
  beside = w.beside;
  opens = w.opens;
  here = w.here;
}

abbrev mark_read : Option (Mark × List ℕ) → Mark
mark_read None = Opens
mark_read (Some read) = read.0

abbrev text_read : Option (Mark × List ℕ) → List ℕ
text_read None = []
text_read (Some read) = read.1

one_piece : (o : Option (Mark × List ℕ)) (a b : Mark) (x y : List ℕ) → o ≡ Some (a, x) → o ≡ Some (b, y) → (a ≡ b) × (x ≡ y)
one_piece o a b x y p q = (ap mark_read (sym p ∙ q), ap text_read (sym p ∙ q))

no_piece : (o : Option (Mark × List ℕ)) (a : Mark) (x : List ℕ) → o ≡ None → o ≡ Some (a, x) → ⊥
no_piece o a x p q = let never : None ≡ Some (a, x) = sym p ∙ q in cc

deep_of : (marks : List Mark) (n : ℕ) (mark : Mark) (text behind rest later : List ℕ) (left : ℕ) → piece (skip_blank text) ≡ Some (mark, behind) → (n ≡ 16 → mark ≡ Opens → ⊥)
    → ArePieces marks text rest → StayWithin marks n → open_behind_all marks n ≡ 16 → piece (skip_blank rest) ≡ Some (Opens, later) → left ≡ length (skip_blank rest)
    → OpensTooMany (open_behind mark n) behind left
deep_of [] n mark text behind rest later left is other pieces within beside opens here =
    let opens_here : piece (skip_blank text) ≡ Some (Opens, later) = subst (λ (t : List ℕ). piece (skip_blank t) ≡ Some (Opens, later)) pieces opens in
    absurd (other beside (one_piece _ mark Opens behind later is opens_here).0)
deep_of (first ∷ marks) n mark text behind rest later left is other (after, read, pieces) within beside opens here =
    let same = one_piece _ first mark after behind read is in
    record {
      marks = marks;
      rest = rest;
      behind = later;
      are_pieces = subst (λ t. ArePieces marks t rest) same.1 pieces;
      within = subst (λ m. StayWithin marks (open_behind m n)) same.0 within.1;
      beside = subst (λ m. open_behind_all marks (open_behind m n) ≡ 16) same.0 beside;
      opens = opens;
      here = here;
    }

-- one piece fewer
pub deep_behind : (n : ℕ) (mark : Mark) (text behind : List ℕ) (left : ℕ) → piece (skip_blank text) ≡ Some (mark, behind) → (n ≡ 16 → mark ≡ Opens → ⊥) → OpensTooMany n text left → OpensTooMany (open_behind mark n) behind left
deep_behind n mark text behind left is other w = deep_of w.marks n mark text behind w.rest w.behind left is other w.are_pieces w.within w.beside w.opens w.here

ends_of : (marks : List Mark) (text rest later : List ℕ) → piece (skip_blank text) ≡ None → ArePieces marks text rest → piece (skip_blank rest) ≡ Some (Opens, later) → ⊥
ends_of [] text rest later none pieces opens = no_piece _ Opens later none (subst (λ (t : List ℕ). piece (skip_blank t) ≡ Some (Opens, later)) pieces opens)
ends_of (first ∷ marks) text rest later none (after, read, pieces) opens = no_piece _ first after none read

-- no piece
pub deep_nowhere : (n : ℕ) (text : List ℕ) (left : ℕ) → piece (skip_blank text) ≡ None → OpensTooMany n text left → ⊥
deep_nowhere n text left none w = ends_of w.marks text w.rest w.behind none w.are_pieces w.opens

-- at most 16 are open behind a piece that isn't a bracket beside 16
pub open_within : (n : ℕ) (mark : Mark) → n ≤ 16 → (n ≡ 16 → mark ≡ Opens → ⊥) → open_behind mark n ≤ 16
open_within n Opens within other = elim (cases_lt n 16) [ inl less ↦ omega (arith, less) | inr full ↦ absurd (other (omega (arith, within, full)) refl) ]
open_within n Closes within other = omega (arith, within)
open_within n Neither within other = within

-- the bracket is the next piece
pub deep_here : (n : ℕ) (mark : Mark) (text behind : List ℕ) (left : ℕ) → piece (skip_blank text) ≡ Some (mark, behind) → mark ≡ Opens → n ≡ 16 → left ≡ length (skip_blank text) → OpensTooMany n text left
deep_here n mark text behind left is opens full here = record {
  marks = [];
  rest = text;
  behind = behind;
  are_pieces = refl;
  within = omega (arith, full);
  beside = full;
  opens = subst (λ m. piece (skip_blank text) ≡ Some (m, behind)) opens is;
  here = here;
}
