-- Lines are read one by one: blocks, and those of the dump that may go on.
use Rattle.std.proofs.Common.{◌≡◌, ◌≢◌, ℕ, zero, suc, ◌+◌, ◌<◌, ◌≤◌, ◌&&◌, ◌||◌, Bool, true, false, List, [], ◌∷◌, ◌++◌, length, get_or, drop, map, Option, Some, None, sym, ap, ◌∙◌, subst, refl, arith, inl, inr, append_assoc, append-nil, length-append}
use Rattle.std.proofs.lemmas.Bool.{false≢true}
use Rattle.std.proofs.lemmas.List.{drop_more, get_or-map, length-map}
use Rattle.capture_dumps.specs.Base.{all_bases, base_number, has, is_number, some_base, writing}
use Rattle.capture_dumps.specs.Line.{Kind, other, begin, more, words, bad, kind}
use Rattle.capture_dumps.specs.Dumps.{IsNext, GoOn, IsDumpIn, IsDump, IsPassedOver, MayEndBefore, IsBlock, AreBlocks, as_list, ended, IsOpenIn, IsOpen, ReadUp, Follows, StopsAfter}
use Rattle.capture_dumps.specs.declared.base.Base.{Base}
use Rattle.capture_dumps.specs.declared.base.Base.TheVariants.{Hex, Decimal, Octal}
use Rattle.capture_dumps.specs.declared.base.Bases.{Bases}
use Rattle.capture_dumps.specs.declared.line.Line.{Line}
use Rattle.capture_dumps.specs.declared.dumps.Dump.{Dump}
use Rattle.capture_dumps.specs.declared.dumps.Reading.{Reading}
use Rattle.capture_dumps.specs.declared.dumps.DumpFault.TheVariants as faults

-- ---- blocks

-- one more block behind blocks
pub block_more : (n : ℕ) (lines block rest : List Kind) (dumps said : List (List ℕ)) → AreBlocks n lines dumps (block ++ rest) → IsBlock block said rest
    → (m : ℕ) × AreBlocks m lines (dumps ++ said) rest
block_more zero lines block rest dumps said h is =
    (suc zero, (block, rest, said, [], h.0, is, ap (λ d. d ++ said) h.1 ∙ sym (append-nil said), (refl, refl)))
block_more (suc n) lines block rest dumps said (b, later, s, others, parts, is_first, e, h) is =
    let m = block_more n later block rest others said h is in
    (suc m.0, (b, later, s, others ++ said, parts, is_first, ap (λ d. d ++ said) e ∙ append_assoc s others said, m.1))

-- the rest is no longer than the lines
pub rest_within : (n : ℕ) (lines rest : List Kind) (dumps : List (List ℕ)) → AreBlocks n lines dumps rest → length rest ≤ length lines
rest_within zero lines rest dumps h = let same = ap length h.0 in omega (arith, same)
rest_within (suc n) lines rest dumps (b, later, s, others, parts, is_first, e, h) =
    let below = rest_within n later rest others h in
    let long = ap length parts in
    let both = length-append b later in
    omega (arith, below, long, both)

-- ---- one dump

go_more : (base : Base) (before : List ℕ) (lines : List Kind) (octets digits said : List ℕ) → GoOn base before lines octets → IsNext base octets digits
    → GoOn base before (lines ++ more digits said ∷ []) (octets ++ said)
go_more base before [] octets digits said h next = (subst (λ o. IsNext base o digits) h next, ap (λ o. o ++ said) h)
go_more base before (more d s ∷ lines) octets digits said h next = (h.0, go_more base (before ++ s) lines octets digits said h.1 next)
go_more base before _ octets digits said h next = absurd h

pub dump_more : (base : Base) (lines : List Kind) (octets digits said : List ℕ) → IsDumpIn base lines octets → IsNext base octets digits
    → IsDumpIn base (lines ++ more digits said ∷ []) (octets ++ said)
dump_more base (begin first ∷ lines) octets digits said h next = go_more base first lines octets digits said h next
dump_more base _ octets digits said h next = absurd h

go_less : (base : Base) (before : List ℕ) (lines : List Kind) (all digits said : List ℕ) → GoOn base before (lines ++ more digits said ∷ []) all
    → (octets : List ℕ) × GoOn base before lines octets × IsNext base octets digits
go_less base before [] all digits said h = (before, refl, h.0)
go_less base before (more d s ∷ lines) all digits said h = let l = go_less base (before ++ s) lines all digits said h.1 in (l.0, (h.0, l.1), l.2)
go_less base before _ all digits said h = absurd h

-- without its last line it is a dump
dump_less : (base : Base) (lines : List Kind) (all digits said : List ℕ) → IsDumpIn base (lines ++ more digits said ∷ []) all
    → (octets : List ℕ) × IsDumpIn base lines octets × IsNext base octets digits
dump_less base (begin first ∷ lines) all digits said h = go_less base first lines all digits said h
dump_less base _ all digits said h = absurd h

go_one : (base other_base : Base) (before : List ℕ) (lines : List Kind) (a b : List ℕ) → GoOn base before lines a → GoOn other_base before lines b → a ≡ b
go_one base other_base before [] a b h k = h ∙ sym k
go_one base other_base before (more d s ∷ lines) a b h k = go_one base other_base (before ++ s) lines a b h.1 k.1
go_one base other_base before _ a b h k = absurd h

-- a dump has one list of octets, whatever the bases
pub dump_one : (base other_base : Base) (lines : List Kind) (a b : List ℕ) → IsDumpIn base lines a → IsDumpIn other_base lines b → a ≡ b
dump_one base other_base (begin first ∷ lines) a b h k = go_one base other_base first lines a b h k
dump_one base other_base _ a b h k = absurd h

-- ---- in which bases

both_are : (a b : Bool) → (a && b) ≡ true → (a ≡ true) × (b ≡ true)
both_are true b e = (refl, e)
both_are false b e = absurd (false≢true e)

not_both : (a b : Bool) → (a && b) ≡ false → a ≡ true → b ≡ false
not_both true b e is = e
not_both false b e is = absurd (false≢true is)

-- of the bases those stay in which the digits write the number
writing_is : (bases : Bases) (digits : List ℕ) (number : ℕ) (base : Base) → has (writing bases digits number) base ≡ (has bases base && is_number (base_number base) digits number)
writing_is bases digits number Hex = refl
writing_is bases digits number _ = refl

some_of : (a b c : Bool) → (a || b || c) ≡ true → (f : Base → Bool) → f Hex ≡ a → f Decimal ≡ b → f Octal ≡ c → (base : Base) × (f base ≡ true)
some_of true b c e f x y z = (Hex, x)
some_of false true c e f x y z = (Decimal, y)
some_of false false c e f x y z = (Octal, z ∙ e)

some_is : (bases : Bases) → some_base bases ≡ true → (base : Base) × (has bases base ≡ true)
some_is bases e = some_of bases.hex bases.decimal bases.octal e (has bases) refl refl refl

none_of : (a b c : Bool) → (a || b || c) ≡ false → (a ≡ false) × (b ≡ false) × (c ≡ false)
none_of true b c e = absurd (false≢true (sym e))
none_of false true c e = absurd (false≢true (sym e))
none_of false false c e = (refl, refl, e)

none_is : (bases : Bases) → some_base bases ≡ false → (base : Base) → has bases base ≡ false
none_is bases e Hex = (none_of bases.hex bases.decimal bases.octal e).0
none_is bases e Decimal = (none_of bases.hex bases.decimal bases.octal e).1
none_is bases e Octal = (none_of bases.hex bases.decimal bases.octal e).2

has_all : (base : Base) → has all_bases base ≡ true
has_all Hex = refl
has_all _ = refl

pub open_begins : (octets : List ℕ) → IsOpenIn all_bases octets (begin octets ∷ [])
open_begins octets = record {
  some = (Hex, refl);
  fits = λ base is. refl;
  only = λ base is all h. false≢true (sym is ∙ has_all base);
}

module _ (bases : Bases) (octets digits said : List ℕ) (lines : List Kind) (is_open : IsOpenIn bases octets lines) where
  -- in a base that doesn't stay the lines are no dump with one more
  pub no_more : (base : Base) → has (writing bases digits (length octets)) base ≡ false → (all : List ℕ) → IsDumpIn base (lines ++ more digits said ∷ []) all → ⊥
  no_more base gone all h =
      let less = dump_less base lines all digits said h in
      by (has bases base) refl less
    where
      by : (b : Bool) → has bases base ≡ b → (less : (before : List ℕ) × IsDumpIn base lines before × IsNext base before digits) → ⊥
      by false e less = is_open.only base e less.0 less.1
      by true e less =
          let same = dump_one base base lines less.0 octets less.1 (is_open.fits base e) in
          let number = subst (λ o. IsNext base o digits) same less.2 in
          let gone_too = not_both (has bases base) (is_number (base_number base) digits (length octets)) (sym (writing_is bases digits (length octets) base) ∙ gone) e in
          false≢true (sym gone_too ∙ number)

  pub open_more : some_base (writing bases digits (length octets)) ≡ true → IsOpenIn (writing bases digits (length octets)) (octets ++ said) (lines ++ more digits said ∷ [])
  open_more some = record {
    some = some_is (writing bases digits (length octets)) some;
    fits = λ base is.
        let two = both_are (has bases base) (is_number (base_number base) digits (length octets)) (sym (writing_is bases digits (length octets) base) ∙ is) in
        dump_more base lines octets digits said (is_open.fits base two.0) two.1;
    only = no_more;
  }

  pub no_dump_more : some_base (writing bases digits (length octets)) ≡ false → (all : List ℕ) → IsDump (lines ++ more digits said ∷ []) all → ⊥
  no_dump_more none all h = no_more h.0 (none_is (writing bases digits (length octets)) none h.0) all h.1

  pub open_dump : IsDump lines octets
  open_dump = (is_open.some.0, is_open.fits is_open.some.0 is_open.some.1)

-- ---- one line more

closed_blocks : (lines rest block : List Kind) (count : ℕ) (dumps : List (List ℕ)) (o : Option Dump) → AreBlocks count lines dumps (block ++ rest) → IsOpen o block → MayEndBefore rest
    → (m : ℕ) × AreBlocks m lines (dumps ++ as_list o) rest
closed_blocks lines rest block count dumps None h none ends =
    (count, subst (λ d. AreBlocks count lines d rest) (sym (append-nil dumps)) (subst (λ (b : List Kind). AreBlocks count lines dumps (b ++ rest)) none h))
closed_blocks lines rest block count dumps (Some dump) h is ends =
    block_more count lines block rest dumps (dump.octets.items ∷ []) h (inr (dump.octets.items, open_dump dump.bases dump.octets.items [] [] block is, refl, ends))

module _ (before : Reading) where
  -- all blocks, where the dump ends before the rest
  pub closed : (lines rest : List Kind) → ReadUp lines rest before → MayEndBefore rest → (m : ℕ) × AreBlocks m lines (ended before ++ as_list before.going) rest
  closed lines rest r ends = closed_blocks lines rest r.block r.count (ended before) before.going r.blocks r.is_open ends

  pub other_follows : (after : Reading) → ended after ≡ ended before ++ as_list before.going → after.going ≡ None → Follows before other after
  other_follows after e none lines rest r =
      let c = closed lines (other ∷ rest) r tt in
      let o = block_more c.0 lines (other ∷ []) rest (ended before ++ as_list before.going) [] c.1 (inl (other, refl, tt, refl)) in record {
        count = o.0;
        block = [];
        blocks = subst (λ d. AreBlocks o.0 lines d rest) (append-nil (ended before ++ as_list before.going) ∙ sym e) o.1;
        is_open = subst (λ o. IsOpen o []) (sym none) refl;
      }

  pub begin_follows : (after : Reading) (dump : Dump) (octets : List ℕ) → ended after ≡ ended before ++ as_list before.going → after.going ≡ Some dump
      → dump.octets.items ≡ octets → dump.bases ≡ all_bases → Follows before (begin octets) after
  begin_follows after dump octets e some are all lines rest r =
      let c = closed lines (begin octets ∷ rest) r tt in
      let one = subst (λ b. IsOpenIn b octets (begin octets ∷ [])) (sym all) (open_begins octets) in record {
        count = c.0;
        block = begin octets ∷ [];
        blocks = subst (λ d. AreBlocks c.0 lines d (begin octets ∷ rest)) (sym e) c.1;
        is_open = subst (λ o. IsOpen o (begin octets ∷ [])) (sym some) (subst (λ o. IsOpenIn dump.bases o (begin octets ∷ [])) (sym are) one);
      }

  -- a line that is passed over where no dump may go on
  pub pass_follows : (after : Reading) (line : Kind) → IsPassedOver line → before.going ≡ None → ended after ≡ ended before → after.going ≡ None → Follows before line after
  pass_follows after line passed closed_before e none lines rest r =
      let nothing = subst (λ o. IsOpen o r.block) closed_before r.is_open in
      let blocks = subst (λ (b : List Kind). AreBlocks r.count lines (ended before) (b ++ (line ∷ rest))) nothing r.blocks in
      let o = block_more r.count lines (line ∷ []) rest (ended before) [] blocks (inl (line, refl, passed, refl)) in record {
        count = o.0;
        block = [];
        blocks = subst (λ d. AreBlocks o.0 lines d rest) (append-nil (ended before) ∙ sym e) o.1;
        is_open = subst (λ o. IsOpen o []) (sym none) refl;
      }

  pub more_follows : (after : Reading) (digits said : List ℕ) (dump next : Dump) → before.going ≡ Some dump → ended after ≡ ended before → after.going ≡ Some next
      → next.octets.items ≡ dump.octets.items ++ said → next.bases ≡ writing dump.bases digits (length dump.octets.items)
      → some_base (writing dump.bases digits (length dump.octets.items)) ≡ true → Follows before (more digits said) after
  more_follows after digits said dump next was e goes are bases some lines rest r =
      let is = subst (λ o. IsOpen o r.block) was r.is_open in
      let one = open_more dump.bases dump.octets.items digits said r.block is some in
      let at = subst (λ b. IsOpenIn b (dump.octets.items ++ said) (r.block ++ more digits said ∷ [])) (sym bases) one in
      let mine = subst (λ o. IsOpenIn next.bases o (r.block ++ more digits said ∷ [])) (sym are) at in
      let blocks = subst (AreBlocks r.count lines (ended before)) (sym (append_assoc r.block (more digits said ∷ []) rest)) r.blocks in record {
        count = r.count;
        block = r.block ++ more digits said ∷ [];
        blocks = subst (λ d. AreBlocks r.count lines d ((r.block ++ more digits said ∷ []) ++ rest)) (sym e) blocks;
        is_open = subst (λ o. IsOpen o (r.block ++ more digits said ∷ [])) (sym goes) mine;
      }

  -- ---- where it stops

  module _ (place number : ℕ) where
    pub stops_bad : number ≡ place + 1 → StopsAfter place before bad (faults.Unreadable number)
    stops_bad is lines rest long r =
        let c = closed lines (bad ∷ rest) r tt in record {
          count = c.0;
          dumps = ended before ++ as_list before.going;
          rest = bad ∷ rest;
          at = 1;
          blocks = c.1;
          stops = inl (rest, refl, refl);
          is = omega (arith, is, long);
        }

    pub stops_words : (dump : Dump) → before.going ≡ Some dump → number ≡ place + 1 → StopsAfter place before words (faults.Unreadable number)
    stops_words dump was is lines rest long r =
        let opened = subst (λ o. IsOpen o r.block) was r.is_open in
        let within = rest_within r.count lines (r.block ++ (words ∷ rest)) (ended before) r.blocks in
        let both = length-append r.block (words ∷ rest) in record {
          count = r.count;
          dumps = ended before;
          rest = r.block ++ (words ∷ rest);
          at = length r.block + 1;
          blocks = r.blocks;
          stops = inr (r.block, rest, dump.octets.items, refl, open_dump dump.bases dump.octets.items [] [] r.block opened, refl);
          is = omega (arith, is, long, within, both);
        }

    pub stops_count : (digits said : List ℕ) (dump : Dump) → before.going ≡ Some dump → some_base (writing dump.bases digits (length dump.octets.items)) ≡ false → number ≡ place
        → StopsAfter place before (more digits said) (faults.OtherCount number)
    stops_count digits said dump was none is lines rest long r =
        let opened = subst (λ o. IsOpen o r.block) was r.is_open in
        let within = rest_within r.count lines (r.block ++ (more digits said ∷ rest)) (ended before) r.blocks in
        let both = length-append r.block (more digits said ∷ rest) in record {
          count = r.count;
          dumps = ended before;
          rest = r.block ++ (more digits said ∷ rest);
          at = length r.block;
          blocks = r.blocks;
          stops = (
            r.block,
            digits,
            said,
            rest,
            dump.octets.items,
            refl,
            open_dump dump.bases dump.octets.items digits said r.block opened,
            no_dump_more dump.bases dump.octets.items digits said r.block opened none,
            refl,
          );
          is = omega (arith, is, long, within, both);
        }

-- ---- all lines

-- the lines that are left, at a line
pub left_at : (lines : List Line) (place : ℕ) (line : Line) → place < length lines → line ≡ get_or lines place line
    → drop place (map kind lines) ≡ kind line ∷ drop (place + 1) (map kind lines)
left_at lines place line within at =
    let inside : place < length (map kind lines) = omega (arith, within, length-map lines kind) in
    drop_more (map kind lines) place (kind line) inside
    ∙ ap (λ (k : Kind). k ∷ drop (place + 1) (map kind lines)) (get_or-map kind lines place line (kind line) within ∙ ap kind (sym at))
