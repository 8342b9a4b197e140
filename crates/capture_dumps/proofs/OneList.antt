-- Lines are blocks in one way, and no line can be told of lines that are blocks.
use Rattle.std.proofs.Common.{◌≡◌, ◌⊎◌, ℕ, zero, suc, List, [], ◌∷◌, ◌++◌, length, refl, sym, ap, ◌∙◌, subst, arith, inl, inr, append_assoc, append-nil}
use Rattle.std.specs.Prelude.{⊤}
use Rattle.capture_dumps.specs.Line.{AreLines, Kind, bad, begin, more, other, words}
use Rattle.capture_dumps.specs.Dumps.{AreBlocks, GoOn, HasDumps, IsBlock, IsDump, IsDumpIn, IsNotBegun, IsOtherCount, IsPassedOver, IsUnread, IsUnreadable, MayEndBefore, StopsAt}
use Rattle.capture_dumps.specs.declared.base.Base.{Base}
use Rattle.capture_dumps.specs.declared.dumps.DumpFault.{DumpFault}
use Rattle.capture_dumps.specs.declared.dumps.DumpFault.TheVariants as faults
use Rattle.capture_dumps.proofs.Blocks.{dump_one}
use Rattle.capture_dumps.proofs.OneKind.{one_lines}

-- ---- lists of lines

head_of : List Kind → Kind
head_of [] = other
head_of (x ∷ xs) = x

tail_of : List Kind → List Kind
tail_of [] = []
tail_of (x ∷ xs) = xs

same_head : (x y : Kind) (xs ys : List Kind) → x ∷ xs ≡ y ∷ ys → x ≡ y
unfolding head_of
same_head x y xs ys e = ap head_of e

same_tail : (x y : Kind) (xs ys : List Kind) → x ∷ xs ≡ y ∷ ys → xs ≡ ys
unfolding tail_of
same_tail x y xs ys e = ap tail_of e

both_same : (x y : Kind) (xs ys : List Kind) → x ≡ y → xs ≡ ys → x ∷ xs ≡ y ∷ ys
both_same x y xs ys p q = ap (λ (z : Kind). z ∷ xs) p ∙ ap (λ (zs : List Kind). y ∷ zs) q

no_lines : (x : Kind) (xs : List Kind) → x ∷ xs ≡ [] → ⊥
no_lines x xs e = let long : suc (length xs) ≡ 0 = ap length e in absurd (omega (arith, long))

-- ---- two dumps at the beginning of the same lines

-- those that go on are the same lines, where a dump may end behind each
same_on : (b c : Base) (p q x y : List ℕ) (xs ys r s : List Kind) → xs ++ r ≡ ys ++ s → GoOn b p xs x → GoOn c q ys y → MayEndBefore r → MayEndBefore s → (xs ≡ ys) × (r ≡ s)
same_on b c p q x y [] [] r s e g h m n = (refl, e)
same_on b c p q x y [] (more d t ∷ ys) r s e g h m n = absurd (subst MayEndBefore e m)
same_on b c p q x y [] (other ∷ ys) r s e g h m n = absurd h
same_on b c p q x y [] (begin t ∷ ys) r s e g h m n = absurd h
same_on b c p q x y [] (words ∷ ys) r s e g h m n = absurd h
same_on b c p q x y [] (bad ∷ ys) r s e g h m n = absurd h
same_on b c p q x y (more d t ∷ xs) [] r s e g h m n = absurd (subst MayEndBefore (sym e) n)
same_on b c p q x y (more d t ∷ xs) (more f u ∷ ys) r s e g h m n =
    let rest = same_on b c (p ++ t) (q ++ u) x y xs ys r s (same_tail (more d t) (more f u) (xs ++ r) (ys ++ s) e) g.1 h.1 m n in
    (both_same (more d t) (more f u) xs ys (same_head (more d t) (more f u) (xs ++ r) (ys ++ s) e) rest.0, rest.1)
same_on b c p q x y (more d t ∷ xs) (other ∷ ys) r s e g h m n = absurd h
same_on b c p q x y (more d t ∷ xs) (begin u ∷ ys) r s e g h m n = absurd h
same_on b c p q x y (more d t ∷ xs) (words ∷ ys) r s e g h m n = absurd h
same_on b c p q x y (more d t ∷ xs) (bad ∷ ys) r s e g h m n = absurd h
same_on b c p q x y (other ∷ xs) ys r s e g h m n = absurd g
same_on b c p q x y _ ys r s e g h m n = absurd g

-- a dump goes on beyond another, behind which no dump may end: with the next line that is one too
past : (b c : Base) (p q x y : List ℕ) (l : Kind) (xs ys r s : List Kind) → xs ++ (l ∷ r) ≡ ys ++ s → GoOn b p xs x → GoOn c q ys y → (MayEndBefore (l ∷ r) → ⊥) → MayEndBefore s
    → (all : List ℕ) × GoOn c q (xs ++ l ∷ []) all
past b c p q x y l [] [] r s e g h m n = absurd (m (subst MayEndBefore (sym e) n))
past b c p q x y l [] (more f u ∷ ys) r s e g h m n =
    let same : l ≡ more f u = same_head l (more f u) r (ys ++ s) e in
    (q ++ u, subst (λ (k : Kind). GoOn c q (k ∷ []) (q ++ u)) (sym same) (h.0, refl))
past b c p q x y l [] (other ∷ ys) r s e g h m n = absurd h
past b c p q x y l [] (begin u ∷ ys) r s e g h m n = absurd h
past b c p q x y l [] (words ∷ ys) r s e g h m n = absurd h
past b c p q x y l [] (bad ∷ ys) r s e g h m n = absurd h
past b c p q x y l (more d t ∷ xs) [] r s e g h m n = absurd (subst MayEndBefore (sym e) n)
past b c p q x y l (more d t ∷ xs) (more f u ∷ ys) r s e g h m n =
    let same = same_head (more d t) (more f u) (xs ++ (l ∷ r)) (ys ++ s) e in
    let rest = past b c (p ++ t) (q ++ u) x y l xs ys r s (same_tail (more d t) (more f u) (xs ++ (l ∷ r)) (ys ++ s) e) g.1 h.1 m n in
    (rest.0, subst (λ (k : Kind). GoOn c q (k ∷ (xs ++ l ∷ [])) rest.0) (sym same) (h.0, rest.1))
past b c p q x y l (more d t ∷ xs) (other ∷ ys) r s e g h m n = absurd h
past b c p q x y l (more d t ∷ xs) (begin u ∷ ys) r s e g h m n = absurd h
past b c p q x y l (more d t ∷ xs) (words ∷ ys) r s e g h m n = absurd h
past b c p q x y l (more d t ∷ xs) (bad ∷ ys) r s e g h m n = absurd h
past b c p q x y l (other ∷ xs) ys r s e g h m n = absurd g
past b c p q x y l _ ys r s e g h m n = absurd g

-- a dump begins with the line of the offset 0
pub record Begins (base : Base) (lines : List Kind) (octets : List ℕ) : Type 0 where
  pub first : List ℕ
  pub behind : List Kind
  pub are : lines ≡ begin first ∷ behind
  pub on : GoOn base first behind octets

begins : (base : Base) (lines : List Kind) (octets : List ℕ) → IsDumpIn base lines octets → Begins base lines octets
begins base (begin first ∷ lines) octets h = record { first = first; behind = lines; are = refl; on = h }
begins base _ octets h = absurd h

same_dump : (b c : Base) (xs ys r s : List Kind) (x y : List ℕ) → xs ++ r ≡ ys ++ s → IsDumpIn b xs x → IsDumpIn c ys y → MayEndBefore r → MayEndBefore s → (xs ≡ ys) × (r ≡ s)
same_dump b c xs ys r s x y e g h m n =
    let one = begins b xs x g in
    let two = begins c ys y h in
    let lines : begin one.first ∷ (one.behind ++ r) ≡ begin two.first ∷ (two.behind ++ s) = sym (ap (λ (z : List Kind). z ++ r) one.are) ∙ e ∙ ap (λ (z : List Kind). z ++ s) two.are in
    let rest = same_on b c one.first two.first x y one.behind two.behind r s (same_tail (begin one.first) (begin two.first) (one.behind ++ r) (two.behind ++ s) lines) one.on two.on m n in
    let head = same_head (begin one.first) (begin two.first) (one.behind ++ r) (two.behind ++ s) lines in
    (one.are ∙ both_same (begin one.first) (begin two.first) one.behind two.behind head rest.0 ∙ sym two.are, rest.1)

-- ---- blocks

abbrev IsBegin : Kind → Type 0
IsBegin other = ⊥
IsBegin (begin octets) = ⊤
IsBegin (more digits octets) = ⊥
IsBegin words = ⊥
IsBegin bad = ⊥

-- a block is passed over, or begins as a dump does
block_first : (line : Kind) (later block behind : List Kind) (said : List (List ℕ)) → line ∷ later ≡ block ++ behind → IsBlock block said behind → IsPassedOver line ⊎ IsBegin line
block_first line later block behind said e (inl (one, is, passed, none)) =
    let lines : line ∷ later ≡ one ∷ behind = e ∙ ap (λ (z : List Kind). z ++ behind) is in
    inl (subst IsPassedOver (sym (same_head line one later behind lines)) passed)
block_first line later block behind said e (inr (octets, (base, dump), is, ends)) =
    let b = begins base block octets dump in
    let lines : line ∷ later ≡ begin b.first ∷ (b.behind ++ behind) = e ∙ ap (λ (z : List Kind). z ++ behind) b.are in
    inr (subst IsBegin (sym (same_head line (begin b.first) later (b.behind ++ behind) lines)) tt)

-- no dump begins with a line that is passed over
dump_passed : (base : Base) (xs r s : List Kind) (x : List ℕ) (line : Kind) → xs ++ r ≡ line ∷ s → IsDumpIn base xs x → IsPassedOver line → ⊥
dump_passed base xs r s x line e dump passed =
    let b = begins base xs x dump in
    let lines : begin b.first ∷ (b.behind ++ r) ≡ line ∷ s = sym (ap (λ (z : List Kind). z ++ r) b.are) ∙ e in
    subst IsPassedOver (sym (same_head (begin b.first) line (b.behind ++ r) s lines)) passed

one_block : (xs ys r s : List Kind) (a b : List (List ℕ)) → xs ++ r ≡ ys ++ s → IsBlock xs a r → IsBlock ys b s → (a ≡ b) × (r ≡ s)
one_block xs ys r s a b e (inl (l, is, passed, none)) (inl (k, is_too, passed_too, none_too)) =
    let lines : l ∷ r ≡ k ∷ s = sym (ap (λ (z : List Kind). z ++ r) is) ∙ e ∙ ap (λ (z : List Kind). z ++ s) is_too in
    (none ∙ sym none_too, same_tail l k r s lines)
one_block xs ys r s a b e (inl (l, is, passed, none)) (inr (y, (c, dump), is_too, ends)) =
    absurd (dump_passed c ys s r y l (sym e ∙ ap (λ (z : List Kind). z ++ r) is) dump passed)
one_block xs ys r s a b e (inr (x, (c, dump), is, ends)) (inl (k, is_too, passed, none)) =
    absurd (dump_passed c xs r s x k (e ∙ ap (λ (z : List Kind). z ++ s) is_too) dump passed)
one_block xs ys r s a b e (inr (x, (c, dump), is, ends)) (inr (y, (d, dump_too), is_too, ends_too)) =
    let same = same_dump c d xs ys r s x y e dump dump_too ends ends_too in
    let octets : x ≡ y = dump_one c d xs x y dump (subst (λ (z : List Kind). IsDumpIn d z y) (sym same.0) dump_too) in
    (is ∙ ap (λ (o : List ℕ). o ∷ []) octets ∙ sym is_too, same.1)

-- a block has a line
block_some : (block behind : List Kind) (said : List (List ℕ)) → IsBlock block said behind → block ++ behind ≡ [] → ⊥
block_some block behind said (inl (one, is, passed, none)) e = no_lines one behind (sym (ap (λ (z : List Kind). z ++ behind) is) ∙ e)
block_some block behind said (inr (octets, (base, dump), is, ends)) e =
    let b = begins base block octets dump in no_lines (begin b.first) (b.behind ++ behind) (sym (ap (λ (z : List Kind). z ++ behind) b.are) ∙ e)

-- Lines that are blocks to the end are so behind any blocks at their beginning.
pub record GoesOn (said dumps : List (List ℕ)) (rest : List Kind) : Type 0 where
  pub count : ℕ
  pub later : List (List ℕ)
  pub blocks : AreBlocks count rest later []
  pub are : dumps ≡ said ++ later

goes_on : (n m : ℕ) (lines rest : List Kind) (said dumps : List (List ℕ)) → AreBlocks n lines said rest → AreBlocks m lines dumps [] → GoesOn said dumps rest
goes_on zero m lines rest said dumps h g = record {
  count = m;
  later = dumps;
  blocks = subst (λ (z : List Kind). AreBlocks m z dumps []) h.0 g;
  are = sym (ap (λ (z : List (List ℕ)). z ++ dumps) h.1);
}
goes_on (suc n) zero lines rest said dumps (block, behind, one, others, parts, is, e, h) g = absurd (block_some block behind one is (sym parts ∙ g.0))
goes_on (suc n) (suc m) lines rest said dumps (block, behind, one, others, parts, is, e, h) (block_too, behind_too, one_too, others_too, parts_too, is_too, e_too, h_too) =
    let same = one_block block block_too behind behind_too one one_too (sym parts ∙ parts_too) is is_too in
    let on = goes_on n m behind rest others others_too h (subst (λ (z : List Kind). AreBlocks m z others_too []) (sym same.1) h_too) in record {
      count = on.count;
      later = on.later;
      blocks = on.blocks;
      are = e_too ∙ ap (λ (z : List (List ℕ)). z ++ others_too) (sym same.0) ∙ ap (λ (z : List (List ℕ)). one ++ z) on.are ∙ sym (append_assoc one others on.later)
          ∙ ap (λ (z : List (List ℕ)). z ++ on.later) (sym e);
    }

-- no lines have no dumps
none_left : (n : ℕ) (dumps : List (List ℕ)) → AreBlocks n [] dumps [] → dumps ≡ []
none_left zero dumps h = h.1
none_left (suc n) dumps (block, behind, said, others, parts, is, e, h) = absurd (block_some block behind said is (sym parts))

one_blocks : (n m : ℕ) (lines : List Kind) (a b : List (List ℕ)) → AreBlocks n lines a [] → AreBlocks m lines b [] → a ≡ b
one_blocks n m lines a b h g =
    let on = goes_on n m lines [] a b h g in
    sym (on.are ∙ ap (λ (z : List (List ℕ)). a ++ z) (none_left on.count on.later on.blocks) ∙ append-nil a)

pub one_dumps : (text : List ℕ) (a b : List (List ℕ)) → HasDumps text a → HasDumps text b → a ≡ b
one_dumps text a b (lines, n, are, blocks, some) (lines_too, m, are_too, blocks_too, some_too) =
    one_blocks n m lines a b blocks (subst (λ (z : List Kind). AreBlocks m z b []) (sym (one_lines text lines lines_too are are_too)) blocks_too)

-- ---- what can't be told of them

-- the first block of lines that are blocks, where there are lines
pub record First (lines : List Kind) : Type 0 where
  pub block : List Kind
  pub behind : List Kind
  pub said : List (List ℕ)
  pub parts : lines ≡ block ++ behind
  pub is : IsBlock block said behind

first_of : (n : ℕ) (lines : List Kind) (dumps : List (List ℕ)) → AreBlocks n lines dumps [] → (lines ≡ [] → ⊥) → First lines
first_of zero lines dumps h some = absurd (some h.0)
first_of (suc n) lines dumps (block, behind, said, others, parts, is, e, h) some = record { block = block; behind = behind; said = said; parts = parts; is = is }

-- a line that is neither passed over nor the first of a dump begins no block
wrong_first : (n : ℕ) (lines later : List Kind) (dumps : List (List ℕ)) (line : Kind) → AreBlocks n lines dumps [] → lines ≡ line ∷ later → (IsPassedOver line → ⊥) → (IsBegin line → ⊥) → ⊥
wrong_first n lines later dumps line h e over not_first =
    let first = first_of n lines dumps h (λ none. no_lines line later (sym e ∙ none)) in
    elim (block_first line later first.block first.behind first.said (sym e ∙ first.parts) first.is) [
      | inl passed ↦ over passed
      | inr begin_is ↦ not_first begin_is
    ]

-- nor a line directly behind a dump that can't end there, and doesn't go on with it
wrong_next : (n : ℕ) (lines block later : List Kind) (dumps : List (List ℕ)) (line : Kind) (octets : List ℕ) → AreBlocks n lines dumps [] → lines ≡ block ++ (line ∷ later) → IsDump block octets
    → (MayEndBefore (line ∷ later) → ⊥) → ((all : List ℕ) → IsDump (block ++ line ∷ []) all → ⊥) → ⊥
wrong_next n lines block later dumps line octets h e (base, dump) ends longer =
    let b = begins base block octets dump in
    let lines_are : lines ≡ begin b.first ∷ (b.behind ++ (line ∷ later)) = e ∙ ap (λ (z : List Kind). z ++ (line ∷ later)) b.are in
    let first = first_of n lines dumps h (λ none. no_lines (begin b.first) (b.behind ++ (line ∷ later)) (sym lines_are ∙ none)) in
    by first.block first.behind first.said (sym e ∙ first.parts) first.is
  where
    by : (ys s : List Kind) (said : List (List ℕ)) → block ++ (line ∷ later) ≡ ys ++ s → IsBlock ys said s → ⊥
    by ys s said parts (inl (one, is, passed, none)) = dump_passed base block (line ∷ later) s octets one (parts ∙ ap (λ (z : List Kind). z ++ s) is) dump passed
    by ys s said parts (inr (y, (c, dump_too), is, ends_too)) =
        let b = begins base block octets dump in
        let d = begins c ys y dump_too in
        let both : begin b.first ∷ (b.behind ++ (line ∷ later)) ≡ begin d.first ∷ (d.behind ++ s) = sym (ap (λ (z : List Kind). z ++ (line ∷ later)) b.are) ∙ parts ∙ ap (λ (z : List Kind). z ++ s) d.are in
        let head = same_head (begin b.first) (begin d.first) (b.behind ++ (line ∷ later)) (d.behind ++ s) both in
        let on = past base c b.first d.first octets y line b.behind d.behind later s (same_tail (begin b.first) (begin d.first) (b.behind ++ (line ∷ later)) (d.behind ++ s) both) b.on d.on ends ends_too in
        let all : IsDumpIn c (begin b.first ∷ (b.behind ++ line ∷ [])) on.0 = subst (λ (k : Kind). IsDumpIn c (k ∷ (b.behind ++ line ∷ [])) on.0) (sym head) on.1 in
        longer on.0 (c, subst (λ (z : List Kind). IsDumpIn c (z ++ line ∷ []) on.0) (sym b.are) all)

-- other words don't go on with a dump
go_words : (base : Base) (before : List ℕ) (xs : List Kind) (all : List ℕ) → GoOn base before (xs ++ words ∷ []) all → ⊥
go_words base before (more d t ∷ xs) all h = go_words base (before ++ t) xs all h.1
go_words base before _ all h = h

dump_words : (xs : List Kind) (all : List ℕ) → IsDump (xs ++ words ∷ []) all → ⊥
dump_words (begin first ∷ xs) all (base, h) = go_words base first xs all h
dump_words _ all (base, h) = h

no_unreadable : (n : ℕ) (rest : List Kind) (dumps : List (List ℕ)) (at : ℕ) → AreBlocks n rest dumps [] → IsUnreadable rest at → ⊥
no_unreadable n rest dumps at h (inl (later, e, one)) = wrong_first n rest later dumps bad h e (λ p. p) (λ p. p)
no_unreadable n rest dumps at h (inr (block, later, octets, e, dump, number)) = wrong_next n rest block later dumps words octets h e dump (λ p. p) (dump_words block)

no_not_begun : (n : ℕ) (rest : List Kind) (dumps : List (List ℕ)) (at : ℕ) → AreBlocks n rest dumps [] → IsNotBegun rest at → ⊥
no_not_begun n rest dumps at h (digits, octets, later, e, some, one) = wrong_first n rest later dumps (more digits octets) h e some (λ p. p)

no_other_count : (n : ℕ) (rest : List Kind) (dumps : List (List ℕ)) (at : ℕ) → AreBlocks n rest dumps [] → IsOtherCount rest at → ⊥
no_other_count n rest dumps at h (block, digits, said, later, octets, e, dump, longer, number) = wrong_next n rest block later dumps (more digits said) octets h e dump (λ p. p) longer

never_stops : (Stops : List Kind → ℕ → Type 0) → ((n : ℕ) (rest : List Kind) (dumps : List (List ℕ)) (at : ℕ) → AreBlocks n rest dumps [] → Stops rest at → ⊥)
    → (text : List ℕ) (dumps : List (List ℕ)) (number : ℕ) (lines : List Kind) → HasDumps text dumps → AreLines text lines → StopsAt Stops lines number → ⊥
never_stops Stops never text dumps number lines (lines_too, n, are_too, blocks, some) are stops =
    let on = goes_on stops.count n lines stops.rest stops.dumps dumps stops.blocks (subst (λ (z : List Kind). AreBlocks n z dumps []) (one_lines text lines_too lines are_too are) blocks) in
    never on.count stops.rest on.later stops.at on.blocks stops.stops

pub for_memory : (text : List ℕ) (dumps : List (List ℕ)) (fault : DumpFault) → HasDumps text dumps → IsUnread text fault → fault ≡ faults.OutOfMemory
for_memory text dumps faults.OutOfMemory has unread = refl
for_memory text dumps faults.NoDump (lines, n, are, blocks, some) (lines_too, m, are_too, blocks_too) =
    let none = one_blocks n m lines dumps [] blocks (subst (λ (z : List Kind). AreBlocks m z [] []) (sym (one_lines text lines lines_too are are_too)) blocks_too) in
    let long : length dumps ≡ 0 = ap length none in
    absurd (omega (arith, long, some))
for_memory text dumps (faults.Unreadable number) has (lines, are, stops) = absurd (never_stops IsUnreadable no_unreadable text dumps number lines has are stops)
for_memory text dumps (faults.NotBegun number) has (lines, are, stops) = absurd (never_stops IsNotBegun no_not_begun text dumps number lines has are stops)
for_memory text dumps (faults.OtherCount number) has (lines, are, stops) = absurd (never_stops IsOtherCount no_other_count text dumps number lines has are stops)
