-- Blocks, and what is none.
use Rattle.std.proofs.Common.{rules, ◌≡◌, ◌≢◌, ◌⊎◌, inl, inr, ℕ, ◌+◌, ◌-◌, ◌<◌, ◌≤◌, ◌==◌, Bool, true, false, if◌then◌else◌, List, [], ◌++◌, length, take, drop, min, Option, Some, unwrap_or, refl, sym, ap, subst, ◌∙◌, arith, length-append, take_at, take_all, append_assoc, append-nil, length-take-le, length-drop}
use Rattle.std.proofs.lemmas.List.{drop-take, take-take, get_or-append_right, length-take, nil_from_length, take-append-drop}
use Rattle.std.proofs.lemmas.Bool.{cases_lt}
use Rattle.std.proofs.lemmas.Bool.Decides.{eqb_tells}
use Rattle.std.proofs.Math.Nat.{min-eq_left, min-eq_right, min-le_left}
use Rattle.std.proofs.Math.Dec.{eqb}
use Rattle.capture_files.specs.Field.{field32}
use Rattle.capture_files.specs.Items.{Record}
use Rattle.capture_files.specs.Pcapng.{InSection, IsBlock, IsBlockIn, IsFours, LOOKED_AT, Means, block_order, least_size}
use Rattle.capture_files.specs.Formats.{HasNoBlockHead, HasNoItem, IsBlockHead, IsItem, IsRead, State}
use Rattle.capture_files.specs.declared.field.Order.{Order}
use Rattle.capture_files.specs.declared.field.Order.TheVariants.{Big, Little}
use Rattle.capture_files.specs.declared.pcapng.BlockHead.{BlockHead}
use Rattle.capture_files.proofs.Records.{field32_front, same_field}

true_not_false : true ≡ false → ⊥
true_not_false e = search rules

none_less : (at : ℕ) → at - at ≡ 0
none_less at = omega arith

less : (at k : ℕ) → at + k - at ≡ k
less at k = omega arith

pub four_more : (n : ℕ) → 262172 < n → IsFours n → 262176 ≤ n
four_more n h f = omega (arith, h, f)

le-min-at : (a b c : ℕ) → a ≤ b → a ≤ c → (b < c) ⊎ (c ≤ b) → a ≤ min b c
le-min-at a b c p q (inl h) = subst (λ n. a ≤ n) (sym (min-eq_left (omega (arith, h)))) p
le-min-at a b c p q (inr h) = subst (λ n. a ≤ n) (sym (min-eq_right h)) q

le-min : {a b c : ℕ} → a ≤ b → a ≤ c → a ≤ min b c
le-min {a = a} {b = b} {c = c} p q = le-min-at a b c p q (cases_lt b c)

-- ---- the first octets tell

pub order_front : (o : Order) (a b : List ℕ) → 12 ≤ length a → block_order o (a ++ b) ≡ block_order o a
order_front o a b h =
    rw (field32_front Big a b 0 (omega (arith, h)), field32_front Big a b 8 (omega (arith, h)), field32_front Little a b 8 (omega (arith, h))) refl

pub least_front : (a b : List ℕ) → 12 ≤ length a → least_size (a ++ b) ≡ least_size a
least_front a b h = rw (field32_front Big a b 0 (omega (arith, h))) refl

least_at : (b : Bool) → 12 ≤ (if b then 28 else 12)
least_at true = omega arith
least_at false = omega arith

pub least_12 : (octets : List ℕ) → 12 ≤ least_size octets
least_12 octets = least_at (field32 Big octets 0 == 168627466)

same_order : (o : Order) (a b c d : List ℕ) → a ++ b ≡ c ++ d → 12 ≤ length a → 12 ≤ length c → block_order o a ≡ block_order o c
same_order o a b c d e p q = sym (order_front o a b p) ∙ ap (block_order o) e ∙ order_front o c d q

same_least : (a b c d : List ℕ) → a ++ b ≡ c ++ d → 12 ≤ length a → 12 ≤ length c → least_size a ≡ least_size c
same_least a b c d e p q = sym (least_front a b p) ∙ ap least_size e ∙ least_front c d q

pub head_on : (o : Order) (a b : List ℕ) (h : BlockHead) → 12 ≤ length a → IsBlockHead o a h → IsBlockHead o (a ++ b) h
head_on o a b h long is = record {
  order = order_front o a b long ∙ is.order;
  size = is.size ∙ sym (field32_front h.order a b 4 (omega (arith, long)));
  least = subst (λ n. n ≤ h.size) (sym (least_front a b long)) is.least;
  fours = is.fours;
  most = is.most;
}

pub block_12 : (order : Order) (octets : List ℕ) → IsBlock order octets → 12 ≤ length octets
block_12 order octets is =
    let a = least_12 octets in let b = is.least in omega (arith, a, b)

one_order : (o order : Order) (octets : List ℕ) (h : BlockHead) → block_order o octets ≡ Some order → block_order o octets ≡ Some h.order → order ≡ h.order
one_order o order octets h a b = ap (λ x. unwrap_or x order) (sym a ∙ b)

-- ---- what is none

pub none_short : (s : InSection) (part rest : List ℕ) → length part < 12 → rest ≡ [] → HasNoItem (inr s) (part ++ rest)
none_short s part rest short end = λ item more r t is e.
    let long = block_12 is.1.0 item is.1.2 in
    let all : length (part ++ rest) ≡ length (item ++ more) = ap length e in
    let a = length-append part rest in
    let b = length-append item more in
    let z : length rest ≡ 0 = ap length end in
    absurd (omega (arith, long, all, a, b, z, short))

pub none_headless : (s : InSection) (part rest : List ℕ) → 12 ≤ length part → HasNoBlockHead s.order part → HasNoItem (inr s) (part ++ rest)
none_headless s part rest long none = λ item more r t is e.
    let order = is.1.0 in
    let block = is.1.2 in
    let twelve = block_12 order item block in
    let size : field32 order part 4 ≡ length item = same_field order part rest item more 4 e (omega (arith, long)) (omega (arith, twelve)) ∙ block.size in
    let least = same_least part rest item more e long twelve in
    let enough = block.least in
    absurd (none order (same_order s.order part rest item more e long twelve ∙ is.1.1) (omega (arith, size, least, enough)) (subst IsFours (sym size) block.fours))

-- the item that begins there is as long as the head says
item_size : (s : InSection) (part rest item more : List ℕ) (h : BlockHead) (r : Option Record) (t : State) → 12 ≤ length part → IsBlockHead s.order part h
    → (is : IsItem (inr s) item r t) → part ++ rest ≡ item ++ more → (is.1.0 ≡ h.order) × (length item ≡ h.size)
item_size s part rest item more h r t long head is e =
    let order = is.1.0 in
    let block = is.1.2 in
    let twelve = block_12 order item block in
    let same = one_order s.order order part h (same_order s.order part rest item more e long twelve ∙ is.1.1) head.order in (
      same,
      sym block.size ∙ sym (same_field order part rest item more 4 e (omega (arith, long)) (omega (arith, twelve))) ∙ ap (λ o. field32 o part 4) same ∙ sym head.size,
    )

pub none_cut : (s : InSection) (part rest : List ℕ) (h : BlockHead) → 12 ≤ length part → IsBlockHead s.order part h → length part < h.size → rest ≡ []
    → HasNoItem (inr s) (part ++ rest)
none_cut s part rest h long head short end = λ item more r t is e.
    let size = (item_size s part rest item more h r t long head is e).1 in
    let all : length (part ++ rest) ≡ length (item ++ more) = ap length e in
    let a = length-append part rest in
    let b = length-append item more in
    let z : length rest ≡ 0 = ap length end in
    absurd (omega (arith, size, all, a, b, z, short))

pub none_again : (s : InSection) (part rest : List ℕ) (h : BlockHead) → 12 ≤ length part → IsBlockHead s.order part h → length part ≡ h.size
    → field32 h.order part (h.size - 4) ≢ h.size → HasNoItem (inr s) (part ++ rest)
none_again s part rest h long head size other = λ item more r t is e.
    let told = item_size s part rest item more h r t long head is e in
    let block = is.1.2 in
    let count = told.1 in
    let last : field32 h.order part (h.size - 4) ≡ field32 h.order item (h.size - 4) =
    same_field h.order part rest item more (h.size - 4) e (omega (arith, long, size)) (omega (arith, long, size, count)) in
    let again : field32 h.order item (h.size - 4) ≡ h.size =
    ap (λ o. field32 o item (h.size - 4)) (sym told.0) ∙ ap (λ n. field32 is.1.0 item (n - 4)) (sym count) ∙ block.again ∙ count in
    absurd (other (last ∙ again))

pub none_meant : (s : InSection) (part rest : List ℕ) (h : BlockHead) → 12 ≤ length part → IsBlockHead s.order part h → length part ≡ h.size
    → ((r : Option Record) (q : InSection) → Means s h.order (take LOOKED_AT part) h.size r q → ⊥) → HasNoItem (inr s) (part ++ rest)
none_meant s part rest h long head size none = λ item more r t is e.
    let told = item_size s part rest item more h r t long head is e in
    let same : item ≡ part = sym (take_at item more h.size told.1) ∙ ap (take h.size) (sym e) ∙ take_at part rest h.size size in
    let means : Means s h.order (take LOOKED_AT part) h.size r is.0 =
    subst (λ n. Means s h.order (take LOOKED_AT part) n r is.0) told.1 (subst (λ o. Means s o (take LOOKED_AT part) (length item) r is.0) told.0
    (subst (λ i. Means s is.1.0 (take LOOKED_AT i) (length item) r is.0) same is.1.3)) in
    absurd (none r is.0 means)

-- ---- what is one

pub is_block : (s q : InSection) (octets : List ℕ) (h : BlockHead) (r : Option Record) → IsBlockHead s.order octets h → length octets ≡ h.size
    → field32 h.order octets (h.size - 4) ≡ h.size → Means s h.order (take LOOKED_AT octets) h.size r q → IsBlockIn s octets r q
is_block s q octets h r head size again means = (
  h.order,
  head.order,
  record {
    least = subst (λ n. least_size octets ≤ n) (sym size) head.least;
    fours = subst IsFours (sym size) head.fours;
    size = sym head.size ∙ sym size;
    again = subst (λ n. field32 h.order octets (n - 4) ≡ n) (sym size) again;
  },
  subst (λ n. Means s h.order (take LOOKED_AT octets) n r q) (sym size) means,
)

-- ---- as it is read

cut : (o : Order) (a b c : List ℕ) (at : ℕ) → at + 4 ≤ length (a ++ b) → field32 o (a ++ (b ++ c)) at ≡ field32 o (a ++ b) at
cut o a b c at h = ap (λ t. field32 o t at) (sym (append_assoc a b c)) ∙ field32_front o (a ++ b) c at h

told_at : (h : BlockHead) (octets room : List ℕ) (left : Option (List ℕ)) (n : ℕ) → length octets ≡ h.size → take LOOKED_AT octets ≡ take h.size room
    → n ≡ field32 h.order octets (h.size - 4) → (b : Bool) → ((b ≡ true) × (n ≡ h.size)) ⊎ ((b ≡ false) × (n ≢ h.size)) → IsRead h octets room left b
told_at h octets room left n long front is true (inl (e, same)) = (long, front, sym is ∙ same)
told_at h octets room left n long front is true (inr (e, other)) = absurd (true_not_false e)
told_at h octets room left n long front is false (inl (e, same)) = absurd (true_not_false (sym e))
told_at h octets room left n long front is false (inr (e, other)) = inr (long, λ same. other (is ∙ same))

pub read_short : (h : BlockHead) (front more rest : List ℕ) (left : Option (List ℕ)) (n : ℕ) → length (front ++ more) ≡ h.size → 12 ≤ h.size → h.size ≤ 262172
    → n ≡ field32 h.order (front ++ (more ++ rest)) (h.size - 4) → IsRead h (front ++ more) (front ++ (more ++ rest)) left (eqb n h.size)
read_short h front more rest left n long least most is =
    told_at h (front ++ more) (front ++ (more ++ rest)) left n long
    (take_all LOOKED_AT (front ++ more) (omega (arith, long, most)) ∙ sym (ap (take h.size) (sym (append_assoc front more rest)) ∙ take_at (front ++ more) rest h.size long))
    (is ∙ cut h.order front more rest (h.size - 4) (omega (arith, long, least))) (eqb n h.size) (eqb_tells n h.size)

behind : (o : Order) (a b : List ℕ) (at : ℕ) → length a ≡ at → field32 o (a ++ b) at ≡ field32 o b 0
behind Big a b at h =
    rw (
      get_or-append_right a b at at 0 h (omega arith),
      get_or-append_right a b at (at + 1) 0 h (omega arith),
      get_or-append_right a b at (at + 2) 0 h (omega arith),
      get_or-append_right a b at (at + 3) 0 h (omega arith),
      none_less at,
      less at 1,
      less at 2,
      less at 3,
    ) refl
behind Little a b at h =
    rw (
      get_or-append_right a b at at 0 h (omega arith),
      get_or-append_right a b at (at + 1) 0 h (omega arith),
      get_or-append_right a b at (at + 2) 0 h (omega arith),
      get_or-append_right a b at (at + 3) 0 h (omega arith),
      none_less at,
      less at 1,
      less at 2,
      less at 3,
    ) refl

-- a block of more than there is room for: the room, what was skipped, and the last four octets
pub read_long : (h : BlockHead) (front more rest skipped again : List ℕ) (left : Option (List ℕ)) (n : ℕ) → length (front ++ more) ≡ 262172
    → length (front ++ (more ++ rest)) ≡ 262172 → 262172 < h.size → length skipped ≡ h.size - 262172 - 4 → length again ≡ 4 → IsFours h.size
    → n ≡ field32 h.order again 0 → IsRead h (front ++ ((more ++ skipped) ++ again)) (front ++ (more ++ rest)) left (eqb n h.size)
read_long h front more rest skipped again left n long room least some four fours is =
    let whole : front ++ ((more ++ skipped) ++ again) ≡ (front ++ more) ++ (skipped ++ again) =
    ap (λ t. front ++ t) (append_assoc more skipped again) ∙ sym (append_assoc front more (skipped ++ again)) in
    let most : front ++ ((more ++ skipped) ++ again) ≡ ((front ++ more) ++ skipped) ++ again = whole ∙ sym (append_assoc (front ++ more) skipped again) in
    let a = length-append (front ++ more) skipped in
    let b = length-append ((front ++ more) ++ skipped) again in
    let size = ap length most in
    let enough = four_more h.size least fours in
    let none : length rest ≡ 0 =
    let c = length-append (front ++ more) rest in let d = ap length (append_assoc front more rest) in omega (arith, c, d, long, room) in
    let same : front ++ (more ++ rest) ≡ front ++ more = ap (λ t. front ++ (more ++ t)) (nil_from_length rest none) ∙ ap (λ t. front ++ t) (append-nil more) in
    told_at h (front ++ ((more ++ skipped) ++ again)) (front ++ (more ++ rest)) left n (omega (arith, size, b, a, long, some, four, least, enough))
    (ap (take LOOKED_AT) whole ∙ take_at (front ++ more) (skipped ++ again) LOOKED_AT long ∙ sym (take_all h.size (front ++ (more ++ rest)) (omega (arith, room, least)) ∙ same))
    (is ∙ sym (ap (λ t. field32 h.order t (h.size - 4)) most ∙ behind h.order ((front ++ more) ++ skipped) again (h.size - 4) (omega (arith, a, long, some, least, enough))))
    (eqb n h.size) (eqb_tells n h.size)

-- what isn't whole, or has another length at its end, is none
pub none_read : (s : InSection) (h : BlockHead) (front more room : List ℕ) (left : Option (List ℕ)) → 12 ≤ length front → IsBlockHead s.order front h
    → IsRead h (front ++ more) room left false → (rest : List ℕ) → left ≡ Some rest → HasNoItem (inr s) ((front ++ more) ++ rest)
none_read s h front more room left long head (inl (less, end)) rest is =
    let all = length-append front more in
    none_cut s (front ++ more) rest h (omega (arith, all, long)) (head_on s.order front more h long head) less (rw is at end)
none_read s h front more room left long head (inr (size, other)) rest is =
    let all = length-append front more in
    none_again s (front ++ more) rest h (omega (arith, all, long)) (head_on s.order front more h long head) size other

pub read_most : (h : BlockHead) (octets room : List ℕ) (left : Option (List ℕ)) → IsRead h octets room left false → length octets ≤ h.size
read_most h octets room left (inl (less, end)) = omega (arith, less)
read_most h octets room left (inr (size, other)) = omega (arith, size)

-- ---- the front of a block

pub take_min : (n m : ℕ) (xs : List ℕ) → length xs ≡ m → (n ≤ m) ⊎ (m ≤ n) → take (min n m) xs ≡ take n xs
take_min n m xs long (inl h) = ap (λ k. take k xs) (min-eq_left h)
take_min n m xs long (inr h) = ap (λ k. take k xs) (min-eq_right h) ∙ take_all m xs (omega (arith, long)) ∙ sym (take_all n xs (omega (arith, long, h)))

pub least_looked : (octets : List ℕ) → 12 ≤ length octets → least_size (take LOOKED_AT octets) ≡ least_size octets
least_looked octets long =
    let size = length-take LOOKED_AT octets in
    let both : take LOOKED_AT octets ++ drop LOOKED_AT octets ≡ octets = take-append-drop LOOKED_AT octets in
    let twelve : 12 ≤ min LOOKED_AT (length octets) = le-min (omega arith) long in
    sym (least_front (take LOOKED_AT octets) (drop LOOKED_AT octets) (omega (arith, size, twelve))) ∙ ap least_size both

-- a packet in the front stands at the same place in the room
pub same_packet : (at size n : ℕ) (room : List ℕ) → at + size ≤ n → take size (drop at (take n room)) ≡ take size (drop at room)
same_packet at size n room h =
    let split : n ≡ at + (n - at) = omega (arith, h) in
    ap (λ k. take size (drop at (take k room))) split ∙ ap (take size) (drop-take at (n - at) room) ∙ take-take size (n - at) (drop at room) (omega (arith, h))

pub most_taken : (n : ℕ) (xs : List ℕ) → length (take n xs) ≤ n
most_taken n xs =
    let size = length-take n xs in let few = min-le_left n (length xs) in omega (arith, size, few)

-- a part of a list that is written anew leaves its length
pub put_long : (a k : ℕ) (xs ys : List ℕ) → length ys ≡ k → a + k ≤ length xs → length (take a xs ++ (ys ++ drop k (drop a xs))) ≡ length xs
put_long a k xs ys long within =
    let front = length-take-le a xs (omega (arith, within)) in
    let back = length-drop a xs in
    let rest = length-drop k (drop a xs) in
    let all = length-append (take a xs) (ys ++ drop k (drop a xs)) in
    let some = length-append ys (drop k (drop a xs)) in
    omega (arith, front, back, rest, all, some, long, within)
