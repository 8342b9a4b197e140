-- Records of a capture, and what is none.
use Rattle.std.proofs.Common.{◌≡◌, ◌⊎◌, inl, inr, append-nil, ℕ, ◌+◌, ◌<◌, ◌≤◌, List, [], ◌++◌, length, take, drop, Some, refl, sym, ap, ◌∙◌, arith, length-append, take_at, drop_at}
use Rattle.std.proofs.lemmas.List.{get_or_append_left}
use Rattle.std.proofs.lemmas.Bool.{le-leb}
use Rattle.capture_files.specs.Field.{field32}
use Rattle.capture_files.specs.Items.{record_of}
use Rattle.capture_files.specs.Pcap.{IsRecord, HasNoRecord, IsHead}
use Rattle.capture_files.specs.Formats.{HasNoItem, begins_capture}
use Rattle.capture_files.specs.declared.pcap.Header.{Header}
use Rattle.capture_files.specs.declared.field.Order.{Order}
use Rattle.capture_files.specs.declared.field.Order.TheVariants.{Big, Little}
use Rattle.capture_files.specs.declared.item.Head.{Head}

-- a number stands in the front
pub field32_front : (order : Order) (a b : List ℕ) (at : ℕ) → at + 4 ≤ length a → field32 order (a ++ b) at ≡ field32 order a at
field32_front Big a b at h =
    rw (
      get_or_append_left a b 0 at (omega (arith, h)),
      get_or_append_left a b 0 (at + 1) (omega (arith, h)),
      get_or_append_left a b 0 (at + 2) (omega (arith, h)),
      get_or_append_left a b 0 (at + 3) (omega (arith, h)),
    ) refl
field32_front Little a b at h =
    rw (
      get_or_append_left a b 0 at (omega (arith, h)),
      get_or_append_left a b 0 (at + 1) (omega (arith, h)),
      get_or_append_left a b 0 (at + 2) (omega (arith, h)),
      get_or_append_left a b 0 (at + 3) (omega (arith, h)),
    ) refl

-- two texts that are the same have the same numbers in their fronts
pub same_field : (order : Order) (a b c d : List ℕ) (at : ℕ) → a ++ b ≡ c ++ d → at + 4 ≤ length a → at + 4 ≤ length c → field32 order a at ≡ field32 order c at
same_field order a b c d at e p q = sym (field32_front order a b at p) ∙ ap (λ t. field32 order t at) e ∙ field32_front order c d at q

pub none_large : (h : Header) (octets rest : List ℕ) → length octets ≡ 16 → 262144 < field32 h.order octets 8 → HasNoRecord h (octets ++ rest)
none_large h octets rest long large = λ r record' more is e.
    let l = is.long in
    let same = same_field h.order octets rest record' more 8 e (omega (arith, long)) (omega (arith, l)) in
    let size = is.size in
    let most = is.most in
    absurd (omega (arith, same, size, most, large))

pub none_short : (h : Header) (part rest : List ℕ) → length part < 16 → rest ≡ [] → HasNoRecord h (part ++ rest)
none_short h part rest short end = λ r record' more is e.
    let l = is.long in
    let all : length (part ++ rest) ≡ length (record' ++ more) = ap length e in
    let a = length-append part rest in
    let b = length-append record' more in
    let z : length rest ≡ 0 = ap length end in
    absurd (omega (arith, l, all, a, b, z, short))

pub none_cut : (h : Header) (octets part rest : List ℕ) → length octets ≡ 16 → length part < field32 h.order octets 8 → rest ≡ [] → HasNoRecord h ((octets ++ part) ++ rest)
none_cut h octets part rest long short end = λ r record' more is e.
    let l = is.long in
    let f = length-append octets part in
    let same = same_field h.order (octets ++ part) rest record' more 8 e (omega (arith, long, f)) (omega (arith, l)) in
    let front = field32_front h.order octets part 8 (omega (arith, long)) in
    let size = is.size in
    let all : length ((octets ++ part) ++ rest) ≡ length (record' ++ more) = ap length e in
    let a = length-append (octets ++ part) rest in
    let b = length-append record' more in
    let z : length rest ≡ 0 = ap length end in
    absurd (omega (arith, l, all, a, b, z, f, same, front, size, short, long))

pub is_record : (h : Header) (octets packet back : List ℕ) (head : Head) → length octets ≡ 16 → IsHead h octets head → length packet ≡ head.size
    → IsRecord h (octets ++ packet) (record_of head (packet ++ back))
is_record h octets packet back head long is size =
    let begins : drop head.at (packet ++ back) ≡ packet ++ back = ap (λ n. drop n (packet ++ back)) is.begins in
    let front : take head.size (drop head.at (packet ++ back)) ≡ packet = ap (take head.size) begins ∙ take_at packet back head.size size in
    let field : (at : ℕ) → at + 4 ≤ 16 → field32 h.order (octets ++ packet) at ≡ field32 h.order octets at = λ at k. field32_front h.order octets packet at (omega (arith, k, long)) in
    let whole = length-append octets packet in
    let count : length (take head.size (drop head.at (packet ++ back))) ≡ length packet = ap length front in
    let most = is.most in
    record {
      long = whole ∙ omega (arith, long, count);
      link = is.link;
      moment = is.moment ∙ ap (λ n. Some n) (sym (field 0 (omega arith)));
      size = count ∙ size ∙ is.size ∙ sym (field 8 (omega arith));
      original = is.original ∙ sym (field 12 (omega arith));
      packet = front ∙ sym (drop_at octets packet 16 long);
      most = omega (arith, count, size, most);
    }

-- ---- as items

pub no_item : (h : Header) (octets : List ℕ) → HasNoRecord h octets → HasNoItem (inl h) octets
no_item h octets none = λ item rest r t is e. none is.0 item rest is.1 e

-- ---- the beginning of a file

-- the first octets tell, four at least or all
pub same_beginning : (front rest : List ℕ) → (length front < 4) ⊎ (4 ≤ length front) → (length front < 24 → rest ≡ []) → begins_capture (front ++ rest) ≡ begins_capture front
same_beginning front rest (inl short) end = ap (λ r. begins_capture (front ++ r)) (end (omega (arith, short))) ∙ ap begins_capture (append-nil front)
same_beginning front rest (inr long) end =
    let all = length-append front rest in
    rw (
      le-leb 4 (length (front ++ rest)) (omega (arith, long, all)),
      le-leb 4 (length front) long,
      field32_front Big front rest 0 (omega (arith, long)),
      field32_front Little front rest 0 (omega (arith, long)),
    ) refl
