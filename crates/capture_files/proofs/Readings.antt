-- What is read of a block, and what it becomes.
use Rattle.std.proofs.Common.{◌≡◌, ◌⊎◌, inl, inr, ℕ, ◌+◌, ◌<◌, ◌≤◌, ◌==◌, if◌then◌else◌, true, false, List, [], ◌++◌, length, take, min, Option, Some, None, IfSome, refl, sym, ap, subst, ◌∙◌, arith, length-append, append-nil}
use Rattle.std.specs.Prelude.{option_map}
use Rattle.std.specs.Io.KnownBytes.{Consumes}
use Rattle.std.proofs.KnownBytes.{Consumes-trans}
use Rattle.std.proofs.lemmas.Bool.{and_parts, cases_lt, le-leb, leb-true}
use Rattle.std.proofs.Math.Nat.{min-le_right}
use Rattle.capture_files.specs.Field.{field32}
use Rattle.capture_files.specs.Items.{Record, record_of}
use Rattle.capture_files.specs.Pcapng.{InSection, LOOKED_AT, Means, begins_section, least_size, nowhere}
use Rattle.capture_files.specs.Formats.{BeginsSection, HasBegun, HasNoItem, ReadsBeginning, StopsItem, IsBlockHead, IsNextBlock, ReadsFront, ReadsNoRest, ReadsNone, ReadsRest, ReadsWhole, TakesInterface, with_interface}
use Rattle.capture_files.specs.declared.fault.CaptureFault.{CaptureFault}
use Rattle.capture_files.specs.declared.fault.CaptureFault.TheVariants as fault
use Rattle.capture_files.specs.declared.item.Head.{Head}
use Rattle.capture_files.specs.declared.item.Item.{Item}
use Rattle.capture_files.specs.declared.pcapng.BlockHead.{BlockHead}
use Rattle.capture_files.specs.declared.field.Order.TheVariants.{Big}
use Rattle.capture_files.proofs.Records.{field32_front, same_field}
use Rattle.capture_files.proofs.Fronts.{block_12, head_on, is_block, least_looked, most_taken, none_cut, none_meant, none_read, read_most, same_packet, take_min}

pub stops_rest : (s : InSection) (h : BlockHead) (front : List ℕ) (unread mid left : Option (List ℕ)) → 12 ≤ length front → IsBlockHead s.order front h
    → Consumes unread mid front → ReadsNoRest h front mid left → ReadsFront (inr s) unread left
stops_rest s h front unread mid left long head read e =
    let all = length-append front e.more in
    let less = e.less in
    let most = head.most in
    record {
      part = front ++ e.more;
      none = subst (HasNoItem (inr s)) (append-nil _) (none_cut s (front ++ e.more) [] h (omega (arith, all, long)) (head_on s.order front e.more h long head) less refl);
      most = omega (arith, less, most);
      consumed = Consumes-trans _ _ _ _ _ read e.consumed;
    }

pub none_rest : (s : InSection) (h : BlockHead) (front room : List ℕ) (unread mid left : Option (List ℕ)) → 12 ≤ length front → IsBlockHead s.order front h
    → Consumes unread mid front → ReadsRest h front room mid left false → ReadsNone (inr s) unread left
none_rest s h front room unread mid left long head read w =
    let all = length-append front w.more in
    let most = head.most in
    let size = read_most h (front ++ w.more) room left w.is in
    record {
      part = front ++ w.more;
      some = omega (arith, all, long);
      most = omega (arith, size, most);
      consumed = Consumes-trans _ _ _ _ _ read w.consumed;
      none = none_read s h front w.more room left long head w.is;
    }

le_from : (n m : ℕ) → (m < n) ⊎ (n ≤ m) → (n ≤ m) ⊎ (m ≤ n)
le_from n m (inl h) = inr (omega (arith, h))
le_from n m (inr h) = inl h

cases_le : (n m : ℕ) → (n ≤ m) ⊎ (m ≤ n)
cases_le n m = le_from n m (cases_lt m n)

-- the front that is looked at
looked : (h : BlockHead) (front room : List ℕ) (mid left : Option (List ℕ)) → length room ≡ 262172 → (w : ReadsRest h front room mid left true)
    → take (min h.size 262172) room ≡ take LOOKED_AT (front ++ w.more)
looked h front room mid left long w = take_min h.size 262172 room long (cases_le h.size 262172) ∙ sym w.is.1

pub least_rest : (s : InSection) (h : BlockHead) (front room : List ℕ) (mid left : Option (List ℕ)) → 12 ≤ length front → IsBlockHead s.order front h
    → length room ≡ 262172 → ReadsRest h front room mid left true → least_size (take (min h.size 262172) room) ≤ h.size
least_rest s h front room mid left long head whole w =
    let all = length-append front w.more in
    subst (λ n. n ≤ h.size) (sym (ap least_size (looked h front room mid left whole w) ∙ least_looked (front ++ w.more) (omega (arith, all, long))))
    (head_on s.order front w.more h long head).least

pub none_meant_rest : (s : InSection) (h : BlockHead) (front room : List ℕ) (unread mid left : Option (List ℕ)) → 12 ≤ length front → IsBlockHead s.order front h
    → Consumes unread mid front → length room ≡ 262172 → ReadsRest h front room mid left true
    → ((r : Option Record) (q : InSection) → Means s h.order (take (min h.size 262172) room) h.size r q → ⊥) → ReadsNone (inr s) unread left
none_meant_rest s h front room unread mid left long head read whole w none =
    let all = length-append front w.more in
    let most = head.most in
    let size = w.is.0 in
    record {
      part = front ++ w.more;
      some = omega (arith, all, long);
      most = omega (arith, size, most);
      consumed = Consumes-trans _ _ _ _ _ read w.consumed;
      none = λ rest is.
          none_meant s (front ++ w.more) rest h (omega (arith, all, long)) (head_on s.order front w.more h long head) size
          (λ r q m. none r q (subst (λ f. Means s h.order f h.size r q) (sym (looked h front room mid left whole w)) m));
    }

-- the same record in the room as in its front
same_record : (n : ℕ) (room : List ℕ) (x : Head) → x.at + x.size ≤ n → record_of x (take n room) ≡ record_of x room
same_record n room x h = ap (λ p. record { link = x.link; moment = x.moment; packet = p; original = x.original }) (same_packet x.at x.size n room h)

same_records : (n : ℕ) (room : List ℕ) (r : Option Head) → IfSome r (λ x. x.at + x.size ≤ length (take n room))
    → option_map (λ x. record_of x (take n room)) r ≡ option_map (λ x. record_of x room) r
same_records n room None fits = refl
same_records n room (Some x) fits =
    let most = most_taken n room in ap (λ c. Some c) (same_record n room x (omega (arith, fits, most)))

within_room : (n : ℕ) (room : List ℕ) (r : Option Head) → n ≤ 262172 → IfSome r (λ x. x.at + x.size ≤ length (take n room)) → IfSome r (λ x. x.at + x.size ≤ LOOKED_AT)
within_room n room None few fits = tt
within_room n room (Some x) few fits =
    let most = most_taken n room in omega (arith, fits, most, few)

pub item_rest : (s t : InSection) (h : BlockHead) (front room : List ℕ) (unread mid left : Option (List ℕ)) (r : Option Head) → 12 ≤ length front
    → IsBlockHead s.order front h → Consumes unread mid front → length room ≡ 262172 → ReadsRest h front room mid left true
    → Means s h.order (take (min h.size 262172) room) h.size (option_map (λ x. record_of x (take (min h.size 262172) room)) r) t
    → IfSome r (λ x. x.at + x.size ≤ length (take (min h.size 262172) room))
    → IsNextBlock front s t room unread left (Some (record { size = h.size; packet = r }))
item_rest s t h front room unread mid left r long head read whole w means fits =
    let all = length-append front w.more in
    let few = min-le_right h.size 262172 in
    let size = w.is.0 in
    let told : Means s h.order (take LOOKED_AT (front ++ w.more)) h.size (option_map (λ x. record_of x room) r) t =
    subst (λ f. Means s h.order f h.size (option_map (λ x. record_of x room) r) t) (looked h front room mid left whole w)
    (subst (λ c. Means s h.order (take (min h.size 262172) room) h.size c t) (same_records (min h.size 262172) room r fits) means) in (
      record {
        octets = front ++ w.more;
        is_item = (t, is_block s t (front ++ w.more) h (option_map (λ x. record_of x room) r) (head_on s.order front w.more h long head) size w.is.2 told, refl);
        size = size;
        least = omega (arith, all, long, size);
        most = head.most;
        within = within_room (min h.size 262172) room r few fits;
        consumed = Consumes-trans _ _ _ _ _ read w.consumed;
      },
      w.more,
      refl,
    )

pub whole_rest : (s : InSection) (h : BlockHead) (front room : List ℕ) (unread mid left : Option (List ℕ)) → 12 ≤ length front
    → IsBlockHead s.order front h → Consumes unread mid front → length room ≡ 262172 → ReadsRest h front room mid left true
    → TakesInterface s h.order (take (min h.size 262172) room) h.size → ReadsWhole (inr s) unread left
whole_rest s h front room unread mid left long head read whole w takes =
    let size = w.is.0 in
    let most = head.most in
    record {
      part = front ++ w.more;
      item = None;
      next' = inr (with_interface s takes.0);
      is_item = (
        with_interface s takes.0,
        is_block s (with_interface s takes.0) (front ++ w.more) h None (head_on s.order front w.more h long head) size w.is.2
            (subst (λ f. Means s h.order f h.size None (with_interface s takes.0)) (looked h front room mid left whole w) takes.1),
        refl,
      );
      most = omega (arith, size, most);
      consumed = Consumes-trans _ _ _ _ _ read w.consumed;
    }

-- ---- the first section

pub section_front : (a b : List ℕ) → begins_section a ≡ true → 4 ≤ length a → begins_section (a ++ b) ≡ true
section_front a b begins long =
    let all = length-append a b in
    rw (le-leb 4 (length (a ++ b)) (omega (arith, long, all)), field32_front Big a b 0 (omega (arith, long))) (rw (le-leb 4 (length a) long) at begins)

pub begins_known : (front : List ℕ) (unread left : Option (List ℕ)) → Consumes unread left front → begins_section front ≡ true → 4 ≤ length front → BeginsSection unread
begins_known front None left read begins long = tt
begins_known front (Some xs) None read begins long = absurd read
begins_known front (Some xs) (Some ys) read begins long = subst (λ o. begins_section o ≡ true) (sym read) (section_front front ys begins long)

pub long_section : (octets : List ℕ) → begins_section octets ≡ true → 4 ≤ length octets
long_section octets begins = leb-true 4 (length octets) (and_parts _ _ begins).0

pub none_begun : (s : InSection) (front rest : List ℕ) → begins_section front ≡ true → length front < 24 → rest ≡ [] → HasNoItem (inr s) (front ++ rest)
none_begun s front rest begins short end = λ item more r t is e.
    let four = long_section front begins in
    let twelve = block_12 is.1.0 item is.1.2 in
    let same = same_field Big front rest item more 0 e (omega (arith, four)) (omega (arith, twelve)) in
    let kind : (field32 Big item 0 == 168627466) ≡ true = ap (λ n. n == 168627466) (sym same) ∙ (and_parts _ _ begins).1 in
    let least : least_size item ≡ 28 = ap (λ b. if b then 28 else 12) kind in
    let block = is.1.2.least in
    let all : length (front ++ rest) ≡ length (item ++ more) = ap length e in
    let a = length-append front rest in
    let b = length-append item more in
    let z : length rest ≡ 0 = ap length end in
    absurd (omega (arith, least, block, all, a, b, z, short))

-- why a first section isn't read
pub stops_begin : (unread left : Option (List ℕ)) (f : CaptureFault) → BeginsSection unread → StopsItem (inr nowhere) unread left f → ReadsBeginning unread left f
stops_begin unread left (fault.Octet place) begins stops = absurd stops
stops_begin unread left fault.CannotRead begins r = record { part = r.part; most = r.most; consumed = r.consumed; stops = inr (begins, r.none) }
stops_begin unread left fault.CannotWrite begins stops = absurd stops
stops_begin unread left fault.OutOfMemory begins r = record { part = r.part; most = r.most; consumed = r.consumed; stops = tt }

pub begin_none : (unread left : Option (List ℕ)) → BeginsSection unread → ReadsNone (inr nowhere) unread left → ReadsBeginning unread left (fault.Octet 0)
begin_none unread left begins r = record { part = r.part; most = r.most; consumed = r.consumed; stops = inr (begins, refl, r.none) }

pub begin_item : (t : InSection) (front room : List ℕ) (unread left : Option (List ℕ)) (i : Item) → begins_section front ≡ true
    → IsNextBlock front nowhere t room unread left (Some i) → HasBegun unread left (inr t) i.size
begin_item t front room unread left i begins (w, more, parts) =
    let size = w.size in
    record {
      front = w.octets;
      is_beginning = (subst (λ o. begins_section o ≡ true) (sym parts) (section_front front more begins (long_section front begins)), _, w.is_item);
      size = sym size;
      most = w.most;
      consumed = w.consumed;
    }
