-- Clocks that rise, and what lasts by them.
use Rattle.std.specs.Prelude.{◌≡◌, ◌⊎◌, ◌+◌, ◌<◌, ◌≤◌, ◌&&◌, ◌||◌, not, ℕ, Bool, true, false, cond, List, [], ◌∷◌, Option, None, Some, filter, min, nat_le, nat_eq}
use Rattle.std.proofs.Common.{ap, arith, inl, inr, le-leb, refl, subst, sym, ◌∙◌}
use Rattle.std.proofs.lemmas.Bool.{eq-eqb, eqb-true}
use Rattle.std.proofs.lemmas.Bool.Decides.{eqb_tells, leb_tells}
use Rattle.engine_clock.specs.Marks.{Marks, pair_at}
use Rattle.engine_clock.specs.Pairs.{BootsAndTime, IsBelow, IsGreatestOf, pair_max}
use Rattle.engine_clock.specs.Windows.{time_window}
use Rattle.usm_users.specs.User.{User}
use Rattle.usm_core.specs.Authentic.{Authentic}
use Rattle.snmp_manager.specs.Learning.{LearnsFrom}
use Rattle.snmp_manager.proofs.Learned.{learns_set}
use Rattle.snmp_manager.proofs.Origins.{not_below_member}
use Rattle.snmp_listener.specs.Told.{comes_by, lasting, lasts, lasts_by, least_notion, may_come}
use Rattle.snmp_listener.specs.declared.told.TheConstants.{REMEMBERED}
use Rattle.snmp_listener.specs.declared.told.ToldNotification.{ToldNotification}
use Rattle.snmp_listener.specs.declared.told.ToldSender.{ToldSender}

-- ---- a filter of a filter

module _ {X : Type 0} (p q : X → Bool) (weaker : (x : X) → p x ≡ true → q x ≡ true) where
  dropped : (x : X) (kept : List X) (b : Bool) → (b ≡ true → false ≡ true) → cond b (x ∷ kept) kept ≡ kept
  dropped x kept true never = cc (never refl)
  dropped x kept false never = refl

  one : (x : X) (b : Bool) → (p x ≡ true → b ≡ true) → (rest kept : List X) → filter p rest ≡ kept → filter p (cond b (x ∷ rest) rest) ≡ cond (p x) (x ∷ kept) kept
  one x true passes rest kept is = ap (λ (l : List X). cond (p x) (x ∷ l) l) is
  one x false passes rest kept is = is ∙ sym (dropped x kept (p x) passes)

  pub filters : (xs : List X) → filter p (filter q xs) ≡ filter p xs
  filters [] = refl
  filters (x ∷ xs) = one x (q x) (weaker x) (filter q xs) (filter p xs) (filters xs)

-- ---- pairs

abbrev pub AtMost : BootsAndTime → BootsAndTime → Type 0
AtMost p q = (p.boots < q.boots) ⊎ ((p.boots ≡ q.boots) × (p.time ≤ q.time))

pub at_most : (p q : BootsAndTime) → (IsBelow q p → ⊥) → AtMost p q
at_most p q not_below = elim (leb_tells q.boots p.boots) [
  | inr (test, less) ↦ inl less
  | inl (test, no_more) ↦ elim (eqb_tells p.boots q.boots) [
    | inr (unequal, differs) ↦ absurd (not_below (inl (omega (arith, no_more, differs))))
    | inl (equal, same) ↦ elim (leb_tells p.time q.time) [
      | inl (before, le) ↦ inr (same, le)
      | inr (after, gt) ↦ absurd (not_below (inr (sym same, gt)))
    ]
  ]
]

pub at_most_on : (p q r : BootsAndTime) → AtMost p q → AtMost q r → AtMost p r
at_most_on p q r (inl a) (inl b) = inl (omega (arith, a, b))
at_most_on p q r (inl a) (inr b) = inl (omega (arith, a, b.0))
at_most_on p q r (inr a) (inl b) = inl (omega (arith, a.0, b))
at_most_on p q r (inr a) (inr b) = inr (omega (arith, a.0, b.0), omega (arith, a.1, b.1))

-- ---- clocks

-- the pair of each engine is held, or a later one
abbrev pub IsRisen : Marks → Marks → Type 0
IsRisen old new = (engine : List ℕ) (p : BootsAndTime) → pair_at old engine ≡ Some p → (q : BootsAndTime) × (pair_at new engine ≡ Some q) × AtMost p q

pub risen_same : (clocks : Marks) → IsRisen clocks clocks
risen_same clocks engine p is = (p, is, inr (refl, omega arith))

pub risen_on : (a b c : Marks) → IsRisen a b → IsRisen b c → IsRisen a c
risen_on a b c first second engine p is =
    let q = first engine p is in
    let r = second engine q.0 q.1 in
    (r.0, r.1, at_most_on p q.0 r.0 q.2 r.2)

not_below_itself : (p : BootsAndTime) → IsBelow p p → ⊥
not_below_itself p (inl less) = omega (arith, less)
not_below_itself p (inr less) = omega (arith, less.1)

held_greatest : (held : Option BootsAndTime) → IsGreatestOf (λ (x : BootsAndTime). held ≡ Some x) held
held_greatest None = λ x is. cc is
held_greatest (Some p) = (refl, (λ q is below. not_below_itself p (subst (λ (x : BootsAndTime). IsBelow p x) (cc is) below)))

module _ (users : List User) (now : ℕ) (w : List ℕ) (old new : Marks) (learns : LearnsFrom users now w old new) where
  greatest : (engine : List ℕ) → IsGreatestOf (λ (x : BootsAndTime). (pair_at old engine ≡ Some x) ⊎ Authentic users w engine x) (pair_at new engine)
  greatest engine = learns_set users now w old new engine (λ (x : BootsAndTime). pair_at old engine ≡ Some x) learns (held_greatest (pair_at old engine))

  pub learns_risen : IsRisen old new
  learns_risen engine p is =
      let q = not_below_member (λ (x : BootsAndTime). (pair_at old engine ≡ Some x) ⊎ Authentic users w engine x) (pair_at new engine) p (greatest engine) (inl is) in
      (q.0, q.1, at_most p q.0 q.2)

  -- an authentic datagram's pair is held, or a later one
  pub learns_own : (engine : List ℕ) (p : BootsAndTime) → Authentic users w engine p → (q : BootsAndTime) × (pair_at new engine ≡ Some q) × AtMost p q
  learns_own engine p authentic =
      let q = not_below_member (λ (x : BootsAndTime). (pair_at old engine ≡ Some x) ⊎ Authentic users w engine x) (pair_at new engine) p (greatest engine) (inr authentic) in
      (q.0, q.1, at_most p q.0 q.2)

-- ---- what lasts

pub leb_le : (a b : ℕ) → nat_le a b ≡ true → a ≤ b
leb_le a b is = elim (leb_tells a b) [ inl h ↦ h.1 | inr h ↦ cc (is, h.0) ]

abbrev pub Comes : BootsAndTime → BootsAndTime → Type 0
Comes then held = (held.boots < then.boots) ⊎ ((held.boots ≡ then.boots) × (least_notion held ≤ then.time + time_window))

or_true : (a b c : Bool) → not a || (b && c) ≡ true → (a ≡ false) ⊎ ((b ≡ true) × (c ≡ true))
or_true false b c is = inl refl
or_true true true true is = inr (refl, refl)
or_true true true false is = cc is
or_true true false c is = cc is

pub comes : (then held : BootsAndTime) → may_come then held ≡ true → Comes then held
comes then held is = elim (or_true (nat_le then.boots held.boots) (nat_eq held.boots then.boots) (nat_le (least_notion held) (then.time + time_window)) is) [
  | inl early ↦ elim (leb_tells then.boots held.boots) [ inl h ↦ cc (h.0, early) | inr h ↦ inl h.1 ]
  | inr same ↦ inr (eqb-true held.boots then.boots same.0, leb_le (least_notion held) (then.time + time_window) same.1)
]

back_or : (a b c : Bool) → ((a ≡ false) ⊎ ((b ≡ true) × (c ≡ true))) → not a || (b && c) ≡ true
back_or false b c is = refl
back_or true true true is = refl
back_or true true false (inl is) = cc is
back_or true true false (inr is) = is.1
back_or true false c (inl is) = cc is
back_or true false c (inr is) = cc is.0

pub comes_back : (then held : BootsAndTime) → Comes then held → may_come then held ≡ true
comes_back then held (inl less) = back_or (nat_le then.boots held.boots) (nat_eq held.boots then.boots) (nat_le (least_notion held) (then.time + time_window)) (inl (elim (leb_tells then.boots held.boots) [ inl h ↦ absurd (omega (arith, h.1, less)) | inr h ↦ h.0 ]))
comes_back then held (inr same) = back_or (nat_le then.boots held.boots) (nat_eq held.boots then.boots) (nat_le (least_notion held) (then.time + time_window)) (inr (eq-eqb held.boots then.boots same.0, le-leb (least_notion held) (then.time + time_window) same.1))

later_notion : (a b c : ℕ) → a ≤ b → min b pair_max ≤ c → min a pair_max ≤ c
later_notion a b c before le = omega (arith, before, le)

came_before : (then p q : BootsAndTime) → AtMost p q → Comes then q → Comes then p
came_before then p q (inl a) (inl b) = inl (omega (arith, a, b))
came_before then p q (inl a) (inr b) = inl (omega (arith, a, b.0))
came_before then p q (inr a) (inl b) = inl (omega (arith, a.0, b))
came_before then p q (inr a) (inr b) = inr (a.0 ∙ b.0, later_notion p.time q.time (then.time + time_window) a.1 b.1)

by_pairs : (then : BootsAndTime) (old new : Option BootsAndTime) → ((p : BootsAndTime) → old ≡ Some p → (q : BootsAndTime) × (new ≡ Some q) × AtMost p q) → comes_by then new ≡ true → comes_by then old ≡ true
by_pairs then None new risen is = refl
by_pairs then (Some p) new risen is =
    let q = risen p refl in
    comes_back then p (came_before then p q.0 q.2 (comes then q.0 (subst (λ (o : Option BootsAndTime). comes_by then o ≡ true) q.1 is)))

by_sender : (came now later : ℕ) (old new : Marks) (sender : Option ToldSender) → now ≤ later → IsRisen old new → lasts_by later new came sender ≡ true → lasts_by now old came sender ≡ true
by_sender came now later old new None after risen is = le-leb now (came + REMEMBERED) (omega (arith, after, leb_le later (came + REMEMBERED) is))
by_sender came now later old new (Some s) after risen is = by_pairs s.pair (pair_at old s.engine) (pair_at new s.engine) (λ p. risen s.engine p) is

-- what lasts to a later moment lasted before
pub lasted : (now later : ℕ) (old new : Marks) → now ≤ later → IsRisen old new → (t : ToldNotification) → lasts later new t ≡ true → lasts now old t ≡ true
lasted now later old new after risen t is = by_sender t.came now later old new t.sender after risen is

pub lasting_twice : (now later : ℕ) (old new : Marks) → now ≤ later → IsRisen old new → (told : List ToldNotification) → lasting later new (lasting now old told) ≡ lasting later new told
lasting_twice now later old new after risen told = filters (lasts later new) (lasts now old) (lasted now later old new after risen) told
