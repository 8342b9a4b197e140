-- Marks that come in one after another.
use Rattle.std.proofs.Common.{◌≡◌, ℕ, List, [], ◌∷◌, Option, Some, None, Result, Ok, Err, OnOk, Bool, true, false, cond, IsSome, is_some, ◌↔◌, refl, sym, ap, ◌∙◌, subst}
use Rattle.std.specs.declared.cmp.Ordering.{Ordering}
use Rattle.std.specs.declared.cmp.Ordering.TheVariants.{Less, Equal, Greater}
use Rattle.std.specs.Ordering.{is_eq, is_lt, eq_by_cmp, nat_cmp, ordering_then}
use Rattle.std.specs.Option.{option_map}
use Rattle.std.specs.Map.{keys_of}
use Rattle.std.specs.List.{AllByRecursion}
use Rattle.std.specs.List.Sorted.{IsStrictlySortedBy}
use Rattle.std.proofs.lemmas.Cmp.{tied_itself}
use Rattle.std.proofs.lemmas.Map.Keys.{sorted_head, sorted_tail}
use Rattle.std.specs.FinMap.{get, get-insert, from_entries}
use Rattle.engine_clock.specs.Marks.{SeenPair, Marks, pair_at, mark_cmp, mark_join, joined_to, learned, JoinsMark, JoinsPair, HoldsAll, IsMarkJoinOf, IsJoinOf}
use Rattle.engine_clock.specs.Pairs.{BootsAndTime, pair_cmp, pair_cmp_exact, pair_join}
use Rattle.engine_clock.specs.Joins.{option_join}
use Rattle.engine_clock.specs.Engines.{engine_cmp}
use Rattle.engine_clock.proofs.Held.{engines_total, engines_exact, found_in, get_engine}

pub joined_is : (held : Option SeenPair) (mark : SeenPair) → Some (joined_to held mark) ≡ option_join mark_join held (Some mark)
joined_is None mark = refl
joined_is (Some held) mark = refl

-- what is held of q once the marks of es have come in
abbrev pub after_all : List (List ℕ × SeenPair) → Marks → List ℕ → Option SeenPair
after_all es m q = option_join mark_join (get m q) (found_in es q)

-- a key below all others is not among them
missing : (k : List ℕ) (es : List (List ℕ × SeenPair)) → AllByRecursion (λ y. engine_cmp k y ≡ Less) (keys_of es) → found_in es k ≡ None
missing k [] h = refl
missing k (e ∷ es) h = ap (λ r. cond (is_eq r) (Some e.1) (found_in es k)) h.0 ∙ missing k es h.1

pub Equal-from_is_eq : (r : Ordering) → is_eq r ≡ true → r ≡ Equal
Equal-from_is_eq Less e = cc e
Equal-from_is_eq Equal e = refl
Equal-from_is_eq Greater e = cc e

join_none : (a : Option SeenPair) → option_join mark_join a None ≡ a
join_none None = refl
join_none (Some p) = refl

-- the first of the marks comes in
pub after_first : (e : List ℕ × SeenPair) (es : List (List ℕ × SeenPair)) (m : Marks)
    → IsStrictlySortedBy engine_cmp (keys_of (e ∷ es)) → (q : List ℕ)
    → after_all es (learned e.0 e.1 m) q ≡ after_all (e ∷ es) m q
after_first e es m sorted q =
    let held = joined_to (get m e.0) e.1 in
    let here : get (learned e.0 e.1 m) q ≡ cond (eq_by_cmp engine_cmp q e.0) (Some held) (get m q) = get-insert engines_total m e.0 held q in
    ap (λ o. option_join mark_join o (found_in es q)) here
    ∙ elim (is_eq (engine_cmp q e.0)) as (λ b. is_eq (engine_cmp q e.0) ≡ b
    → option_join mark_join (cond b (Some held) (get m q)) (found_in es q) ≡ option_join mark_join (get m q) (cond b (Some e.1) (found_in es q))) [
      | true ↦ λ t.
          let same : q ≡ e.0 = engines_exact q e.0 (Equal-from_is_eq _ t) in
          let none : found_in es q ≡ None = ap (found_in es) same ∙ missing e.0 es (sorted_head engine_cmp e.0 (keys_of es) sorted) in
          ap (option_join mark_join (Some held)) none
          ∙ joined_is (get m e.0) e.1
          ∙ ap (λ k. option_join mark_join (get m k) (Some e.1)) (sym same)
      | false ↦ λ t. refl
    ] refl

-- none is left
pub all_joined : (es : List (List ℕ × SeenPair)) (old new : Marks)
    → ((q : List ℕ) → after_all [] new q ≡ after_all es old q) → IsMarkJoinOf old (from_entries es) new
all_joined es old new h q =
    sym (join_none (get new q)) ∙ h q ∙ ap (option_join mark_join (get old q)) (sym (get_engine es q))

-- ---- engines that are held already

-- each of these engines is held
abbrev pub AllHeld : Marks → List (List ℕ × SeenPair) → Type 0
AllHeld m es = AllByRecursion (λ e. IsSome (get m e.0)) es

found_first : (e : List ℕ × SeenPair) (es : List (List ℕ × SeenPair)) → IsSome (found_in (e ∷ es) e.0)
found_first e es = ap (λ o. is_some (cond (is_eq o) (Some e.1) (found_in es e.0))) (tied_itself engines_total e.0)

found_later : (b : Bool) (x : SeenPair) (o : Option SeenPair) → IsSome o → IsSome (cond b (Some x) o)
found_later true x o h = refl
found_later false x o h = h

AllHeld-from : (m : Marks) (es : List (List ℕ × SeenPair)) → ((q : List ℕ) → IsSome (found_in es q) → IsSome (get m q)) → AllHeld m es
AllHeld-from m [] h = tt
AllHeld-from m (e ∷ es) h =
    (h e.0 (found_first e es), AllHeld-from m es (λ q some. h q (found_later (is_eq (engine_cmp q e.0)) e.1 (found_in es q) some)))

AllHeld-found : (m : Marks) (es : List (List ℕ × SeenPair)) → AllHeld m es → (q : List ℕ) → IsSome (found_in es q) → IsSome (get m q)
AllHeld-found m [] h q some = cc some
AllHeld-found m (e ∷ es) h q some =
    elim (is_eq (engine_cmp q e.0)) as (λ b. is_eq (engine_cmp q e.0) ≡ b → IsSome (cond b (Some e.1) (found_in es q)) → IsSome (get m q)) [
      | true ↦ λ t _. subst (λ k. IsSome (get m k)) (sym (engines_exact q e.0 (Equal-from_is_eq _ t))) h.0
      | false ↦ λ t later. AllHeld-found m es h.1 q later
    ] refl some

pub HoldsAll-entries : (m : Marks) (es : List (List ℕ × SeenPair)) → AllHeld m es ↔ HoldsAll m (from_entries es)
HoldsAll-entries m es = (
  λ h q some. AllHeld-found m es h q (subst IsSome (get_engine es q) some),
  λ h. AllHeld-from m es (λ q some. h q (subst IsSome (sym (get_engine es q)) some)),
)

pub all_held : (m : Marks) (es : List (List ℕ × SeenPair)) → HoldsAll m (from_entries es) → AllHeld m es
all_held m es every = (HoldsAll-entries m es).1 every

held_still : (e : List ℕ × SeenPair) (m : Marks) (q : List ℕ) → IsSome (get m q) → IsSome (get (learned e.0 e.1 m) q)
held_still e m q some =
    let held = joined_to (get m e.0) e.1 in
    subst IsSome (sym (get-insert engines_total m e.0 held q)) (found_later (eq_by_cmp engine_cmp q e.0) held (get m q) some)

pub AllHeld-learned : (e : List ℕ × SeenPair) (m : Marks) (es : List (List ℕ × SeenPair)) → AllHeld m es → AllHeld (learned e.0 e.1 m) es
AllHeld-learned e m [] h = tt
AllHeld-learned e m (f ∷ es) h = (held_still e m f.0 h.0, AllHeld-learned e m es h.1)

-- the first of the marks that are left, and the others
pub first_held : (e : List ℕ × SeenPair) (es es' : List (List ℕ × SeenPair)) (m : Marks) → es' ≡ e ∷ es → AllHeld m es' → IsSome (get m e.0)
first_held e es es' m left h = (subst (AllHeld m) left h).0

rest_held : (e : List ℕ × SeenPair) (es es' : List (List ℕ × SeenPair)) (m : Marks) → es' ≡ e ∷ es → AllHeld m es' → AllHeld m es
rest_held e es es' m left h = (subst (AllHeld m) left h).1

-- a turn of the loop, which has es' left before and es after
pub turn : (e : List ℕ × SeenPair) (es es' all : List (List ℕ × SeenPair)) (m m' old : Marks)
    → es' ≡ e ∷ es → m' ≡ learned e.0 e.1 m
    → IsStrictlySortedBy engine_cmp (keys_of es')
    → ((q : List ℕ) → after_all es' m q ≡ after_all all old q)
    → (HoldsAll old (from_entries all) → AllHeld m es')
    → record { sorted : IsStrictlySortedBy engine_cmp (keys_of es); held : HoldsAll old (from_entries all) → AllHeld m' es; whole : (q : List ℕ) → after_all es m' q ≡ after_all all old q }
turn e es es' all m m' old left made sorted whole held =
    let sorted' : IsStrictlySortedBy engine_cmp (keys_of (e ∷ es)) = subst (λ (xs : List (List ℕ × SeenPair)). IsStrictlySortedBy engine_cmp (keys_of xs)) left sorted in
    record {
      sorted = sorted_tail engine_cmp e.0 (keys_of es) sorted';
      held = λ every. rw made (AllHeld-learned e m es (rest_held e es es' m left (held every)));
      whole = λ q. ap (λ n. after_all es n q) made ∙ after_first e es m sorted' q ∙ ap (λ xs. after_all xs m q) (sym left) ∙ whole q;
    }

-- ---- the pairs

pair_if : (b : Bool) (m n : SeenPair) → (cond b m n).pair ≡ cond b m.pair n.pair
pair_if true m n = refl
pair_if false m n = refl

either : (b : Bool) (x y : BootsAndTime) → x ≡ y → cond b x y ≡ y
either true x y e = e
either false x y e = refl

-- the pair of a join of marks is the join of the pairs
pub pair-mark_join : (m n : SeenPair) → (mark_join m n).pair ≡ pair_join m.pair n.pair
pair-mark_join m n =
    pair_if (is_lt (mark_cmp n m)) m n
    ∙ elim (pair_cmp n.pair m.pair) as (λ o. pair_cmp n.pair m.pair ≡ o → cond (is_lt (ordering_then o (nat_cmp m.seen n.seen))) m.pair n.pair ≡ cond (is_lt o) m.pair n.pair) [
      | Less ↦ λ e. refl
      | Equal ↦ λ e. either (is_lt (nat_cmp m.seen n.seen)) m.pair n.pair (sym (pair_cmp_exact n.pair m.pair e))
      | Greater ↦ λ e. refl
    ] refl

-- the same where they may be absent
pub pair-option_join : (a b : Option SeenPair)
    → option_map (λ m. m.pair) (option_join mark_join a b) ≡ option_join pair_join (option_map (λ m. m.pair) a) (option_map (λ m. m.pair) b)
pair-option_join None b = refl
pair-option_join (Some m) None = refl
pair-option_join (Some m) (Some n) = ap Some (pair-mark_join m n)

pub JoinsPair-marks : (e : List ℕ) (mark : SeenPair) (old new : Marks) → JoinsMark e mark old new → JoinsPair e mark.pair old new
JoinsPair-marks e mark old new joins q =
    ap (option_map (λ m. m.pair)) (joins q)
    ∙ elim (eq_by_cmp engine_cmp q e) as (λ b. option_map (λ (m : SeenPair). m.pair) (cond b (option_join mark_join (get old q) (Some mark)) (get old q))
    ≡ cond b (option_join pair_join (pair_at old q) (Some mark.pair)) (pair_at old q)) [
      | true ↦ pair-option_join (get old q) (Some mark)
      | false ↦ refl
    ]

pub IsJoinOf-marks : (a b joined : Marks) → IsMarkJoinOf a b joined → IsJoinOf a b joined
IsJoinOf-marks a b joined join q = ap (option_map (λ m. m.pair)) (join q) ∙ pair-option_join (get a q) (get b q)

pub JoinsMark-learned : (e : List ℕ) (mark : SeenPair) (m m' : Marks) → m' ≡ learned e mark m → JoinsMark e mark m m'
JoinsMark-learned e mark m m' made q =
    let held = joined_to (get m e) mark in
    ap (λ n. get n q) made ∙ get-insert engines_total m e held q
    ∙ elim (is_eq (engine_cmp q e)) as (λ b. is_eq (engine_cmp q e) ≡ b
    → cond b (Some held) (get m q) ≡ cond b (option_join mark_join (get m q) (Some mark)) (get m q)) [
      | true ↦ λ t. joined_is (get m e) mark ∙ ap (λ k. option_join mark_join (get m k) (Some mark)) (sym (engines_exact q e (Equal-from_is_eq _ t)))
      | false ↦ λ t. refl
    ] refl

pub JoinsPair-learned : (e : List ℕ) (mark : SeenPair) (m m' : Marks) → m' ≡ learned e mark m → JoinsPair e mark.pair m m'
JoinsPair-learned e mark m m' made = JoinsPair-marks e mark m m' (JoinsMark-learned e mark m m' made)

pub OnOk-map : {P Q : Type 0} {T E : Type 0} (r : Result T E) → (P → Q) → OnOk r P → OnOk r Q
OnOk-map (Ok x) f h = f h
OnOk-map (Err e) f h = tt
