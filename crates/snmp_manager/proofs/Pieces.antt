-- The marks of what was taken, and what is taken in pieces.
use Rattle.std.proofs.Common.{◌≡◌, ◌⊎◌, ◌<◌, ℕ, List, [], ◌∷◌, ◌++◌, Option, Some, None, length, refl, sym, ◌∙◌, ap, subst, inl, inr, arith}
use Rattle.std.specs.Prelude.{Contains}
use Rattle.std.specs.declared.cmp.Ordering.{Ordering}
use Rattle.std.specs.declared.cmp.Ordering.TheVariants.{Less, Equal, Greater}
use Rattle.std.specs.Ordering.{ordering_reverse}
use Rattle.std.proofs.lemmas.List.{append_assoc, append-nil}
use Rattle.std.proofs.lemmas.List.Elements.{Contains-append_left, Contains-append_right, Contains-append_cases}
use Rattle.engine_clock.specs.Greatest.{IsGreatestOfBy, Computes}
use Rattle.engine_clock.specs.Pairs.{BootsAndTime}
use Rattle.engine_clock.specs.Marks.{SeenPair, Marks, mark_at, seen_at, IsMarkBelow, IsGreatestMarkOf}
use Rattle.engine_clock.specs.Saved.{Saves, listing}
use Rattle.engine_clock.specs.Merging.{SomeHas, AreListings, IsMergeOf}
use Rattle.engine_clock.proofs.Greatest.{IsGreatestOfBy-same, IsGreatestOfBy-unique, mark_order}
use Rattle.engine_clock.proofs.MapJoins.{IsGreatestMarkOf-learned, greatest-held}
use Rattle.engine_clock.proofs.SameMarks.{same_marks}
use Rattle.engine_clock.proofs.SavedTexts.{one_saved}
use Rattle.usm_users.specs.User.{User}
use Rattle.usm_core.specs.Authentic.{Authentic}
use Rattle.snmp_manager.specs.Views.{Held}
use Rattle.snmp_manager.specs.Learning.{LearnsFrom}
use Rattle.snmp_manager.specs.Known.{KnownMark, IsLatestMark}
use Rattle.snmp_manager.specs.Runs.{HasTaken}
use Rattle.snmp_manager.specs.Pieces.{Piece, ArePiecesOf, SavesText, SaveEach}
use Rattle.snmp_manager.proofs.Learned.{only_one, the_one}

-- ---- the marks of what was taken

one_mark : (m : SeenPair) (pair : BootsAndTime) (now : ℕ) → m.pair ≡ pair → m.seen ≡ now → m ≡ seen_at pair now
one_mark m pair now p s = λ i. record { pair = p i; seen = s i }

-- A set of marks of an engine is what it was, and what an authentic datagram adds. Its greatest is then held.
learns_marks : (users : List User) (now : ℕ) (w : List ℕ) (old new : Marks) (engine : List ℕ) (S : SeenPair → Type 0) → LearnsFrom users now w old new
    → IsGreatestMarkOf S (mark_at old engine) → IsGreatestMarkOf (λ m. S m ⊎ ((m.seen ≡ now) × Authentic users w engine m.pair)) (mark_at new engine)
learns_marks users now w old new engine S (inr none) latest =
    let More : SeenPair → Type 0 = λ m. S m ⊎ ((m.seen ≡ now) × Authentic users w engine m.pair) in
    subst (λ (clocks : Marks). IsGreatestMarkOf More (mark_at clocks engine)) (sym none.1)
    (IsGreatestOfBy-same IsMarkBelow S More (mark_at old engine) (λ m s. inl s) (λ m both. elim both [ inl s ↦ s | inr a ↦ absurd (none.0 engine m.pair a.1) ]) latest)
learns_marks users now w old new engine S (inl (e, pair, authentic, learns)) latest =
    IsGreatestOfBy-same IsMarkBelow (λ m. S m ⊎ ((e ≡ engine) × (m ≡ seen_at pair now))) (λ m. S m ⊎ ((m.seen ≡ now) × Authentic users w engine m.pair)) (mark_at new engine)
    (λ m both. elim both [
      | inl s ↦ inl s
      | inr is ↦ inr (ap (λ (x : SeenPair). x.seen) is.1, subst (λ f. Authentic users w f m.pair) is.0 (subst (λ (x : SeenPair). Authentic users w e x.pair) (sym is.1) authentic.is))
    ])
    (λ m both. elim both [ inl s ↦ inl s | inr a ↦ let h = authentic.only engine m.pair a.1 in inr (sym h.0, one_mark m pair now h.1 a.0) ])
    (IsGreatestMarkOf-learned S e (seen_at pair now) old new learns.mark engine latest)

-- after one more datagram the greatest mark that is known is held
marks_more : (users : List User) (begin : Option SeenPair) (done : Piece) (now : ℕ) (w : List ℕ) (old new : Marks) (engine : List ℕ) → LearnsFrom users now w old new
    → IsLatestMark users begin done engine (mark_at old engine) → IsLatestMark users begin (done ++ (now, w) ∷ []) engine (mark_at new engine)
marks_more users begin done now w old new engine learns latest =
    let t : ℕ × List ℕ = (now, w) in
    IsGreatestOfBy-same IsMarkBelow (λ m. KnownMark users begin done engine m ⊎ ((m.seen ≡ now) × Authentic users w engine m.pair)) (KnownMark users begin (done ++ t ∷ []) engine) (mark_at new engine)
    (λ m both. elim both [
      | inl k ↦ elim k [ inl b ↦ inl b | inr x ↦ inr (x.0, Contains-append_left done (t ∷ []) (m.seen, x.0) x.1, x.2) ]
      | inr a ↦ inr (w, Contains-append_right done (t ∷ []) (m.seen, w) (subst (λ s. Contains (t ∷ []) (s, w)) (sym a.0) (the_one t)), a.1)
    ])
    (λ m k. elim k [
      | inl b ↦ inl (inl b)
      | inr x ↦ elim (Contains-append_cases done (t ∷ []) (m.seen, x.0) x.1) [
        | inl c ↦ inl (inr (x.0, c, x.2))
        | inr c ↦
            let same : (m.seen, x.0) ≡ t = only_one t (m.seen, x.0) c in
            inr (ap (λ (y : ℕ × List ℕ). y.0) same, subst (λ (y : List ℕ). Authentic users y engine m.pair) (ap (λ (y : ℕ × List ℕ). y.1) same) x.2)
      ]
    ])
    (learns_marks users now w old new engine (KnownMark users begin done engine) learns latest)

-- nothing was taken yet
marks_none : (users : List User) (begin : Option SeenPair) (engine : List ℕ) → IsLatestMark users begin [] engine begin
marks_none users begin engine =
    IsGreatestOfBy-same IsMarkBelow (λ m. begin ≡ Some m) (KnownMark users begin [] engine) begin (λ m b. inl b) (λ m k. elim k [ inl b ↦ b | inr x ↦ absurd (omega (arith, x.1.1)) ]) (greatest-held mark_order begin)

-- the greatest mark that is known after a list was taken, where it was held after what came before
marks_on : (begin mid new : Held) (done ts : Piece) (engine : List ℕ) → mid.users ≡ begin.users → HasTaken mid ts new
    → IsLatestMark begin.users (mark_at begin.clocks engine) done engine (mark_at mid.clocks engine)
    → IsLatestMark begin.users (mark_at begin.clocks engine) (done ++ ts) engine (mark_at new.clocks engine)
marks_on begin mid new done [] engine same taken latest =
    rw append-nil (subst (λ (h : Held). IsLatestMark begin.users (mark_at begin.clocks engine) done engine (mark_at h.clocks engine)) (sym taken) latest)
marks_on begin mid new done (t ∷ ts) engine same taken latest =
    let takes = taken.1.1 in
    let learns = subst (λ users. LearnsFrom users t.0 t.1 mid.clocks taken.0.clocks) same takes.1 in
    let more = marks_more begin.users (mark_at begin.clocks engine) done t.0 t.1 mid.clocks taken.0.clocks engine learns latest in
    subst (λ us. IsLatestMark begin.users (mark_at begin.clocks engine) us engine (mark_at new.clocks engine)) (append_assoc done (t ∷ []) ts)
    (marks_on begin taken.0 new (done ++ t ∷ []) ts engine (takes.0 ∙ same) taken.2 more)

-- after a list was taken the greatest mark that is known is held
pub latest_mark : (old new : Held) (ts : Piece) (engine : List ℕ) → HasTaken old ts new → IsLatestMark old.users (mark_at old.clocks engine) ts engine (mark_at new.clocks engine)
latest_mark old new ts engine taken = marks_on old old new [] ts engine refl taken (marks_none old.users (mark_at old.clocks engine) engine)

-- ---- the greatest of the greatest of sets

-- a member of a set isn't above its greatest, which is there
has_greatest : {T : Type 0} (Below : T → T → Type 0) (S : T → Type 0) (o : Option T) (y : T) → IsGreatestOfBy Below S o → S y → (g : T) × (o ≡ Some g) × ¬ (Below g y)
has_greatest Below S None y h s = absurd (h y s)
has_greatest Below S (Some g) y h s = (g, refl, h.1 y s)

is_member : {T : Type 0} (Below : T → T → Type 0) (S : T → Type 0) (o : Option T) (x : T) → IsGreatestOfBy Below S o → o ≡ Some x → S x
is_member Below S None x h e = cc e
is_member Below S (Some g) x h e = subst S (some_same e) h.0
  where
    some_same : Some g ≡ Some x → g ≡ x
    some_same s = cc s

module _ {T : Type 0} {R : T → T → Ordering} {Below : T → T → Type 0} (order : Computes R Below) where
  -- what is above a value is above what that value isn't below
  above_both : (x g y : T) → ¬ (Below x g) → Below x y → Below g y
  above_both x g y not below =
      elim (R x g) as (λ o. R x g ≡ o → Below g y) [
        | Less ↦ λ e. absurd (not (order.from_less x g e))
        | Equal ↦ λ e. subst (λ z. Below z y) (order.exact x g e) below
        | Greater ↦ λ e. order.from_less g y (order.total.trans g x y (order.total.antisymm g x ∙ ap ordering_reverse e) (order.to_less x y below))
      ] refl

  -- The greatest of some members of a set is its greatest, where each member of the set has one of them that isn't below it.
  greatest_of_some : (Some_of S : T → Type 0) (o : Option T) → ((x : T) → Some_of x → S x) → ((y : T) → S y → (g : T) × Some_of g × ¬ (Below g y))
      → IsGreatestOfBy Below Some_of o → IsGreatestOfBy Below S o
  greatest_of_some Some_of S None to from h = λ y s. let found = from y s in h found.0 found.1
  greatest_of_some Some_of S (Some x) to from h = (to x h.0, λ y s below. let found = from y s in found.2 (above_both x found.0 y (h.1 found.0 found.1) below))

-- ---- pieces

pub Contains-first : {A : Type 0} (y : A) (ys : List A) → Contains (y ∷ ys) y
Contains-first y ys = Contains-append_left (y ∷ []) ys y (the_one y)

pub Contains-later : {A : Type 0} (y : A) (ys : List A) (x : A) → Contains ys x → Contains (y ∷ ys) x
Contains-later y ys x c = Contains-append_right (y ∷ []) ys x c

pub Contains-either : {A : Type 0} (y : A) (ys : List A) (x : A) → Contains (y ∷ ys) x → (x ≡ y) ⊎ Contains ys x
Contains-either y ys x c = elim (Contains-append_cases (y ∷ []) ys x c) [ inl one ↦ inl (only_one y x one) | inr more ↦ inr more ]

pub none_in : {A : Type 0} (x : A) → Contains [] x → ⊥
none_in x c = omega (arith, c.1)

-- the map is what is held after the piece was taken
abbrev IsAfter : Held → Piece → Marks → Type 0
IsAfter begin piece map = (after : Held) × HasTaken begin piece after × (map ≡ after.clocks)

module _ (now : ℕ) (begin : Held) where
  after_text : (piece : Piece) (text : List ℕ) (map : Marks) → SavesText begin piece text → Saves now text map → IsAfter begin piece map
  after_text piece text map saves is = (saves.after, saves.taken, one_saved now text map saves.after.clocks is (inl (saves.fits, saves.is)))

  -- the piece of a map
  piece_of : (pieces : List Piece) (texts : List (List ℕ)) (maps : List Marks) → SaveEach begin pieces texts → AreListings now texts maps → (map : Marks) → Contains maps map
      → (piece : Piece) × Contains pieces piece × IsAfter begin piece map
  piece_of [] [] [] each listed map c = absurd (none_in map c)
  piece_of [] [] (m ∷ maps) each listed map c = absurd listed
  piece_of [] (t ∷ texts) maps each listed map c = absurd each
  piece_of (p ∷ pieces) [] maps each listed map c = absurd each
  piece_of (p ∷ pieces) (t ∷ texts) [] each listed map c = absurd listed
  piece_of (p ∷ pieces) (t ∷ texts) (m ∷ maps) each listed map c =
      elim (Contains-either m maps map c) [
        | inl same ↦ (p, Contains-first p pieces, after_text p t map each.0 (subst (Saves now t) (sym same) listed.0))
        | inr more ↦ let found = piece_of pieces texts maps each.1 listed.1 map more in (found.0, Contains-later p pieces found.0 found.1, found.2)
      ]

  -- the map of a piece
  map_of : (pieces : List Piece) (texts : List (List ℕ)) (maps : List Marks) → SaveEach begin pieces texts → AreListings now texts maps → (piece : Piece) → Contains pieces piece
      → (map : Marks) × Contains maps map × IsAfter begin piece map
  map_of [] texts maps each listed piece c = absurd (none_in piece c)
  map_of (p ∷ pieces) [] maps each listed piece c = absurd each
  map_of (p ∷ pieces) (t ∷ texts) [] each listed piece c = absurd listed
  map_of (p ∷ pieces) (t ∷ texts) (m ∷ maps) each listed piece c =
      elim (Contains-either p pieces piece c) [
        | inl same ↦ (m, Contains-first m maps, after_text piece t m (subst (λ q. SavesText begin q t) (sym same) each.0) listed.0)
        | inr more ↦ let found = map_of pieces texts maps each.1 listed.1 piece more in (found.0, Contains-later m maps found.0 found.1, found.2)
      ]

  module _ (taken : Piece) (pieces : List Piece) (texts : List (List ℕ)) (maps : List Marks) (are : ArePiecesOf taken pieces) (each : SaveEach begin pieces texts) (listed : AreListings now texts maps) (engine : List ℕ) where
    abbrev Known : Piece → SeenPair → Type 0
    Known piece = KnownMark begin.users (mark_at begin.clocks engine) piece engine

    latest_after : (piece : Piece) (map : Marks) → IsAfter begin piece map → IsGreatestMarkOf (Known piece) (mark_at map engine)
    latest_after piece map is = subst (λ (m : Marks). IsGreatestMarkOf (Known piece) (mark_at m engine)) (sym is.2) (latest_mark begin is.0 piece engine is.1)

    -- a mark that is known from a piece is known from all
    known_to : (piece : Piece) → Contains pieces piece → (mark : SeenPair) → Known piece mark → Known taken mark
    known_to piece c mark (inl b) = inl b
    known_to piece c mark (inr x) = inr (x.0, (are (mark.seen, x.0)).1 (piece, c, x.1), x.2)

    -- a mark that is known from all is known from a piece
    known_from : (first : Piece) → Contains pieces first → (mark : SeenPair) → Known taken mark → (piece : Piece) × Contains pieces piece × Known piece mark
    known_from first c mark (inl b) = (first, c, inl b)
    known_from first c mark (inr x) = let found = (are (mark.seen, x.0)).0 x.1 in (found.0, found.1, inr (x.0, found.2, x.2))

    to_known : (mark : SeenPair) → SomeHas maps engine mark → Known taken mark
    to_known mark some =
        let found = piece_of pieces texts maps each listed some.0 some.1 in
        known_to found.0 found.1 mark (is_member IsMarkBelow (Known found.0) (mark_at some.0 engine) mark (latest_after found.0 some.0 found.2) some.2)

    from_known : (first : Piece) → Contains pieces first → (mark : SeenPair) → Known taken mark → (g : SeenPair) × SomeHas maps engine g × ¬ (IsMarkBelow g mark)
    from_known first c mark known =
        let piece = known_from first c mark known in
        let map = map_of pieces texts maps each listed piece.0 piece.1 in
        let greatest = has_greatest IsMarkBelow (Known piece.0) (mark_at map.0 engine) mark (latest_after piece.0 map.0 map.2) piece.2 in
        (greatest.0, (map.0, map.1, greatest.1), greatest.2)

    pub joined_latest : (first : Piece) → Contains pieces first → (o : Option SeenPair) → IsGreatestMarkOf (SomeHas maps engine) o → IsGreatestMarkOf (Known taken) o
    joined_latest first c o greatest = greatest_of_some mark_order (SomeHas maps engine) (Known taken) o to_known (from_known first c) greatest

some_piece : (pieces : List Piece) → 0 < length pieces → (piece : Piece) × Contains pieces piece
some_piece [] some = absurd (omega (arith, some))
some_piece (p ∷ pieces) some = (p, Contains-first p pieces)

pub pieces_joined : (now : ℕ) (begin : Held) (taken : Piece) (pieces : List Piece) (saved merged : List ℕ) (texts : List (List ℕ))
    → ArePiecesOf taken pieces → 0 < length pieces → SavesText begin taken saved → SaveEach begin pieces texts → IsMergeOf now texts merged → merged ≡ saved
pieces_joined now begin taken pieces saved merged texts are some saves each merge =
    let first = some_piece pieces some in
    let same : merge.joined ≡ saves.after.clocks = same_marks merge.joined saves.after.clocks (λ engine.
    IsGreatestOfBy-unique mark_order (KnownMark begin.users (mark_at begin.clocks engine) taken engine) (mark_at merge.joined engine) (mark_at saves.after.clocks engine)
    (joined_latest now begin taken pieces texts merge.maps are each merge.listed engine first.0 first.1 (mark_at merge.joined engine) (merge.join engine))
    (latest_mark begin saves.after taken engine saves.taken)) in
    merge.text ∙ ap listing same ∙ sym saves.is
