-- What is printed of dumps, one by one.
use Rattle.std.proofs.Common.{◌≡◌, ℕ, ◌+◌, ◌||◌, Bool, true, false, List, [], ◌∷◌, ◌++◌, length, refl, sym, ap, ◌∙◌, subst, arith, append_assoc, append-nil, ◌<◌, get_or, map, take, Option, Some, None, MatchOption, MatchBool, is_some}
use Rattle.std.proofs.lemmas.List.{take_more, map-append, length-map, length-take-le}
use Rattle.capture_files.specs.Datagrams.{Printing}
use Rattle.capture_datagrams.specs.Dumped.{PrintsAll}

or-false : (a : Bool) → (a || false) ≡ a
or-false true = refl
or-false false = refl

or-assoc : (a b c : Bool) → ((a || b) || c) ≡ (a || (b || c))
or-assoc true b c = refl
or-assoc false b c = refl

-- one datagram more
pub prints_more : (P : Printing) (n moment : ℕ) (dumps : List (List ℕ)) (text : List ℕ) (refused : Bool) (octets line : List ℕ) (tells : Bool)
    → PrintsAll P n moment dumps text refused → P (n + length dumps) moment octets line tells → PrintsAll P n moment (dumps ++ octets ∷ []) (text ++ line) (refused || tells)
prints_more P n moment [] text refused octets line tells h p =
    let number : n + length {A = List ℕ} [] ≡ n = omega arith in (
      line,
      tells,
      [],
      false,
      subst (λ k. P k moment octets line tells) number p,
      (refl, refl),
      ap (λ t. t ++ line) h.0 ∙ sym (append-nil line),
      ap (λ r. r || tells) h.1 ∙ sym (or-false tells),
    )
prints_more P n moment (d ∷ dumps) text refused octets line tells (first, one, later, others, printed, rest, text_is, refused_is) p =
    let number : n + length (d ∷ dumps) ≡ (n + 1) + length dumps = omega arith in (
      first,
      one,
      later ++ line,
      others || tells,
      printed,
      prints_more P (n + 1) moment dumps later others octets line tells rest (subst (λ k. P k moment octets line tells) number p),
      ap (λ t. t ++ line) text_is ∙ append_assoc first later line,
      ap (λ r. r || tells) refused_is ∙ or-assoc one others tells,
    )

-- a text has a dump's first line, or it has none
pub found_or_not : (o : Option ℕ) (Has : ℕ → Type 0) (HasNone : Type 0) → MatchOption o HasNone Has → MatchBool (is_some o) ((row : ℕ) × Has row) HasNone
found_or_not None Has HasNone h = h
found_or_not (Some row) Has HasNone h = (row, h)

-- the datagram at this place is printed behind those before it
pub next_printed : {X : Type 0} (f : X → List ℕ) (P : Printing) (moment : ℕ) (dumps : List X) (place : ℕ) (x : X) (text line all : List ℕ) (refused tells both : Bool)
    → place < length dumps → x ≡ get_or dumps place x → PrintsAll P 1 moment (map f (take place dumps)) text refused → P (place + 1) moment (f x) line tells
    → all ≡ text ++ line → both ≡ (refused || tells) → PrintsAll P 1 moment (map f (take (place + 1) dumps)) all both
next_printed {X} f P moment dumps place x text line all refused tells both within at h p is either =
    let mapped = length-map (take place dumps) f in
    let taken = length-take-le place dumps (omega (arith, within)) in
    let number : place + 1 ≡ 1 + length (map f (take place dumps)) = omega (arith, mapped, taken) in
    let lists = ap (map f) (take_more dumps place x within ∙ ap (λ (y : X). take place dumps ++ y ∷ []) (sym at)) ∙ map-append f (take place dumps) (x ∷ []) in
    let next = prints_more P 1 moment (map f (take place dumps)) text refused (f x) line tells h (subst (λ k. P k moment (f x) line tells) number p) in
    subst (λ ds. PrintsAll P 1 moment ds all both) (sym lists)
    (subst (λ t. PrintsAll P 1 moment (map f (take place dumps) ++ f x ∷ []) t both) (sym is)
    (subst (λ r. PrintsAll P 1 moment (map f (take place dumps) ++ f x ∷ []) (text ++ line) r) (sym either) next))
