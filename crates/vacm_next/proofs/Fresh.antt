-- Of more numbers than there are rows, one is left that no row has.
use Rattle.std.proofs.Common.{◌≡◌, ◌≢◌, ℕ, zero, suc, ◌+◌, ◌<◌, ◌≤◌, ◌==◌, Bool, true, false, cond, List, [], ◌∷◌, length, get_or, Contains, sym, ap, ◌∙◌, refl, arith}
use Rattle.std.proofs.lemmas.Bool.Decides.{Decides-eqb}

-- the number is among these
abbrev has : ℕ → List ℕ → Bool
has n [] = false
has n (x ∷ xs) = cond (x == n) true (has n xs)

-- these without the first that is the number
abbrev without : ℕ → List ℕ → List ℕ
without n [] = []
without n (x ∷ xs) = cond (x == n) xs (x ∷ without n xs)

shorter_by : (x n : ℕ) (xs : List ℕ) (b : Bool) → (has n xs ≡ true → length (without n xs) + 1 ≡ length xs) → cond b true (has n xs) ≡ true
    → length (cond b xs (x ∷ without n xs)) + 1 ≡ length (x ∷ xs)
shorter_by x n xs true more h = omega arith
shorter_by x n xs false more h = let e = more h in omega arith

shorter : (n : ℕ) (xs : List ℕ) → has n xs ≡ true → length (without n xs) + 1 ≡ length xs
shorter n [] h = cc
shorter n (x ∷ xs) h = shorter_by x n xs (x == n) (shorter n xs) h

not_same : (x m : ℕ) (b : Bool) → (x == m) ≡ b → x ≢ m → b ≡ false
not_same x m true e differ = absurd (differ ((Decides-eqb x m).0 e))
not_same x m false e differ = refl

-- another number is left
others_by : (m n x : ℕ) (xs : List ℕ) (b a : Bool) → (b ≡ true → a ≡ false) → (has m (without n xs) ≡ false → has m xs ≡ false) → has m (cond b xs (x ∷ without n xs)) ≡ false
    → (x == m) ≡ a → cond a true (has m xs) ≡ false
others_by m n x xs true true here more h e = absurd (let no : true ≡ false = here refl in cc)
others_by m n x xs true false here more h e = h
others_by m n x xs false true here more h e = sym (ap (λ c. cond c true (has m (without n xs))) e) ∙ h
others_by m n x xs false false here more h e = more (sym (ap (λ c. cond c true (has m (without n xs))) e) ∙ h)

others_left : (m n : ℕ) (xs : List ℕ) → m ≢ n → has m (without n xs) ≡ false → has m xs ≡ false
others_left m n [] differ h = refl
others_left m n (x ∷ xs) differ h =
    others_by m n x xs (x == n) (x == m) (λ e. not_same x m (x == m) refl (λ s. differ (sym s ∙ (Decides-eqb x n).0 e))) (others_left m n xs differ) h refl

-- of the numbers up to this one, one isn't among so many
left_by : (n : ℕ) (xs : List ℕ) (b : Bool) → has (suc n) xs ≡ b → (has (suc n) xs ≡ true → (m : ℕ) × (m ≤ n) × (has m (without (suc n) xs) ≡ false)) → (m : ℕ) × (m ≤ suc n) × (has m xs ≡ false)
left_by n xs false e more = (suc n, omega arith, e)
left_by n xs true e more =
    let m = more e in
    (m.0, omega (arith, m.1), others_left m.0 (suc n) xs (λ same. omega (arith, m.1, same)) m.2)

left_of : (n : ℕ) (xs : List ℕ) → length xs ≤ n → (m : ℕ) × (m ≤ n) × (has m xs ≡ false)
left_of zero [] upto = (0, omega arith, refl)
left_of zero (x ∷ xs) upto = absurd (omega (arith, upto))
left_of (suc n) xs upto = left_by n xs (has (suc n) xs) refl (λ e. left_of n (without (suc n) xs) (omega (arith, shorter (suc n) xs e, upto)))

module _ {R : Type 0} (arc : R → ℕ) where
  abbrev arcs : List R → List ℕ
  arcs [] = []
  arcs (row ∷ rows) = arc row ∷ arcs rows

  as_many : (rows : List R) → length (arcs rows) ≡ length rows
  as_many [] = refl
  as_many (row ∷ rows) = let e = as_many rows in omega (arith, e)

  rest_of : (m : ℕ) (rows : List R) (b : Bool) → cond b true (has m (arcs rows)) ≡ false → has m (arcs rows) ≡ false
  rest_of m rows true h = cc
  rest_of m rows false h = h

  not_there : (m : ℕ) (rows : List R) → has m (arcs rows) ≡ false → (k : ℕ) (d : R) → k < length rows → arc (get_or rows k d) ≢ m
  not_there m [] none k d within same = absurd (omega (arith, within))
  not_there m (row ∷ rows) none zero d within same =
      let e = (Decides-eqb (arc row) m).1 same in
      let no : true ≡ false = sym (ap (λ b. cond b true (has m (arcs rows))) e) ∙ none in cc
  not_there m (row ∷ rows) none (suc k) d within same = not_there m rows (rest_of m rows (arc row == m) none) k d (omega (arith, within)) same

  -- a number that no row has, at most as great as there are rows
  pub fresh : (rows : List R) → (m : ℕ) × (m ≤ length rows) × ((row : R) → Contains rows row → arc row ≢ m)
  fresh rows =
      let found = left_of (length rows) (arcs rows) (let e = as_many rows in omega arith) in
      (found.0, found.1, λ row there same. not_there found.0 rows found.2 there.0 row there.1 (ap arc there.2 ∙ same))
