-- Lists that belong together, element by element.
use Rattle.std.specs.Prelude.{◌≡◌, List, [], ◌∷◌, ◌++◌, All, map}
use Rattle.std.specs.List.{AllZip}
use Rattle.std.proofs.Common.{refl, arith}
use Rattle.std.proofs.lemmas.List.Elements.{All-cons, All-head, All-tail}

pub zip_on : {A B C : Type 0} (R : A → B → Type 0) (S : B → C → Type 0) (T : A → C → Type 0) → ((x : A) (y : B) (z : C) → R x y → S y z → T x z) → (xs : List A) (ys : List B) (zs : List C) → AllZip R xs ys → AllZip S ys zs → AllZip T xs zs
zip_on R S T on [] [] [] r s = tt
zip_on R S T on [] [] (z ∷ zs) r s = absurd s
zip_on R S T on [] (y ∷ ys) zs r s = absurd r
zip_on R S T on (x ∷ xs) [] zs r s = absurd r
zip_on R S T on (x ∷ xs) (y ∷ ys) [] r s = absurd s
zip_on R S T on (x ∷ xs) (y ∷ ys) (z ∷ zs) r s = (on x y z r.0 s.0, zip_on R S T on xs ys zs r.1 s.1)

pub zip_all : {A B : Type 0} (R : A → B → Type 0) (P : A → Type 0) (Q : B → Type 0) → ((x : A) (y : B) → R x y → P x → Q y) → (xs : List A) (ys : List B) → AllZip R xs ys → All P xs → All Q ys
zip_all R P Q on [] [] r all = λ k d below. absurd (omega (arith, below))
zip_all R P Q on [] (y ∷ ys) r all = absurd r
zip_all R P Q on (x ∷ xs) [] r all = absurd r
zip_all R P Q on (x ∷ xs) (y ∷ ys) r all = All-cons Q y ys (on x y r.0 (All-head P x xs all)) (zip_all R P Q on xs ys r.1 (All-tail P x xs all))

pub zip_same : {A B : Type 0} (R : A → A → Type 0) (f : A → B) → ((x y : A) → R x y → f y ≡ f x) → (xs ys : List A) → AllZip R xs ys → map f ys ≡ map f xs
zip_same R f same [] [] r = refl
zip_same R f same [] (y ∷ ys) r = absurd r
zip_same R f same (x ∷ xs) [] r = absurd r
zip_same R f same (x ∷ xs) (y ∷ ys) r = λ i. same x y r.0 i ∷ zip_same R f same xs ys r.1 i

pub zip_weaker : {A B : Type 0} (R S : A → B → Type 0) → ((x : A) (y : B) → R x y → S x y) → (xs : List A) (ys : List B) → AllZip R xs ys → AllZip S xs ys
zip_weaker R S weaker [] [] r = tt
zip_weaker R S weaker [] (y ∷ ys) r = absurd r
zip_weaker R S weaker (x ∷ xs) [] r = absurd r
zip_weaker R S weaker (x ∷ xs) (y ∷ ys) r = (weaker x y r.0, zip_weaker R S weaker xs ys r.1)

pub zip_joined : {A B : Type 0} (R : A → B → Type 0) (xs : List A) (ys : List B) (more : List A) (others : List B) → AllZip R xs ys → AllZip R more others → AllZip R (xs ++ more) (ys ++ others)
zip_joined R [] [] more others r s = s
zip_joined R [] (y ∷ ys) more others r s = absurd r
zip_joined R (x ∷ xs) [] more others r s = absurd r
zip_joined R (x ∷ xs) (y ∷ ys) more others r s = (r.0, zip_joined R xs ys more others r.1 s)

pub zip_itself : {A : Type 0} (R : A → A → Type 0) → ((x : A) → R x x) → (xs : List A) → AllZip R xs xs
zip_itself R itself [] = tt
zip_itself R itself (x ∷ xs) = (itself x, zip_itself R itself xs)
