-- A list whose first elements were changed, one by one.
use Rattle.std.specs.Prelude.{◌≡◌, ◌≤◌, ◌<◌, ◌+◌, ◌-◌, List, [], ◌∷◌, ◌++◌, ℕ, length, take, drop, set, slice_index_or}
use Rattle.std.specs.List.{AllZip}
use Rattle.std.proofs.Common.{refl, sym, ap, subst, ◌∙◌, arith, append_assoc, append-nil}
use Rattle.std.proofs.lemmas.List.{length-append, length-drop, length_push, drop_more, take_more, set_at, get_or_at, drop_all, take_all, take-append-drop}
use Rattle.std.proofs.lemmas.Slice.Zip.{all_zipped_more}
use Rattle.snmp_walk.proofs.Zipped.{zip_itself, zip_joined, zip_weaker}

abbrev pub Changed : {A : Type 0} → (A → A → Type 0) → List A → ℕ → List A → Type 0
Changed {A} R olds i now = (done : List A) × (length done ≡ i) × (now ≡ done ++ drop i olds) × AllZip R (take i olds) done

pub none_changed : {A : Type 0} (R : A → A → Type 0) (olds : List A) → Changed R olds 0 olds
none_changed R olds = ([], refl, refl, tt)

-- an element of what isn't changed yet
pub left_at : {A : Type 0} (olds done now : List A) (i : ℕ) (d : A) → i < length now → length done ≡ i → now ≡ done ++ drop i olds
    → (i < length olds) × (now ≡ done ++ slice_index_or now i d ∷ drop (i + 1) olds) × (slice_index_or now i d ≡ slice_index_or olds i d)
left_at olds done now i d within long is =
    let counted : length now ≡ length done + (length olds - i) = ap length is ∙ length-append done (drop i olds) ∙ ap (λ n. length done + n) (length-drop i olds) in
    let there : i < length olds = omega (arith, counted, within, long) in
    let split = is ∙ ap (λ zs. done ++ zs) (drop_more olds i d there) in
    let same = ap (λ zs. slice_index_or zs i d) split ∙ get_or_at done (slice_index_or olds i d) (drop (i + 1) olds) d i long in
    (there, split ∙ ap (λ x. done ++ x ∷ drop (i + 1) olds) (sym same), same)

pub one_changed : {A : Type 0} (R : A → A → Type 0) (olds now : List A) (i : ℕ) (d y : A) → i < length now → Changed R olds i now → R (slice_index_or now i d) y → Changed R olds (i + 1) (set now i y)
one_changed R olds now i d y within changed r =
    let done = changed.0 in
    let rest = drop (i + 1) olds in
    let x = slice_index_or now i d in
    let at = left_at olds done now i d within changed.1 changed.2 in (
      done ++ y ∷ [],
      length_push done y ∙ ap (λ n. n + 1) changed.1,
      ap (λ zs. set zs i y) at.1 ∙ set_at done x rest y i changed.1 ∙ sym (append_assoc done (y ∷ []) rest),
      subst (λ zs. AllZip R zs (done ++ y ∷ [])) (sym (take_more olds i d at.0))
          (all_zipped_more R (take i olds) done (slice_index_or olds i d) y changed.3 (subst (λ z. R z y) at.2 r)),
    )

pub all_changed : {A : Type 0} (R : A → A → Type 0) (olds now : List A) (i : ℕ) → length now ≤ i → Changed R olds i now → AllZip R olds now
all_changed R olds now i past changed =
    let done = changed.0 in
    let counted : length now ≡ length done + (length olds - i) = ap length changed.2 ∙ length-append done (drop i olds) ∙ ap (λ n. length done + n) (length-drop i olds) in
    let short : length olds ≤ i = omega (arith, counted, past, changed.1) in
    let is = changed.2 ∙ ap (λ zs. done ++ zs) (drop_all i olds short) ∙ append-nil done in
    subst (λ zs. AllZip R olds zs) (sym is) (subst (λ zs. AllZip R zs done) (take_all i olds short) changed.3)

-- some were changed, and the others stay as they are
pub changed_so_far : {A : Type 0} (R S : A → A → Type 0) → ((x y : A) → R x y → S x y) → ((x : A) → S x x) → (olds now : List A) (i : ℕ) (d y : A) → i < length now → Changed R olds i now → S (slice_index_or now i d) y → AllZip S olds (set now i y)
changed_so_far R S weaker itself olds now i d y within changed r =
    let done = changed.0 in
    let before : Changed S olds i now = (done, changed.1, changed.2, zip_weaker R S weaker (take i olds) done changed.3) in
    let last = one_changed S olds now i d y within before r in
    subst (λ zs. AllZip S olds zs) (sym last.2)
    (subst (λ zs. AllZip S zs (last.0 ++ drop (i + 1) olds)) (take-append-drop (i + 1) olds)
    (zip_joined S (take (i + 1) olds) last.0 (drop (i + 1) olds) (drop (i + 1) olds) last.3 (zip_itself S itself (drop (i + 1) olds))))
