-- Octets out of the basis of two coefficients: a linear map, which the sums and the moves of a round go through.
use Rattle.std.proofs.Common.{◌≡◌, ℕ, zero, suc, ◌*◌, ◌<◌, ltb, List, [], ◌∷◌, ◌++◌, map, get_or, refl, sym, ap, ◌∙◌, w8, Fits}
use Rattle.std.specs.Prelude.{bit_xor, slice_index}
use Rattle.std.specs.Int.{bit_at}
use Rattle.std.proofs.lemmas.Bool.{ltb-true}
use Rattle.std.proofs.lemmas.Simd.{map-map}
use lib.Lanes.{zip2, Each1, pick_l}
use Rattle.usm_aes.specs.Lanes.{basis, from_tower, tower}
use Rattle.usm_aes.proofs.Checks.{agree_below, true_below}
use Rattle.usm_aes.proofs.LaneMaps.{maps_agree}
use Rattle.usm_aes.proofs.Mixing.{mixed_lanes, octet_fits}
use Rattle.usm_aes.proofs.Polynomials.{sum_to-same, sum_to-xor, bit_xor-mul}

pub from_tower-xor : (a b : ℕ) → from_tower (bit_xor a b) ≡ bit_xor (from_tower a) (from_tower b)
unfolding from_tower
from_tower-xor a b =
    sum_to-same (λ i. bit_at (bit_xor a b) i * slice_index basis i)
    (λ i. bit_xor (bit_at a i * slice_index basis i) (bit_at b i * slice_index basis i)) 8
    (λ i lt. bit_xor-mul a b i (slice_index basis i))
    ∙ sum_to-xor (λ i. bit_at a i * slice_index basis i) (λ i. bit_at b i * slice_index basis i) 8

from_tower-zero : from_tower 0 ≡ 0
unfolding from_tower
from_tower-zero = refl

from_tower-lt : (t : ℕ) → t < 256 → from_tower t < 256
unfolding from_tower
from_tower-lt t lt = ltb-true (from_tower t) 256 (true_below (λ x. ltb (from_tower x) 256) 256 refl t lt)

from_tower-tower : (x : ℕ) → x < 256 → from_tower (tower x) ≡ x
unfolding from_tower
from_tower-tower = agree_below 256 (λ x. from_tower (tower x)) (λ x. x) refl

-- ---- lanes

pub summed : (p q : List ℕ) → map from_tower (zip2 bit_xor p q) ≡ zip2 bit_xor (map from_tower p) (map from_tower q)
summed [] q = refl
summed (x ∷ p) [] = refl
summed (x ∷ p) (y ∷ q) = rw (from_tower-xor x y, summed p q) refl

get_from : (xs : List ℕ) (k : ℕ) → from_tower (get_or xs k 0) ≡ get_or (map from_tower xs) k 0
get_from [] k = from_tower-zero
get_from (x ∷ xs) zero = refl
get_from (x ∷ xs) (suc k) = get_from xs k

picked_from : (xs ks : List ℕ) → map from_tower (pick_l 0 xs ks) ≡ pick_l 0 (map from_tower xs) ks
picked_from xs [] = refl
picked_from xs (k ∷ ks) = rw (get_from xs k, picked_from xs ks) refl

joined_from : (xs ys : List ℕ) → map from_tower (xs ++ ys) ≡ map from_tower xs ++ map from_tower ys
joined_from [] ys = refl
joined_from (x ∷ xs) ys = ap (λ l. from_tower x ∷ l) (joined_from xs ys)

pub moved : (xs ks : List ℕ) → map from_tower (pick_l 0 (xs ++ xs) ks) ≡ pick_l 0 (map from_tower xs ++ map from_tower xs) ks
moved xs ks = picked_from (xs ++ xs) ks ∙ ap (λ l. pick_l 0 l ks) (joined_from xs xs)

-- a round goes through
pub mixed_from : (below above once twice : List ℕ)
    → map from_tower (mixed_lanes below above once twice) ≡ mixed_lanes below above (map from_tower once) (map from_tower twice)
mixed_from below above once twice =
    let two_rows : List ℕ = zip2 bit_xor twice (pick_l 0 once below) in
    let under : List ℕ = pick_l 0 two_rows below in
    let over : List ℕ = pick_l 0 once above in
    let pairs : map from_tower two_rows ≡ zip2 bit_xor (map from_tower twice) (pick_l 0 (map from_tower once) below) =
    summed twice (pick_l 0 once below) ∙ ap (zip2 bit_xor (map from_tower twice)) (picked_from once below) in
    summed (zip2 bit_xor two_rows under) over
    ∙ ap (λ l. zip2 bit_xor l (map from_tower over)) (summed two_rows under)
    ∙ ap (λ l. zip2 bit_xor (zip2 bit_xor (map from_tower two_rows) l) (map from_tower over)) (picked_from two_rows below)
    ∙ ap (λ l. zip2 bit_xor (zip2 bit_xor (map from_tower two_rows) (pick_l 0 (map from_tower two_rows) below)) l) (picked_from once above)
    ∙ ap (λ l. zip2 bit_xor (zip2 bit_xor l (pick_l 0 l below)) (pick_l 0 (map from_tower once) above)) pairs

-- what comes out are octets
pub fits_from : (v : List ℕ) → Each1 (Fits w8) v → (k : ℕ) → get_or (map from_tower v) k 0 < 256
fits_from v fits k = rw (← get_from v k) (from_tower-lt (get_or v k 0) (octet_fits v fits k))

are_same : (f : ℕ → ℕ) (v : List ℕ) → Each1 (Fits w8) v → ((x : ℕ) → x < 256 → f x ≡ x) → map f v ≡ v
are_same f [] fits h = refl
are_same f (x ∷ v) fits h = rw (h x fits.0.fits, are_same f v fits.1 h) refl

-- into the basis and out of it again
pub back : (v p : List ℕ) → Each1 (Fits w8) v → p ≡ map tower v → map from_tower p ≡ v
back v p fits is =
    ap (map from_tower) is ∙ map-map from_tower tower v ∙ are_same (λ x. from_tower (tower x)) v fits from_tower-tower

-- a function of lanes in the basis that stands for a function of octets
pub stands_for : (f g : ℕ → ℕ) (v p : List ℕ) → Each1 (Fits w8) v → p ≡ map f v → ((t : ℕ) → t < 256 → from_tower (f t) ≡ g (from_tower t))
    → map from_tower p ≡ map g (map from_tower v)
stands_for f g v p fits is h =
    ap (map from_tower) is ∙ map-map from_tower f v ∙ maps_agree (λ t. from_tower (f t)) (λ t. g (from_tower t)) v fits h
    ∙ sym (map-map g from_tower v)

-- and one that leaves it
pub leaves_for : (f g : ℕ → ℕ) (v p : List ℕ) → Each1 (Fits w8) v → p ≡ map f v → ((t : ℕ) → t < 256 → f t ≡ g (from_tower t))
    → p ≡ map g (map from_tower v)
leaves_for f g v p fits is h =
    is ∙ maps_agree f (λ t. g (from_tower t)) v fits h ∙ sym (map-map g from_tower v)
