-- Tags of frames and extension headers of IPv6, one more.
use Rattle.std.proofs.Common.{◌≡◌, ◌⊎◌, ℕ, suc, ◌+◌, ◌*◌, ◌<◌, ◌≤◌, ◌==◌, Bool, true, false, if◌then◌else◌, List, length, drop, slice_index, sym, ap, ◌∙◌, subst, inl, inr, arith}
use Rattle.std.proofs.lemmas.Bool.{cases_eq}
use Rattle.std.proofs.lemmas.List.{get_or-drop, drop-drop, length-drop}
use Rattle.capture_files.specs.Field.{field16}
use Rattle.capture_files.specs.Packet.{is_tag, type_behind, next_place, place_of, IsSkipped, LeadsTo}
use Rattle.capture_files.specs.declared.packet.Place.{Place}

each_step : (P : ℕ → Type 0) (n : ℕ) → ((k : ℕ) → k < n → P k) → P n → (k : ℕ) → k < suc n → (k ≡ n) ⊎ (k ≡ n → ⊥) → P k
each_step P n all last k l (inl e) = subst P (sym e) last
each_step P n all last k l (inr d) = all k (omega (arith, l, d))

each_more : (P : ℕ → Type 0) (n : ℕ) → ((k : ℕ) → k < n → P k) → P n → (k : ℕ) → k < suc n → P k
each_more P n all last k l = each_step P n all last k l (cases_eq k n)

-- ---- tags

abbrev pub IsBehind : ℕ → List ℕ → ℕ → List ℕ → Type 0
IsBehind first behind kind octets = (tags : ℕ) × ((k : ℕ) → k < tags → is_tag (type_behind first behind k) ≡ true)
    × (kind ≡ type_behind first behind tags) × (4 * tags ≤ length behind) × (octets ≡ drop (4 * tags) behind)

pub next_tag : (first : ℕ) (behind : List ℕ) (kind : ℕ) (octets : List ℕ) (next : ℕ) (rest : List ℕ) → IsBehind first behind kind octets
    → is_tag kind ≡ true → 4 ≤ length octets → next ≡ field16 octets 2 → rest ≡ drop 4 octets → IsBehind first behind next rest
next_tag first behind kind octets next rest (tags, each, is, within, parts) tag long said left =
    let last : is_tag (type_behind first behind tags) ≡ true = subst (λ k. is_tag k ≡ true) is tag in
    let size : length octets ≡ length (drop (4 * tags) behind) = ap length parts in
    let count = length-drop (4 * tags) behind in
    let high : slice_index (drop (4 * tags) behind) 2 ≡ slice_index behind (4 * tags + 2) = get_or-drop (4 * tags) behind 2 0 in
    let low : slice_index (drop (4 * tags) behind) 3 ≡ slice_index behind (4 * tags + 2 + 1) =
    get_or-drop (4 * tags) behind 3 0 ∙ ap (slice_index behind) (omega arith) in
    let field : field16 (drop (4 * tags) behind) 2 ≡ field16 behind (4 * tags + 2) =
    ap (λ a. a * 256 + slice_index (drop (4 * tags) behind) 3) high ∙ ap (λ b. slice_index behind (4 * tags + 2) * 256 + b) low in (
      suc tags,
      each_more (λ k. is_tag (type_behind first behind k) ≡ true) tags each last,
      said ∙ ap (λ t. field16 t 2) parts ∙ field,
      omega (arith, size, count, long, within),
      left ∙ ap (drop 4) parts ∙ drop-drop 4 (4 * tags) behind ∙ ap (λ n. drop n behind) (omega arith),
    )

-- ---- extension headers

most_step : (b : Bool) (x : ℕ) → x < 256 → (if b then 8 else 8 * (x + 1)) ≤ 2048
most_step true x h = omega arith
most_step false x h = omega (arith, h)

pub next_near : (packet : List ℕ) (p : Place) → slice_index packet (p.at + 1) < 256 → p.at + 8 ≤ length packet
    → (next_place packet p).at ≤ length packet + 2048
next_near packet p byte there =
    let m = most_step (p.kind == 44) (slice_index packet (p.at + 1)) byte in omega (arith, m, there)

pub leads_on : (packet : List ℕ) (p q : Place) → LeadsTo packet p → IsSkipped packet p → q ≡ next_place packet p → LeadsTo packet q
leads_on packet p q (n, each, is) skipped next = (
  suc n,
  each_more (λ k. IsSkipped packet (place_of packet k)) n each (subst (IsSkipped packet) is skipped),
  next ∙ ap (next_place packet) is,
)
