-- What is held of each engine: its mark, which is a pair and the moment at which it was seen.
use Rattle.std.specs.Prelude.{◌≡◌, ◌⊎◌, ℕ, ◌<◌, if◌then◌else◌, List, Option, None, Some, IsSome, refl}
use Rattle.std.proofs.Common.{sym, ap}
use Rattle.std.specs.declared.cmp.Ordering.{Ordering}
use Rattle.std.specs.Ordering.{nat_cmp, ord_max, on, flip_args, then_cmp, eq_by_cmp}
use Rattle.std.specs.Cmp.{IsTotalOrder}
use Rattle.std.specs.Option.{option_map}
use Rattle.std.specs.FinMap as map
use Rattle.std.specs.Coded.{Coded, code_by, coded×, coded_ℕ, coded_list}
use Rattle.std.proofs.lemmas.Cmp.{then_total, on_total, back_total, nat_cmp_total}
use Rattle.std.proofs.lemmas.Map.Lookups.{CmpEqualImpliesEq, exact_pairs, exact_unsigned}
use Rattle.engine_clock.specs.Engines.{engine_cmp}
use Rattle.engine_clock.specs.Greatest.{IsGreatestOfBy}
use Rattle.engine_clock.specs.Pairs.{BootsAndTime, IsBelow, pair_cmp, pair_join, pair_cmp_total, pair_cmp_exact}
use Rattle.engine_clock.specs.Joins.{option_join}

-- a pair, and the moment in seconds at which it was seen
pub record SeenPair : Type 0 where
  pub pair : BootsAndTime
  pub seen : ℕ

-- a pair that comes in at the moment `now`
abbrev pub seen_at : BootsAndTime → ℕ → SeenPair
seen_at pair now = record { pair = pair; seen = now }

-- ---- their order

-- m is below n where its pair is below n's, or where the pairs are the same and n was seen earlier
abbrev pub IsMarkBelow : SeenPair → SeenPair → Type 0
IsMarkBelow m n = IsBelow m.pair n.pair ⊎ ((m.pair ≡ n.pair) × (n.seen < m.seen))

-- the greatest of a set of marks, and None where it is empty
abbrev pub IsGreatestMarkOf : (SeenPair → Type 0) → Option SeenPair → Type 0
IsGreatestMarkOf S found = IsGreatestOfBy IsMarkBelow S found

-- by pair, and then the earlier moment above
abbrev pub mark_cmp : SeenPair → SeenPair → Ordering
mark_cmp = then_cmp (on (λ m. m.pair) pair_cmp) (flip_args (on (λ m. m.seen) nat_cmp))

-- the greater of two marks
abbrev pub mark_join : SeenPair → SeenPair → SeenPair
mark_join = ord_max mark_cmp

pub mark_cmp_total : IsTotalOrder mark_cmp
mark_cmp_total = then_total (on_total (λ m. m.pair) pair_cmp_total) (back_total (on_total (λ m. m.seen) nat_cmp_total))

pub mark_cmp_exact : CmpEqualImpliesEq mark_cmp
mark_cmp_exact m n e =
    ap (λ (p : BootsAndTime × ℕ). record { pair = p.0; seen = p.1 })
    (exact_pairs pair_cmp (flip_args nat_cmp) pair_cmp_exact (λ x y h. sym (exact_unsigned y x h)) (m.pair, m.seen)
    (n.pair, n.seen) e)

-- ---- maps

-- from each engine that is held to its mark
abbrev pub Marks : Type 0
Marks = map.FinMap engine_cmp SeenPair

-- the mark of an engine
abbrev pub mark_at : Marks → List ℕ → Option SeenPair
mark_at marks engine = map.get marks engine

-- the pair of an engine
abbrev pub pair_at : Marks → List ℕ → Option BootsAndTime
pair_at marks engine = option_map (λ mark. mark.pair) (map.get marks engine)

-- ---- one mark comes in

-- The mark of one engine is the join of the one before with this one, and all other engines keep theirs.
abbrev pub JoinsMark : List ℕ → SeenPair → Marks → Marks → Type 0
JoinsMark engine mark old new =
    (q : List ℕ) → mark_at new q
    ≡ (if eq_by_cmp engine_cmp q engine then option_join mark_join (mark_at old q) (Some mark) else mark_at old q)

-- The same of pairs.
abbrev pub JoinsPair : List ℕ → BootsAndTime → Marks → Marks → Type 0
JoinsPair engine pair old new =
    (q : List ℕ) → pair_at new q
    ≡ (if eq_by_cmp engine_cmp q engine then option_join pair_join (pair_at old q) (Some pair) else pair_at old q)

-- ---- the marks of another map come in

-- each engine of `other` is held
abbrev pub HoldsAll : Marks → Marks → Type 0
HoldsAll held other = (engine : List ℕ) → IsSome (mark_at other engine) → IsSome (mark_at held engine)

-- the join of two maps: at each engine the greater of the one or two marks there, and no other engine
abbrev pub IsMarkJoinOf : Marks → Marks → Marks → Type 0
IsMarkJoinOf a b joined = (engine : List ℕ)
    → mark_at joined engine ≡ option_join mark_join (mark_at a engine) (mark_at b engine)

-- The same of pairs.
abbrev pub IsJoinOf : Marks → Marks → Marks → Type 0
IsJoinOf a b joined = (engine : List ℕ)
    → pair_at joined engine ≡ option_join pair_join (pair_at a engine) (pair_at b engine)

-- ---- the map that the code makes

-- what an engine has once the mark has come in
abbrev pub joined_to : Option SeenPair → SeenPair → SeenPair
joined_to None mark = mark
joined_to (Some held) mark = mark_join held mark

abbrev pub learned : List ℕ → SeenPair → Marks → Marks
learned engine mark marks = map.insert marks engine (joined_to (map.get marks engine) mark)

-- ---- the code of the map, by which a proof tells its values apart

abbrev pub mark_code : Coded SeenPair
mark_code =
    code_by (ℕ × (ℕ × ℕ)) (coded× coded_ℕ (coded× coded_ℕ coded_ℕ)) (λ m. (m.pair.boots, (m.pair.time, m.seen)))
    (λ n. record { pair = record { boots = n.0; time = n.1.0 }; seen = n.1.1 }) (λ _. refl)

abbrev pub marks_code : Coded Marks
marks_code = map.code (coded_list coded_ℕ) mark_code
