-- Arcs that no row compares are alike, and the least one is found.
use Rattle.std.proofs.Common.{◌≡◌, ◌≢◌, ℕ, zero, suc, ◌+◌, ◌-◌, ◌⊎◌, ◌^◌, ◌<◌, ◌≤◌, Option, Some, None, MatchOption, IfSome, List, [], ◌∷◌, ◌++◌, length, get_or, Contains, sym, ap, subst, ◌∙◌, refl, inl, inr, arith}
use Rattle.std.specs.List.{AllByRecursion}
use Rattle.std.specs.Option.{SomeIff}
use Rattle.vacm_core.specs.declared.rows.FamilyRow.{FamilyRow}
use Rattle.vacm_core.specs.Allowed.{mask_bit}
use Rattle.std.proofs.lemmas.Bool.{cases_lt}
use Rattle.vacm_core.specs.View.{HasArcs, IsUnder, NoneUnder}
use Rattle.vacm_next.specs.Opening.{OpensAt, ComparesNext, IsAtRow, IsFree, IsLeastArc, IsLowerThan}
use Rattle.vacm_next.proofs.Order.{which}

-- ---- names that differ in one arc

other_limit : (P : ℕ → Type 0) (w rest : List ℕ) (a c : ℕ) → P c → AllByRecursion P ((w ++ a ∷ []) ++ rest) → AllByRecursion P ((w ++ c ∷ []) ++ rest)
other_limit P [] rest a c p h = (p, h.1)
other_limit P (x ∷ w) rest a c p h = (h.0, other_limit P w rest a c p h.1)

arc_limit : (P : ℕ → Type 0) (w rest : List ℕ) (a : ℕ) → AllByRecursion P ((w ++ a ∷ []) ++ rest) → P a
arc_limit P [] rest a h = h.0
arc_limit P (x ∷ w) rest a h = arc_limit P w rest a h.1

as_long : (w rest : List ℕ) (a c : ℕ) → length ((w ++ a ∷ []) ++ rest) ≡ length ((w ++ c ∷ []) ++ rest)
as_long [] rest a c = refl
as_long (x ∷ w) rest a c = let e = as_long w rest a c in omega (arith, e)

other_arcs : (w rest : List ℕ) (a c k : ℕ) → k ≢ length w → get_or ((w ++ a ∷ []) ++ rest) k 0 ≡ get_or ((w ++ c ∷ []) ++ rest) k 0
other_arcs [] rest a c zero differ = absurd (differ refl)
other_arcs [] rest a c (suc k) differ = refl
other_arcs (x ∷ w) rest a c zero differ = refl
other_arcs (x ∷ w) rest a c (suc k) differ = other_arcs w rest a c k (λ same. differ (omega (arith, same)))

the_arc : (w rest : List ℕ) (a : ℕ) → get_or ((w ++ a ∷ []) ++ rest) (length w) 0 ≡ a
the_arc [] rest a = refl
the_arc (x ∷ w) rest a = the_arc w rest a

front_arcs : (w rest : List ℕ) (a k : ℕ) → k < length w → get_or ((w ++ a ∷ []) ++ rest) k 0 ≡ get_or w k 0
front_arcs [] rest a k within = absurd (omega (arith, within))
front_arcs (x ∷ w) rest a zero within = refl
front_arcs (x ∷ w) rest a (suc k) within = front_arcs w rest a k (omega (arith, within))

module _ (rows : List FamilyRow) (w rest : List ℕ) where
  -- a row that has the one name has the other
  has_other : (a c : ℕ) → IsFree rows w a → (row : FamilyRow) → Contains rows row → HasArcs ((w ++ a ∷ []) ++ rest) row → HasArcs ((w ++ c ∷ []) ++ rest) row
  has_other a c free row there fits = record {
    long = let e = as_long w rest a c in let l = fits.long in omega arith;
    arcs = λ k within bit. elim (which k (length w)) [
      | inl before ↦ fits.arcs k within bit ∙ other_arcs w rest a c k (λ same. omega (arith, before, same))
      | inr (inl same) ↦ absurd (free row there (next k within bit same))
      | inr (inr past) ↦ fits.arcs k within bit ∙ other_arcs w rest a c k (λ same. omega (arith, past, same))
    ];
  }
    where
      next : (k : ℕ) → k < length row.subtree → mask_bit row.mask k ≡ 1 → k ≡ length w → ComparesNext w row a
      next k within bit same = record {
        longer = omega (arith, within, same);
        agrees = λ j inside before b. fits.arcs j inside b ∙ front_arcs w rest a j before;
        compares = subst (λ n. mask_bit row.mask n ≡ 1) same bit;
        arc_is = fits.arcs (length w) (omega (arith, within, same)) (subst (λ n. mask_bit row.mask n ≡ 1) same bit) ∙ the_arc w rest a;
      }

-- an arc that no row compares opens if another such arc does
pub alike : (rows : List FamilyRow) (w : List ℕ) (a c : ℕ) → IsFree rows w a → IsFree rows w c → c < 2 ^ 32 → OpensAt rows w a → OpensAt rows w c
alike rows w a c free_a free_c limit o =
    let best = o.included.1 in
    record {
      rest = o.rest;
      are_arcs = record {
        some = let e = as_long w o.rest a c in let s = o.are_arcs.some in omega arith;
        most = let e = as_long w o.rest a c in let m = o.are_arcs.most in omega arith;
        limit = other_limit (λ arc. arc < 2 ^ 32) w o.rest a c limit o.are_arcs.limit;
      };
      included = (
        o.included.0,
        record {
          in_table = best.in_table;
          fits = has_other rows w o.rest a c free_a o.included.0 best.in_table best.fits;
          unexceeded = λ other there fits. best.unexceeded other there (has_other rows w o.rest c a free_c other there fits);
        },
        o.included.2,
      );
    }

-- an arc with which a name goes on is below 2 ^ 32
pub arc_below : (rows : List FamilyRow) (w : List ℕ) (a : ℕ) → OpensAt rows w a → a < 2 ^ 32
arc_below rows w a o = arc_limit (λ arc. arc < 2 ^ 32) w o.rest a o.are_arcs.limit

-- ---- going through the rows for the next arc that one compares

-- the rows before this place compare no arc from this one on that is less than the least so far
abbrev pub NoneCompares : List FamilyRow → List ℕ → ℕ → Option ℕ → ℕ → Type 0
NoneCompares rows w arc least place = (k : ℕ) (d : FamilyRow) → k < place → (other : ℕ) → arc ≤ other → IsLowerThan other least → ¬ ComparesNext w (get_or rows k d) other

module _ (rows : List FamilyRow) (w : List ℕ) (arc : ℕ) where
  pub all_free : (least : Option ℕ) → NoneCompares rows w arc least (length rows) → (other : ℕ) → arc ≤ other → IsLowerThan other least → IsFree rows w other
  all_free least none other from under row there next =
      none there.0 row there.1 other from under (subst (λ (r : FamilyRow). ComparesNext w r other) (sym there.2) next)

  -- one more row is looked at, and others are passed over that don't agree with the beginning
  pub one_more : (least more : Option ℕ) (place next : ℕ) (row : FamilyRow) → ((d : FamilyRow) → row ≡ get_or rows place d) → ((other : ℕ) → IsLowerThan other more → IsLowerThan other least)
      → ((other : ℕ) → arc ≤ other → IsLowerThan other more → ¬ ComparesNext w row other) → NoneUnder rows w (place + 1) next → NoneCompares rows w arc least place → NoneCompares rows w arc more next
  one_more least more place next row at upto not_this skipped none k d before other from under compares = elim (which k place) [
    | inl lower ↦ none k d lower other from (upto other under) compares
    | inr (inl same) ↦ not_this other from under (subst (λ (r : FamilyRow). ComparesNext w r other) (ap (λ n. get_or rows n d) same ∙ sym (at d)) compares)
    | inr (inr past) ↦ skipped k d (omega (arith, past)) before (record { longer = compares.longer; agrees = compares.agrees })
  ]

  pub none_first : (next : ℕ) → NoneUnder rows w 0 next → NoneCompares rows w arc None next
  none_first next skipped k d before other from under compares = skipped k d (omega arith) before (record { longer = compares.longer; agrees = compares.agrees })

  module _ (place : ℕ) (past : length rows ≤ place) (limit : arc < 2 ^ 32) where
    -- no arc that was passed over opens, unless this one does
    pub passed : (least : Option ℕ) → NoneCompares rows w arc least place → (other : ℕ) → arc < other → IsLowerThan arc least → IsLowerThan other least → OpensAt rows w other → OpensAt rows w arc
    passed least none other greater under other_under opens =
        let free = all_free least (λ k d within. none k d (omega arith)) in
        alike rows w other arc (free other (omega arith) other_under) (free arc (omega arith) under) limit opens

  -- the arc after this one passes over none
  pub after : (next : Option ℕ) → SomeIff next (arc + 1 < 2 ^ 32) (arc + 1) → MatchOption next ((other : ℕ) → arc < other → OpensAt rows w other → OpensAt rows w arc)
      (λ n. (arc < n) × ((other : ℕ) → arc < other → other < n → OpensAt rows w other → OpensAt rows w arc))
  after None most = λ other greater opens. absurd (most (let b = arc_below rows w other opens in omega (arith, b, greater)))
  after (Some n) is = (let e = is.1 in omega arith, λ other greater less opens. absurd (let e = is.1 in omega (arith, greater, less, e)))

-- ---- all arcs at one look at each row

-- no arc opens that is less than the least so far, and that one of the rows before this place compares, or the one before it
abbrev pub NoneOpensBefore : List FamilyRow → List ℕ → ℕ → Option ℕ → ℕ → Type 0
NoneOpensBefore rows w low least place =
    (k : ℕ) (d : FamilyRow) → k < place → (other : ℕ) → low ≤ other → IsLowerThan other least → IsAtRow w (get_or rows k d) low other → ¬ OpensAt rows w other

lower_still : (least : Option ℕ) (a b : ℕ) → a ≤ b → IsLowerThan b least → IsLowerThan a least
lower_still None a b upto under = tt
lower_still (Some n) a b upto under = omega (arith, upto, under)

at_is_under : (w : List ℕ) (row : FamilyRow) (low arc : ℕ) → IsAtRow w row low arc → IsUnder w row
at_is_under w row low arc at = elim at [
  | inl h ↦ record { longer = h.longer; agrees = h.agrees }
  | inr (before, from, is, h) ↦ record { longer = h.longer; agrees = h.agrees }
]

module _ (rows : List FamilyRow) (w : List ℕ) (low : ℕ) where
  -- one more row is looked at, and others are passed over that don't agree with the beginning
  pub one_more_opens : (least more : Option ℕ) (place next : ℕ) (row : FamilyRow) → ((d : FamilyRow) → row ≡ get_or rows place d) → ((other : ℕ) → IsLowerThan other more → IsLowerThan other least)
      → ((other : ℕ) → low ≤ other → IsLowerThan other more → IsAtRow w row low other → ¬ OpensAt rows w other) → NoneUnder rows w (place + 1) next → NoneOpensBefore rows w low least place
      → NoneOpensBefore rows w low more next
  one_more_opens least more place next row at upto not_this skipped none k d before other from under near opens = elim (which k place) [
    | inl lower ↦ none k d lower other from (upto other under) near opens
    | inr (inl same) ↦ not_this other from under (subst (λ (r : FamilyRow). IsAtRow w r low other) (ap (λ n. get_or rows n d) same ∙ sym (at d)) near) opens
    | inr (inr past) ↦ skipped k d (omega (arith, past)) before (at_is_under w (get_or rows k d) low other near)
  ]

  pub none_opens_first : (least : Option ℕ) (next : ℕ) → NoneUnder rows w 0 next → NoneOpensBefore rows w low least next
  none_opens_first least next skipped k d before other from under near opens = skipped k d (omega arith) before (at_is_under w (get_or rows k d) low other near)

  -- what was found opens: what there was so far, or what this row gave
  pub kept_open : (least more : Option ℕ) → IfSome least (λ arc. (low ≤ arc) × OpensAt rows w arc) → IfSome more (λ arc. (least ≡ Some arc) ⊎ ((low ≤ arc) × OpensAt rows w arc))
      → IfSome more (λ arc. (low ≤ arc) × OpensAt rows w arc)
  kept_open least None found one = tt
  kept_open least (Some n) found (inl same) = subst (λ (l : Option ℕ). IfSome l (λ arc. (low ≤ arc) × OpensAt rows w arc)) same found
  kept_open least (Some n) found (inr opens) = opens

  module _ (least : Option ℕ) (first : IsLowerThan low least → ¬ OpensAt rows w low) (none : NoneOpensBefore rows w low least (length rows)) where
    -- an arc that opens is at a row, or the arc before it opens too
    closed : (m : ℕ) → IsLowerThan (low + m) least → ¬ OpensAt rows w (low + m)
    closed zero under opens =
        let e : low + zero ≡ low = omega arith in
        first (subst (λ n. IsLowerThan n least) e under) (subst (OpensAt rows w) e opens)
    closed (suc m) under opens =
        let behind : low + suc m ≡ low + m + 1 = omega arith in
        closed m (lower_still least (low + m) (low + suc m) (omega arith) under)
        (alike rows w (low + suc m) (low + m)
        (λ row there next. none there.0 row there.1 (low + suc m) (omega arith) under (inl (subst (λ (r : FamilyRow). ComparesNext w r (low + suc m)) (sym there.2) next)) opens)
        (λ row there next. none there.0 row there.1 (low + suc m) (omega arith) under (inr (low + m, omega arith, behind, subst (λ (r : FamilyRow). ComparesNext w r (low + m)) (sym there.2) next)) opens)
        (let b = arc_below rows w (low + suc m) opens in omega (arith, b)) opens)

    none_lower : (other : ℕ) → low ≤ other → IsLowerThan other least → ¬ OpensAt rows w other
    none_lower other from under opens =
        let e : low + (other - low) ≡ other = omega (arith, from) in
        closed (other - low) (subst (λ n. IsLowerThan n least) (sym e) under) (subst (OpensAt rows w) (sym e) opens)

  -- each row was looked at
  pub least_found : (least : Option ℕ) → (IsLowerThan low least → ¬ OpensAt rows w low) → NoneOpensBefore rows w low least (length rows) → IfSome least (λ arc. (low ≤ arc) × OpensAt rows w arc)
      → MatchOption least ((arc : ℕ) → low ≤ arc → ¬ OpensAt rows w arc) (λ arc. IsLeastArc rows w low arc)
  least_found None first none found = λ arc from. none_lower None first none arc from tt
  least_found (Some n) first none found = record { from_on = found.0; opens = found.1; least = λ other from less. none_lower (Some n) first none other from less }

  -- none opens before an arc, and the least from there on is known
  pub from_there : (arc : ℕ) → low ≤ arc → ((other : ℕ) → low ≤ other → other < arc → ¬ OpensAt rows w other) → (least : Option ℕ)
      → MatchOption least ((other : ℕ) → arc ≤ other → ¬ OpensAt rows w other) (λ n. IsLeastArc rows w arc n) → MatchOption least ((other : ℕ) → low ≤ other → ¬ OpensAt rows w other) (λ n. IsLeastArc rows w low n)
  from_there arc from none None later = λ other upto. elim (cases_lt other arc) [
    | inl before ↦ none other upto before
    | inr on ↦ later other on
  ]
  from_there arc from none (Some n) later = record {
    from_on = let l = later.from_on in omega (arith, from, l);
    opens = later.opens;
    least = λ other upto less. elim (cases_lt other arc) [
      | inl before ↦ none other upto before
      | inr on ↦ later.least other on less
    ];
  }
