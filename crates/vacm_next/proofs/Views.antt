-- The view of a message, by the rows of its name.
use Rattle.std.proofs.Common.{◌≡◌, ◌≢◌, ℕ, List, [], Option, Some, None, MatchOption, sym, subst}
use Rattle.vacm_core.specs.declared.rows.FamilyRow.{FamilyRow}
use Rattle.vacm_core.specs.declared.access.ViewType.{ViewType}
use Rattle.vacm_core.specs.Tables.{Tables, IsSameSet, HaveSameRows}
use Rattle.vacm_core.specs.Allowed.{ByView, Requester, HasView, IsInView}
use Rattle.vacm_core.specs.View.{Includes, AreRowsOf}
use Rattle.vacm_next.specs.Next.{IsLeastFrom, NoneFrom, Sees}

same_set : {R : Type 0} (rows : List R) → IsSameSet rows rows
same_set rows = record { both = λ row. (λ there. there, λ there. there) }

pub same_rows : (t : Tables) → HaveSameRows t t
same_rows t = record { contexts = same_set t.contexts; groups = same_set t.groups; access = same_set t.access; families = same_set t.families }

module _ (families rows : List FamilyRow) (name variable : List ℕ) (are : AreRowsOf families name rows) where
  in_view : Includes rows variable → IsInView families name variable
  in_view (row, best, includes) = (
    row,
    record {
      in_table = ((are.both row).0 best.in_table).0;
      fits = record { same_view = ((are.both row).0 best.in_table).1; long = best.fits.long; arcs = best.fits.arcs };
      unexceeded = λ other there fits. best.unexceeded other ((are.both other).1 (there, fits.same_view)) (record { long = fits.long; arcs = fits.arcs });
    },
    includes,
  )

  pub included : IsInView families name variable → Includes rows variable
  included (row, best, includes) = (
    row,
    record {
      in_table = (are.both row).1 (best.in_table, best.fits.same_view);
      fits = record { long = best.fits.long; arcs = best.fits.arcs };
      unexceeded = λ other there fits.
          let named = (are.both other).0 there in
          best.unexceeded other named.0 (record { same_view = named.1; long = fits.long; arcs = fits.arcs });
    },
    includes,
  )

-- a variable in the view that a message has may be seen
pub seen : (t : Tables) (q : Requester) (view : ViewType) (name variable : List ℕ) (rows : List FamilyRow) → name ≢ [] → ByView t q view (λ other. other ≡ name) → AreRowsOf t.families name rows
    → Includes rows variable → Sees t q view variable
seen t q view name variable rows named by are inside = record {
  context = by.context;
  group = by.group;
  in_group = by.in_group;
  row = by.row;
  best = by.best;
  so = subst (λ (n : List ℕ). HasView t.families n × IsInView t.families n variable) (sym by.so) (
    record {
      named = named;
      has_row = (inside.0, ((are.both inside.0).0 inside.1.in_table).0, ((are.both inside.0).0 inside.1.in_table).1);
    },
    in_view t.families rows name variable are inside,
  );
}

-- the least that is one is the least that is the other
pub carried : (S T : List ℕ → Type 0) → ((name : List ℕ) → S name → T name) → ((name : List ℕ) → T name → S name) → (from : List ℕ) (found : Option (List ℕ))
    → MatchOption found (NoneFrom S from) (λ name. IsLeastFrom S from name) → MatchOption found (NoneFrom T from) (λ name. IsLeastFrom T from name)
carried S T there back from None none = λ name arcs from_on so. none name arcs from_on (back name so)
carried S T there back from (Some name) least = record {
  are_arcs = least.are_arcs;
  seen = there name least.seen;
  from_on = least.from_on;
  least = λ other arcs from_on before so. least.least other arcs from_on before (back other so);
}
