use Rattle.std.proofs.Common.{◌≡◌, ℕ, Bool, length, IsTrue, List, ◌↔◌, sym, ◌∙◌, inl, inr, drop, append-nil, []}
use Rattle.std.specs.List.{starts_with}
use Rattle.std.specs.Prelude.{nat_eq}
use Rattle.std.proofs.lemmas.Slice.Eq.{starts_is}
use Rattle.std.proofs.lemmas.Bool.Decides.{Decides-eqb}
use Rattle.vacm_core.specs.Allowed.{FitsContext}
use Rattle.vacm_core.specs.declared.rows.AccessRow.{AccessRow}
use Rattle.vacm_core.specs.declared.rows.Matching.TheVariants.{Prefix}
use Rattle.vacm_core.proofs.rows.AccessRow.fits_context.Goals as goal

begins : (row : AccessRow) (context prefix : List ℕ) (r : Bool) → row.matching ≡ Prefix → prefix ≡ row.prefix → r ≡ starts_with nat_eq context prefix → IsTrue r ↔ FitsContext row context
begins row context prefix r m e h =
    let is = starts_is Decides-eqb context row.prefix r (rw e at h) in (
      λ t. inr (m, (drop (length row.prefix) context, is.0 t)),
      λ f. elim f [
        | inl same ↦ is.1 [] (sym same ∙ sym (append-nil row.prefix))
        | inr part ↦ is.1 part.1.0 part.1.1
      ],
    )

pub returns-in-Prefix : goal.returns-in-Prefix
returns-in-Prefix c = begins c.args.self.now _ _ _ c.in-Prefix.is c.as_slice-in-Prefix.ensures.octets c.starts_with.ensures.value
