-- From the view of a question to what is reported of every variable.
use Rattle.std.proofs.Common.{◌≡◌, ◌≢◌, ℕ, List, sym, subst, refl}
use Rattle.vacm_core.specs.Tables.{Tables, HaveSameRows}
use Rattle.vacm_core.specs.declared.access.ViewType.{ViewType}
use Rattle.vacm_core.specs.declared.access.Access.{Access}
use Rattle.vacm_core.specs.declared.access.Access.TheVariants.{NoSuchContext, NoGroupName, NoAccessEntry, NoSuchView, NotInView, AccessAllowed}
use Rattle.vacm_core.specs.Allowed.{Requester, Allowed, ByView}
use Rattle.vacm_core.specs.View.{AnswersView}
use Rattle.vacm_core.proofs.Views.{by_view}
use Rattle.vacm_core.proofs.Invariance as invariance
use Rattle.vacm_core.proofs.Invariance.{Allowed-same, back_rows}
use Rattle.snmpsec_access.specs.Askers.{Asker}
use Rattle.snmpsec_access.specs.Seen.{Decision, refusal, by_lines, IsDecision, IsRefusal, AreLinesOf, answer_of, is_included}
use Rattle.snmpsec_access.specs.Rising.{IsOfView}

-- the question of a message for a view
abbrev pub question : Requester → ViewType → Asker
question q view = record { message = q; view = view }

refuses : (answer : Access) → answer ≢ NotInView → answer ≢ AccessAllowed → IsRefusal answer
refuses NoSuchContext in_view allowed = tt
refuses NoGroupName in_view allowed = tt
refuses NoAccessEntry in_view allowed = tt
refuses NoSuchView in_view allowed = tt
refuses NotInView in_view allowed = absurd (in_view refl)
refuses AccessAllowed in_view allowed = absurd (allowed refl)

-- what is answered over tables is so over the rows that they are made of
module _ (t tables : Tables) (same : HaveSameRows t tables) (q : Requester) (view : ViewType) where
  pub refused : (answer : Access) → (answer ≢ NotInView) × (answer ≢ AccessAllowed) × ((variable : List ℕ) → Allowed tables q view variable answer) → IsDecision t (question q view) (refusal answer)
  refused answer h = (refuses answer h.0 h.1, λ variable. Allowed-same (back_rows same) q view variable answer (h.2 variable))

  module _ (name : List ℕ) (named : ByView tables q view (λ view. view ≡ name)) where
    of_rows : ByView t q view (λ view. view ≡ name)
    of_rows = invariance.by_view (back_rows same) q view (λ (view : List ℕ). view ≡ name) (λ (view : List ℕ). view ≡ name) (λ view is. is) named

    by_name : (variable : List ℕ) (answer : Access) → AnswersView t.families name variable answer → Allowed t q view variable answer
    by_name variable answer answers =
        by_view t q view variable of_rows.group of_rows.row of_rows.context of_rows.in_group of_rows.best answer
        (subst (λ (n : List ℕ). AnswersView t.families n variable answer) (sym of_rows.so) answers)

    pub by_its_view : (d : Decision) → IsOfView t.families name d → IsDecision t (question q view) d
    by_its_view (refusal answer) all = (all.0, λ variable. by_name variable answer (all.1 variable))
    by_its_view (by_lines lines) told = record {
      allowed = λ variable. by_name variable (answer_of (is_included lines variable)) (told.0 variable);
      lines_of = invariance.by_view (back_rows same) q view (λ (view : List ℕ). view ≡ name) (λ (n : List ℕ). AreLinesOf t.families n lines)
          (λ n is. subst (λ (n : List ℕ). AreLinesOf t.families n lines) (sym is) told.1) named;
    }
