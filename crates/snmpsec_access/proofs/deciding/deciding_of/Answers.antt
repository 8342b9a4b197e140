use Rattle.std.proofs.Common.{◌≡◌, ℕ, List, Contains, sym, subst}
use Rattle.std.proofs.lemmas.Result.{IfOk-weaker}
use Rattle.vacm_core.specs.declared.rows.FamilyRow.{FamilyRow}
use Rattle.vacm_core.specs.Tables.{tables_of}
use Rattle.vacm_core.specs.Steps.{requester_of}
use Rattle.snmpsec_access.specs.Rising.{IsOfView, decision_of}
use Rattle.snmpsec_access.proofs.Tolds.{refused, by_its_view}
use Rattle.snmpsec_access.proofs.deciding.deciding_of.Goals as goal

pub returns-in-Err : goal.returns-in-Err
returns-in-Err c =
    refused (tables_of c.args.rows.now) c.args.access.now c.requires.same_rows (requester_of c.args.asking.now) c.args.asking.now.view c.in-Err.answer c.in-Err.ensures.view

pub returns-in-Ok : goal.returns-in-Ok
returns-in-Ok c =
    IfOk-weaker c.deciding_of_view.result _ _
    (λ deciding is. by_its_view (tables_of c.args.rows.now) c.args.access.now c.requires.same_rows (requester_of c.args.asking.now) c.args.asking.now.view c.in-Ok.view.now c.in-Ok.ensures.view.1 (decision_of deciding)
    (subst (λ (rows : List FamilyRow). IsOfView rows c.in-Ok.view.now (decision_of deciding)) c.deref.ensures.value
    (subst (λ (name : List ℕ). IsOfView c.deref.result.now name (decision_of deciding)) c.as_slice.ensures.octets is)))
    c.deciding_of_view.ensures

pub deciding_of_view-requires-clause-one_each : goal.deciding_of_view-requires-clause-one_each
deciding_of_view-requires-clause-one_each c =
    subst (λ (rows : List FamilyRow). (x y : FamilyRow) → Contains rows x → Contains rows y → x.view ≡ y.view → x.subtree ≡ y.subtree → x ≡ y) (sym c.deref.ensures.value) c.requires.one_each.families
