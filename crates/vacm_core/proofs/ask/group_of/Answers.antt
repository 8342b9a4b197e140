use Rattle.std.proofs.Common.{◌≡◌, ◌<◌, ◌∙◌, sym, ap, inl, inr, arith, get_or, Contains}
use Rattle.std.proofs.lemmas.Bool.{cases_lt}
use Rattle.std.proofs.lemmas.List.{get_or_default}
use Rattle.vacm_core.specs.declared.rows.GroupRow.{GroupRow}
use Rattle.vacm_core.proofs.ask.group_of.Goals as goal

pub loop-row-preserved : goal.loop-row-preserved
loop-row-preserved c k d before long same =
    let run = c.rows_of-run.result.now in
    let i = c.loop-row.row-index in
    let row = c.row-item.result in
    let within = c.loop-row-test.true in
    elim (cases_lt k i) [
      | inl lower ↦ c.loop-row.invariant k d lower long same
      | inr from ↦
          let e : k ≡ i = omega (arith, before, from) in
          let at : get_or run k d ≡ row = ap (λ n. get_or run n d) e ∙ get_or_default run i d row within ∙ sym c.row-item.is in
          c.if-row-model.false (sym (ap (λ (r : GroupRow). r.model) at) ∙ same)
    ]

pub returns-then-row-model : goal.returns-then-row-model
returns-then-row-model c =
    let row = c.row-item.result in
    let there : Contains c.rows_of-run.result.now row = (c.loop-row.row-index, c.loop-row-test.true, sym c.row-item.is) in
    (c.rows_of-run.ensures.run.among row there, record { same_model = c.if-row-model.true; same_name = c.rows_of-run.ensures.run.named row there })

pub returns : goal.returns
returns c group h =
    let there = c.rows_of-run.ensures.run.whole h.0 h.1 h.2.same_name in
    let past = c.loop-row-test.false in
    let before : there.0 < c.loop-row.row-index = omega (arith, there.1, past) in
    c.loop-row.invariant there.0 h.0 before there.1 (ap (λ (r : GroupRow). r.model) there.2 ∙ h.2.same_model)
