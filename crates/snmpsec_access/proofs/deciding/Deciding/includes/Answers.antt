use Rattle.std.proofs.Common.{List, sym, ap, ◌∙◌}
use Rattle.std.specs.Borrow.{Bor}
use Rattle.std.specs.List.{list_any}
use Rattle.vacm_core.specs.declared.rows.FamilyRow.{FamilyRow}
use Rattle.snmpsec_access.specs.declared.deciding.Deciding.{Deciding}
use Rattle.snmpsec_access.specs.Seen.{includes}
use Rattle.snmpsec_access.specs.Rising.{decision_of}
use Rattle.snmpsec_access.proofs.Seens.{some_includes}
use Rattle.snmpsec_access.proofs.deciding.Deciding.includes.Goals as goal

pub returns-in-Rows : goal.returns-in-Rows
returns-in-Rows c =
    c.any_row_includes.ensures ∙ ap (λ (items : List (Bor FamilyRow)). list_any (λ item. item.now.include) items) c.deref.ensures.value
    ∙ some_includes c.in-Rows.rows.items ∙ sym (ap (λ (deciding : Deciding). includes (decision_of deciding)) c.in-Rows.is)
