use Rattle.std.proofs.Common.{◌∙◌, refl, ap, subst, ℕ, List, Option, MatchOption}
use Rattle.snmp_walk.specs.BulkColumn.{bulk_request}
use Rattle.snmp_walk.specs.BulkAnswered.{IsBulkAskedAt}
use Rattle.snmp_walk.specs.declared.bulk_column.BulkColumn.{BulkColumn}
use Rattle.snmp_walk.proofs.BulkReads.{at_any}
use Rattle.snmp_walk.proofs.bulk_dialogue.BulkDialogue.take_error.Goals as goal

pub returns : goal.returns
returns c viewer =
    let olds = c.args.self.now.columns.items in
    let number = c.in-Some.number in
    let index = c.args.answer.now.third in
    let column = c.index_mut.result.now in
    let is = c.in-Some.ensures in
    let asked : IsBulkAskedAt olds index number =
    subst (λ (cs : List BulkColumn). IsBulkAskedAt cs index number) c.as_slice.ensures.value
    (subst (λ (found : Option ℕ). MatchOption found ((n : ℕ) → ¬ IsBulkAskedAt c.as_slice.result.now index n) (IsBulkAskedAt c.as_slice.result.now index)) is.1 c.column_at-column.ensures) in (
      is.0,
      asked,
      record {
        ended = c.end.new.self;
        same = λ d. c.end.ensures.request ∙ ap bulk_request (c.index_mut.ensures.value ∙ at_any olds number column d asked.within);
        given = λ d. c.end.ensures.given ∙ ap (λ (x : BulkColumn). x.got.items) (c.index_mut.ensures.value ∙ at_any olds number column d asked.within);
        is_ended = c.end.ensures.ends;
        waits = c.wait_each.ensures;
      },
      record { non_repeaters = refl; max_repetitions = refl; repetitions = refl; at_once = refl; gathered = refl },
      refl,
    )
