use Rattle.std.proofs.Common.{◌<◌, sym, subst, set, length, arith, All, List}
use Rattle.std.specs.List.{AllZip}
use Rattle.std.proofs.lemmas.List.{length-set, with_items_is}
use Rattle.snmp_walk.specs.BulkSteps.{Grows, IsBegun, IsUnread}
use Rattle.snmp_walk.specs.declared.bulk_column.BulkColumn.{BulkColumn}
use Rattle.snmp_walk.proofs.Changed.{all_changed, changed_so_far, left_at, none_changed, one_changed}
use Rattle.snmp_walk.proofs.BulkAnswers.{grows_not}
use Rattle.snmp_walk.proofs.bulk_answer.begin_each.Goals as goal

pub loop-column-init : goal.loop-column-init
loop-column-init c =
    (none_changed IsBegun c.deref_mut-column-items.result.now, none_changed Grows c.deref_mut-column-items.result.now)

pub begin-requires : goal.begin-requires
begin-requires c =
    let olds = c.deref_mut-column-items.result.now in
    let now = c.loop-column.column-items in
    let i = c.loop-column.column-index in
    let changed = c.loop-column.invariant.0 in
    let at = left_at olds changed.0 now i c.column-item.result (omega (arith, c.loop-column-test.true, c.loop-column.auto.column-items)) changed.1 changed.2 in
    subst IsUnread (sym at.2) (subst (λ (cs : List BulkColumn). All IsUnread cs) (sym c.deref_mut-column-items.ensures.value) c.requires i c.column-item.result at.0)

pub loop-column-preserved : goal.loop-column-preserved
loop-column-preserved c =
    let olds = c.deref_mut-column-items.result.now in
    let now = c.loop-column.column-items in
    let i = c.loop-column.column-index in
    let within : i < length now = omega (arith, c.loop-column-test.true, c.loop-column.auto.column-items) in (
      one_changed IsBegun olds now i c.column-item.result c.begin.new.self within c.loop-column.invariant.0 c.in_ok-begin.ensures.begun,
      one_changed Grows olds now i c.column-item.result c.begin.new.self within c.loop-column.invariant.1 c.in_ok-begin.ensures.grows,
    )

pub returns-clause-grows : goal.returns-clause-grows
returns-clause-grows c =
    let olds = c.deref_mut-column-items.result.now in
    let now = c.loop-column.column-items in
    subst (λ (cs : List BulkColumn). AllZip Grows c.args.columns.now.items cs) (sym (with_items_is c.args.columns.now now (omega (arith, c.loop-column.auto.column-items, c.deref_mut-column-items.ensures.len))))
    (subst (λ (cs : List BulkColumn). AllZip Grows cs now) c.deref_mut-column-items.ensures.value
    (all_changed Grows olds now c.loop-column.column-index (omega (arith, c.loop-column-test.false, c.loop-column.auto.column-items)) c.loop-column.invariant.1))

pub returns-clause-begun : goal.returns-clause-begun
returns-clause-begun c =
    let olds = c.deref_mut-column-items.result.now in
    let now = c.loop-column.column-items in
    subst (λ (cs : List BulkColumn). AllZip IsBegun c.args.columns.now.items cs) (sym (with_items_is c.args.columns.now now (omega (arith, c.loop-column.auto.column-items, c.deref_mut-column-items.ensures.len))))
    (subst (λ (cs : List BulkColumn). AllZip IsBegun cs now) c.deref_mut-column-items.ensures.value
    (all_changed IsBegun olds now c.loop-column.column-index (omega (arith, c.loop-column-test.false, c.loop-column.auto.column-items)) c.loop-column.invariant.0))

pub returns-in_err-begin-clause-grows : goal.returns-in_err-begin-clause-grows
returns-in_err-begin-clause-grows c =
    let olds = c.deref_mut-column-items.result.now in
    let now = c.loop-column.column-items in
    let i = c.loop-column.column-index in
    let news = set now i c.begin.new.self in
    subst (λ (cs : List BulkColumn). AllZip Grows c.args.columns.now.items cs) (sym (with_items_is c.args.columns.now news (omega (arith, length-set now i c.begin.new.self, c.loop-column.auto.column-items, c.deref_mut-column-items.ensures.len))))
    (subst (λ (cs : List BulkColumn). AllZip Grows cs news) c.deref_mut-column-items.ensures.value
    (changed_so_far Grows Grows (λ old new grows. grows) grows_not olds now i c.column-item.result c.begin.new.self
    (omega (arith, c.loop-column-test.true, c.loop-column.auto.column-items)) c.loop-column.invariant.1 c.in_err-begin.ensures.grows))
