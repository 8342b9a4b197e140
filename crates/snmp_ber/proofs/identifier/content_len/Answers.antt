use Rattle.std.proofs.Common.{length, ap, ◌∙◌, get_or, arith, sym}
use Rattle.std.proofs.lemmas.List.{append-nil, length-append}
use Rattle.snmp_ber.specs.Oid.{subidentifier}
use Rattle.snmp_ber.proofs.Identifiers.{subidentifier-length, subidentifiers_more, subidentifiers_so_far}
use Rattle.snmp_ber.proofs.identifier.content_len.Goals as goal

pub loop-arc-init : goal.loop-arc-init
loop-arc-init c = c.count_groups-size.ensures.count ∙ sym (subidentifier-length c.split_first-first.result.0) ∙ sym (ap length (append-nil (subidentifier c.split_first-first.result.0)))

pub overflow_add-size : goal.overflow_add-size
overflow_add-size c =
    let so_far = subidentifiers_so_far c.split_first-first.result.0 c.split_first-first.result.1.now c.loop-arc.arc-index (omega arith) in
    omega (arith, so_far, c.loop-arc.invariant, c.split_first-first.ensures.most, c.count_groups-size-in-loop-arc.ensures.most)

pub loop-arc-preserved : goal.loop-arc-preserved
loop-arc-preserved c =
    let first = c.split_first-first.result.0 in
    let others = c.split_first-first.result.1.now in
    let i = c.loop-arc.arc-index in
    let more = ap length (subidentifiers_more first others i (omega arith)) ∙ length-append _ (subidentifier (get_or others i 0)) in
    omega (arith, more, c.loop-arc.invariant, c.count_groups-size-in-loop-arc.ensures.count, subidentifier-length (get_or others i 0))

pub returns-clause-most : goal.returns-clause-most
returns-clause-most c =
    let so_far = subidentifiers_so_far c.split_first-first.result.0 c.split_first-first.result.1.now c.loop-arc.arc-index (omega arith) in
    omega (arith, so_far, c.loop-arc.invariant, c.split_first-first.ensures.most)
