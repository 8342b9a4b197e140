use Rattle.std.proofs.Common.{◌≡◌, ◌<◌, length, Some, is_some, sym, ap, ◌∙◌, arith}
use Rattle.std.proofs.lemmas.Bool.{false≢true}
use Rattle.toml.specs.Data.{as_table}
use Rattle.toml.specs.View.{view, table_view}
use Rattle.snmpsec_config.proofs.Arrays.{is_table_at, rows_more, first_bad, table_there}
use Rattle.snmpsec_gate_config.specs.Rows.{IsReceiver}
use Rattle.snmpsec_gate_config.proofs.Refused.{tells_receiver}
use Rattle.snmpsec_gate_config.proofs.config.receivers_of.Goals as goal

pub unreachable-requires : goal.unreachable-requires
unreachable-requires c =
    let lt : c.loop-position.position < length c.values_at-values.result.now = omega arith in
    let got = is_table_at c.values_at-values.result.now c.loop-position.position c.index-values-position.result _ c.values_at-values.ensures c.index-values-position.is lt c.requires.tables in
    false≢true (ap is_some (rw c.in_default.is at c.as_table.ensures) ∙ got)

pub returns-in-Err-clause-fault : goal.returns-in-Err-clause-fault
returns-in-Err-clause-fault c =
    let lt : c.loop-position.position < length c.values_at-values.result.now = omega arith in
    let of : as_table (view c.index-values-position.result) ≡ Some (table_view c.in-Some.row.now) = sym (rw c.in-Some.is at c.as_table.ensures) in
    let first = first_bad IsReceiver c.values_at-values.result.now c.loop-position.position c.index-values-position.result (table_view c.in-Some.row.now) c.loop-position.receivers.items _ c.values_at-values.ensures c.index-values-position.is lt of c.loop-position.invariant in
    let there = table_there IsReceiver c.values_at-values.result.now c.loop-position.position c.index-values-position.result _ _ c.values_at-values.ensures c.index-values-position.is lt of in
    rw c.refusal_of_receiver.ensures (tells_receiver (table_view c.args.document.now) c.loop-position.position c.in-Err.fault _ first there c.in-Err.ensures.fault)

pub loop-position-preserved : goal.loop-position-preserved
loop-position-preserved c =
    let lt : c.loop-position.position < length c.values_at-values.result.now = omega arith in
    let of : as_table (view c.index-values-position.result) ≡ Some (table_view c.in-Some.row.now) = sym (rw c.in-Some.is at c.as_table.ensures) in
    rows_more IsReceiver c.values_at-values.result.now c.loop-position.position c.index-values-position.result _ c.loop-position.receivers.items c.in-Ok.receiver _ c.in_ok-push-in-Ok.ensures.items c.loop-position.invariant c.index-values-position.is lt of c.in-Ok.ensures.receiver
