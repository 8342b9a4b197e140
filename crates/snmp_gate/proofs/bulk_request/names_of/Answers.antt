use Rattle.std.proofs.Common.{sym, map}
use Rattle.snmp_walk.specs.declared.bulk_column.BulkColumn.{BulkColumn}
use Rattle.snmp_gate.specs.ReadAsks.{asked_binding, variables_in}
use Rattle.snmp_gate.proofs.ReadNames.{none_in, skips}
use Rattle.snmp_gate.proofs.bulk_request.names_of.Goals as goal

pub loop-column-preserved-in_default : goal.loop-column-preserved-in_default
loop-column-preserved-in_default c =
    let inv = c.loop-column.invariant in
    let column = c.column-item.result in
    record {
      are = skips (λ (x : BulkColumn). variables_in x.progress) c.args.columns.now c.loop-column.column-index column (map asked_binding c.loop-column.names.items) c.loop-column-test.true (sym c.column-item.is) inv.are
          (none_in column.progress c.in_default.ensures.asks);
      fit = inv.fit;
    }
