use Rattle.std.proofs.Common.{◌<◌, Option, Some, None, length, arith}
use Rattle.std.specs.Prelude.{IfNone}
use Rattle.snmp_msg.specs.Pdu.{pdu_of, respelled}
use Rattle.snmp_msg.specs.Canonical.{data_content_of, plain}
use Rattle.snmp_msg.proofs.Canonicals.{list_in_whole, contexts_in_whole}
use Rattle.snmp_msg.proofs.whole.measure.Goals as goal

for_none : {A : Type 0} (r : Option A) (P : Type 0) → P → IfNone r P
for_none None P h = h
for_none (Some x) P h = tt

pub returns-then-max-gt-LARGEST-clause-none : goal.returns-then-max-gt-LARGEST-clause-none
returns-then-max-gt-LARGEST-clause-none c =
    let s = c.in-Plain.scoped in
    let longer = contexts_in_whole s.engine.now s.name.now (respelled (pdu_of c.in-Plain.pdu)) in
    let large : 65507 < length (data_content_of (plain s.engine.now s.name.now (respelled (pdu_of c.in-Plain.pdu)))) = omega (arith, longer.0, longer.1, c.max.ensures, c.if-max-gt-LARGEST.true) in
    rw c.in-Plain.is large

pub returns-in_err-list_len-in-Plain-clause-none : goal.returns-in_err-list_len-in-Plain-clause-none
returns-in_err-list_len-in-Plain-clause-none c =
    let s = c.in-Plain.scoped in
    let p = respelled (pdu_of c.in-Plain.pdu) in
    let large : 65507 < length (data_content_of (plain s.engine.now s.name.now p)) = omega (arith, list_in_whole s.engine.now s.name.now p, c.in_err-list_len-in-Plain.ensures.none) in
    rw c.in-Plain.is (for_none c.from_residual.result _ large)
