use Rattle.std.proofs.Common.{◌∙◌, ap, arith, ℕ, Bool, List, cond}
use Rattle.std.specs.List.{sum_by}
use Rattle.std.proofs.lemmas.List.{take_all}
use Rattle.std.proofs.lemmas.List.Sums.{sum_by_more}
use Rattle.snmp_gate.specs.Bounds.{for_device}
use Rattle.snmp_gate.specs.declared.requests.WaitingRequest.{WaitingRequest}
use Rattle.snmp_gate.specs.declared.waiting_message.WaitingMessage.{WaitingMessage}
use Rattle.snmp_gate.specs.declared.work.Work.{Work}
use Rattle.snmp_gate.proofs.Shares.{waiting_of}
use Rattle.snmp_gate.proofs.take_client.waiting_for.Goals as goal
use Rattle.snmp_gate.proofs.take_client.waiting_for.Goals.{then-is_for, else-is_for}

abbrev one_if : Bool → ℕ
one_if b = cond b 1 0

pub returns : goal.returns
returns c =
    let for_it = λ (r : WaitingRequest WaitingMessage Work). for_device c.args.device r.work in
    c.loop-request.invariant.counted ∙ ap (λ (rs : List (WaitingRequest WaitingMessage Work)). sum_by for_it rs) (take_all c.loop-request.request-index c.args.requests.now c.loop-request-test.false)
    ∙ waiting_of c.args.device c.args.requests.now

pub loop-request-preserved : goal.loop-request-preserved
loop-request-preserved c =
    let for_it = λ (r : WaitingRequest WaitingMessage Work). for_device c.args.device r.work in
    let more = sum_by_more for_it c.args.requests.now c.loop-request.request-index c.request-item.result c.loop-request-test.true in
    let item = ap for_it c.request-item.is in
    elim c.if-is_for.branch [
      | then-is_for w ↦ record {
        counted = omega (arith, w.count-is, c.loop-request.invariant.counted, more, item, c.is_for.ensures, ap one_if w.if-is_for.true);
        few = omega (arith, w.count-is, c.loop-request.invariant.few);
      }
      | else-is_for w ↦ record {
        counted = omega (arith, w.count-is, c.loop-request.invariant.counted, more, item, c.is_for.ensures, ap one_if w.if-is_for.false);
        few = omega (arith, w.count-is, c.loop-request.invariant.few);
      }
    ]
