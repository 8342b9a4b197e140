use Rattle.std.proofs.Common.{◌≡◌, inl, inr, true, false, sym, ◌∙◌}
use Rattle.std.proofs.lemmas.Result.{IfOk-weaker}
use Rattle.snmp_responder.specs.Code.{seen_by}
use Rattle.snmp_walk.specs.BulkDialogue.{BulkAllStand}
use Rattle.snmp_walk.specs.BulkAnswered.{BulkTells, IsBulkAnswered, IsTooBig}
use Rattle.snmp_walk.specs.declared.bulk_dialogue.BulkAnswered.{BulkAnswered}
use Rattle.snmp_walk.proofs.BulkAfter.{answered_same, answered_stand, less_answered, result_same}
use Rattle.snmp_walk.proofs.BulkNamed.{answered_named, result_named}
use Rattle.snmp_walk.proofs.bulk_dialogue.BulkDialogue.take.Goals as goal

pub returns-then-is_too_big-clause-requests :
    goal.returns-then-is_too_big-clause-requests
returns-then-is_too_big-clause-requests c =
    let seen = seen_by c.args.viewer.now in
    let self = c.args.self.now in
    let new = c.take_too_big.new.self in
    let becomes = c.take_too_big.result in
    answered_same seen c.args.answer.now self new becomes (less_answered seen c.args.answer.now self new becomes (inl (c.is_too_big.ensures.0 c.if-is_too_big.true)) c.take_too_big.ensures)

pub returns-then-is_too_big-clause-stand : goal.returns-then-is_too_big-clause-stand
returns-then-is_too_big-clause-stand c told stand tells =
    let seen = seen_by c.args.viewer.now in
    let self = c.args.self.now in
    let new = c.take_too_big.new.self in
    let becomes = c.take_too_big.result in
    answered_stand seen told c.args.answer.now self new becomes (less_answered seen c.args.answer.now self new becomes (inl (c.is_too_big.ensures.0 c.if-is_too_big.true)) c.take_too_big.ensures) tells stand

pub returns-then-not-is_no_error-clause-answered :
    goal.returns-then-not-is_no_error-clause-answered
returns-then-not-is_no_error-clause-answered c = c.take_error.ensures c.args.viewer.now

pub returns-then-not-is_no_error-clause-requests :
    goal.returns-then-not-is_no_error-clause-requests
returns-then-not-is_no_error-clause-requests c =
    answered_same (seen_by c.args.viewer.now) c.args.answer.now c.args.self.now c.take_error.new.self c.take_error.result (c.take_error.ensures c.args.viewer.now)

pub returns-then-not-is_no_error-clause-stand : goal.returns-then-not-is_no_error-clause-stand
returns-then-not-is_no_error-clause-stand c told stand tells =
    answered_stand (seen_by c.args.viewer.now) told c.args.answer.now c.args.self.now c.take_error.new.self c.take_error.result (c.take_error.ensures c.args.viewer.now) tells stand

pub returns-then-is_empty-clause-requests : goal.returns-then-is_empty-clause-requests
returns-then-is_empty-clause-requests c =
    let seen = seen_by c.args.viewer.now in
    let self = c.args.self.now in
    let new = c.take_too_big-then-is_empty.new.self in
    let becomes = c.take_too_big-then-is_empty.result in
    let no_error : c.is_no_error.result ≡ true = cc c.if-not-is_no_error.false in
    let not_next : c.is_next_asked.result ≡ false = cc c.if-not-is_next_asked.true in
    let big : IsTooBig self c.args.answer.now = inr (c.is_no_error.ensures.0 no_error, (sym c.is_next_asked.ensures ∙ not_next, c.is_empty.ensures.0 c.if-is_empty.true)) in
    answered_same seen c.args.answer.now self new becomes (less_answered seen c.args.answer.now self new becomes big c.take_too_big-then-is_empty.ensures)

pub returns-then-is_empty-clause-stand : goal.returns-then-is_empty-clause-stand
returns-then-is_empty-clause-stand c told stand tells =
    let seen = seen_by c.args.viewer.now in
    let self = c.args.self.now in
    let new = c.take_too_big-then-is_empty.new.self in
    let becomes = c.take_too_big-then-is_empty.result in
    let no_error : c.is_no_error.result ≡ true = cc c.if-not-is_no_error.false in
    let not_next : c.is_next_asked.result ≡ false = cc c.if-not-is_next_asked.true in
    let big : IsTooBig self c.args.answer.now = inr (c.is_no_error.ensures.0 no_error, (sym c.is_next_asked.ensures ∙ not_next, c.is_empty.ensures.0 c.if-is_empty.true)) in
    answered_stand seen told c.args.answer.now self new becomes (less_answered seen c.args.answer.now self new becomes big c.take_too_big-then-is_empty.ensures) tells stand

pub returns-clause-requests : goal.returns-clause-requests
returns-clause-requests c =
    result_same (seen_by c.args.viewer.now) c.args.answer.now c.args.self.now c.take_bindings.new.self c.take_bindings.result c.take_bindings.ensures.answered c.take_bindings.ensures.err

pub returns-clause-stand : goal.returns-clause-stand
returns-clause-stand c told stand =
    let seen = seen_by c.args.viewer.now in
    let answer = c.args.answer.now in
    let self = c.args.self.now in
    let new = c.take_bindings.new.self in
    IfOk-weaker c.take_bindings.result (λ (becomes : BulkAnswered). IsBulkAnswered seen answer self new becomes) (λ (becomes : BulkAnswered). BulkTells self answer becomes told → BulkAllStand seen told new)
    (λ becomes is tells. answered_stand seen told answer self new becomes is tells stand) c.take_bindings.ensures.answered

pub returns-then-is_too_big-clause-named : goal.returns-then-is_too_big-clause-named
returns-then-is_too_big-clause-named c =
    let seen = seen_by c.args.viewer.now in
    let self = c.args.self.now in
    let new = c.take_too_big.new.self in
    let becomes = c.take_too_big.result in
    answered_named seen c.args.answer.now self new becomes (less_answered seen c.args.answer.now self new becomes (inl (c.is_too_big.ensures.0 c.if-is_too_big.true)) c.take_too_big.ensures)

pub returns-then-not-is_no_error-clause-named : goal.returns-then-not-is_no_error-clause-named
returns-then-not-is_no_error-clause-named c =
    answered_named (seen_by c.args.viewer.now) c.args.answer.now c.args.self.now c.take_error.new.self c.take_error.result (c.take_error.ensures c.args.viewer.now)

pub returns-then-is_empty-clause-named : goal.returns-then-is_empty-clause-named
returns-then-is_empty-clause-named c =
    let seen = seen_by c.args.viewer.now in
    let self = c.args.self.now in
    let new = c.take_too_big-then-is_empty.new.self in
    let becomes = c.take_too_big-then-is_empty.result in
    let no_error : c.is_no_error.result ≡ true = cc c.if-not-is_no_error.false in
    let not_next : c.is_next_asked.result ≡ false = cc c.if-not-is_next_asked.true in
    let big : IsTooBig self c.args.answer.now = inr (c.is_no_error.ensures.0 no_error, (sym c.is_next_asked.ensures ∙ not_next, c.is_empty.ensures.0 c.if-is_empty.true)) in
    answered_named seen c.args.answer.now self new becomes (less_answered seen c.args.answer.now self new becomes big c.take_too_big-then-is_empty.ensures)

pub returns-clause-named : goal.returns-clause-named
returns-clause-named c =
    result_named (seen_by c.args.viewer.now) c.args.answer.now c.args.self.now c.take_bindings.new.self c.take_bindings.result c.take_bindings.ensures.answered c.take_bindings.ensures.err
