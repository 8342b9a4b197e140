use Rattle.std.proofs.Common.{All, List, length, refl, subst, ap, sym, ◌<◌, ◌≡◌, ◌∙◌, Some, slice_get}
use Rattle.std.proofs.lemmas.Option.{slice_get_within}
use Rattle.snmp_message.specs.Scoped.{contexts_of}
use Rattle.snmp_msg.specs.Pdu.{pdu_of}
use Rattle.std.specs.Prelude.{IsTrue, false, is_some, ℕ}
use Rattle.snmp_incoming.specs.Answers.{given_of}
use Rattle.snmp_forward.specs.InformStanding.{holds}
use Rattle.snmp_forward.specs.WaitingInforms.{IsAsked, IsAskedAs}
use Rattle.snmp_forward.specs.declared.waiting_inform.WaitingInform.{WaitingInform}
use Rattle.snmp_forward.proofs.InformAnswers.{answer_as, answered_of, keeps_told, left_report, none_told, other_told, unasked_told}
use Rattle.snmp_forward.proofs.InformKeeping.{keeps_all, nothing_happens, still}
use Rattle.snmp_forward.proofs.informs.Informs.accept.Goals as goal

-- something was found that was asked
not_both : (xs ys : List WaitingInform) (receiver id : ℕ) → ys ≡ xs → All (λ (w : WaitingInform). ¬ IsAskedAs receiver id w) xs → (All (λ (w : WaitingInform). ¬ IsAskedAs receiver id w) ys → IsTrue false) → ⊥
not_both xs ys receiver id same none found = let wrong = found (subst (All (λ (w : WaitingInform). ¬ IsAskedAs receiver id w)) (sym same) none) in cc wrong

pub returns-then-is_unasked-clause-happens : goal.returns-then-is_unasked-clause-happens
returns-then-is_unasked-clause-happens c = λ before stands.
    let old = c.args.self.now in
    let g = given_of c.args.taken.now in
    let none = subst (All (λ (w : WaitingInform). ¬ IsAskedAs c.args.receiver c.args.taken.now.id w)) c.deref.ensures.value (c.if-is_unasked.ensures.0 refl) in record {
      none = unasked_told old before c.args.receiver g stands none;
      still = nothing_happens old _ before refl refl refl refl (keeps_all old.requests) stands;
      requests = λ none. refl;
    }

pub returns-in_default-clause-happens : goal.returns-in_default-clause-happens
returns-in_default-clause-happens c = λ before stands.
    let old = c.args.self.now in
    let g = given_of c.args.taken.now in
    let front = c.scoped-scoped.ensures in
    let pdu = c.pdu-pdu.ensures.is_pdu (contexts_of c.scoped-scoped.result) front in
    let keeps = keeps_told old.requests g (contexts_of c.scoped-scoped.result) (pdu_of c.pdu-pdu.result) c.take_answer.result c.take_answer.new.self (c.take_answer.ensures (contexts_of c.scoped-scoped.result) (pdu_of c.pdu-pdu.result) front pdu) in
    record {
      none = none_told old c.args.receiver g c.take_answer.new.self c.in_default.ensures;
      still = nothing_happens old _ before refl refl refl refl keeps stands;
      requests = λ unasked. absurd (not_both old.list.items c.deref.result.now c.args.receiver c.args.taken.now.id c.deref.ensures.value unasked c.if-is_unasked.ensures.1);
    }

pub returns-in_default-place_of-clause-happens : goal.returns-in_default-place_of-clause-happens
returns-in_default-place_of-clause-happens c = λ before stands.
    let old = c.args.self.now in
    let g = given_of c.args.taken.now in
    let front = c.scoped-scoped.ensures in
    let pdu = c.pdu-pdu.ensures.is_pdu (contexts_of c.scoped-scoped.result) front in
    let keeps = keeps_told old.requests g (contexts_of c.scoped-scoped.result) (pdu_of c.pdu-pdu.result) c.take_answer.result c.take_answer.new.self (c.take_answer.ensures (contexts_of c.scoped-scoped.result) (pdu_of c.pdu-pdu.result) front pdu) in record {
      none = other_told old c.args.receiver g c.in-Some.answered c.take_answer.new.self c.in-Some.ensures
          (subst (All (λ (w : WaitingInform). ¬ IsAsked c.args.receiver c.in-Some.answered.token w)) c.deref-2.ensures.value c.in_default-place_of.ensures);
      still = nothing_happens old _ before refl refl refl refl keeps stands;
      requests = λ unasked. absurd (not_both old.list.items c.deref.result.now c.args.receiver c.args.taken.now.id c.deref.ensures.value unasked c.if-is_unasked.ensures.1);
    }

pub hear-requires : goal.hear-requires
hear-requires c = record {
  place =
      let first = c.in-Some-place_of.ensures in
      subst (λ (ws : List WaitingInform). c.in-Some-place_of.place < length ws) c.deref-2.ensures.value (slice_get_within c.deref-2.result.now c.in-Some-place_of.place first.it first.at);
}

pub returns-clause-happens : goal.returns-clause-happens
returns-clause-happens c = λ before stands.
    let old = c.args.self.now in
    let g = given_of c.args.taken.now in
    let front = c.scoped-scoped.ensures in
    let pdu = c.pdu-pdu.ensures.is_pdu (contexts_of c.scoped-scoped.result) front in
    let first = c.in-Some-place_of.ensures in
    let at = subst (λ (ws : List WaitingInform). slice_get ws c.in-Some-place_of.place ≡ Some first.it) c.deref-2.ensures.value first.at in
    let keeps = keeps_told old.requests g (contexts_of c.scoped-scoped.result) (pdu_of c.pdu-pdu.result) c.take_answer.result c.take_answer.new.self (c.take_answer.ensures (contexts_of c.scoped-scoped.result) (pdu_of c.pdu-pdu.result) front pdu) in
    let middle = still old _ before refl refl refl refl keeps stands in
    let answer = answered_of old before c.in-Some-place_of.place first.it g c.in-Some.answered c.take_answer.new.self (contexts_of c.scoped-scoped.result) (pdu_of c.pdu-pdu.result) stands at first.has.token_is c.in-Some.ensures front pdu in
    let clock : c.is_some-holds_clock.result ≡ holds old.manager g.engine = c.is_some-holds_clock.ensures ∙ ap is_some c.pair.ensures in
    let left = left_report old.requests c.in-Some.answered.heard c.in-Some.answered.token c.take_answer.new.self (c.in-Some.ensures (contexts_of c.scoped-scoped.result) (pdu_of c.pdu-pdu.result) front pdu).1 in
    answer_as old c.hear.new.self c.take_answer.new.self before first.it.inform.receiver c.args.receiver g c.is_some-holds_clock.result c.in-Some.answered.heard c.hear.result first.has.to clock left (c.hear.ensures.happens before g first.it middle refl at answer)
