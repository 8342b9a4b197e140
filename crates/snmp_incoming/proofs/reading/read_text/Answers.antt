use Rattle.std.proofs.Common.{◌≤◌, ◌∙◌, ℕ, List, length, refl, subst}
use Rattle.std.proofs.lemmas.Grind.{merely}
use Rattle.std.proofs.lemmas.Result.{err_from_is_err_and}
use Rattle.usm_core.specs.Answers.{verified_of}
use Rattle.snmp_incoming.specs.Texts.{text_of, ContextsThere, HasTag, StandsThere}
use Rattle.snmp_incoming.specs.Answers.{RefusesText}
use Rattle.snmp_incoming.proofs.Rows.{text_refused, text_read}
use Rattle.snmp_incoming.proofs.reading.read_text.Goals as goal

pub returns-in_err-found : goal.returns-in_err-found
returns-in_err-found c =
    let p = err_from_is_err_and c.from_residual.result c.from_residual.ensures.1 in
    rw (p.1, p.2) (text_refused (verified_of c.args.checked.now) (text_of c.args.text) c.in_err-found.field-0.0.refusal (subst (λ text. RefusesText text c.in_err-found.field-0.0.refusal) c.as_slice.ensures c.in_err-found.ensures.fault))

pub invariant_of-result : goal.invariant_of-result
invariant_of-result c = record { user_fits = c.args.checked.now.user_fits; id_fits = c.args.checked.now.id_fits; size_fits = c.args.checked.now.size_fits; is_read = merely (subst (λ text. HasTag text c.in_ok-found.found.0) c.as_slice.ensures c.in_ok-found.ensures.tag); contexts_stand = subst (λ text. ContextsThere text c.in_ok-found.found.1) c.as_slice.ensures c.in_ok-found.ensures.contexts; stands = subst (λ text. StandsThere text c.in_ok-found.found.0 c.in_ok-found.found.2) c.as_slice.ensures c.in_ok-found.ensures.stands; within = subst (λ (text : List ℕ). (c.in_ok-found.found.2.list_at ≤ c.in_ok-found.found.2.end) × (c.in_ok-found.found.2.end ≤ length text)) c.as_slice.ensures c.in_ok-found.ensures.within }

pub returns : goal.returns
returns c =
    text_read (verified_of c.args.checked.now) (text_of c.args.text) _ (subst (λ text. HasTag text c.in_ok-found.found.0) c.as_slice.ensures c.in_ok-found.ensures.tag) (c.copy.ensures ∙ c.args.checked.now.engine_is) refl c.args.checked.now.level_is refl refl refl
