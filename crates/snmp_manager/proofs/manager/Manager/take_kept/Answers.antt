use Rattle.std.proofs.Common.{◌≡◌, true, false, refl, ◌∙◌}
use Rattle.std.proofs.lemmas.Result.{err_from_is_err_and}
use Rattle.usm_core.specs.Answers.{verified_of}
use Rattle.snmp_manager.specs.Takes.{kept_answer}
use Rattle.snmp_manager.proofs.Takes.{takes_refused, takes_weighed, learns_held, copies_nothing, refused_once_learned}
use Rattle.snmp_manager.proofs.manager.Manager.take_kept.Goals as goal

-- refused down to the digest
pub returns-in_err-checked-clause-takes : goal.returns-in_err-checked-clause-takes
returns-in_err-checked-clause-takes c =
    let p = err_from_is_err_and c.from_residual.result c.from_residual.ensures.1 in
    let e = c.in_err-checked.ensures in
    rw (← c.self.view_is, p.1, p.2)
    (takes_refused _ (record { users = c.open_auth.new.self.users; clocks = c.self.inside.clocks }) _ _ e.users c.in_err-checked.field-0.0.refusal e.memory refl e.authentic e.rows)

-- what is weighed before its pair is learned is answered
pub returns-clause-takes : goal.returns-clause-takes
returns-clause-takes c =
    rw (← c.self.view_is)
    (takes_weighed _ (record { users = c.weigh_kept.new.users.users; clocks = c.learn.new.clocks }) _ _ (c.in_ok-kept.ensures.users ∙ c.in_ok-checked.ensures.users)
    (verified_of c.in_ok-checked.checked) c.in_ok-checked.ensures.authentic c.in_ok-checked.ensures.rows c.in_ok-learn.ensures.learned _
    (rw c.in_ok-checked.ensures.users at (c.in_ok-kept.ensures.weighs c.learn.new.clocks c.in_ok-learn.ensures.learned)))

-- memory is asked for only to decrypt, and to copy what is accepted
pub returns-in_err-kept-clause-no_memory : goal.returns-in_err-kept-clause-no_memory
returns-in_err-kept-clause-no_memory c =
    rw (← c.self.view_is)
    (λ none.
    let wrong : false ≡ true = copies_nothing (record { users = c.self.inside.users.users; clocks = c.self.inside.clocks }) _ _ (verified_of c.in_ok-checked.checked) (false ≡ true) c.in_ok-checked.ensures.authentic c.in_ok-checked.ensures.rows none
    (rw c.in_ok-checked.ensures.users at c.in_err-kept.ensures.no_memory) in
    absurd (cc wrong))

-- and for an engine that isn't held
pub returns-in_err-learn-clause-no_memory : goal.returns-in_err-learn-clause-no_memory
returns-in_err-learn-clause-no_memory c =
    rw (← c.self.view_is)
    (λ none. let wrong : false ≡ true = c.in_err-learn.ensures.no_memory (learns_held (record { users = c.self.inside.users.users; clocks = c.self.inside.clocks }) _ (verified_of c.in_ok-checked.checked) c.in_ok-checked.ensures.authentic none.holds) in absurd (cc wrong))

-- what is weighed is refused once its pair is learned
pub returns-clause-stays : goal.returns-clause-stays
returns-clause-stays c = λ r is early.
    absurd (early (refused_once_learned _ _ _ _ (verified_of c.in_ok-checked.checked) (kept_answer c.in_ok-kept.kept) r (c.in_ok-kept.ensures.weighs c.learn.new.clocks c.in_ok-learn.ensures.learned) is))
