use Rattle.std.proofs.Common.{ℕ, ap, sym, ◌∙◌, subst, List, Result, Ok, Err}
use Rattle.std.specs.Prelude.{◌≢◌, ◌↔◌, IfErr}
use Rattle.std.proofs.lemmas.Result.{err_from_is_err_and}
use Rattle.usm_users.specs.User.{User}
use Rattle.usm_core.specs.Known.{Known}
use Rattle.engine_clock.specs.Pairs.{BootsAndTime}
use Rattle.usm_core.specs.declared.checked.Checked.{Checked}
use Rattle.snmp_message.specs.declared.refused_at.RefusedAt.{RefusedAt}
use Rattle.snmp_message.specs.declared.refusal.Refusal.TheVariants.{OutOfMemory}
use Rattle.usm_core.specs.Authentic.{Authentic}
use Rattle.usm_core.specs.Answers.{side_of, checked_answer, IsAuthenticatedAs}
use Rattle.usm_core.specs.Verified.{Verifies, AllowsEngine}
use Rattle.usm_core.proofs.Authentics.{exactly, private_checked}
use Rattle.usm_core.proofs.Determined.{read_checked, judged_checked, never_memory}
use Rattle.usm_core.proofs.users.Users.open_layout.Goals as goal

pub returns-in_err-checked-clause-authentic : goal.returns-in_err-checked-clause-authentic
returns-in_err-checked-clause-authentic c =
    let rows : Verifies (side_of c.args.role) c.args.self.now.users c.args.datagram.now (checked_answer (Err c.in_err-checked.field-0.0)) = subst (λ (us : List User). Verifies (side_of c.args.role) us c.args.datagram.now (checked_answer (Err c.in_err-checked.field-0.0))) (ap (λ (k : Known). k.users) c.self.view_is) c.in_err-checked.ensures.rows in
    let p = err_from_is_err_and c.from_residual.result c.from_residual.ensures.1 in
    subst (λ (r : Result Checked RefusedAt). (engine : List ℕ) (pair : BootsAndTime) → (Authentic c.args.self.now.users c.args.datagram.now engine pair × AllowsEngine (side_of c.args.role) engine) ↔ IsAuthenticatedAs (checked_answer r) engine pair) (sym (p.1 ∙ ap Err p.2))
    (exactly c.one_message.ensures.one c.one_message.ensures.version c.one_cut.ensures.one (side_of c.args.role) c.args.self.now.users c.args.datagram.now (checked_answer (Err c.in_err-checked.field-0.0)) c.has_engine.ensures rows)

pub returns-in_err-checked-clause-memory : goal.returns-in_err-checked-clause-memory
returns-in_err-checked-clause-memory c =
    let rows : Verifies (side_of c.args.role) c.args.self.now.users c.args.datagram.now (checked_answer (Err c.in_err-checked.field-0.0)) = subst (λ (us : List User). Verifies (side_of c.args.role) us c.args.datagram.now (checked_answer (Err c.in_err-checked.field-0.0))) (ap (λ (k : Known). k.users) c.self.view_is) c.in_err-checked.ensures.rows in
    let p = err_from_is_err_and c.from_residual.result c.from_residual.ensures.1 in
    subst (λ (r : Result Checked RefusedAt). IfErr r (λ e. e.refusal ≢ OutOfMemory)) (sym (p.1 ∙ ap Err p.2))
    (never_memory (side_of c.args.role) c.args.self.now.users c.args.datagram.now (Err c.in_err-checked.field-0.0) rows)

pub returns-clause-authentic : goal.returns-clause-authentic
returns-clause-authentic c =
    let rows : Verifies (side_of c.args.role) c.args.self.now.users c.args.datagram.now (checked_answer (Ok c.in_ok-checked.checked)) = subst (λ (us : List User). Verifies (side_of c.args.role) us c.args.datagram.now (checked_answer (Ok c.in_ok-checked.checked))) (ap (λ (k : Known). k.users) c.self.view_is) c.in_ok-checked.ensures.rows in
    exactly c.one_message.ensures.one c.one_message.ensures.version c.one_cut.ensures.one (side_of c.args.role) c.args.self.now.users c.args.datagram.now (checked_answer (Ok c.in_ok-checked.checked)) c.has_engine.ensures rows

pub returns-clause-private : goal.returns-clause-private
returns-clause-private c =
    let rows : Verifies (side_of c.args.role) c.args.self.now.users c.args.datagram.now (checked_answer (Ok c.in_ok-checked.checked)) = subst (λ (us : List User). Verifies (side_of c.args.role) us c.args.datagram.now (checked_answer (Ok c.in_ok-checked.checked))) (ap (λ (k : Known). k.users) c.self.view_is) c.in_ok-checked.ensures.rows in
    private_checked (side_of c.args.role) c.args.self.now.users c.args.datagram.now (Ok c.in_ok-checked.checked) rows c.in_ok-checked.checked.level_is

pub returns-clause-read : goal.returns-clause-read
returns-clause-read c =
    let rows : Verifies (side_of c.args.role) c.args.self.now.users c.args.datagram.now (checked_answer (Ok c.in_ok-checked.checked)) = subst (λ (us : List User). Verifies (side_of c.args.role) us c.args.datagram.now (checked_answer (Ok c.in_ok-checked.checked))) (ap (λ (k : Known). k.users) c.self.view_is) c.in_ok-checked.ensures.rows in
    read_checked (side_of c.args.role) c.args.self.now.users c.args.datagram.now (Ok c.in_ok-checked.checked) rows

pub returns-clause-judged : goal.returns-clause-judged
returns-clause-judged c =
    let rows : Verifies (side_of c.args.role) c.args.self.now.users c.args.datagram.now (checked_answer (Ok c.in_ok-checked.checked)) = subst (λ (us : List User). Verifies (side_of c.args.role) us c.args.datagram.now (checked_answer (Ok c.in_ok-checked.checked))) (ap (λ (k : Known). k.users) c.self.view_is) c.in_ok-checked.ensures.rows in
    judged_checked (side_of c.args.role) c.args.self.now.users c.args.datagram.now (Ok c.in_ok-checked.checked) rows
