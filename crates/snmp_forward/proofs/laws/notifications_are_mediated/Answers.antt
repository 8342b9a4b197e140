use Rattle.std.proofs.Common.{ℕ, length, subst, ◌≤◌}
use Rattle.snmp_forward.proofs.Running.{dealt_with_each, run_stands}
use Rattle.snmp_forward.proofs.laws.notifications_are_mediated.Goals as goal

pub returns-clause-history : goal.returns-clause-history
returns-clause-history c first last events stands run = let known = run_stands first events last stands run in (known.history, known.is)

pub returns-clause-few : goal.returns-clause-few
returns-clause-few c first last events stands run =
    let known = run_stands first events last stands run in
    subst (λ (most : ℕ). length last.waiting.list.items ≤ most) known.stays.most known.stands.few

pub returns-clause-each : goal.returns-clause-each
returns-clause-each c first last events stands run =
    let known = run_stands first events last stands run in
    (known.history, known.is, dealt_with_each first events last known)
