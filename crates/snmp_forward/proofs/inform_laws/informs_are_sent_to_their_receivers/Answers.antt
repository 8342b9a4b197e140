use Rattle.std.proofs.Common.{ℕ, length, subst, ◌≤◌}
use Rattle.snmp_forward.proofs.InformRunning.{run_stands}
use Rattle.snmp_forward.proofs.inform_laws.informs_are_sent_to_their_receivers.Goals as goal

pub returns-clause-history : goal.returns-clause-history
returns-clause-history c first last events stands run = let known = run_stands first events last stands run in (known.history, known.is)

pub returns-clause-few : goal.returns-clause-few
returns-clause-few c first last events stands run =
    let known = run_stands first events last stands run in
    subst (λ (most : ℕ). length last.list.items ≤ most) known.stays.most known.stands.few
