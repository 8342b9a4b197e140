use Rattle.std.proofs.Common.{subst}
use Rattle.std.specs.Prelude.{MatchOption}
use Rattle.snmp_incoming.specs.Outcome.{Given}
use Rattle.snmp_listener.specs.Wanted.{IsUnwanted, IsWanted}
use Rattle.snmp_listener.proofs.rules.ListenerRules.reason_against_kept.Goals as goal

pub returns : goal.returns
returns c =
    let a = c.args in
    subst (λ (g : Given). MatchOption c.reason_against.result (IsWanted a.self.now a.manager.now.users a.tables.now a.tag a.from.now g) (IsUnwanted a.self.now a.manager.now.users a.tables.now a.tag a.from.now g))
    c.taken-taken.ensures c.reason_against.ensures
