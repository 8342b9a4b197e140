use Rattle.std.proofs.Common.{List, subst}
use Rattle.usm_users.specs.User.{User}
use Rattle.snmp_manager.specs.Known.{HaveSameAuthentic, octets_of}
use Rattle.snmp_manager.specs.Runs.{moments_of}
use Rattle.tests_callers.proofs.manager_handles.begin_and_take.Goals as goal

pub returns-then-hand_to_both : goal.returns-then-hand_to_both
returns-then-hand_to_both c = λ same.
    c.hand_to_both.ensures.pairs c.if-hand_to_both.true
    (subst (λ (users : List User). HaveSameAuthentic users (octets_of (moments_of c.args.datagrams.now)) (octets_of (moments_of c.args.others.now))) (c.hand_to_both.ensures.users c.if-hand_to_both.true) same)
