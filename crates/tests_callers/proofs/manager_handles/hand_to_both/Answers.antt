use Rattle.snmp_manager.specs.Runs.{moments_of}
use Rattle.tests_callers.proofs.manager_handles.hand_to_both.Goals as goal

pub returns-clause-pairs : goal.returns-clause-pairs
returns-clause-pairs c = λ yes same.
    c.same_authentic_same_pairs.ensures c.args.one.now.manager c.args.other.now.manager c.hand_all.new.manager.manager c.hand_all-2.new.manager.manager (moments_of c.args.datagrams.now) (moments_of c.args.others.now) c.requires.alike same
    (c.hand_all.ensures c.if-not-hand_all.false) (c.hand_all-2.ensures yes)

pub returns-clause-users : goal.returns-clause-users
returns-clause-users c = λ yes. c.taken_holds_the_latest.ensures.users c.args.one.now.manager c.hand_all.new.manager.manager (moments_of c.args.datagrams.now) (c.hand_all.ensures c.if-not-hand_all.false)
