use Rattle.std.proofs.Common.{Result, subst, sym}
use Rattle.snmp_manager.specs.State.{WorldState}
use Rattle.snmp_manager.specs.Knowledge.{HaveUsers, HasGreatest, at_first, counted, knows_after_all}
use Rattle.snmp_manager.specs.declared.event.WorldStopped.{WorldStopped}
use Rattle.tests_callers.specs.Begun.{begun}
use Rattle.tests_callers.proofs.Begun.{begun_have_users, is_begun}
use Rattle.tests_callers.proofs.worlds.run_replicas.Goals as goal

pub returns : goal.returns
returns c = λ i j a b at_i at_j same.
    let users = c.args.users.now.users in
    let events = c.args.events.now in
    let begin = begun users c.args.clocks.now in
    let is = is_begun users c.args.clocks.now c.in-Ok.world c.in-Ok.ensures.managers c.in-Ok.ensures.files in
    let have = subst (λ (w : WorldState). HaveUsers users w) (sym is) (begun_have_users users c.args.clocks.now) in
    let counts = c.run.ensures.greatest users have in
    let all = subst (λ (r : Result (Unit {0}) WorldStopped). HasGreatest (knows_after_all users (counted r events) (at_first c.in-Ok.world)) c.run.new.self) c.in-Ok-run.is counts in
    let greatest = subst (λ (w : WorldState). HasGreatest (knows_after_all users events (at_first w)) c.run.new.self) is all in
    c.equal_knowledge_equal_marks.ensures users events begin c.run.new.self i j a b greatest at_i at_j same
