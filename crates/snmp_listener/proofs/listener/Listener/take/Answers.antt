use Rattle.std.proofs.Common.{ℕ, List, ap, subst, ◌∙◌}
use Rattle.snmp_listener.specs.Counting.{counts_after}
use Rattle.snmp_listener.specs.Listening.{ListenerState, TakesAs, state_of}
use Rattle.snmp_listener.specs.declared.told.ToldNotification.{ToldNotification}
use Rattle.snmp_listener.proofs.listener.Listener.take.Goals as goal

pub returns-clause-takes : goal.returns-clause-takes
returns-clause-takes c =
    let a = c.args in
    let takes = c.in_ok-taken.ensures.takes in
    let same = c.in_ok-taken.ensures.same in
    let before = ap (λ (told : List ToldNotification). record (state_of a.self.now) { told = told }) c.reserve.ensures.same in
    let after = ap (λ (counts : List ℕ). record (state_of c.take_as.new.self) { counts = counts }) same.counts in (
      record { engine = same.stays.engine; rules = same.stays.rules },
      (
        takes.0,
        subst (λ (new : ListenerState). TakesAs takes.0 (state_of a.self.now) a.now a.from.now a.datagram.now a.salt c.in_ok-taken.taken new) after
            (subst (λ (old : ListenerState). TakesAs takes.0 old a.now a.from.now a.datagram.now a.salt c.in_ok-taken.taken (state_of c.take_as.new.self)) before takes.1),
      ),
      c.counts_after-self.ensures ∙ (λ i. counts_after (same.counts i) (c.reason.ensures i)),
    )
