use Rattle.snmp_forward.proofs.Originating.{originator_stands}
use Rattle.snmp_forward.proofs.originator_laws.notifications_are_originated.Goals as goal

pub returns-clause-history : goal.returns-clause-history
returns-clause-history c first last events forwarder informs run = let known = originator_stands first events last forwarder informs run in (known.notifications, known.happened, known.is)

pub returns-clause-few : goal.returns-clause-few
returns-clause-few c first last events forwarder informs run = (originator_stands first events last forwarder informs run).few
