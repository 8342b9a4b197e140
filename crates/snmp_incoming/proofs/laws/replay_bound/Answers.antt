use Rattle.snmp_incoming.proofs.Replays.{replay}
use Rattle.snmp_incoming.proofs.laws.replay_bound.Goals as goal

pub returns : goal.returns
returns c = replay c.one_message.ensures.one c.one_cut.ensures.one c.verified_was_read.ensures.accepted
