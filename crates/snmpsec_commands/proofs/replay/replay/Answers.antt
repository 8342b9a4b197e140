use Rattle.std.proofs.Common.{inl}
use Rattle.snmpsec_commands.proofs.replay.replay.Goals as goal

pub returns-in-Ok-replay_as-clause-ok : goal.returns-in-Ok-replay_as-clause-ok
returns-in-Ok-replay_as-clause-ok g c = record { begin = c.in-Ok.manager; begins = c.in-Ok.ensures.begins; text = c.in-Ok-replay_as.ensures.ok }

pub returns-in-Err-clause-err : goal.returns-in-Err-clause-err
returns-in-Err-clause-err g c = inl (c.in-Ok.manager, c.in-Ok.ensures.begins, c.in-Err.ensures.err)
