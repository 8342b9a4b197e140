use Rattle.snmpsec_commands.specs.Replay.{handed_of}
use Rattle.snmpsec_commands.proofs.Handings.{clocks_refused}
use Rattle.snmpsec_commands.proofs.replay.manager_of.Goals as goal

pub returns-in_ok-refused-in-Err-read_saved-clause-refused : goal.returns-in_ok-refused-in-Err-read_saved-clause-refused
returns-in_ok-refused-in-Err-read_saved-clause-refused c =
    clocks_refused (handed_of c.args.beginning) _ _ c.in-Err-read_saved.fault _ c.in-Ok.ensures.loads c.in-Err-read_saved.ensures.fault c.in_ok-refused-in-Err-read_saved.ensures
