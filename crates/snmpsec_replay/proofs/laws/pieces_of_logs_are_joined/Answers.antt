use Rattle.snmpsec_replay.proofs.Parts.{logs_joined, saved_alone, answers_on}
use Rattle.snmpsec_replay.proofs.laws.pieces_of_logs_are_joined.Goals as goal

pub returns-clause-joined : goal.returns-clause-joined
returns-clause-joined c = logs_joined

pub returns-clause-alone : goal.returns-clause-alone
returns-clause-alone c = saved_alone

pub returns-clause-lines : goal.returns-clause-lines
returns-clause-lines c = answers_on
