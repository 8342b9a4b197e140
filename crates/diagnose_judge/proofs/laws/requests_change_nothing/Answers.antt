use Rattle.diagnose_judge.proofs.Determined.{step_one}
use Rattle.diagnose_judge.proofs.OwnRuns.{same_own}
use Rattle.diagnose_judge.proofs.laws.requests_change_nothing.Goals as goal

pub returns : goal.returns
returns c = same_own (step_one c.the_same_marks_are_one_map.ensures c.one_answer.ensures c.one_content.ensures.front c.one_pdu.ensures.pdu)
