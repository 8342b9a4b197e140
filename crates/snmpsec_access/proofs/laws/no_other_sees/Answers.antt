use Rattle.snmpsec_access.proofs.Wholes.{all_asked}
use Rattle.snmpsec_access.proofs.laws.no_other_sees.Goals as goal

pub returns : goal.returns
returns c t views a variable asked may = all_asked t views a variable asked may
