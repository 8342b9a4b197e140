use Rattle.usm_core.proofs.Determined.{accepted_read, of_layout, refused_read}
use Rattle.usm_core.proofs.laws.verified_was_read.Goals as goal

pub returns-clause-accepted : goal.returns-clause-accepted
returns-clause-accepted c = accepted_read

pub returns-clause-refused : goal.returns-clause-refused
returns-clause-refused c = refused_read

pub returns-clause-unread : goal.returns-clause-unread
returns-clause-unread c = of_layout
