use Rattle.diagnose_text.proofs.Follows.{told}
use Rattle.diagnose_text.proofs.follower.Follower.tell.Goals as goal

pub returns-clause-follows : goal.returns-clause-follows
returns-clause-follows c = told c.tell.result c.args.line c.args.first c.args.self.now _ c.tell.ensures.gone c.tell.ensures.takes
