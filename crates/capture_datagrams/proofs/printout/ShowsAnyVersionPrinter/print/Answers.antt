use Rattle.std.proofs.lemmas.Result.{IfOk-weaker}
use Rattle.capture_datagrams.proofs.printout.ShowsAnyVersionPrinter.print.Goals as goal

pub returns-clause-ok : goal.returns-clause-ok
returns-clause-ok c = IfOk-weaker c.behind_head.result _ _ (λ printed h. (_, c.in_ok-output.ensures, h)) c.behind_head.ensures
