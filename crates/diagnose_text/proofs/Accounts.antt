-- What is printed from the beginning on.
use Rattle.std.proofs.Common.{◌≡◌, ◌++◌, ℕ, List, [], ap, sym, subst, arith}
use Rattle.std.proofs.lemmas.List.Elements.{All-weaker}
use Rattle.diagnose_exchanges.proofs.Made.{made_from_none}
use Rattle.diagnose_exchanges.proofs.Runs.{each_once}
use Rattle.diagnose_exchanges.specs.Exchanges.{HasRun, IsMadeBy, times}
use Rattle.diagnose_text.proofs.Owns.{holds}
use Rattle.diagnose_text.specs.Datagrams.{HoldsItsOwn, Seen}
use Rattle.diagnose_text.specs.Printing.{ArePrinted, IsAccount, Writes}
use Rattle.diagnose_text.specs.declared.diagnoser.Diagnoser.{Diagnoser}

pub account : (seen : List Seen) (begin end : Diagnoser) (text : List ℕ) → begin.follower.exchanges.list.items ≡ [] → Writes seen begin [] end text
    → IsAccount begin.report.options seen end.follower.exchanges.list.items text
account seen begin end text none w =
    let p = w.prints in
    let held = end.follower.exchanges.list.items in
    let run = subst (λ old. HasRun begin.follower.exchanges.gone old p.steps p.finished held) none p.run in
    record {
      finished = p.finished;
      texts = subst (ArePrinted begin.report.options p.finished) (sym w.whole) p.texts;
      own = All-weaker (IsMadeBy p.steps) (HoldsItsOwn seen) (λ e made. holds seen p.steps e p.own made) (p.finished ++ held) (made_from_none begin.follower.exchanges.gone p.steps p.finished held run);
      once = λ n. omega (arith, each_once n begin.follower.exchanges.gone [] p.steps p.finished held run, ap (times n) p.taken);
    }
