use Rattle.std.proofs.Common.{refl}
use Rattle.diagnose_text.proofs.Printings.{first_prints}
use Rattle.diagnose_text.proofs.diagnoser.Diagnoser.print_first.Goals as goal

pub returns : goal.returns
returns c =
    let old = c.args.self.now in
    record {
      text = c.in_ok-print.ensures.printed.0;
      whole = c.in_ok-print.ensures.printed.1;
      options = c.in_ok-print.ensures.options;
      judged = refl;
      prints = first_prints old.report.options old.report.failed old.follower.exchanges.gone old.follower.exchanges.list.items c.in_ok-print.ensures.printed.0 c.print.new.self.failed
          c.take_finished.new.self.gone c.take_finished.new.self.list.items c.in-Some.exchange
          c.in-Some.ensures.first.0 c.in-Some.ensures.first.1 c.in-Some.ensures.gone c.in_ok-print.ensures.printed.2 c.in_ok-print.ensures.failed;
    }
