use Rattle.std.proofs.Common.{[], refl}
use Rattle.diagnose_exchanges.proofs.Takings.{ended_or_same}
use Rattle.diagnose_text.proofs.Printings.{taking_prints}
use Rattle.diagnose_text.proofs.diagnoser.Diagnoser.end_first.Goals as goal

pub returns : goal.returns
returns c =
    let old = c.args.self.now in
    let gone = old.follower.exchanges.gone in
    let before = old.follower.exchanges.list.items in
    let later = c.end.new.self.list.items in
    record {
      text = [];
      whole = refl;
      options = refl;
      judged = refl;
      prints = taking_prints old.report.options old.report.failed gone before c.end.new.self.gone later c.end.ensures.gone
          (ended_or_same gone gone before later c.first_place-place.result c.args.ending c.end.result refl c.requires c.end.ensures.ended (λ is. (c.end.ensures.stays is).0));
    }
