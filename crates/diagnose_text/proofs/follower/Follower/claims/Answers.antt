use Rattle.std.proofs.Common.{◌≡◌, ap}
use Rattle.diagnose_exchanges.specs.Exchanges.{claims}
use Rattle.diagnose_text.proofs.Askeds.{same_asked}
use Rattle.diagnose_text.proofs.follower.Follower.claims.Goals as goal

pub returns-clause-follows : goal.returns-clause-follows
returns-clause-follows c = λ _.
    let held = c.in-Ok.ensures.claimed.1 in
    let same : held.0 ≡ c.args.asked.now = same_asked held.0 c.args.asked.now held.1 in
    record {
      place = c.in-Ok.ensures.gone;
      step = claims c.in-Ok._place c.args.number held.0 c.args.answer;
      made = (c.in-Ok._place, ap (λ a. claims c.in-Ok._place c.args.number a c.args.answer) same);
      takes = held.2;
    }
