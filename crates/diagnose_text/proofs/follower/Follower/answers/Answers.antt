use Rattle.std.proofs.Common.{◌≡◌, ◌∙◌, [], ap, subst}
use Rattle.diagnose_exchanges.proofs.Takings.{then_none}
use Rattle.diagnose_exchanges.specs.Exchanges.{Takes, answers}
use Rattle.diagnose_text.proofs.Askeds.{same_asked}
use Rattle.diagnose_text.proofs.follower.Follower.answers.Goals as goal

pub returns-clause-follows : goal.returns-clause-follows
returns-clause-follows c = λ _.
    let old = c.args.self.now.exchanges in
    let mid = c.answer.new.self in
    let held = c.in-Ok.ensures.answered.1 in
    let same : held.0 ≡ c.args.asked.now = same_asked held.0 c.args.asked.now held.1 in
    let none : Takes [] old.gone mid.list.items c.end_first.new.self.exchanges.list.items = subst (λ g. Takes [] g mid.list.items c.end_first.new.self.exchanges.list.items) c.in-Ok.ensures.gone c.end_first.ensures.takes in
    let step = answers c.in-Ok.place c.args.number held.0 c.args.answer in
    record {
      place = c.end_first.ensures.gone ∙ c.in-Ok.ensures.gone;
      step = step;
      made = (c.in-Ok.place, ap (λ a. answers c.in-Ok.place c.args.number a c.args.answer) same);
      takes = then_none step old.gone old.list.items mid.list.items c.end_first.new.self.exchanges.list.items held.2 none;
    }
