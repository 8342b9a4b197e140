use Rattle.std.proofs.Common.{map}
use Rattle.std.proofs.lemmas.Result.{on_ok_weaker}
use Rattle.snmpsec_access.specs.WhoSees.{SeesIt, GoesOn, asker_of}
use Rattle.snmpsec_access.proofs.Seeing.{nothing, goes_on}
use Rattle.snmpsec_access.proofs.Walks.{three}
use Rattle.snmpsec_access.proofs.who.put_group.Goals as goal

pub returns : goal.returns
returns c =
    on_ok_weaker c.put_level-3.result
    (three (GoesOn (SeesIt c.args.wanted.now)) (nothing (SeesIt c.args.wanted.now)) (goes_on (SeesIt c.args.wanted.now)) _ _ _ (map asker_of c.args.out.now.items) (map asker_of c.put_level.new.out.items) (map asker_of c.put_level-2.new.out.items) (map asker_of c.put_level-3.new.out.items) c.in_ok-put_level.ensures c.in_ok-put_level-2.ensures)
    c.put_level-3.ensures
