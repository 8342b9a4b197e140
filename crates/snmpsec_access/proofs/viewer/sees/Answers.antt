use Rattle.std.proofs.Common.{List, map, ap}
use Rattle.vacm_core.specs.Tables.{tables_of}
use Rattle.snmpsec_access.specs.declared.viewer.Seen.{Seen}
use Rattle.snmpsec_access.specs.Rising.{SeesOn, decided_of}
use Rattle.snmpsec_access.proofs.Seens.{nothing_seen, sees_on, all_seen}
use Rattle.snmpsec_access.proofs.Walks.{three}
use Rattle.snmpsec_access.proofs.viewer.sees.Goals as goal

pub returns : goal.returns
returns c =
    let t = tables_of c.args.rows.now in
    let seen = λ (items : List Seen). map (decided_of c.args.model c.args.name.now) items in
    all_seen t c.args.model c.args.name.now (seen c.new-out.result.items) (seen c.put_level-3.new.out.items) (ap seen c.new-out.ensures.items)
    (three (SeesOn t) (nothing_seen t) (sees_on t) _ _ _ (seen c.new-out.result.items) (seen c.put_level.new.out.items) (seen c.put_level-2.new.out.items) (seen c.put_level-3.new.out.items) c.in_ok-put_level.ensures c.in_ok-put_level-2.ensures c.in_ok-put_level-3.ensures)
