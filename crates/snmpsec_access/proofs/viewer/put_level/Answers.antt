use Rattle.std.proofs.Common.{List, map}
use Rattle.std.proofs.lemmas.Result.{on_ok_weaker}
use Rattle.snmpsec_access.specs.declared.viewer.Seen.{Seen}
use Rattle.vacm_core.specs.Tables.{tables_of}
use Rattle.snmpsec_access.specs.Rising.{SeesOn, decided_of}
use Rattle.snmpsec_access.proofs.Seens.{nothing_seen, sees_on}
use Rattle.snmpsec_access.proofs.Walks.{three}
use Rattle.snmpsec_access.proofs.viewer.put_level.Goals as goal

pub returns : goal.returns
returns c =
    let t = tables_of c.args.who.now.rows.now in
    let seen = λ (items : List Seen). map (decided_of c.args.who.now.model c.args.who.now.name.now) items in
    on_ok_weaker c.put_view-3.result
    (three (SeesOn t) (nothing_seen t) (sees_on t) _ _ _ (seen c.args.out.now.items) (seen c.put_view.new.out.items) (seen c.put_view-2.new.out.items) (seen c.put_view-3.new.out.items) c.in_ok-put_view.ensures c.in_ok-put_view-2.ensures)
    c.put_view-3.ensures
