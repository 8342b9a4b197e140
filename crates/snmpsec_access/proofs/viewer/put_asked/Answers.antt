use Rattle.std.proofs.Common.{List, map, ap, ◌∙◌}
use Rattle.std.proofs.lemmas.List.{map-append}
use Rattle.vacm_core.specs.Tables.{tables_of}
use Rattle.snmpsec_access.specs.declared.viewer.Seen.{Seen}
use Rattle.snmpsec_access.specs.Rising.{asker_of, decided_of, decision_of}
use Rattle.snmpsec_access.proofs.Seens.{decided_on}
use Rattle.snmpsec_access.proofs.viewer.put_asked.Goals as goal

pub returns : goal.returns
returns c =
    let decided = decided_of c.args.asking.now.model c.args.asking.now.name.now in
    decided_on (tables_of c.args.who.now.rows.now) (asker_of c.args.asking.now) (decision_of c.in_ok-deciding.deciding) (map decided c.args.out.now.items) _ c.in_ok-deciding.ensures
    (ap (λ (seen : List Seen). map decided seen) c.in_ok-push.ensures.items ∙ map-append decided c.args.out.now.items _)
