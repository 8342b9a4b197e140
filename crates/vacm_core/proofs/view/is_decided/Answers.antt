use Rattle.std.proofs.Common.{ap, length}
use Rattle.vacm_core.proofs.Wildcards.{decided}
use Rattle.vacm_core.proofs.view.is_decided.Goals as goal

pub returns-in-Some-found : goal.returns-in-Some-found
returns-in-Some-found c =
    let item = c.in-Some.ensures.item in
    decided c.args.rest.now c.args.found c.in-Some-found.row c.in-Some.next.now c.requires c.in-Some-found.is item.3.0 (item.3.1 c.in-Some.next.now) c.length.result _ c.length.ensures (ap length c.as_slice.ensures.value)
