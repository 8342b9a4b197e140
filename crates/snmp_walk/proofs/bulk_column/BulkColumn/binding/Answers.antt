use Rattle.std.proofs.Common.{◌≡◌, ◌<◌, List, length, map, subst, inl}
use Rattle.std.specs.List.{HoldsAt}
use Rattle.snmp_msg.specs.Variables.{Variable, variable_of}
use Rattle.snmp_responder.specs.Code.{seen_by}
use Rattle.snmp_walk.specs.Bindings.{given_says}
use Rattle.snmp_walk.specs.declared.given.GivenVariable.{GivenVariable}
use Rattle.snmp_walk.proofs.Bulk.{at_shows, given_at}
use Rattle.snmp_walk.proofs.bulk_column.BulkColumn.binding.Goals as goal

pub returns-in-Some-clause-outwards : goal.returns-in-Some-clause-outwards
returns-in-Some-clause-outwards c viewer told stands =
    let self = c.args.self.now in
    let k = c.args.repetition in
    let v = variable_of c.binding.result in
    let item = c.in-Some.ensures.lookup.3 in
    at_shows (seen_by viewer) told self k v stands
    (inl (subst (λ (gs : List GivenVariable). (k < length (map given_says gs)) × HoldsAt (λ (w : Variable). v ≡ w) (map given_says gs) k) c.deref.ensures.value
    (given_at c.deref.result.now k c.in-Some.given.now v item.0 item.1 c.binding.ensures)))
