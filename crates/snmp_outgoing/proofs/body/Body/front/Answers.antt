use Rattle.std.proofs.Common.{rules, refl, w32, SFits}
use Rattle.std.proofs.lemmas.Int.{to_z-of_z}
use Rattle.snmp_outgoing.proofs.body.Body.front.Goals as goal

pub returns-clause-is : goal.returns-clause-is
returns-clause-is c =
    let b = c.args.self.now in
    let id : SFits w32 b.id = search rules in
    let second : SFits w32 b.second = search rules in
    let third : SFits w32 b.third = search rules in
    rw (to_z-of_z w32 b.id id, to_z-of_z w32 b.second second, to_z-of_z w32 b.third third) refl

pub returns-clause-pdu : goal.returns-clause-pdu
returns-clause-pdu c =
    let b = c.args.self.now in
    let id : SFits w32 b.id = search rules in
    let second : SFits w32 b.second = search rules in
    let third : SFits w32 b.third = search rules in
    rw (to_z-of_z w32 b.id id, to_z-of_z w32 b.second second, to_z-of_z w32 b.third third) refl

pub returns-clause-scoped : goal.returns-clause-scoped
returns-clause-scoped c =
    let b = c.args.self.now in
    let id : SFits w32 b.id = search rules in
    let second : SFits w32 b.second = search rules in
    let third : SFits w32 b.third = search rules in
    rw (to_z-of_z w32 b.id id, to_z-of_z w32 b.second second, to_z-of_z w32 b.third third) refl
