use Rattle.std.proofs.Common.{map, arith, Global, ℕ, to_z, of_z, w32}
use Rattle.std.proofs.lemmas.Int.{to_z-of_z, to_z_pos}
use Rattle.std.specs.declared.vec.Vec.{Vec}
use Rattle.snmp_gate.specs.ReadAsks.{asked_binding}
use Rattle.snmp_gate.proofs.ReadNames.{is_request}
use Rattle.snmp_gate.proofs.read_ask.write_names.Goals as goal

pub returns-clause-ask : goal.returns-clause-ask
returns-clause-ask c =
    let wrote = c.write_community_bindings.ensures in
    let second = c.args.second in
    let third = c.args.third in
    is_request (λ (v : Vec ℕ Global). v.items) c.write_community_bindings.result c.args.community.now c.args.pdu_type c.args.id c.tag.result
    (to_z w32 c.args.id) (to_z w32 (of_z w32 second)) (to_z w32 (of_z w32 third)) second third (map asked_binding c.args.names.now)
    c.tag.ensures.value (to_z_pos w32 c.args.id (omega (arith, c.requires.id))) (to_z-of_z w32 second c.ranges.second) (to_z-of_z w32 third c.ranges.third)
    wrote.spelled wrote.pdu wrote.bindings
