use Rattle.std.proofs.Common.{arith, rules, FitsSigned, SFits, w32}
use Rattle.std.proofs.lemmas.Int.{ints, to_z-of_z}
use Rattle.snmp_ber.proofs.Oids.{octets_from}
use Rattle.snmp_msg.specs.Pdu.{AreInRange}
use Rattle.snmp_msg.proofs.Pdus.{pdu_in-is}
use Rattle.snmp_incoming.specs.Texts.{pdu_placed}
use Rattle.snmp_incoming.proofs.Placed.{read_of, octets_within}
use Rattle.snmp_incoming.proofs.place.PduPlace.lent.Goals as goal

pub returns-clause-is_pdu : goal.returns-clause-is_pdu
returns-clause-is_pdu c s front =
    let text = c.args.octets.now in
    let place = c.args.self.now in
    let p = pdu_placed text c.args.tag place in
    let id : FitsSigned w32 place.id = search rules in
    let second : FitsSigned w32 place.second = search rules in
    let third : FitsSigned w32 place.third = search rules in
    let numbers : AreInRange p = record {
      id = (omega (arith, ints), omega (arith, ints));
      second = (omega (arith, ints), omega (arith, ints));
      third = (omega (arith, ints), omega (arith, ints));
    } in
    let a : SFits w32 place.id = search rules in
    let b : SFits w32 place.second = search rules in
    let d : SFits w32 place.third = search rules in
    rw (to_z-of_z w32 place.id a, to_z-of_z w32 place.second b, to_z-of_z w32 place.third d) (pdu_in-is s.pdu p numbers (octets_within text s front (octets_from text (λ i. omega (arith, c.type_inv.octets i)))) (read_of text s p front c.requires.read))
