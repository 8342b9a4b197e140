use Rattle.std.proofs.Common.{◌-◌, refl, sym, arith, inl}
use Rattle.std.specs.Prelude.{slice_range}
use Rattle.std.proofs.lemmas.List.Edits.{length-between}
use Rattle.snmp_ber.specs.Tlv.{front_at}
use Rattle.snmp_community.proofs.Faults.{has_no, more_from, community_from}
use Rattle.snmp_community.proofs.message.read_parts.Goals as goal

pub returns-in_default-clause-fault : goal.returns-in_default-clause-fault
returns-in_default-clause-fault c =
    let octets = slice_range c.args.datagram.now c.args.at c.args.end in
    (0, omega arith, inl (has_no 4 octets (sym c.in_default.ensures.value), refl))

pub returns-in_default-read_tlv-clause-fault : goal.returns-in_default-read_tlv-clause-fault
returns-in_default-read_tlv-clause-fault c =
    let w = c.args.datagram.now in
    let octets = slice_range w c.args.at c.args.end in
    let community = c.in-Ok.community in
    let front = front_at w c.args.end community in
    let place = c.in-Ok.ensures.ordered in (
      community.end - c.args.at,
      omega (arith, place),
      community_from octets front (community.end - c.args.at) 0 (sym c.in-Ok.ensures.value) (omega (arith, place)) (inl (c.in_default-read_tlv.ensures.none, refl)),
    )

pub returns-then-pdu-end-clause-fault : goal.returns-then-pdu-end-clause-fault
returns-then-pdu-end-clause-fault c =
    let w = c.args.datagram.now in
    let end = c.args.end in
    let octets = slice_range w c.args.at end in
    let community = c.in-Ok.community in
    let pdu = c.in-Ok-read_tlv.pdu in
    let place = c.in-Ok.ensures.ordered in
    let first = c.in-Ok-read_tlv.ensures.first in
    let stands = c.in-Ok-read_tlv.ensures.found.ordered in
    let left = length-between w pdu.end end c.requires.within in
    let inner = pdu.end - community.end in (
      pdu.end - c.args.at,
      omega (arith, place, first, stands),
      community_from octets (front_at w end community) (pdu.end - c.args.at) inner (sym c.in-Ok.ensures.value) (omega (arith, place, first, stands))
          (more_from (slice_range w community.end end) (front_at w end pdu) inner (sym c.in-Ok-read_tlv.ensures.exact) (omega (arith, first, stands)) (omega (arith, left, c.if-pdu-end.true))),
    )
