use Rattle.std.proofs.Common.{sym, arith, rules, FitsSigned, w32}
use Rattle.std.proofs.lemmas.Int.{ints}
use Rattle.std.specs.Prelude.{slice_range}
use Rattle.snmp_msg.specs.Pdu.{AreInRange, pdu_of}
use Rattle.snmp_ber.proofs.Oids.{octets_from}
use Rattle.snmp_msg.proofs.Variables.{octets_slice}
use Rattle.snmp_msg.proofs.Pdus.{pdu_in-is, pdu_fits, no_pdu}
use Rattle.snmp_msg.proofs.pdu.read_pdu.Goals as goal

numbers : (c : goal.In-Ok) → AreInRange (pdu_of c.in-Ok.pdu)
numbers c =
    let id : FitsSigned w32 c.in-Ok.pdu.id = search rules in
    let second : FitsSigned w32 c.in-Ok.pdu.second = search rules in
    let third : FitsSigned w32 c.in-Ok.pdu.third = search rules in
    record {
      id = (omega (arith, ints), omega (arith, ints));
      second = (omega (arith, ints), omega (arith, ints));
      third = (omega (arith, ints), omega (arith, ints));
    }

pub returns-in-Ok-clause-exact : goal.returns-in-Ok-clause-exact
returns-in-Ok-clause-exact c = pdu_in-is (slice_range c.args.bytes.now c.args.at c.args.end) (pdu_of c.in-Ok.pdu) (numbers c) (octets_slice c.args.bytes.now c.args.at c.args.end (octets_from c.args.bytes.now (λ i. omega (arith, c.type_inv.bytes i)))) (sym c.in-Ok.ensures)

pub returns-in-Ok-clause-fits : goal.returns-in-Ok-clause-fits
returns-in-Ok-clause-fits c = pdu_fits (slice_range c.args.bytes.now c.args.at c.args.end) (pdu_of c.in-Ok.pdu) (returns-in-Ok-clause-exact c)

pub returns-in-Err-clause-exact : goal.returns-in-Err-clause-exact
returns-in-Err-clause-exact c = no_pdu (slice_range c.args.bytes.now c.args.at c.args.end) (sym c.in-Err.ensures)

pub returns-in-Err-clause-none : goal.returns-in-Err-clause-none
returns-in-Err-clause-none c = no_pdu (slice_range c.args.bytes.now c.args.at c.args.end) (sym c.in-Err.ensures)
