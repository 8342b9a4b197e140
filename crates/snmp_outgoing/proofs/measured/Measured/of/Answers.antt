use Rattle.std.proofs.Common.{◌≡◌, length, sym, arith, rules}
use Rattle.std.specs.Prelude.{map}
use Rattle.snmp_ber.specs.Element.{IsElement}
use Rattle.snmp_message.specs.Scoped.{scoped_text}
use Rattle.snmp_message.proofs.Scopeds.{scoped_text-longer}
use Rattle.snmp_msg.specs.Pdu.{pdu_text}
use Rattle.snmp_msg.proofs.Pdus.{pdu_text-longer}
use Rattle.snmp_outgoing.specs.Bodies.{pdu_after, contexts_after, scoped_after}
use Rattle.snmp_outgoing.proofs.measured.Measured.of.Goals as goal

pub returns-then-max-gt-LARGEST-clause-none : goal.returns-then-max-gt-LARGEST-clause-none
returns-then-max-gt-LARGEST-clause-none g c =
    let f = c.args.front.now in
    let longer = scoped_text-longer f.context_engine.now f.context_name.now (pdu_text (pdu_after f (map g.B.Spelled.says c.args.bindings.now))) in
    omega arith

pub returns-in_default-clause-none : goal.returns-in_default-clause-none
returns-in_default-clause-none g c =
    let f = c.args.front.now in
    let p = pdu_after f (map g.B.Spelled.says c.args.bindings.now) in
    let longer = scoped_text-longer f.context_engine.now f.context_name.now (pdu_text p) in
    let pdu_longer = pdu_text-longer p in
    omega (arith, longer.2, pdu_longer.0, pdu_longer.1, c.in_default.ensures.none)

pub returns-clause-fits : goal.returns-clause-fits
unfolding scoped_text
returns-clause-fits g c =
    let f = c.args.front.now in
    let vs = map g.B.Spelled.says c.args.bindings.now in
    let size : c.content_len.result ≡ length (contexts_after f vs) = c.content_len.ensures.size vs (sym c.in-Some.ensures.some) in
    let element : IsElement 48 (contexts_after f vs) (scoped_after f vs) = c.one_element.ensures.canonical 48 (contexts_after f vs) (search rules) (omega (arith, size, c.content_len.ensures.most)) in
    record {
      engine = omega (arith, c.if-max-gt-LARGEST.false);
      name = omega (arith, c.if-max-gt-LARGEST.false);
      bindings = c.requires.fit;
      list = c.in-Some.ensures.some;
      within = c.in-Some.ensures.most;
      content = size;
      most = c.content_len.ensures.most;
      element = element;
    }
