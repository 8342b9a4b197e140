use Rattle.std.proofs.Common.{◌≡◌, ℕ, List, length, refl, sym, subst}
use Rattle.std.specs.Prelude.{slice_range}
use Rattle.snmp_msg.specs.Pdu.{PduText, pdu_of}
use Rattle.snmp_message.specs.Message.{parts}
use Rattle.snmp_message.specs.Security.{fields_of}
use Rattle.snmp_message.specs.Scoped.{contexts_of, HasScoped}
use Rattle.snmp_msg.proofs.Canonicals.{refused_as, agrees_from, security_refused, pdu_refused, whole_fits}
use Rattle.snmp_msg.proofs.Pdus.{says_respelled}
use Rattle.snmp_msg.proofs.Variables.{variables_of-again}
use Rattle.snmp_msg.proofs.whole.read_layers.Goals as goal

pub returns-in_err-security-clause-exact : goal.returns-in_err-security-clause-exact
returns-in_err-security-clause-exact c =
    let w = c.args.datagram.now in
    let m = parts c.args.message.now in
    let agrees = agrees_from w m c.in_ok-scoped.scoped c.in_ok-scoped.ensures.exact in
    refused_as c.from_residual-in_err-security.result _ _ c.in_err-security.field-0.0 c.from_residual-in_err-security.ensures.1 (security_refused w m c.in_err-security.field-0.0.refusal c.requires agrees c.in_err-security.ensures.exact)

pub returns-in_err-pdu-clause-exact : goal.returns-in_err-pdu-clause-exact
returns-in_err-pdu-clause-exact c =
    let w = c.args.datagram.now in
    let m = parts c.args.message.now in
    let scoped = rw c.in-Some.is at c.in_ok-scoped.ensures.exact in
    let place = rw c.in-Some.is at c.in_ok-scoped.ensures.place in
    refused_as c.from_residual-in_err-pdu.result _ _ c.in_err-pdu.field-0.0 c.from_residual-in_err-pdu.ensures.1 (pdu_refused w _ m (fields_of c.in_ok-security.security) (contexts_of c.in-Some.scoped) c.in_err-pdu.field-0.0.refusal c.requires c.in_ok-security.ensures.exact scoped place c.in_err-pdu.ensures.exact)

pub returns-clause-exact : goal.returns-clause-exact
returns-clause-exact c =
    let w = c.args.datagram.now in
    let m = parts c.args.message.now in
    let s = contexts_of c.in-Some.scoped in
    let scoped : HasScoped w m s = rw c.in-Some.is at c.in_ok-scoped.ensures.exact in
    let place : s.pdu ≡ slice_range w s.pdu_at (length w) = rw c.in-Some.is at c.in_ok-scoped.ensures.place in
    let text : PduText s.pdu (pdu_of c.in_ok-pdu.pdu) = subst (λ (z : List ℕ). PduText z (pdu_of c.in_ok-pdu.pdu)) (sym place) c.in_ok-pdu.ensures.exact in
    record {
      message = m;
      outer = c.requires;
      header = refl;
      security = c.in_ok-security.ensures.exact;
      contents = (s, scoped, says_respelled s.pdu (pdu_of c.in_ok-pdu.pdu) text, refl, refl);
    }

pub returns-clause-fits : goal.returns-clause-fits
returns-clause-fits c = whole_fits c.args.datagram.now _ (returns-clause-exact c)

pub returns-clause-list : goal.returns-clause-list
returns-clause-list c = let t = c.in_ok-pdu.ensures.exact.says in (variables_of-again t.variables c.in_ok-pdu.pdu.list.now t.are_bindings).1
