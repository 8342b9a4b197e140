use Rattle.std.proofs.Common.{All, subst}
use Rattle.snmp_message.specs.Scoped.{Contexts, contexts_of}
use Rattle.snmp_msg.specs.Pdu.{PduParts, PduText, pdu_of}
use Rattle.snmp_msg.specs.Variables.{Variable, variables_of}
use Rattle.snmp_incoming.specs.Answers.{given_of}
use Rattle.snmp_listener.specs.Wanted.{notified_in}
use Rattle.snmp_listener.proofs.wanted.is_in_view.Goals as goal

pub returns : goal.returns
returns c =
    let tables = c.args.tables.now in
    let g = given_of c.args.taken.now in
    let contexts = contexts_of c.scoped-scoped.result in
    let pdu = pdu_of c.pdu-pdu.result in
    let is_pdu = c.pdu-pdu.ensures.is_pdu contexts c.scoped-scoped.ensures in (
      (λ true. record {
        contexts = contexts;
        scoped = c.scoped-scoped.ensures;
        pdu = pdu;
        is_pdu = is_pdu;
        all = c.is_list_seen.ensures.0 true;
      }),
      (λ seen.
          let same = c.one_content.ensures.front g.text seen.contexts contexts seen.scoped c.scoped-scoped.ensures in
          let one = c.one_pdu.ensures.pdu contexts.pdu seen.pdu pdu (subst (λ (x : Contexts). PduText x.pdu seen.pdu) same seen.is_pdu) is_pdu in
          c.is_list_seen.ensures.1
          (subst (λ (p : PduParts). All (λ (v : Variable). notified_in tables g contexts.name v.name) (variables_of p.list)) one
          (subst (λ (x : Contexts). All (λ (v : Variable). notified_in tables g x.name v.name) (variables_of seen.pdu.list)) same seen.all))),
    )
