use Rattle.snmp_message.specs.Message.{parts}
use Rattle.snmp_message.specs.Scoped.{HasScoped, HasSealed, contexts_of}
use Rattle.diagnose_text.proofs.Unreads.{none_given, none_pdu, none_read, none_sealed, none_scoped}
use Rattle.diagnose_text.proofs.unread.plain_pdu.Goals as goal

pub returns-in_default-clause-none : goal.returns-in_default-clause-none
returns-in_default-clause-none c = none_scoped c.args.datagram.now (parts c.args.message.now) c.one_message.ensures.one c.requires c.in_default.ensures.none.1

pub returns-in_err-scoped-clause-none : goal.returns-in_err-scoped-clause-none
returns-in_err-scoped-clause-none c =
    let m = parts c.args.message.now in
    let sealed : HasSealed m = rw c.in_err-scoped.was at c.in-Ok.ensures.exact in
    none_given c.from_residual.result _ (none_sealed c.args.datagram.now m c.one_message.ensures.one c.one_content.ensures.kind c.requires sealed)

pub returns-clause-none : goal.returns-clause-none
returns-clause-none c =
    let w = c.args.datagram.now in
    let m = parts c.args.message.now in
    let s = contexts_of c.in_ok-scoped.scoped in
    let has : HasScoped w m s = rw c.in_ok-scoped.was at c.in-Ok.ensures.exact in
    let place = rw c.in_ok-scoped.was at c.in-Ok.ensures.place in
    none_read c.read_pdu.result c.ok.result _ _ c.ok.ensures.value (none_pdu w m s _ c.one_message.ensures.one c.one_content.ensures.scoped c.requires has place) c.read_pdu.ensures.none
