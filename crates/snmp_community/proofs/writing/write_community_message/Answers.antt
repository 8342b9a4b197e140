use Rattle.std.proofs.Common.{ℕ, List, length, arith, sym, subst, ap}
use Rattle.snmp_community.specs.Layout.{IsMessage}
use Rattle.snmp_community.specs.Spelling.{written}
use Rattle.snmp_community.proofs.Writes.{community_text-longer, community_text-is, measured}
use Rattle.snmp_community.proofs.writing.write_community_message.Goals as goal

pub returns-then-max-gt-LARGEST-clause-too_large : goal.returns-then-max-gt-LARGEST-clause-too_large
returns-then-max-gt-LARGEST-clause-too_large c =
    let longer = community_text-longer c.args.version c.args.community.now c.args.pdu.now in
    λ _. omega arith

pub returns-then-size-gt-LARGEST-clause-too_large : goal.returns-then-size-gt-LARGEST-clause-too_large
returns-then-size-gt-LARGEST-clause-too_large c =
    let size = measured c.args.version c.args.community.now c.args.pdu.now c.content_len-content_len.result c.element_len-size.result c.content_len-content_len.ensures.size c.element_len-size.ensures.size in
    λ _. omega arith

pub returns-in_err-out-clause-memory : goal.returns-in_err-out-clause-memory
returns-in_err-out-clause-memory c =
    let size = measured c.args.version c.args.community.now c.args.pdu.now c.content_len-content_len.result c.element_len-size.result c.content_len-content_len.ensures.size c.element_len-size.ensures.size in
    λ _. omega arith

pub returns-clause-size : goal.returns-clause-size
returns-clause-size c =
    let size = measured c.args.version c.args.community.now c.args.pdu.now c.content_len-content_len.result c.element_len-size.result c.content_len-content_len.ensures.size c.element_len-size.ensures.size in
    omega (arith, ap length c.in_ok-out.ensures)

pub returns-clause-spelled : goal.returns-clause-spelled
returns-clause-spelled c =
    let v = c.args.version in
    let community = c.args.community.now in
    let pdu = c.args.pdu.now in
    let size = measured v community pdu c.content_len-content_len.result c.element_len-size.result c.content_len-content_len.ensures.size c.element_len-size.ensures.size in
    subst (λ (text : List ℕ). IsMessage text (written v community pdu)) (sym c.in_ok-out.ensures) (community_text-is v community pdu c.requires (omega arith))
