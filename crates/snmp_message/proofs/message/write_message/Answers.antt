use Rattle.std.proofs.Common.{ℕ, List, length, arith, sym, subst, ap}
use Rattle.snmp_message.specs.Layout.{Outer}
use Rattle.snmp_message.specs.Message.{tag_of, content_of}
use Rattle.snmp_message.specs.Spelling.{written}
use Rattle.snmp_message.proofs.Writes.{message_text-is, message_text-longer, measured_message, tag_of-allowed}
use Rattle.snmp_message.proofs.message.write_message.Goals as goal

pub returns-then-max-gt-LARGEST-clause-too_large : goal.returns-then-max-gt-LARGEST-clause-too_large
returns-then-max-gt-LARGEST-clause-too_large c =
    let longer = message_text-longer c.args.header.now c.args.security.now (tag_of c.args.body.now) (content_of c.args.body.now) in
    let content = ap length c.content-content.ensures.value in
    λ _. omega arith

pub returns-then-size-gt-LARGEST-clause-too_large : goal.returns-then-size-gt-LARGEST-clause-too_large
returns-then-size-gt-LARGEST-clause-too_large c =
    let size = measured_message c.args.header.now c.args.security.now (tag_of c.args.body.now) (content_of c.args.body.now) c.message_len-size.result (length c.content-content.result.now) c.message_len-size.ensures.size (ap length c.content-content.ensures.value) in
    λ _. omega arith

pub returns-in_err-out-clause-memory : goal.returns-in_err-out-clause-memory
returns-in_err-out-clause-memory c =
    let size = measured_message c.args.header.now c.args.security.now (tag_of c.args.body.now) (content_of c.args.body.now) c.message_len-size.result (length c.content-content.result.now) c.message_len-size.ensures.size (ap length c.content-content.ensures.value) in
    λ _. omega arith

pub returns-clause-size : goal.returns-clause-size
returns-clause-size c =
    let size = measured_message c.args.header.now c.args.security.now (tag_of c.args.body.now) (content_of c.args.body.now) c.message_len-size.result (length c.content-content.result.now) c.message_len-size.ensures.size (ap length c.content-content.ensures.value) in
    omega (arith, ap length c.in_ok-out.ensures)

pub returns-clause-spelled : goal.returns-clause-spelled
returns-clause-spelled c =
    let h = c.args.header.now in
    let security = c.args.security.now in
    let tag = tag_of c.args.body.now in
    let content = content_of c.args.body.now in
    let size = measured_message h security tag content c.message_len-size.result (length c.content-content.result.now) c.message_len-size.ensures.size (ap length c.content-content.ensures.value) in
    subst (λ (text : List ℕ). Outer text (written h security tag content)) (sym c.in_ok-out.ensures) (message_text-is h security tag content c.requires (tag_of-allowed c.args.body.now) (omega arith))
