use Rattle.std.proofs.Common.{◌≡◌, ◌+◌, ℕ, List, length, arith, sym, subst, ap, ◌∙◌}
use Rattle.snmp_ber.specs.Spelling.{head_size}
use Rattle.snmp_message.specs.Scoped.{ScopedText, contexts_text, scoped_text, contexts_placed}
use Rattle.snmp_message.proofs.Scopeds.{contexts_text-length, scoped_text-size, scoped_text-longer, scoped_text-is}
use Rattle.snmp_message.proofs.scoped.write_scoped.Goals as goal

pub returns-then-max-gt-LARGEST-clause-too_large : goal.returns-then-max-gt-LARGEST-clause-too_large
returns-then-max-gt-LARGEST-clause-too_large c =
    let longer = scoped_text-longer c.args.engine.now c.args.name.now c.args.pdu.now in
    λ _. omega arith

pub returns-then-size-gt-LARGEST-clause-too_large : goal.returns-then-size-gt-LARGEST-clause-too_large
returns-then-size-gt-LARGEST-clause-too_large c =
    let size : c.element_len-size.result ≡ length (scoped_text c.args.engine.now c.args.name.now c.args.pdu.now) =
    c.element_len-size.ensures.size ∙ ap (λ (n : ℕ). head_size n + n) (c.contexts_len.ensures.size ∙ sym (contexts_text-length c.args.engine.now c.args.name.now c.args.pdu.now)) ∙ sym (scoped_text-size c.args.engine.now c.args.name.now c.args.pdu.now) in
    λ _. omega arith

pub returns-in_err-out-clause-memory : goal.returns-in_err-out-clause-memory
returns-in_err-out-clause-memory c =
    let size : c.element_len-size.result ≡ length (scoped_text c.args.engine.now c.args.name.now c.args.pdu.now) =
    c.element_len-size.ensures.size ∙ ap (λ (n : ℕ). head_size n + n) (c.contexts_len.ensures.size ∙ sym (contexts_text-length c.args.engine.now c.args.name.now c.args.pdu.now)) ∙ sym (scoped_text-size c.args.engine.now c.args.name.now c.args.pdu.now) in
    λ _. omega arith

pub returns-clause-size : goal.returns-clause-size
returns-clause-size c =
    let size : c.element_len-size.result ≡ length (scoped_text c.args.engine.now c.args.name.now c.args.pdu.now) =
    c.element_len-size.ensures.size ∙ ap (λ (n : ℕ). head_size n + n) (c.contexts_len.ensures.size ∙ sym (contexts_text-length c.args.engine.now c.args.name.now c.args.pdu.now)) ∙ sym (scoped_text-size c.args.engine.now c.args.name.now c.args.pdu.now) in
    omega (arith, ap length c.in_ok-out.ensures)

pub returns-clause-spelled : goal.returns-clause-spelled
returns-clause-spelled c =
    let engine = c.args.engine.now in
    let name = c.args.name.now in
    let pdu = c.args.pdu.now in
    let size : c.element_len-size.result ≡ length (scoped_text engine name pdu) =
    c.element_len-size.ensures.size ∙ ap (λ (n : ℕ). head_size n + n) (c.contexts_len.ensures.size ∙ sym (contexts_text-length c.args.engine.now c.args.name.now c.args.pdu.now)) ∙ sym (scoped_text-size engine name pdu) in
    subst (λ (text : List ℕ). ScopedText 0 text (contexts_placed (head_size (length (contexts_text engine name pdu))) engine name pdu)) (sym c.in_ok-out.ensures) (scoped_text-is engine name pdu c.requires (omega arith))

pub returns-clause-element : goal.returns-clause-element
returns-clause-element c = let t = returns-clause-spelled c in (t.content, (t.head, t.is_whole, t.whole))
