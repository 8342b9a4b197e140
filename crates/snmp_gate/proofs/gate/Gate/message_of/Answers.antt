use Rattle.std.specs.Prelude.{◌≡◌, Some}
use Rattle.std.proofs.Common.{subst, sym}
use Rattle.snmp_incoming.specs.Outcome.{Given}
use Rattle.snmp_gate.specs.Messages.{question_given}
use Rattle.snmp_gate.specs.Question.{Question}
use Rattle.snmp_gate.proofs.gate.Gate.message_of.Goals as goal

pub returns-clause-asks : goal.returns-clause-asks
returns-clause-asks c =
    let client = c.in_ok-to_vec.field-0.items in
    subst (λ (g : Given). (q : Question) × (question_given client g ≡ Some q)) (sym c.in_ok-of.ensures) (c.pdu_of-pdu.ensures.asks client)
