use Rattle.snmp_gate.specs.Waiting.{fresh}
use Rattle.snmp_gate.proofs.Keeping.{stands_later}
use Rattle.snmp_gate.proofs.Sending.{on_ok}
use Rattle.snmp_gate.proofs.gate.Gate.next.Goals as goal

pub returns-in_default-clause-happens : goal.returns-in_default-clause-happens
returns-in_default-clause-happens c = stands_later c.args.now c.args.self.now

pub returns-in-AskAgain-clause-happens : goal.returns-in-AskAgain-clause-happens
returns-in-AskAgain-clause-happens c = on_ok c.ask_again_at.result _ _ (λ sent happens since before later stands. happens since before (fresh c.args.salt c.args.ask_id) later stands) c.ask_again_at.ensures.happens

pub returns-in-GiveUp-clause-happens : goal.returns-in-GiveUp-clause-happens
returns-in-GiveUp-clause-happens c since before later stands = c.give_up_at.ensures.happens since c.args.now before (fresh c.args.salt c.args.ask_id) later stands

pub returns-in-Answer-clause-happens : goal.returns-in-Answer-clause-happens
returns-in-Answer-clause-happens c = on_ok c.answer_at.result _ _ (λ sent happens since before later stands. happens since c.args.ask_id before later stands) c.answer_at.ensures.happens
