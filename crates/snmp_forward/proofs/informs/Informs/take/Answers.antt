use Rattle.std.proofs.Common.{refl, subst, ◌/◌, Option, Result}
use Rattle.snmp_incoming.specs.Answers.{given_of}
use Rattle.snmp_incoming.specs.Outcome.{Given}
use Rattle.snmp_message.specs.declared.refusal.Refusal.{Refusal}
use Rattle.snmp_manager.specs.Takes.{Takes}
use Rattle.snmp_forward.proofs.InformAnswers.{receives, refusal_told}
use Rattle.snmp_forward.proofs.InformKeeping.{keeps_all, nothing_happens, still}
use Rattle.snmp_forward.proofs.InformSteps.{with_manager}
use Rattle.snmp_forward.proofs.informs.Informs.take.Goals as goal

pub returns-in-Ok-clause-happens : goal.returns-in-Ok-clause-happens
returns-in-Ok-clause-happens c = λ before stands.
    let old = c.args.self.now in
    let middle = still old (with_manager old c.take.new.self) before refl refl refl refl (keeps_all old.requests) stands in
    receives old c.accept.new.self c.take.new.self before c.args.now c.args.receiver c.args.datagram.now (given_of c.in-Ok.taken) c.in-Ok.ensures.takes c.accept.ensures.same.manager c.accept.result (c.accept.ensures.happens before middle)

pub returns-else-is_memory-clause-happens : goal.returns-else-is_memory-clause-happens
returns-else-is_memory-clause-happens c = λ before stands.
    let old = c.args.self.now in (
      subst (λ (answer : Option (Result Given Refusal)). Takes old.manager (c.args.now / 1000) c.args.datagram.now answer c.take.new.self) (refusal_told c.in-Err.refused.refusal c.if-is_memory.ensures) c.in-Err.ensures.takes,
      record { list = refl; requests = refl; stands = (nothing_happens old _ before refl refl refl refl (keeps_all old.requests) stands).stands },
    )
