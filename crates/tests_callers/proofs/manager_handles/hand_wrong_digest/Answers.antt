use Rattle.std.proofs.Common.{◌≡◌, Err, subst}
use Rattle.std.specs.Prelude.{⊤}
use Rattle.snmp_message.specs.declared.refusal.Refusal.TheVariants.{WrongDigest}
use Rattle.snmp_handles.specs.Managers.{ManagerTakes}
use Rattle.snmp_handles.specs.declared.fault.CallFault.{CallFault}
use Rattle.snmp_handles.specs.declared.fault.CallFault.TheVariants.{Refused}
use Rattle.tests_callers.proofs.HandleTakes.{wrong_digest}
use Rattle.tests_callers.proofs.manager_handles.hand_wrong_digest.Goals as goal

pub returns-in-Err-Refused-WrongDigest : goal.returns-in-Err-Refused-WrongDigest
returns-in-Err-Refused-WrongDigest c = λ yes.
    let w = c.in-Err-Refused-WrongDigest in
    let is : w.field-0 ≡ Refused WrongDigest = cc (w.field-0-is, w.field-0-0-is) in
    wrong_digest c.args.manager.now c.take.new.self c.args.now c.args.datagram.now (subst (λ (f : CallFault). ManagerTakes {V = ⊤} c.args.manager.now c.args.now c.args.datagram.now (Err f) c.take.new.self) is w.ensures.takes)
