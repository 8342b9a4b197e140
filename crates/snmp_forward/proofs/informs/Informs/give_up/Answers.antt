use Rattle.snmp_forward.proofs.InformSteps.{gives_up_one}
use Rattle.snmp_forward.proofs.informs.Informs.give_up.Goals as goal

pub returns-clause-happens : goal.returns-clause-happens
returns-clause-happens c = λ before now first_id salt w why stands at due given_up reason.
    gives_up_one c.args.self.now c.remove-waiting.new.self before c.args.place now first_id c.remove-waiting.result w why c.remove-waiting.ensures at due given_up reason stands
