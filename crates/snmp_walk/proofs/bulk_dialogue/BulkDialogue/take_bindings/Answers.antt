use Rattle.snmp_walk.specs.BulkAnswered.{DialogueSaysSame}
use Rattle.snmp_walk.proofs.BulkAfter.{dialogue_same, on_err}
use Rattle.snmp_walk.proofs.bulk_dialogue.BulkDialogue.take_bindings.Goals as goal

pub returns-in_err-turns-clause-err : goal.returns-in_err-turns-clause-err
returns-in_err-turns-clause-err c = on_err c.from_residual.result (DialogueSaysSame c.args.self.now c.args.self.now) (dialogue_same c.args.self.now)
