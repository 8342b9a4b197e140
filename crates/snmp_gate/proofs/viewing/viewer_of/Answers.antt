use Rattle.std.proofs.Common.{ap, refl}
use Rattle.snmp_message.specs.Scoped.{contexts_of}
use Rattle.snmp_incoming.specs.Answers.{given_of}
use Rattle.snmp_gate.specs.Question.{Question}
use Rattle.snmp_gate.proofs.Asked.{asked_with}
use Rattle.snmp_gate.proofs.viewing.viewer_of.Goals as goal

pub returns : goal.returns
returns c client q asked =
    let is = (asked_with client (given_of c.args.taken.now) (contexts_of c.scoped.result) q c.scoped.ensures asked).1 in
    record {
      tables_are = refl;
      model = refl;
      name = ap (λ (x : Question). x.user) is;
      level = ap (λ (x : Question). x.level) is;
      context = ap (λ (x : Question). x.context) is;
    }
