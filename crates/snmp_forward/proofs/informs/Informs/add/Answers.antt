use Rattle.std.proofs.Common.{refl, inl, length}
use Rattle.snmp_forward.proofs.InformKeeping.{begins_well, comes, few_of}
use Rattle.snmp_forward.proofs.informs.Informs.add.Goals as goal

pub returns-clause-happens : goal.returns-clause-happens
returns-clause-happens c = λ before stands. record {
  lawful = stands.past;
  stands = comes c.args.self.now _ before c.args.inform c.new.result refl refl refl refl c.new.ensures.number_is c.in_ok-push.ensures.items (few_of c.args.self.now.most (length c.args.self.now.list.items) (λ full. c.requires.room (inl full)))
      (begins_well c.args.self.now.limits c.args.self.now.requests before c.args.self.now.next c.args.inform c.new.result c.new.ensures) stands;
}
