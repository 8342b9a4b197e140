use Rattle.std.proofs.Common.{◌-◌, drop, take, ap, subst, ◌∙◌}
use Rattle.std.proofs.lemmas.Slice.{between_is}
use Rattle.capture_files.specs.Field.{field16_by}
use Rattle.capture_files.specs.Pcapng.{SayAll, plain_interface}
use Rattle.capture_files.proofs.pcapng.read_interface.Goals as goal

pub returns-clause-found : goal.returns-clause-found
returns-clause-found c = record {
  least = c.if-head-lt20.false;
  most = c.if-head-gt-ROOM.false;
  says = subst (λ o. SayAll c.args.head.order o (plain_interface (field16_by c.args.head.order c.args.front.now 8)) c.read_options.result) (between_is c.args.front.now 16 (c.args.head.size - 4))
      (subst (λ p. SayAll c.args.head.order (take (c.args.head.size - 4 - 16) (drop 16 c.args.front.now)) p c.read_options.result) (c.plain-plain.ensures ∙ ap plain_interface c.read_16_by.ensures) c.read_options.ensures);
}
