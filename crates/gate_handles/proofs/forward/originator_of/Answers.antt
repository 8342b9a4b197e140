use Rattle.std.proofs.Common.{◌∙◌, subst}
use Rattle.gate_handles.specs.Forwards.{AreNewInforms}
use Rattle.gate_handles.proofs.forward.originator_of.Goals as goal

pub returns : goal.returns
returns c = record {
  forwarder = rw c.new.ensures.forwarder c.in_ok-forwarder.ensures.made;
  none_wait = rw c.new.ensures.forwarder c.in_ok-forwarder.ensures.none_wait;
  informs = rw c.new.ensures.informs (subst (λ e. AreNewInforms e c.args.users.users c.informs_of.result) (c.copy-own.ensures ∙ c.requires.engine) c.informs_of.ensures);
}
