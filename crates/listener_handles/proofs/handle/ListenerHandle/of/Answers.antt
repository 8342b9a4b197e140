use Rattle.std.proofs.Common.{arith, refl, sym}
use Rattle.listener_handles.specs.Listeners.{IsInRange}
use Rattle.listener_handles.proofs.Refusing.{refused_so}
use Rattle.listener_handles.proofs.handle.ListenerHandle.of.Goals as goal

pub returns-in_err-rules : goal.returns-in_err-rules
returns-in_err-rules c =
    let s = c.args.settings.now in
    let range : IsInRange s = ((c.in-Some-Some.ensures.0, omega (arith, c.if-settings-gt-MAX_INTEGER32.false)), (c.in-Some-Some.least_level, sym c.in-Some-Some.ensures')) in
    refused_so s c.in-Ok.clocks c.in_err-rules.field-0.0 c.from_residual.result c.from_residual.ensures range c.in-Ok.ensures.read c.in_err-rules.ensures.err

pub returns-in_err-listener_of : goal.returns-in_err-listener_of
returns-in_err-listener_of c =
    let s = c.args.settings.now in
    let range : IsInRange s = ((c.in-Some-Some.ensures.0, omega (arith, c.if-settings-gt-MAX_INTEGER32.false)), (c.in-Some-Some.least_level, sym c.in-Some-Some.ensures')) in
    refused_so s c.in-Ok.clocks c.in_err-listener_of.field-0.0 c.from_residual-in_err-listener_of.result c.from_residual-in_err-listener_of.ensures range c.in-Ok.ensures.read c.in_err-listener_of.ensures.refuses

pub returns : goal.returns
returns c = record {
  engine = (c.in-Some-Some.ensures.0, omega (arith, c.if-settings-gt-MAX_INTEGER32.false));
  least = c.in-Some-Some.least_level;
  is_least = sym c.in-Some-Some.ensures';
  clocks = c.in-Ok.clocks;
  saves = c.in-Ok.ensures.read;
  rules = c.in_ok-rules.rules;
  are_rules = c.in_ok-rules.ensures.ok;
  made_of = c.in_ok-listener_of.ensures.made;
  no_last = refl;
  no_message = refl;
}
