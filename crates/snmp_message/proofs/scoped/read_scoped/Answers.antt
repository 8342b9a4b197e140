use Rattle.std.proofs.Common.{◌≡◌, true, false, ap, sym, ◌∙◌}
use Rattle.snmp_message.specs.Message.{parts, tag_of, content_of}
use Rattle.snmp_message.specs.Scoped.{HasScoped, contexts_of}
use Rattle.snmp_message.proofs.Scopeds.{scoped_from, scoped_none, pdu_stands}
use Rattle.snmp_message.proofs.scoped.read_scoped.Goals as goal

has_scoped : (c : goal.In-Ok) → HasScoped c.args.datagram.now (parts c.args.message.now) (contexts_of c.in-Ok.scoped)
has_scoped c = (
  c.in-false-Plain.is-0,
  ap tag_of c.in-false-Plain.is-1,
  scoped_from c.args.datagram.now (parts c.args.message.now) c.in-false-Plain.content.now (contexts_of c.in-Ok.scoped) c.requires (ap content_of c.in-false-Plain.is-1) (sym c.in-Ok.ensures.value),
)

pub returns-in-Ok-clause-exact : goal.returns-in-Ok-clause-exact
returns-in-Ok-clause-exact c = has_scoped c

pub returns-in-Ok-clause-within : goal.returns-in-Ok-clause-within
returns-in-Ok-clause-within c = (pdu_stands c.args.datagram.now (parts c.args.message.now) (contexts_of c.in-Ok.scoped) c.requires (has_scoped c)).0

pub returns-in-Ok-clause-place : goal.returns-in-Ok-clause-place
returns-in-Ok-clause-place c = (pdu_stands c.args.datagram.now (parts c.args.message.now) (contexts_of c.in-Ok.scoped) c.requires (has_scoped c)).1

both : (b : _) → b ≡ false → b ≡ true → ⊥
both b f t = let e : true ≡ false = sym t ∙ f in absurd cc

pub returns-in-Err-clause-exact : goal.returns-in-Err-clause-exact
returns-in-Err-clause-exact c = (
  λ h. both c.args.message.now.header.privacy c.in-false-Plain.is-0 h.0,
  λ s h. scoped_none c.args.datagram.now (parts c.args.message.now) c.in-false-Plain.content.now c.requires (ap content_of c.in-false-Plain.is-1) (sym c.in-Err.ensures.value) s h.2,
)

pub returns-in-Err-clause-none : goal.returns-in-Err-clause-none
returns-in-Err-clause-none c = returns-in-Err-clause-exact c

pub returns-in-Ok-clause-element : goal.returns-in-Ok-clause-element
returns-in-Ok-clause-element c = let t = (has_scoped c).2 in (t.pdu_tag, t.pdu_content, t.is_pdu)
