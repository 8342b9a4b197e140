use Rattle.std.proofs.Common.{◌≡◌, refl, sym, ◌∙◌, subst, arith}
use Rattle.std.proofs.lemmas.Option.{slice_get_read}
use Rattle.usm_core.specs.Verified.{manager}
use Rattle.snmp_incoming.specs.Answers.{IsPlain}
use Rattle.snmp_manager.specs.Views.{Held}
use Rattle.snmp_manager.specs.Takes.{HoldsAuthentic}
use Rattle.snmp_manager.proofs.steps.take.Goals as goal

pub returns-in-Ok-clause-ok : goal.returns-in-Ok-clause-ok
returns-in-Ok-clause-ok c = record {
  before = c.index_mut-manager.result.now;
  after = c.take_one.new.self;
  was = slice_get_read c.args.managers.now.items _ c.args.number c.index_mut-manager.result.now refl (omega arith) c.index_mut-manager.ensures.value;
  changes = c.in-Ok.ensures.outcome.2.1;
  users = c.in-Ok.ensures.outcome.2.0;
  is = refl;
}

pub returns-in-Err-clause-no_memory : goal.returns-in-Err-clause-no_memory
returns-in-Err-clause-no_memory c = λ held at plain holds.
    let there = slice_get_read c.args.managers.now.items _ c.args.number c.index_mut-manager.result.now refl (omega arith) c.index_mut-manager.ensures.value in
    let both = sym there ∙ at in
    let is : c.index_mut-manager.result.now ≡ held = cc both in
    c.in-Err.ensures.no_memory (subst (λ (h : Held). IsPlain manager h.users c.args.datagram.now) (sym is) plain) (subst (λ (h : Held). HoldsAuthentic h c.args.datagram.now) (sym is) holds)
