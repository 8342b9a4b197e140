use Rattle.std.proofs.Common.{refl}
use Rattle.std.proofs.lemmas.Option.{slice_get_read}
use Rattle.snmp_manager.proofs.steps.absorb.Goals as goal

pub returns-in-Ok-clause-ok : goal.returns-in-Ok-clause-ok
returns-in-Ok-clause-ok c = record {
  before = c.index_mut-manager.result.now;
  after = c.absorb.new.self;
  was = slice_get_read c.args.managers.now.items _ c.args.number c.index_mut-manager.result.now refl (c.requires) c.index_mut-manager.ensures.value;
  changes = c.in-Ok.ensures.marks;
  users = c.in-Ok.ensures.users;
  is = refl;
}
