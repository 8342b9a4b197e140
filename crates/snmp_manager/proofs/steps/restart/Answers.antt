use Rattle.std.proofs.Common.{refl}
use Rattle.std.proofs.lemmas.Option.{slice_get_read}
use Rattle.snmp_manager.proofs.steps.restart.Goals as goal

pub returns : goal.returns
returns c = record {
  before = c.index_mut-manager.result.now;
  after = c.restart.new.self;
  was = slice_get_read c.args.managers.now.items _ c.args.number c.index_mut-manager.result.now refl (c.requires) c.index_mut-manager.ensures.value;
  changes = c.restart.ensures.clocks;
  users = c.restart.ensures.users;
  is = refl;
}
