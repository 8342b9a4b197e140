use Rattle.tests_callers.proofs.BegunHandles.{begin_alike}
use Rattle.tests_callers.proofs.manager_handles.begin_both.Goals as goal

pub returns : goal.returns
returns c = begin_alike c.one_configuration.ensures.users c.a_listing_has_one_map.ensures.saved c.args.config.now c.args.clocks.now c.args.now c.in-Ok.one c.in-Ok-of.other c.in-Ok.ensures c.in-Ok-of.ensures
