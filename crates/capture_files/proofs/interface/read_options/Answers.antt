use Rattle.std.proofs.Common.{refl, sym, ◌∙◌}
use Rattle.capture_files.proofs.Options.{next_option}
use Rattle.capture_files.proofs.interface.read_options.Goals as goal

pub loop-rest-preserved : goal.loop-rest-preserved
loop-rest-preserved c =
    next_option _ _ _ _ _ _ _ c.loop-rest.invariant (sym c.has_option.ensures ∙ c.loop-rest-test.true) c.behind_option-rest.ensures c.with_option-interface.ensures

pub returns : goal.returns
returns c = c.loop-rest.invariant 0 _ (sym c.has_option.ensures ∙ c.loop-rest-test.false, refl)
