use Rattle.std.proofs.Common.{refl, arith, ap, ◌∙◌, ◌≡◌, ◌++◌, ◌∷◌, []}
use Rattle.std.proofs.lemmas.Grind.{common_steps}
use Rattle.std.proofs.lemmas.Option.{slice_get_read}
use Rattle.snmp_manager.proofs.steps.save.Goals as goal

pub returns-clause-ok : goal.returns-clause-ok
returns-clause-ok c =
    let pushed : c.push.new.self.items ≡ c.args.files.now.items ++ c.in-Ok.octets.items ∷ [] = grind (arith, common_steps) in
    record {
      held = c.index-managers-number.result;
      was = slice_get_read c.args.managers.now _ c.args.number c.index-managers-number.result refl (omega arith) c.index-managers-number.is;
      fits = c.in-Ok.ensures.fits;
      is = pushed ∙ ap (λ f. c.args.files.now.items ++ f ∷ []) c.in-Ok.ensures.text;
    }
