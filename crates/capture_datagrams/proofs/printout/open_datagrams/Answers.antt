use Rattle.std.proofs.Common.{◌≡◌, refl, sym, subst}
use Rattle.std.proofs.lemmas.Result.{IfOk-weaker, IfErr-weaker}
use Rattle.capture_datagrams.specs.declared.texts.Told.{Told}
use Rattle.capture_datagrams.specs.Printout.{IsRefusalOf, TellsNoUsers}
use Rattle.capture_datagrams.proofs.Refusals.{refusal_written, refusal_stopped}
use Rattle.capture_datagrams.proofs.printout.open_datagrams.Goals as goal

pub returns-in-Err-Refused-clause-ok : goal.returns-in-Err-Refused-clause-ok
returns-in-Err-Refused-clause-ok g c =
    let refuses = subst (λ (told : Told). IsRefusalOf c.args.config.now told.text.items told.note.items × (told.status ≡ 1)) (sym c.in-Err-Refused.told-is)
    (subst (TellsNoUsers c.args.config.now) c.in-Err-Refused.field-0-is c.in-Err-Refused.ensures.none) in
    IfOk-weaker c.write_told.result _ _ (λ status w. refusal_written _ _ _ _ _ _ _ status refuses refl w.0 w.1 w.2) c.write_told.ensures.ok

pub returns-in-Err-Refused-clause-err : goal.returns-in-Err-Refused-clause-err
returns-in-Err-Refused-clause-err g c =
    let refuses = subst (λ (told : Told). IsRefusalOf c.args.config.now told.text.items told.note.items × (told.status ≡ 1)) (sym c.in-Err-Refused.told-is)
    (subst (TellsNoUsers c.args.config.now) c.in-Err-Refused.field-0-is c.in-Err-Refused.ensures.none) in
    IfErr-weaker c.write_told.result _ _ (λ fault w. refusal_stopped _ _ _ _ _ _ _ fault refuses refl w.0 w.1) c.write_told.ensures.err
