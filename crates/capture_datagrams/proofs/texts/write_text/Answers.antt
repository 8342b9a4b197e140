use Rattle.std.proofs.Common.{List, ℕ, subst}
use Rattle.std.proofs.lemmas.Result.{IfOk-weaker, IfErr-weaker}
use Rattle.capture_datagrams.specs.Texts.{IsTextOf}
use Rattle.capture_datagrams.proofs.Tellings.{text_told, text_lost}
use Rattle.capture_datagrams.proofs.texts.write_text.Goals as goal

pub returns-clause-ok : goal.returns-clause-ok
returns-clause-ok g c unread read =
    let told = c.in-Ok-told_of.told in
    let is = subst (λ (t : List ℕ). IsTextOf (g.P.Printer.prints c.args.printer.now) c.text_form-form.result c.args.asked.moment c.args.asked.name.now t told.text.items told.note.items told.status) c.deref.ensures.value c.in-Ok-told_of.ensures in
    let form_is = rw c.text_form-form.ensures at is in
    IfOk-weaker c.write_told.result _ _ (λ status w. text_told _ _ _ _ _ c.in-Ok.text.items told.text.items told.note.items status told.status (c.in-Ok.ensures.all unread read) c.in-Ok.ensures.bound form_is w.0 (w.1, w.2)) c.write_told.ensures.ok

pub returns-clause-err : goal.returns-clause-err
returns-clause-err g c unread read =
    let told = c.in-Ok-told_of.told in
    let is = subst (λ (t : List ℕ). IsTextOf (g.P.Printer.prints c.args.printer.now) c.text_form-form.result c.args.asked.moment c.args.asked.name.now t told.text.items told.note.items told.status) c.deref.ensures.value c.in-Ok-told_of.ensures in
    let form_is = rw c.text_form-form.ensures at is in
    IfErr-weaker c.write_told.result _ _ (λ f w. text_lost _ _ _ _ _ c.in-Ok.text.items told.text.items told.note.items told.status f (c.in-Ok.ensures.all unread read) c.in-Ok.ensures.bound form_is w.0 w.1) c.write_told.ensures.err
