use Rattle.std.proofs.Common.{Bool, MatchBool, sym, subst}
use Rattle.capture_dumps.specs.Dump.{HasDumpOn, HasNoDump}
use Rattle.capture_datagrams.specs.Texts.{IsDumpText, IsPlainText}
use Rattle.capture_datagrams.specs.declared.texts.TextForm.{TextForm}
use Rattle.capture_datagrams.specs.declared.texts.TextForm.TheVariants.{Found}
use Rattle.capture_datagrams.proofs.Dumps.{found_or_not}
use Rattle.capture_datagrams.proofs.texts.are_dumps.Goals as goal

pub returns-in-Found : goal.returns-in-Found
returns-in-Found c =
    let found = found_or_not c.dump_line.result (HasDumpOn c.args.text.now) (HasNoDump c.args.text.now) c.dump_line.ensures in
    subst (λ (f : TextForm). MatchBool c.is_some.result (IsDumpText f c.args.text.now) (IsPlainText f c.args.text.now)) (sym c.in-Found.is)
    (subst (λ (b : Bool). MatchBool b (IsDumpText Found c.args.text.now) (IsPlainText Found c.args.text.now)) (sym c.is_some.ensures) found)
