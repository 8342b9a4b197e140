use Rattle.std.proofs.Common.{refl, arith, inl, ◌∙◌}
use Rattle.std.proofs.lemmas.Option.{slice_get_read}
use Rattle.snmp_manager.proofs.Worlds.{no_line, file_read}
use Rattle.snmp_manager.proofs.file.read.Goals as goal

pub unreachable-requires : goal.unreachable-requires
unreachable-requires c =
    let at = slice_get_read c.args.files.now _ c.args.number c.index-files-number.result refl (omega arith) c.index-files-number.is in
    let l = c.requires c.args.number c.index-files-number.result at in
    no_line l.marks c.in-Err-Line.field-0 c.in-Err-Line.field-0-0 c.in-Err-Line.field-0-is
    (c.in-Err-Line.ensures.all l.marks (inl (l.fits, c.deref.ensures.value ∙ c.file.view_is ∙ l.is)))

pub returns-in-Ok-clause-ok : goal.returns-in-Ok-clause-ok
returns-in-Ok-clause-ok c =
    let at = slice_get_read c.args.files.now _ c.args.number c.index-files-number.result refl (omega arith) c.index-files-number.is in
    let l = c.requires c.args.number c.index-files-number.result at in
    file_read c.args.files.now c.args.number c.index-files-number.result l c.in-Ok.clocks at (c.in-Ok.ensures.all l.marks (inl (l.fits, c.deref.ensures.value ∙ c.file.view_is ∙ l.is)))
