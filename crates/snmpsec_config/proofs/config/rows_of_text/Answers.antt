use Rattle.std.proofs.lemmas.Result.{err_from_is_err_and}
use Rattle.snmpsec_config.proofs.Loading.{no_document}
use Rattle.snmpsec_config.proofs.config.rows_of_text.Goals as goal

pub returns-in_err-document-clause-refuses : goal.returns-in_err-document-clause-refuses
returns-in_err-document-clause-refuses c =
    let p = err_from_is_err_and c.from_residual.result c.from_residual.ensures.1 in
    rw (p.1, p.2) (no_document c.args.text.now _ c.in_err-document.ensures.refuses)
