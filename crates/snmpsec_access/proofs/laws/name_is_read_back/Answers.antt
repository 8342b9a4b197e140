use Rattle.std.proofs.Common.{◌<◌, get_or, arith, subst, sym}
use Rattle.std.proofs.lemmas.List.{get_or_default}
use Rattle.snmpsec_access.proofs.NameTexts as texts
use Rattle.snmpsec_access.proofs.laws.name_is_read_back.Goals as goal

pub returns-clause-read_back : goal.returns-clause-read_back
returns-clause-read_back c =
    let name = c.args.name.now in
    texts.name_read_back name (λ k d h. subst (λ n. n < 256) (sym (get_or_default name k d 0 h)) (omega (arith, c.type_inv.name k)))

pub returns-clause-one_piece : goal.returns-clause-one_piece
returns-clause-one_piece c = texts.name_is_one_piece c.args.name.now
