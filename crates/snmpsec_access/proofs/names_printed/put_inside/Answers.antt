use Rattle.std.proofs.Common.{◌≡◌, ◌++◌, OnOk, ap, sym, ◌∙◌, subst, flat_map, chars}
use Rattle.snmpsec_access.specs.NameText.{escaped, escaped_octet}
use Rattle.snmpsec_access.proofs.NameTexts.{inside_of_text, inside_of_octets}
use Rattle.snmpsec_access.proofs.names_printed.put_inside.Goals as goal

pub returns-in-Ok : goal.returns-in-Ok
returns-in-Ok c =
    let same = ap (λ t. flat_map escaped (chars t)) (c.in-Ok.ensures.cases.0) ∙ inside_of_text c.args.name.now (c.in-Ok.ensures.cases.1) in
    subst (λ t. OnOk c.put_characters.result (c.put_characters.new.out.items ≡ c.args.out.now.items ++ t)) same c.put_characters.ensures

pub returns-in-Err : goal.returns-in-Err
returns-in-Err c =
    let same = inside_of_octets c.args.name.now c.in-Err.ensures.cases.0 in
    subst (λ t. OnOk c.put_octets.result (c.put_octets.new.out.items ≡ c.args.out.now.items ++ t)) same c.put_octets.ensures
