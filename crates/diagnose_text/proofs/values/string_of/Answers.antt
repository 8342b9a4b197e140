use Rattle.std.proofs.Common.{rules, ◌≡◌, ◌∙◌, inl, refl}
use Rattle.diagnose_text.proofs.values.string_of.Goals as goal

pub returns-in_ok-from_str-in-Ok : goal.returns-in_ok-from_str-in-Ok
returns-in_ok-from_str-in-Ok c =
    let same : c.in-Ok.text.now ≡ c.args.content.now = search rules in
    inl (c.in_ok-from_str-in-Ok.field-0, c.in_ok-from_str-in-Ok.ensures.ok ∙ same, refl)
