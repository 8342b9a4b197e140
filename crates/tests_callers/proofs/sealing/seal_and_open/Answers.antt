use Rattle.std.proofs.Common.{◌≤◌, ℕ, List, rules, subst, ◌∙◌}
use Rattle.snmp_message.specs.Layout.{Outer}
use Rattle.usm_users.specs.User.{User}
use Rattle.usm_core.specs.Answers.{verified_of}
use Rattle.usm_core.specs.Sealed.{IsPlaintext, sending}
use Rattle.tests_callers.proofs.sealing.seal_and_open.Goals as goal

pub returns : goal.returns
returns c =
    let l = c.args.letter.now in
    let m = sending l.header l.engine.now c.args.pair l.user.now l.salt l.scoped.now in
    let v = verified_of c.in-Ok-open_auth.checked in
    let boots : c.args.pair.boots ≤ 2147483647 = search rules in
    let time : c.args.pair.time ≤ 2147483647 = search rules in
    let outer = subst (λ (w : List ℕ). Outer w v.parts) c.deref.ensures.value c.in-Ok-open_auth.ensures.read.outer in
    let opened = subst (λ (users : List User). IsPlaintext users v.fields v.parts.data_content c.in-Ok-open_priv.plain.items)
    (c.in-Ok-open_auth.ensures.users ∙ c.requires.same) c.in-Ok-open_priv.ensures.opened in
    c.sealed_is_opened.ensures c.args.sender.now.users m c.in-Ok.octets.items c.in-Ok-open_priv.plain.items v.parts v.fields
    (record { header = c.requires.fits.header; boots = boots; time = time; user = c.requires.fits.user; salt = c.requires.salt; content = c.requires.fits.content; scoped = c.requires.fits.scoped })
    c.requires.privacy c.in-Ok.ensures.rows outer c.in-Ok-open_auth.ensures.read.security opened
