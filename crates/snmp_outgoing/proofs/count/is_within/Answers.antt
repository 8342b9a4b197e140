use Rattle.std.proofs.Common.{◌≡◌, length, refl, rules}
use Rattle.snmp_outgoing.specs.declared.count.Outline.{Outline}
use Rattle.snmp_outgoing.proofs.Counting.{within, beyond}
use Rattle.snmp_outgoing.proofs.count.is_within.Goals as goal

pub returns-clause-yes : goal.returns-clause-yes
returns-clause-yes c is vs size =
    let e = c.args.envelope.now in
    let salt : length e.salt ≡ 8 = search rules in
    let o : Outline = record { header = c.header-header.result; security_len = c.security_len.result; front = c.args.front } in
    within c.args.users.now.users e c.args.front.now o c.header-header.ensures refl salt c.security_len.ensures.size c.args.limit vs (c.is_within.ensures.yes is vs size)

pub returns-clause-no : goal.returns-clause-no
returns-clause-no c is vs size =
    let e = c.args.envelope.now in
    let salt : length e.salt ≡ 8 = search rules in
    let o : Outline = record { header = c.header-header.result; security_len = c.security_len.result; front = c.args.front } in
    beyond c.args.users.now.users e c.args.front.now o c.header-header.ensures refl salt c.security_len.ensures.size (c.sealed_size.ensures.least c.args.users.now.users) c.args.limit vs c.requires.limit
    (c.is_within.ensures.no is vs size)
