use Rattle.std.proofs.Common.{◌≡◌, ◌+◌, ◌<◌, ◌≤◌, ◌⊎◌, inl, inr, ℕ, List, [], length, map, take, refl, ap, sym, subst, arith, rules}
use Rattle.std.proofs.lemmas.List.{length-map}
use Rattle.snmp_msg.specs.Variables.{Variable}
use Rattle.snmp_msg.proofs.Written.{no_text}
use Rattle.snmp_outgoing.specs.declared.count.Outline.{Outline}
use Rattle.snmp_outgoing.specs.Bodies.{scoped_after}
use Rattle.snmp_outgoing.specs.Sends.{sent_with}
use Rattle.snmp_outgoing.specs.Fronts.{IsWithin, IsBeyond}
use Rattle.snmp_outgoing.proofs.Counting.{within, beyond, scoped_short, contexts_least, take_map}
use Rattle.snmp_outgoing.proofs.count.count_within.Goals as goal

either_long : {engine name scoped text limit : ℕ} → (65507 < engine) ⊎ (65507 < name) → engine ≤ scoped → name ≤ scoped → scoped ≤ text → limit ≤ 65507 → limit < text
either_long (inl long) a b c d = omega (arith, long, a, c, d)
either_long (inr long) a b c d = omega (arith, long, b, c, d)

pub returns-then-max-gt-LARGEST-clause-none : goal.returns-then-max-gt-LARGEST-clause-none
returns-then-max-gt-LARGEST-clause-none g c text sealed =
    let m = sent_with c.args.envelope.now (scoped_after c.args.front.now []) in
    let parts = contexts_least c.args.front.now [] in
    let longer = c.sealed_size.ensures.least c.args.users.now.users m text sealed in
    let long : (65507 < length c.args.front.now.context_engine.now) ⊎ (65507 < length c.args.front.now.context_name.now) = search rules in
    either_long long parts.0 parts.1 longer c.requires.limit

pub returns-then-not-is_within-clause-none : goal.returns-then-not-is_within-clause-none
returns-then-not-is_within-clause-none g c =
    let e = c.args.envelope.now in
    let f = c.args.front.now in
    let salt : length e.salt ≡ 8 = search rules in
    let o : Outline = record { header = c.header-header.result; security_len = c.security_len.result; front = c.args.front } in
    beyond c.args.users.now.users e f o c.header-header.ensures refl salt c.security_len.ensures.size (c.sealed_size.ensures.least c.args.users.now.users) c.args.limit [] c.requires.limit
    (c.if-not-is_within.ensures.no refl [] (ap length no_text))

pub longest-requires-clause-none : goal.longest-requires-clause-none
longest-requires-clause-none g c = c.if-not-is_within.ensures.yes refl [] (ap length no_text)

pub returns-clause-some : goal.returns-clause-some
returns-clause-some g c =
    let says = g.B.Spelled.says in
    let bs = c.args.bindings.now in
    let e = c.args.envelope.now in
    let f = c.args.front.now in
    let users = c.args.users.now.users in
    let n = c.longest.result in
    let limit = c.args.limit in
    let salt : length e.salt ≡ 8 = search rules in
    let o : Outline = record { header = c.header-header.result; security_len = c.security_len.result; front = c.args.front } in
    let all : length (map says bs) ≡ length bs = length-map bs says in
    record {
      most = omega (arith, all, c.longest.ensures.most);
      fits = subst (λ (vs : List Variable). IsWithin users limit (sent_with e (scoped_after f vs))) (sym (take_map says n bs))
          (within users e f o c.header-header.ensures refl salt c.security_len.ensures.size limit (map says (take n bs)) c.longest.ensures.fits);
      longest = λ small. subst (λ (vs : List Variable). IsBeyond users limit (sent_with e (scoped_after f vs))) (sym (take_map says (n + 1) bs))
          (beyond users e f o c.header-header.ensures refl salt c.security_len.ensures.size (c.sealed_size.ensures.least users) limit (map says (take (n + 1) bs)) c.requires.limit
          (c.longest.ensures.longest (omega (arith, small, all))));
    }

pub returns-clause-scoped : goal.returns-clause-scoped
returns-clause-scoped g c =
    let says = g.B.Spelled.says in
    let bs = c.args.bindings.now in
    let e = c.args.envelope.now in
    let f = c.args.front.now in
    let salt : length e.salt ≡ 8 = search rules in
    let o : Outline = record { header = c.header-header.result; security_len = c.security_len.result; front = c.args.front } in
    scoped_short c.args.users.now.users e f o c.header-header.ensures refl salt c.security_len.ensures.size c.args.limit (map says (take c.longest.result bs)) c.longest.ensures.fits
