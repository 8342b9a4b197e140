use Rattle.std.proofs.Common.{ap, rules, sym, subst, ◌∙◌, ◌≡◌}
use Rattle.snmp_message.specs.Layout.{Parts}
use Rattle.snmp_message.specs.Message.{parts}
use Rattle.snmp_message.specs.Security.{Fields, SecText, fields_of}
use Rattle.snmp_listener.proofs.wanted.is_for_manager.Goals as goal

pub returns-in_default : goal.returns-in_default
returns-in_default c = ((λ false. cc false), (λ is. absurd (c.in_default.ensures.none is.parts is.outer)))

pub returns-in_default-read_security : goal.returns-in_default-read_security
returns-in_default-read_security c = ((λ false. cc false), (λ is. absurd (c.in_default-read_security.ensures.none is.parts is.fields is.outer is.security)))

pub returns-then-eq : goal.returns-then-eq
returns-then-eq c = (
  (λ false. cc false),
  (λ is.
      let m = parts c.in-Ok.message in
      let s = fields_of c.in-Ok-read_security.security in
      let same = c.one_message.ensures.one c.args.datagram.now is.parts m is.outer c.in-Ok.ensures.exact in
      let fields = c.one_cut.ensures.one m.security_at m.security is.fields s (subst (λ (p : Parts). SecText p.security_at p.security is.fields) same is.security) c.in-Ok-read_security.ensures.exact in
      let equal : c.in-Ok-read_security.security.engine.now ≡ c.args.engine.now = search rules in
      absurd (is.other (ap (λ (f : Fields). f.engine) fields ∙ equal))),
)

pub returns : goal.returns
returns c =
    let m = parts c.in-Ok.message in
    let s = fields_of c.in-Ok-read_security.security in (
      (λ true. record {
        parts = m;
        outer = c.in-Ok.ensures.exact;
        fields = s;
        security = c.in-Ok-read_security.ensures.exact;
        other = search rules;
        asks_nothing = search rules;
      }),
      (λ is.
          let same = c.one_message.ensures.one c.args.datagram.now is.parts m is.outer c.in-Ok.ensures.exact in
          let clear = sym (ap (λ (p : Parts). p.header.reportable) same) ∙ is.asks_nothing in
          search rules),
    )
