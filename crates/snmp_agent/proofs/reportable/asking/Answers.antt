use Rattle.std.proofs.Common.{rules, ◌≡◌, ℤ, sym, subst, refl, to_z, of_z, w32, SFits}
use Rattle.std.proofs.lemmas.Int.{to_z-of_z}
use Rattle.snmp_message.specs.Message.{parts}
use Rattle.snmp_message.specs.Security.{fields_of}
use Rattle.snmp_agent.specs.Report.{IsCopiedId}
use Rattle.snmp_agent.proofs.Requests.{not_reportable, not_answered}
use Rattle.snmp_agent.proofs.reportable.asking.Goals as goal

pub returns-then-not-layout : goal.returns-then-not-layout
returns-then-not-layout c =
    not_reportable c.args.datagram.now c.one_message.ensures.one (parts c.args.layout.now.message) c.requires.read.outer c.if-not-layout.true

pub returns-in-Some : goal.returns-in-Some
returns-in-Some c =
    let m = parts c.args.layout.now.message in
    let s = fields_of c.args.layout.now.security in
    let fits : SFits w32 c.in-Some.request_id = search rules in
    let round : to_z w32 (of_z w32 c.in-Some.request_id) ≡ c.in-Some.request_id = to_z-of_z w32 c.in-Some.request_id fits in
    record {
      asks = record {
        outer = record { parts = m; is = c.requires.read.outer };
        security = record { fields = s; is = c.requires.read.security };
        reportable = c.if-not-layout.false;
        confirmed = c.in-Some.ensures.confirmed;
      };
      id_is = refl;
      user_is = refl;
      copied = subst (λ (z : ℤ). IsCopiedId c.args.datagram.now m z) (sym round) c.in-Some.ensures.is;
    }

pub returns-in-None : goal.returns-in-None
returns-in-None c =
    not_answered c.args.datagram.now c.one_message.ensures.one (parts c.args.layout.now.message) c.requires.read.outer c.in-None.ensures.0 c.in-None.ensures.1
