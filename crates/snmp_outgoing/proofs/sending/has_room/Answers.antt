use Rattle.std.proofs.Common.{◌≡◌, ◌+◌, ◌≤◌, ℕ, length, map, rules, sym, arith}
use Rattle.usm_core.specs.Sealed.{SendingFits}
use Rattle.snmp_outgoing.specs.Bodies.{contexts_after, scoped_after}
use Rattle.snmp_outgoing.specs.Sends.{sent_with}
use Rattle.snmp_outgoing.proofs.sending.has_room.Goals as goal

pub returns-clause-yes : goal.returns-clause-yes
returns-clause-yes g c is = c.is_within.ensures.yes is (map g.B.Spelled.says c.args.measured.now.bindings.now) (sym c.requires.fits.list)

pub returns-clause-no : goal.returns-clause-no
returns-clause-no g c is = c.is_within.ensures.no is (map g.B.Spelled.says c.args.measured.now.bindings.now) (sym c.requires.fits.list)

pub returns-then-names_len-octets_len-clause-yes : goal.returns-then-names_len-octets_len-clause-yes
returns-then-names_len-octets_len-clause-yes g c is text sealed =
    let e = c.args.envelope.now in
    let vs = map g.B.Spelled.says c.args.measured.now.bindings.now in
    let m = sent_with e (scoped_after c.args.measured.now.front vs) in
    let salt : length e.salt ≡ 8 = search rules in
    let fits : SendingFits m = record {
      header = record { id = e.id_fits; least_size = omega arith; most_size = omega arith; least_model = omega arith; most_model = omega arith };
      boots = c.requires.pair.boots;
      time = c.requires.pair.time;
      user = e.user_fits;
      salt = salt;
      content = contexts_after c.args.measured.now.front vs;
      scoped = c.requires.fits.element;
    } in
    let most = c.sealed_size.ensures.most c.args.users.now.users m text fits sealed in
    let octets : c.octets_len.result ≡ length (scoped_after c.args.measured.now.front vs) = search rules in
    let room : 150 + (length e.engine.now + length e.user.now) + c.octets_len.result ≤ c.args.limit = c.if-names_len-octets_len.true in
    omega (arith, most, octets, room)
