use Rattle.std.proofs.Common.{◌≡◌, inl, inr, ℕ, List, [], length, map, take, refl, sym, subst, arith, rules}
use Rattle.std.specs.Prelude.{Ok, Err}
use Rattle.snmp_message.specs.declared.refusal.Refusal.{Refusal}
use Rattle.snmp_message.specs.Numbers.{in_table}
use Rattle.snmp_msg.specs.Pdu.{IsSpelled}
use Rattle.snmp_msg.specs.Variables.{Variable}
use Rattle.usm_core.specs.Sealed.{Sending, SendingFits, Seals, IsSealable}
use Rattle.snmp_outgoing.specs.Bodies.{pdu_after, scoped_after}
use Rattle.snmp_outgoing.specs.Sends.{sent_with}
use Rattle.snmp_outgoing.specs.Fronts.{IsBeyond, IsWithin, IsLongestFront, SealsFront}
use Rattle.snmp_outgoing.proofs.Levels.{flags_at, level_at}
use Rattle.snmp_outgoing.proofs.Counting.{take_map}
use Rattle.snmp_outgoing.proofs.Refusing.{sealable}
use Rattle.snmp_outgoing.proofs.Fronting.{sealed_text, scoped_is, not_refused, if_each, refused_before, sender_rows, front_refused}
use Rattle.snmp_outgoing.proofs.sending.write_front.Goals as goal

pub returns-in_err-supports-clause-rows : goal.returns-in_err-supports-clause-rows
returns-in_err-supports-clause-rows g c =
    let fault = c.in_err-supports.field-0.0 in
    front_refused c.args.users.now.users c.args.envelope.now c.args.limit (scoped_after c.args.front.now) (map g.B.Spelled.says c.args.bindings.now)
    c.from_residual.result fault c.from_residual.ensures.1
    (sender_rows c.args.users.now.users c.args.envelope.now c.args.limit (scoped_after c.args.front.now) (map g.B.Spelled.says c.args.bindings.now) fault.refusal c.in_err-supports.ensures)

pub returns-in_default-clause-rows : goal.returns-in_default-clause-rows
returns-in_default-clause-rows g c =
    let e = c.args.envelope.now in
    let users = c.args.users.now.users in
    let m = sent_with e (scoped_after c.args.front.now []) in
    let ok : IsSealable users m = sealable users m e.level (flags_at e.level) (level_at e.level e.id e.reportable) c.in_ok-supports.ensures in
    rw c.plain.ensures.refusal (inr (refl, ok, subst (λ (n : ℕ). IsBeyond users n m) c.room.ensures.is c.in_default.ensures.none))

pub returns-clause-rows : goal.returns-clause-rows
returns-clause-rows g c =
    let says = g.B.Spelled.says in
    let bs = c.args.bindings.now in
    let e = c.args.envelope.now in
    let f = c.args.front.now in
    let users = c.args.users.now.users in
    let n = c.in-Some.count in
    let message : List Variable → Sending = λ vs. sent_with e (scoped_after f vs) in
    let longest : IsLongestFront users c.room.result message (map says bs) n = c.in-Some.ensures.some in
    let rows : Seals users (message (take n (map says bs))) (Ok c.in_ok-text.text.items) = subst (λ (vs : List Variable). Seals users (message vs) (Ok c.in_ok-text.text.items)) (sym (take_map says n bs)) c.in_ok-text.ensures.rows in
    let fits = longest.fits c.in_ok-text.text.items (sealed_text users (message (take n (map says bs))) c.in_ok-text.text.items rows) in
    (rows, omega (arith, fits, c.room.ensures.least), subst (λ (k : ℕ). IsLongestFront users k message (map says bs) n) c.room.ensures.is longest)

pub returns-clause-spelled : goal.returns-clause-spelled
returns-clause-spelled g c =
    subst (λ (vs : List Variable). IsSpelled (pdu_after c.args.front.now vs)) (sym (take_map g.B.Spelled.says c.in-Some.count c.args.bindings.now)) c.in_ok-text.ensures.spelled

pub returns-in_err-text-clause-rows : goal.returns-in_err-text-clause-rows
returns-in_err-text-clause-rows g c =
    let says = g.B.Spelled.says in
    let bs = c.args.bindings.now in
    let e = c.args.envelope.now in
    let f = c.args.front.now in
    let users = c.args.users.now.users in
    let n = c.in-Some.count in
    let ws = map says (take n bs) in
    let m = sent_with e (scoped_after f ws) in
    let salt : length e.salt ≡ 8 = search rules in
    let scoped = scoped_is f ws c.in-Some.ensures.scoped in
    let fits : SendingFits m = record {
      header = record { id = e.id_fits; least_size = omega arith; most_size = omega arith; least_model = omega arith; most_model = omega arith };
      boots = c.requires.pair.boots;
      time = c.requires.pair.time;
      user = e.user_fits;
      salt = salt;
      content = scoped.0;
      scoped = scoped.1;
    } in
    let longest : IsLongestFront users c.room.result (λ vs. sent_with e (scoped_after f vs)) (map says bs) n = c.in-Some.ensures.some in
    let within = subst (λ (vs : List Variable). IsWithin users c.room.result (sent_with e (scoped_after f vs))) (take_map says n bs) longest.fits in
    let never : IsSealable users m → (r : Refusal) → Seals users m (Err r) → ⊥ = λ ok.
    (let some = c.some_sealed.ensures users m fits ok in
    let short = within some.0 some.1 in
    not_refused users m ok some.0 some.1 (omega (arith, short, c.room.ensures.most))) in
    let fault = c.in_err-text.field-0.0 in
    front_refused users e c.args.limit (scoped_after f) (map says bs) c.from_residual-in_err-text.result fault c.from_residual-in_err-text.ensures.1
    (if_each (in_table fault.refusal) (Seals users m) (SealsFront users c.args.limit (λ vs. sent_with e (scoped_after f vs)) (map says bs))
    (λ r rows. elim (refused_before users e c.args.limit (scoped_after f) (map says bs) ws r rows) [
      | inl before ↦ inl before
      | inr ok ↦ absurd (never ok r rows)
    ]) c.in_err-text.ensures.rows)
