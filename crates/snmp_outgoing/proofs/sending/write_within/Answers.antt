use Rattle.std.proofs.Common.{◌≡◌, ℕ, length, refl, sym, subst, arith, rules}
use Rattle.std.specs.Prelude.{map, IfSome}
use Rattle.usm_core.specs.Answers.{seal_answer}
use Rattle.usm_core.specs.Sealed.{SendingFits, Seals, IsSealable}
use Rattle.snmp_message.specs.declared.refusal.Refusal.TheVariants.{OutOfMemory, TooLarge}
use Rattle.snmp_message.specs.Refusals.{IsRefused}
use Rattle.snmp_outgoing.specs.Bodies.{contexts_after, scoped_after}
use Rattle.snmp_outgoing.specs.Sends.{sent_with}
use Rattle.snmp_outgoing.specs.Fronts.{IsBeyond, IsWithin}
use Rattle.snmp_outgoing.specs.UpTo.{refuses}
use Rattle.snmp_outgoing.proofs.Levels.{flags_at, level_at}
use Rattle.snmp_outgoing.proofs.Limits.{cut_beyond, cut_within, ok_rows, told_cut}
use Rattle.snmp_outgoing.proofs.Refusing.{sealable, told_user, user_no_memory, too_large}
use Rattle.snmp_outgoing.proofs.Whole.{if_any_ok}
use Rattle.snmp_outgoing.proofs.sending.write_within.Goals as goal

pub returns-in_err-supports-clause-rows : goal.returns-in_err-supports-clause-rows
returns-in_err-supports-clause-rows g c =
    let e = c.args.envelope.now in
    let m = sent_with e (scoped_after c.args.front.now (map g.B.Spelled.says c.args.bindings.now)) in
    told_cut c.args.limit (Seals c.args.users.now.users m) c.from_residual.result c.in_err-supports.field-0.0 c.from_residual.ensures.1
    (told_user c.args.users.now.users m e.level (flags_at e.level) (level_at e.level e.id e.reportable)
    c.from_residual.result c.in_err-supports.field-0.0 c.from_residual.ensures.1 c.in_err-supports.ensures.1 c.in_err-supports.ensures.0)

pub returns-in_err-supports-2-clause-rows : goal.returns-in_err-supports-2-clause-rows
returns-in_err-supports-2-clause-rows g c =
    let e = c.args.envelope.now in
    let m = sent_with e (scoped_after c.args.front.now (map g.B.Spelled.says c.args.bindings.now)) in
    told_cut c.args.limit (Seals c.args.users.now.users m) c.from_residual-in_err-supports-2.result c.in_err-supports-2.field-0.0 c.from_residual-in_err-supports-2.ensures.1
    (told_user c.args.users.now.users m e.level (flags_at e.level) (level_at e.level e.id e.reportable)
    c.from_residual-in_err-supports-2.result c.in_err-supports-2.field-0.0 c.from_residual-in_err-supports-2.ensures.1 c.in_err-supports-2.ensures.1 c.in_err-supports-2.ensures.0)

pub returns-in_err-supports-clause-memory : goal.returns-in_err-supports-clause-memory
returns-in_err-supports-clause-memory g c is =
    let e = c.args.envelope.now in
    let m = sent_with e (scoped_after c.args.front.now (map g.B.Spelled.says c.args.bindings.now)) in
    absurd (user_no_memory c.args.users.now.users m e.level (flags_at e.level) (level_at e.level e.id e.reportable)
    c.from_residual.result c.in_err-supports.field-0.0 c.from_residual.ensures.1 c.in_err-supports.ensures.1 is)

pub returns-in_err-supports-2-clause-memory : goal.returns-in_err-supports-2-clause-memory
returns-in_err-supports-2-clause-memory g c is =
    let e = c.args.envelope.now in
    let m = sent_with e (scoped_after c.args.front.now (map g.B.Spelled.says c.args.bindings.now)) in
    absurd (user_no_memory c.args.users.now.users m e.level (flags_at e.level) (level_at e.level e.id e.reportable)
    c.from_residual-in_err-supports-2.result c.in_err-supports-2.field-0.0 c.from_residual-in_err-supports-2.ensures.1 c.in_err-supports-2.ensures.1 is)

pub returns-in_default-clause-rows : goal.returns-in_default-clause-rows
returns-in_default-clause-rows g c =
    let e = c.args.envelope.now in
    let m = sent_with e (scoped_after c.args.front.now (map g.B.Spelled.says c.args.bindings.now)) in
    rw c.plain.ensures.refusal
    (refuses TooLarge (too_large c.args.users.now.users m e.level (flags_at e.level) (level_at e.level e.id e.reportable) c.in_ok-supports.ensures
    (c.sealed_size.ensures.least c.args.users.now.users m) c.in_default.ensures.none))

pub returns-then-not-has_room-clause-rows : goal.returns-then-not-has_room-clause-rows
returns-then-not-has_room-clause-rows g c =
    let e = c.args.envelope.now in
    let users = c.args.users.now.users in
    let vs = map g.B.Spelled.says c.args.bindings.now in
    let m = sent_with e (scoped_after c.args.front.now vs) in
    let ok : IsSealable users m = sealable users m e.level (flags_at e.level) (level_at e.level e.id e.reportable) c.in_ok-supports-2.ensures in
    let salt : length e.salt ≡ 8 = search rules in
    let scoped = rw (c.in-Some.ensures.front, c.in-Some.ensures.bindings) at c.in-Some.ensures.fits.element in
    let fits : SendingFits m = record {
      header = record { id = e.id_fits; least_size = omega arith; most_size = omega arith; least_model = omega arith; most_model = omega arith };
      boots = c.requires.pair.boots;
      time = c.requires.pair.time;
      user = e.user_fits;
      salt = salt;
      content = contexts_after c.args.front.now vs;
      scoped = scoped;
    } in
    let some = c.some_sealed.ensures users m fits ok in
    let beyond = rw (c.in-Some.ensures.front, c.in-Some.ensures.bindings) at (c.if-not-has_room.ensures.no refl) in
    rw c.plain-then-not-has_room.ensures.refusal
    (cut_beyond users m c.args.limit (c.one_sealed.ensures users m) some.0 some.1 ok (subst (λ (n : ℕ). IsBeyond users n m) c.room.ensures.is beyond))

pub returns-clause-rows : goal.returns-clause-rows
returns-clause-rows g c =
    let e = c.args.envelope.now in
    let users = c.args.users.now.users in
    let vs = map g.B.Spelled.says c.args.bindings.now in
    let m = sent_with e (scoped_after c.args.front.now vs) in
    let rows : IfSome (seal_answer c.seal_of.result) (Seals users m) = search rules in
    let within = rw (c.in-Some.ensures.front, c.in-Some.ensures.bindings) at (c.if-not-has_room.ensures.yes refl) in
    cut_within users m c.args.limit (seal_answer c.seal_of.result) (subst (λ (n : ℕ). IsWithin users n m) c.room.ensures.is within) (omega (arith, c.room.ensures.is, c.room.ensures.least)) rows

pub returns-clause-sealed : goal.returns-clause-sealed
returns-clause-sealed g c =
    let e = c.args.envelope.now in
    let users = c.args.users.now.users in
    let m = sent_with e (scoped_after c.args.front.now (map g.B.Spelled.says c.args.bindings.now)) in
    let rows : IfSome (seal_answer c.seal_of.result) (Seals users m) = search rules in
    ok_rows c.seal_of.result (Seals users m) rows

pub returns-clause-spelled : goal.returns-clause-spelled
returns-clause-spelled g c = if_any_ok c.seal_of.result c.in-Some.ensures.spelled

pub returns-in_err-supports-clause-counted : goal.returns-in_err-supports-clause-counted
returns-in_err-supports-clause-counted g c is =
    let e = c.args.envelope.now in
    let m = sent_with e (scoped_after c.args.front.now (map g.B.Spelled.says c.args.bindings.now)) in
    absurd (user_no_memory c.args.users.now.users m e.level (flags_at e.level) (level_at e.level e.id e.reportable)
    c.from_residual.result c.in_err-supports.field-0.0 c.from_residual.ensures.1 c.in_err-supports.ensures.1 is)

pub returns-in_err-supports-2-clause-counted : goal.returns-in_err-supports-2-clause-counted
returns-in_err-supports-2-clause-counted g c is =
    let e = c.args.envelope.now in
    let m = sent_with e (scoped_after c.args.front.now (map g.B.Spelled.says c.args.bindings.now)) in
    absurd (user_no_memory c.args.users.now.users m e.level (flags_at e.level) (level_at e.level e.id e.reportable)
    c.from_residual-in_err-supports-2.result c.in_err-supports-2.field-0.0 c.from_residual-in_err-supports-2.ensures.1 c.in_err-supports-2.ensures.1 is)

pub returns-clause-counted : goal.returns-clause-counted
returns-clause-counted g c is beyond =
    let e = c.args.envelope.now in
    let users = c.args.users.now.users in
    let vs = map g.B.Spelled.says c.args.bindings.now in
    let m = sent_with e (scoped_after c.args.front.now vs) in
    let memory : IsRefused c.seal_of.result OutOfMemory → IsSealable users m = search rules in
    let ok : IsSealable users m = memory is in
    let salt : length e.salt ≡ 8 = search rules in
    let scoped = rw (c.in-Some.ensures.front, c.in-Some.ensures.bindings) at c.in-Some.ensures.fits.element in
    let fits : SendingFits m = record {
      header = record { id = e.id_fits; least_size = omega arith; most_size = omega arith; least_model = omega arith; most_model = omega arith };
      boots = c.requires.pair.boots;
      time = c.requires.pair.time;
      user = e.user_fits;
      salt = salt;
      content = contexts_after c.args.front.now vs;
      scoped = scoped;
    } in
    let some = c.some_sealed.ensures users m fits ok in
    let within = subst (λ (n : ℕ). IsWithin users n m) c.room.ensures.is (rw (c.in-Some.ensures.front, c.in-Some.ensures.bindings) at (c.if-not-has_room.ensures.yes refl)) in
    let short = within some.0 some.1 in
    let long = beyond some.0 some.1 in
    absurd (omega (arith, short, long))
