use Rattle.std.proofs.Common.{◌≡◌, ℕ, ◌+◌, ◌≤◌, ◌++◌, take, drop, arith, length, List, Option, Some, None, sym, ap, subst}
use Rattle.snmp_message.specs.Message.{parts}
use Rattle.snmp_message.specs.Security.{Fields, SecText, IsCut, security_in, fields_of}
use Rattle.snmp_message.proofs.Cuts.{security_stands, cut_of, cut_places}
use Rattle.snmp_message.proofs.Outers.{one_outer}
use Rattle.std.proofs.lemmas.List.{length-append}
use Rattle.snmp_message.specs.Layout.{Parts, Outer}
use Rattle.snmp_message.proofs.Securities.{security_in-is, security_in-again}
use Rattle.snmp_message.proofs.security.read_security.Goals as goal

pub returns-in-Ok-clause-exact : goal.returns-in-Ok-clause-exact
returns-in-Ok-clause-exact c =
    let m = parts c.args.message.now in
    let here = security_stands c.args.datagram.now m c.requires in
    let read : security_in (m.security_at + length m.security) m.security ≡ Some (fields_of c.in-Ok.security) =
    subst (λ (x : List ℕ). security_in (m.security_at + length m.security) x ≡ Some (fields_of c.in-Ok.security)) here.0 (sym c.in-Ok.ensures) in
    security_in-is m.security_at m.security (fields_of c.in-Ok.security) read

none_some : (o : Option Fields) (s : Fields) → o ≡ None → o ≡ Some s → ⊥
none_some o s e h = cc

no_security : (c : goal.After-result-1) (s : Fields) → SecText (parts c.args.message.now).security_at (parts c.args.message.now).security s → ⊥
no_security c s t =
    let m = parts c.args.message.now in
    let here = security_stands c.args.datagram.now m c.requires in
    let read : security_in (m.security_at + length m.security) m.security ≡ None =
    subst (λ (x : List ℕ). security_in (m.security_at + length m.security) x ≡ None) here.0 (sym c.in-Err.ensures) in
    none_some (security_in (m.security_at + length m.security) m.security) s read (security_in-again m.security_at m.security s t)

pub returns-in-Err-clause-exact : goal.returns-in-Err-clause-exact
returns-in-Err-clause-exact c = no_security c

the_cut : (w : List ℕ) (m : Parts) (s : Fields) → Outer w m → SecText m.security_at m.security s → IsCut w m s (take s.auth_at w) (drop (s.auth_at + length s.auth) w) × (s.auth_at + length s.auth ≤ length w)
the_cut w m s o t =
    let found = cut_of w m s o t in
    let places = cut_places w m s found.0 found.1 found.2 in (
      subst (λ (front : List ℕ). IsCut w m s front (drop (s.auth_at + length s.auth) w)) places.0 (subst (λ (back : List ℕ). IsCut w m s found.0 back) places.2 found.2),
      omega (arith, found.2.place, ap length found.2.parts, length-append found.0 (s.auth ++ found.1), length-append s.auth found.1),
    )

pub returns-in-Ok-clause-cut : goal.returns-in-Ok-clause-cut
returns-in-Ok-clause-cut c = (the_cut c.args.datagram.now (parts c.args.message.now) (fields_of c.in-Ok.security) c.requires (returns-in-Ok-clause-exact c)).0

pub returns-in-Ok-clause-within : goal.returns-in-Ok-clause-within
returns-in-Ok-clause-within c = (the_cut c.args.datagram.now (parts c.args.message.now) (fields_of c.in-Ok.security) c.requires (returns-in-Ok-clause-exact c)).1

pub returns-in-Err-clause-none : goal.returns-in-Err-clause-none
returns-in-Err-clause-none c = λ n s o t.
    let m = parts c.args.message.now in
    let same = one_outer c.args.datagram.now n m o c.requires in
    no_security c s (subst (λ (k : Parts). SecText k.security_at k.security s) same t)

pub returns-in-Ok-clause-field : goal.returns-in-Ok-clause-field
returns-in-Ok-clause-field c =
    let w = c.args.datagram.now in
    let m = parts c.args.message.now in
    let s = fields_of c.in-Ok.security in
    (cut_places w m s (take s.auth_at w) (drop (s.auth_at + length s.auth) w) (returns-in-Ok-clause-cut c)).1
