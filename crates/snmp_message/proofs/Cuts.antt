-- Where the contents stand in a datagram.
use Rattle.std.proofs.Common.{◌≡◌, ℕ, ◌+◌, ◌-◌, ◌≤◌, List, ◌++◌, length, take, drop, refl, sym, ap, subst, ◌∙◌, append_assoc, arith}
use Rattle.std.specs.Prelude.{slice_range}
use Rattle.std.proofs.lemmas.List.{take_at, drop_at, length-append, take_all}
use Rattle.snmp_message.specs.Layout.{Parts, Outer}
use Rattle.snmp_message.specs.Security.{Fields, SecText, IsCut}

-- the octets from the first to the last are all of them
pub whole_slice : (xs : List ℕ) → slice_range xs 0 (length xs) ≡ xs
whole_slice xs = let n : length xs - 0 ≡ length xs = omega arith in rw n (take_all (length xs) xs (omega arith))

-- a piece stands at the length of what is in front of it
pub piece_at : (front piece back : List ℕ) (at : ℕ) → length front ≡ at → slice_range (front ++ (piece ++ back)) at (at + length piece) ≡ piece
piece_at front piece back at place =
    let n : (at + length piece) - at ≡ length piece = omega arith in
    rw (n, drop_at front (piece ++ back) at place) (take_at piece back (length piece) refl)

pub security_front : (w : List ℕ) (m : Parts) → Outer w m → List ℕ
security_front w m o = o.head ++ (o.version ++ (o.global ++ o.security_head))

security_parts : (w : List ℕ) (m : Parts) (o : Outer w m) → (w ≡ (o.head ++ (o.version ++ (o.global ++ o.security_head))) ++ (m.security ++ o.data_text)) × (length (o.head ++ (o.version ++ (o.global ++ o.security_head))) ≡ m.security_at)
security_parts w m o = (o.whole ∙ ap (λ (c : List ℕ). o.head ++ c) o.joined ∙ simp append_assoc, simp length-append (sym o.security_place))

pub security_stands : (w : List ℕ) (m : Parts) → Outer w m → (slice_range w m.security_at (m.security_at + length m.security) ≡ m.security) × (m.security_at + length m.security ≤ length w)
security_stands w m o =
    let p = security_parts w m o in
    let front = o.head ++ (o.version ++ (o.global ++ o.security_head)) in (
      subst (λ (text : List ℕ). slice_range text m.security_at (m.security_at + length m.security) ≡ m.security) (sym p.0) (piece_at front m.security o.data_text m.security_at p.1),
      omega (arith, ap length p.0, length-append front (m.security ++ o.data_text), length-append m.security o.data_text, p.1),
    )

-- There is a cut.
pub cut_of : (w : List ℕ) (m : Parts) (s : Fields) (o : Outer w m) (t : SecText m.security_at m.security s) → (front : List ℕ) × (back : List ℕ) × IsCut w m s front back
cut_of w m s o t =
    let p = security_parts w m o in
    let f = t.says in
    let front = (o.head ++ (o.version ++ (o.global ++ o.security_head))) ++ (t.head ++ (f.engine ++ (f.boots ++ (f.time ++ (f.user ++ f.auth_head))))) in
    let back = f.salt ++ o.data_text in
    let inner : m.security ≡ (t.head ++ (f.engine ++ (f.boots ++ (f.time ++ (f.user ++ f.auth_head))))) ++ (s.auth ++ f.salt) = t.whole ∙ ap (λ (c : List ℕ). t.head ++ c) f.joined ∙ simp append_assoc in (
      front,
      back,
      record {
        outer = o;
        security = t;
        parts = p.0 ∙ ap (λ (x : List ℕ). (o.head ++ (o.version ++ (o.global ++ o.security_head))) ++ (x ++ o.data_text)) inner ∙ simp append_assoc;
        place = length-append (o.head ++ (o.version ++ (o.global ++ o.security_head))) (t.head ++ (f.engine ++ (f.boots ++ (f.time ++ (f.user ++ f.auth_head))))) ∙ ap (λ (n : ℕ). n + length (t.head ++ (f.engine ++ (f.boots ++ (f.time ++ (f.user ++ f.auth_head)))))) p.1 ∙ simp length-append (omega (arith, f.auth_place));
      },
    )

-- The pieces of a cut are the octets before, at and after the place.
pub cut_places : (w : List ℕ) (m : Parts) (s : Fields) (front back : List ℕ) → IsCut w m s front back → (front ≡ take s.auth_at w) × (slice_range w s.auth_at (s.auth_at + length s.auth) ≡ s.auth) × (back ≡ drop (s.auth_at + length s.auth) w)
cut_places w m s front back c =
    let whole : w ≡ (front ++ s.auth) ++ back = c.parts ∙ sym (append_assoc front s.auth back) in
    let size : length (front ++ s.auth) ≡ s.auth_at + length s.auth = length-append front s.auth ∙ ap (λ (n : ℕ). n + length s.auth) c.place in (
      sym (ap (take s.auth_at) c.parts ∙ take_at front (s.auth ++ back) s.auth_at c.place),
      subst (λ (text : List ℕ). slice_range text s.auth_at (s.auth_at + length s.auth) ≡ s.auth) (sym c.parts) (piece_at front s.auth back s.auth_at c.place),
      sym (ap (drop (s.auth_at + length s.auth)) whole ∙ drop_at (front ++ s.auth) back (s.auth_at + length s.auth) size),
    )
