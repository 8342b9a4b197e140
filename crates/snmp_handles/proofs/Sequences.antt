-- Octets that are one whole SEQUENCE, by what is read at their beginning.
use Rattle.std.proofs.Common.{◌≡◌, ◌≤◌, ℕ, List, [], ◌∷◌, ◌++◌, Bool, true, false, nat_eq, length, Some, MatchBool, refl, sym, ap, subst, ◌∙◌, arith}
use Rattle.std.specs.Prelude.{slice_range}
use Rattle.std.proofs.lemmas.List.{append-nil}
use Rattle.std.proofs.lemmas.List.Edits.{length-between}
use Rattle.std.proofs.lemmas.Bool.{eqb-false, eqb-true}
use Rattle.snmp_ber.specs.Element.{IsElement, Begins}
use Rattle.snmp_ber.specs.Reading.{Front, front_of}
use Rattle.snmp_ber.proofs.Elements.{front_of-begun}
use Rattle.snmp_message.proofs.Scopeds.{whole_element}
use Rattle.snmp_message.proofs.Steps.{same_some}
use Rattle.snmp_handles.specs.Sealings.{IsSequence}

pub begun : (octets : List ℕ) (is : IsSequence octets) → Begins octets 48 is.1.0 is.0 []
begun octets is = record { is_head = is.1.1; parts = is.1.2 ∙ ap (λ (r : List ℕ). is.1.0 ++ r) (sym (append-nil is.0)) }

nothing : (xs : List ℕ) → length xs ≡ 0 → xs ≡ []
nothing [] none = refl
nothing (x ∷ xs) none = absurd (omega (arith, none))

-- They are where the SEQUENCE that they begin with ends with them.
pub by_end : (octets : List ℕ) (f : Front) (end : ℕ) (same : Bool) → f.tag ≡ 48 → end ≤ length octets → f.rest ≡ slice_range octets end (length octets)
    → front_of octets ≡ Some f → nat_eq end (length octets) ≡ same → MatchBool same (IsSequence octets) (IsSequence octets → ⊥)
by_end octets f end true tag within rest read e =
    let last : end ≡ length octets = eqb-true end (length octets) e in
    let none : f.rest ≡ [] = rest ∙ nothing (slice_range octets end (length octets)) (omega (arith, last, length-between octets end (length octets))) in
    (f.content, subst (λ (t : ℕ). IsElement t f.content octets) tag (whole_element octets f read none))
by_end octets f end false tag within rest read e = λ is.
    let made = front_of-begun octets 48 is.1.0 is.0 [] (begun octets is) in
    let none : slice_range octets end (length octets) ≡ [] = sym rest ∙ ap (λ (g : Front). g.rest) (same_some f (record { tag = 48; head_size = length is.1.0; content = is.0; rest = [] }) (sym read ∙ made)) in
    eqb-false end (length octets) e (omega (arith, within, ap length none, length-between octets end (length octets)))
