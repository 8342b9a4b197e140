-- Names of bindings that were read.
use Rattle.std.proofs.Common.{◌≡◌, ℕ, zero, suc, ◌+◌, ◌-◌, ◌*◌, ◌≤◌, Bool, true, false, cond, ltb, eqb, List, [], ◌∷◌, ◌++◌, length, Option, Some, None, refl, sym, ap, subst, ◌∙◌, arith, inl, inr}
use Rattle.std.specs.Prelude.{All, option_and_then}
use Rattle.std.proofs.lemmas.Bool.{cases_lt, ltb-false, le-ltb, lt-ltb}
use Rattle.std.proofs.lemmas.List.Elements.{All-cons, All-head, All-nil, All-tail}
use Rattle.std.proofs.lemmas.Option.{same_Some, option_and_then_some}
use Rattle.snmp_ber.specs.Oid.{IsObjectId, with_first, subidentifiers_in, at_most, arcs_of, identifier_in}
use Rattle.snmp_ber.specs.Reading.{Front, front_of}
use Rattle.snmp_ber.proofs.Elements.{guard_some}
use Rattle.snmp_message.specs.Reading.{element_in}
use Rattle.snmp_message.proofs.Steps.{after_some, same_some}
use Rattle.snmp_msg.specs.Variables.{Variable, with_value, binding_in, with_binding, bindings_taken, variables_of}

nothing_first : (b : Bool) (first : ℕ) (others : List ℕ) → cond b (Some []) None ≡ Some (first ∷ others) → ⊥
nothing_first true first others e = cc e
nothing_first false first others e = cc e

is_first : (n : ℕ) (o : Option (List ℕ)) (first : ℕ) (others : List ℕ) → with_first n o ≡ Some (first ∷ others) → n ≡ first
is_first n None first others e = absurd (cc e)
is_first n (Some ns) first others e = cc

-- the first subidentifier that is read has 32 bits
limited : (octets : List ℕ) (high first : ℕ) (others : List ℕ) → subidentifiers_in high octets ≡ Some (first ∷ others) → first ≤ 4294967295
limited [] high first others e = absurd (nothing_first (eqb high 0) first others e)
limited (octet ∷ octets) high first others e = elim (cases_lt octet 128) [
  | inl lt ↦
      let a = lt-ltb octet 128 lt in
      let n = 128 * high + octet in
      let g = guard_some (ltb 4294967295 n) (with_first n (subidentifiers_in 0 octets)) (first ∷ others) (rw a at e) in
      omega (arith, ltb-false _ _ g.0, is_first n (subidentifiers_in 0 octets) first others g.1)
  | inr le ↦
      let a = le-ltb octet 128 le in
      let n = 128 * high + (octet - 128) in
      let g = guard_some (eqb n 0) (subidentifiers_in n octets) (first ∷ others) (rw a at e) in
      limited octets n first others g.1
]

-- the arcs that a first subidentifier of 32 bits spells
split : (first : ℕ) (others arcs : List ℕ) → first ≤ 4294967295 → arcs_of (first ∷ others) ≡ Some arcs → IsObjectId arcs
split first others arcs limit e = elim (cases_lt first 40) [
  | inl lt ↦
      let a = lt-ltb first 40 lt in
      let made : IsObjectId (0 ∷ first ∷ others) = (omega arith, λ h. lt, omega arith) in
      subst IsObjectId (same_Some (0 ∷ first ∷ others) arcs (rw a at e)) made
  | inr le ↦
      let a = le-ltb first 40 le in
      elim (cases_lt first 80) [
        | inl lt1 ↦
            let b = lt-ltb first 80 lt1 in
            let made : IsObjectId (1 ∷ (first - 40) ∷ others) = (omega arith, λ h. omega arith, omega arith) in
            subst IsObjectId (same_Some (1 ∷ (first - 40) ∷ others) arcs (rw (a, b) at e)) made
        | inr le1 ↦
            let b = le-ltb first 80 le1 in
            let made : IsObjectId (2 ∷ (first - 80) ∷ others) = (omega arith, λ h. omega arith, omega arith) in
            subst IsObjectId (same_Some (2 ∷ (first - 80) ∷ others) arcs (rw (a, b) at e)) made
      ]
]

found : (content ns arcs : List ℕ) → subidentifiers_in 0 content ≡ Some ns → arcs_of ns ≡ Some arcs → IsObjectId arcs
found content [] arcs s e = absurd (cc e)
found content (first ∷ others) arcs s e = split first others arcs (limited content 0 first others s) e

object_id_in : (content arcs : List ℕ) → identifier_in content ≡ Some arcs → IsObjectId arcs
unfolding identifier_in
object_id_in content arcs e =
    option_and_then_some arcs_of (option_and_then (at_most 127) (subidentifiers_in 0 content)) arcs e (λ (short : List ℕ) e1 e2.
    option_and_then_some (at_most 127) (subidentifiers_in 0 content) short e1 (λ (ns : List ℕ) e3 e4.
    let g = guard_some (ltb 127 (length ns)) (Some ns) short e4 in
    found content ns arcs e3 (ap arcs_of (same_Some ns short g.1) ∙ e2)))

named_last : (arcs rest : List ℕ) (f : Front) (x : Variable × List ℕ) → with_value arcs rest f ≡ Some x → arcs ≡ x.0.name
named_last arcs rest f x e =
    let read : Variable × List ℕ = (record { name = arcs; tag = f.tag; content = f.content }, rest) in
    let g = guard_some (ltb 0 (length f.rest)) (Some read) x e in
    ap (λ (y : Variable × List ℕ). y.0.name) (same_some read x g.1)

named_in : (octets : List ℕ) (x : Variable × List ℕ) → binding_in octets ≡ Some x → IsObjectId x.0.name
unfolding binding_in
named_in octets x e =
    after_some (element_in 48 octets) _ x e (λ whole e1 k1.
    after_some (element_in 6 whole.content) _ x k1 (λ name e2 k2.
    after_some (identifier_in name.content) _ x k2 (λ arcs e3 k3.
    after_some (front_of name.rest) _ x k3 (λ f e4 e5.
    subst IsObjectId (named_last arcs whole.rest f x e5) (object_id_in name.content arcs e3)))))

-- the variable has the name of an OBJECT IDENTIFIER
abbrev pub HasObjectId : Variable → Type 0
HasObjectId v = IsObjectId v.name

named_step : (n : ℕ) (octets : List ℕ) (o : Option (Variable × List ℕ)) → ((rest : List ℕ) → All HasObjectId (bindings_taken n rest).0) → binding_in octets ≡ o → All HasObjectId (with_binding (bindings_taken n) octets o).0
named_step n octets None more e = All-nil HasObjectId
named_step n octets (Some x) more e = All-cons HasObjectId x.0 (bindings_taken n x.1).0 (named_in octets x e) (more x.1)

named_taken : (n : ℕ) (octets : List ℕ) → All HasObjectId (bindings_taken n octets).0
unfolding bindings_taken
named_taken zero octets = All-nil HasObjectId
named_taken (suc n) octets = named_step n octets (binding_in octets) (named_taken n) refl

-- Each variable that is read has such a name.
pub all_named : (octets : List ℕ) → All HasObjectId (variables_of octets)
unfolding variables_of
all_named octets = named_taken (length octets) octets

last_named : (done left : List Variable) (v : Variable) → All HasObjectId (done ++ v ∷ left) → IsObjectId v.name
last_named [] left v all = All-head HasObjectId v left all
last_named (w ∷ done) left v all = last_named done left v (All-tail HasObjectId w (done ++ v ∷ left) all)

-- So has one of them.
pub one_named : (octets : List ℕ) (done left : List Variable) (v : Variable) → done ++ v ∷ left ≡ variables_of octets → IsObjectId v.name
one_named octets done left v joined = last_named done left v (subst (All HasObjectId) (sym joined) (all_named octets))
