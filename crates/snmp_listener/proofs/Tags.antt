-- Tags of bindings that were read.
use Rattle.std.specs.Prelude.{ℕ, List, [], ◌∷◌, All, map}
use Rattle.std.proofs.lemmas.List.Elements.{All-cons, All-head, All-nil, All-tail}
use Rattle.snmp_ber.specs.Element.{IsTag}
use Rattle.snmp_msg.specs.Variables.{AreBindings, Variable, bound_variable}
use Rattle.snmp_msg.specs.declared.variable.VariableBinding.{VariableBinding}

tags : (vs : List Variable) (octets : List ℕ) → AreBindings vs octets → All (λ (v : Variable). IsTag v.tag) vs
tags [] octets are = All-nil (λ (v : Variable). IsTag v.tag)
tags (v ∷ vs) octets are = All-cons (λ (w : Variable). IsTag w.tag) v vs are.2.is_value.1.tag_octet (tags vs are.1 are.4)

unmapped : (bs : List VariableBinding) → All (λ (v : Variable). IsTag v.tag) (map bound_variable bs) → All (λ (b : VariableBinding). IsTag b.tag) bs
unmapped [] all = All-nil (λ (b : VariableBinding). IsTag b.tag)
unmapped (b ∷ bs) all =
    All-cons (λ (c : VariableBinding). IsTag c.tag) b bs (All-head (λ (v : Variable). IsTag v.tag) (bound_variable b) (map bound_variable bs) all)
    (unmapped bs (All-tail (λ (v : Variable). IsTag v.tag) (bound_variable b) (map bound_variable bs) all))

pub tags_of : (bs : List VariableBinding) (octets : List ℕ) → AreBindings (map bound_variable bs) octets → All (λ (b : VariableBinding). IsTag b.tag) bs
tags_of bs octets are = unmapped bs (tags (map bound_variable bs) octets are)
