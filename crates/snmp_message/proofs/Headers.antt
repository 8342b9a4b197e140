-- msgGlobalData: what is read is spelled so, and what is spelled so is read.
use Rattle.std.proofs.Common.{◌≡◌, ℕ, ◌≤◌, false, ltb, List, [], ◌∷◌, ◌++◌, length, Some, refl, sym, ap, subst, ◌∙◌, append_assoc, arith}
use Rattle.std.proofs.lemmas.Bool.{ltb-false}
use Rattle.std.proofs.lemmas.List.{append-nil, nil_from_length}
use Rattle.snmp_ber.specs.Element.{IsElement}
use Rattle.snmp_ber.proofs.Elements.{guard_some}
use Rattle.snmp_message.specs.Steps.{◌>>=◌}
use Rattle.snmp_message.specs.declared.header.Header.{Header}
use Rattle.snmp_message.specs.Layout.{has_bit, IsGlobal}
use Rattle.snmp_message.specs.Reading.{element_in, number_in, flags_in, with_model, header_of}
use Rattle.snmp_message.proofs.Steps.{bind_some, same_some, element_in-is, element_in-again, begins_from_element, number_in-is, number_in-again}

flags_in-is : (content : List ℕ) (octet : ℕ) → flags_in content ≡ Some octet → content ≡ octet ∷ []
flags_in-is [] octet e = absurd cc
flags_in-is (first ∷ []) octet e = ap (λ (n : ℕ). n ∷ []) (same_some first octet e)
flags_in-is (first ∷ second ∷ octets) octet e = absurd cc

-- nothing is left
pub ended : (rest : List ℕ) → ltb 0 (length rest) ≡ false → rest ≡ []
ended rest h = let none : length rest ≤ 0 = ltb-false _ _ h in nil_from_length rest (omega arith)

made : ℕ → ℕ → ℕ → ℕ → Header
made id max_size octet model = record {
  id = id;
  max_size = max_size;
  auth = has_bit octet 1;
  privacy = has_bit octet 2;
  reportable = has_bit octet 4;
  model = model;
}

pub header_of-is : (content : List ℕ) (h : Header) → header_of content ≡ Some h → IsGlobal h content
unfolding header_of made
header_of-is content h e =
    let id = bind_some (number_in 0 content) (λ id. number_in 484 id.1 >>= λ max_size. element_in 4 max_size.1 >>= λ flags. flags_in flags.content >>= λ octet. number_in 1 flags.rest >>= λ model. with_model id.0 max_size.0 octet model) h e in
    let max_size = bind_some (number_in 484 id.0.1) (λ max_size. element_in 4 max_size.1 >>= λ flags. flags_in flags.content >>= λ octet. number_in 1 flags.rest >>= λ model. with_model id.0.0 max_size.0 octet model) h id.2 in
    let flags = bind_some (element_in 4 max_size.0.1) (λ flags. flags_in flags.content >>= λ octet. number_in 1 flags.rest >>= λ model. with_model id.0.0 max_size.0.0 octet model) h max_size.2 in
    let octet = bind_some (flags_in flags.0.content) (λ octet. number_in 1 flags.0.rest >>= λ model. with_model id.0.0 max_size.0.0 octet model) h flags.2 in
    let model = bind_some (number_in 1 flags.0.rest) (λ model. with_model id.0.0 max_size.0.0 octet.0 model) h octet.2 in
    let g = guard_some (ltb 0 (length model.0.1)) (Some (made id.0.0 max_size.0.0 octet.0 model.0.0)) h model.2 in
    let t1 = number_in-is 0 content id.0 id.1 in
    let t2 = number_in-is 484 id.0.1 max_size.0 max_size.1 in
    let t3 = element_in-is 4 max_size.0.1 flags.0 flags.1 in
    let t4 = number_in-is 1 flags.0.rest model.0 model.1 in
    let flags_text = t3.head ++ flags.0.content in
    let last : model.0.1 ≡ [] = ended model.0.1 g.0 in
    let parts4 : flags.0.rest ≡ t4.0 = t4.2 ∙ ap (λ (r : List ℕ). t4.0 ++ r) last ∙ append-nil t4.0 in
    let parts3 : max_size.0.1 ≡ flags_text ++ t4.0 = t3.parts ∙ sym (append_assoc t3.head flags.0.content flags.0.rest) ∙ ap (λ (r : List ℕ). flags_text ++ r) parts4 in
    let parts2 : id.0.1 ≡ t2.0 ++ (flags_text ++ t4.0) = t2.2 ∙ ap (λ (r : List ℕ). t2.0 ++ r) parts3 in
    let octet_is : flags.0.content ≡ octet.0 ∷ [] = flags_in-is flags.0.content octet.0 octet.1 in
    let is_flags : IsElement 4 (octet.0 ∷ []) flags_text = subst (λ (content : List ℕ). IsElement 4 content flags_text) octet_is (t3.head, t3.is_head, refl) in
    let spelled : IsGlobal (made id.0.0 max_size.0.0 octet.0 model.0.0) content = record {
      id = t1.0;
      is_id = t1.1;
      max_size = t2.0;
      is_max_size = t2.1;
      flags = flags_text;
      octet = octet.0;
      is_flags = is_flags;
      are_flags = record { auth = refl; privacy = refl; reportable = refl };
      model = t4.0;
      is_model = t4.1;
      joined = t1.2 ∙ ap (λ (r : List ℕ). t1.0 ++ r) parts2;
    } in
    subst (λ (x : Header). IsGlobal x content) (same_some (made id.0.0 max_size.0.0 octet.0 model.0.0) h g.1) spelled

pub header_of-again : (h : Header) (content : List ℕ) → IsGlobal h content → header_of content ≡ Some h
unfolding header_of
header_of-again h content g =
    let t1 = number_in-again 0 h.id g.id (g.max_size ++ (g.flags ++ g.model)) g.is_id in
    let t2 = number_in-again 484 h.max_size g.max_size (g.flags ++ g.model) g.is_max_size in
    let t3 = element_in-again (g.flags ++ g.model) 4 g.is_flags.0 (g.octet ∷ []) g.model (begins_from_element 4 (g.octet ∷ []) g.flags g.model g.is_flags) in
    let t4 : number_in 1 g.model ≡ Some (h.model, []) = ap (number_in 1) (sym (append-nil g.model)) ∙ number_in-again 1 h.model g.model [] g.is_model in
    ap header_of g.joined ∙ rw (t1, t2, t3, t4, ← g.are_flags.auth, ← g.are_flags.privacy, ← g.are_flags.reportable) refl
