-- Variable bindings: what is read is spelled so, and what is spelled so is read.
use Rattle.std.proofs.Common.{◌≡◌, ℕ, zero, suc, ◌+◌, ◌-◌, ◌≤◌, ◌<◌, ltb, List, [], ◌∷◌, ◌++◌, length, take, drop, Option, Some, None, refl, sym, ap, subst, ◌∙◌, append_assoc, arith}
use Rattle.std.specs.List.{AllByRecursion, flat_map}
use Rattle.std.specs.Prelude.{slice_range, option_map, is_some, true}
use Rattle.std.proofs.lemmas.List.{append-nil, length-append, nil_from_length}
use Rattle.snmp_ber.specs.Element.{Begins}
use Rattle.snmp_ber.specs.Oid.{identifier_in, identifier}
use Rattle.snmp_ber.specs.Reading.{Front, front_of}
use Rattle.snmp_ber.specs.Spelling.{element}
use Rattle.snmp_ber.proofs.Elements.{guard_some, front_of-begun}
use Rattle.snmp_ber.proofs.Identifiers.{identifier-is, identifier-short}
use Rattle.snmp_ber.proofs.ObjectNames.{arcs_from}
use Rattle.snmp_ber.proofs.Oids.{identifier_in-is, identifier_in-again}
use Rattle.snmp_ber.proofs.Spellings.{element-is}
use Rattle.snmp_message.specs.Reading.{element_in}
use Rattle.snmp_msg.specs.declared.binding.VarBind.{VarBind}
use Rattle.snmp_msg.specs.Variables.{Variable, IsBinding, IsReadBinding, variable_with, AreBindings, with_value, binding_in, with_binding, bindings_taken, variables_of, after_variables, VariableFits, AllFit, variable_content, variable_text, variables_text}
use Rattle.snmp_message.proofs.Cuts.{whole_slice}
use Rattle.snmp_message.proofs.Headers.{ended}
use Rattle.snmp_message.proofs.Scopeds.{whole_element}
use Rattle.snmp_message.proofs.Steps.{after_some, same_some, element_in-is, element_in-again, begins_from_element}
use Rattle.snmp_message.proofs.Writes.{element_length}

-- Each number of the list is an octet.
abbrev pub Octets : List ℕ → Type 0
Octets octets = AllByRecursion (λ octet. octet < 256) octets

pub octets_front : (xs ys : List ℕ) → Octets (xs ++ ys) → Octets xs
octets_front [] ys h = tt
octets_front (x ∷ xs) ys h = (h.0, octets_front xs ys h.1)

pub octets_back : (xs ys : List ℕ) → Octets (xs ++ ys) → Octets ys
octets_back [] ys h = h
octets_back (x ∷ xs) ys h = octets_back xs ys h.1

pub octets_take : (n : ℕ) (xs : List ℕ) → Octets xs → Octets (take n xs)
octets_take zero xs h = tt
octets_take (suc n) [] h = tt
octets_take (suc n) (x ∷ xs) h = (h.0, octets_take n xs h.1)

pub octets_drop : (n : ℕ) (xs : List ℕ) → Octets xs → Octets (drop n xs)
octets_drop zero xs h = h
octets_drop (suc n) [] h = tt
octets_drop (suc n) (x ∷ xs) h = octets_drop n xs h.1

-- ---- one binding

read : List ℕ → Front → List ℕ → Variable × List ℕ
read arcs f rest = (record { name = arcs; tag = f.tag; content = f.content }, rest)

-- the octets begin with this binding
pub record StartsWith (octets : List ℕ) (x : Variable × List ℕ) : Type 0 where
  pub text : List ℕ
  pub is_binding : IsBinding text x.0
  pub parts : octets ≡ text ++ x.1

binding_last : (octets : List ℕ) (x : Variable × List ℕ) (whole name f : Front) (arcs : List ℕ) → Octets octets
    → element_in 48 octets ≡ Some whole → element_in 6 whole.content ≡ Some name → identifier_in name.content ≡ Some arcs → front_of name.rest ≡ Some f → with_value arcs whole.rest f ≡ Some x → StartsWith octets x
unfolding read
binding_last octets x whole name f arcs bytes e1 e2 e3 e4 e5 =
    let g = guard_some (ltb 0 (length f.rest)) (Some (read arcs f whole.rest)) x e5 in
    let t1 = element_in-is 48 octets whole e1 in
    let t2 = element_in-is 6 whole.content name e2 in
    let inner : Octets whole.content = octets_front whole.content whole.rest (octets_back t1.head (whole.content ++ whole.rest) (subst Octets t1.parts bytes)) in
    let named : Octets name.content = octets_front name.content name.rest (octets_back t2.head (name.content ++ name.rest) (subst Octets t2.parts inner)) in
    let found : StartsWith octets (read arcs f whole.rest) = record {
      text = t1.head ++ whole.content;
      is_binding = record {
        name = t2.head ++ name.content;
        name_content = name.content;
        is_name = (t2.head, t2.is_head, refl);
        is_identifier = identifier_in-is arcs name.content named e3;
        value = name.rest;
        is_value = whole_element name.rest f e4 (ended f.rest g.0);
        content = whole.content;
        is_whole = (t1.head, t1.is_head, refl);
        joined = t2.parts ∙ sym (append_assoc t2.head name.content name.rest);
      };
      parts = t1.parts ∙ sym (append_assoc t1.head whole.content whole.rest);
    } in
    subst (λ (y : Variable × List ℕ). StartsWith octets y) (same_some (read arcs f whole.rest) x g.1) found

pub binding_in-is : (octets : List ℕ) (x : Variable × List ℕ) → Octets octets → binding_in octets ≡ Some x → StartsWith octets x
unfolding binding_in
binding_in-is octets x bytes e =
    after_some (element_in 48 octets) _ x e (λ whole e1 k1.
    after_some (element_in 6 whole.content) _ x k1 (λ name e2 k2.
    after_some (identifier_in name.content) _ x k2 (λ arcs e3 k3.
    after_some (front_of name.rest) _ x k3 (λ f e4 e5.
    binding_last octets x whole name f arcs bytes e1 e2 e3 e4 e5))))

pub binding_in-again : (v : Variable) (text rest : List ℕ) → IsBinding text v → binding_in (text ++ rest) ≡ Some (v, rest)
unfolding binding_in
binding_in-again v text rest h =
    let r1 = element_in-again (text ++ rest) 48 h.is_whole.0 h.content rest (begins_from_element 48 h.content text rest h.is_whole) in
    let r2 = ap (element_in 6) h.joined ∙ element_in-again (h.name ++ h.value) 6 h.is_name.0 h.name_content h.value (begins_from_element 6 h.name_content h.name h.value h.is_name) in
    let r3 = identifier_in-again v.name h.name_content h.is_identifier in
    let begun : Begins h.value v.tag h.is_value.0 v.content [] = record { is_head = h.is_value.1; parts = h.is_value.2 ∙ ap (λ (r : List ℕ). h.is_value.0 ++ r) (sym (append-nil v.content)) } in
    let r4 = front_of-begun h.value v.tag h.is_value.0 v.content [] begun in
    rw (r1, r2, r3, r4) refl

element_some : (tag : ℕ) (octets : List ℕ) (f : Front) → element_in tag octets ≡ Some f → length f.rest < length octets
element_some tag octets f e =
    let t = element_in-is tag octets f e in
    omega (arith, ap length t.parts, length-append t.head (f.content ++ f.rest), length-append f.content f.rest, ap length t.is_head.parts)

shorter_last : (octets : List ℕ) (x : Variable × List ℕ) (whole f : Front) (arcs : List ℕ) → element_in 48 octets ≡ Some whole → with_value arcs whole.rest f ≡ Some x → length x.1 < length octets
unfolding read
shorter_last octets x whole f arcs e1 e5 =
    let g = guard_some (ltb 0 (length f.rest)) (Some (read arcs f whole.rest)) x e5 in
    subst (λ (y : Variable × List ℕ). length y.1 < length octets) (same_some (read arcs f whole.rest) x g.1) (element_some 48 octets whole e1)

pub binding_in-shorter : (octets : List ℕ) (x : Variable × List ℕ) → binding_in octets ≡ Some x → length x.1 < length octets
unfolding binding_in
binding_in-shorter octets x e =
    after_some (element_in 48 octets) _ x e (λ whole e1 k1.
    after_some (element_in 6 whole.content) _ x k1 (λ name e2 k2.
    after_some (identifier_in name.content) _ x k2 (λ arcs e3 k3.
    after_some (front_of name.rest) _ x k3 (λ f e4 e5.
    shorter_last octets x whole f arcs e1 e5))))

-- ---- as many as the octets begin with

nothing_read : binding_in [] ≡ None
unfolding binding_in element_in front_of
nothing_read = refl

nothing_taken : (n : ℕ) → bindings_taken n [] ≡ ([], [])
unfolding bindings_taken
nothing_taken zero = refl
nothing_taken (suc n) = rw nothing_read refl

same_step : (n m : ℕ) (octets : List ℕ) (o : Option (Variable × List ℕ)) → ((rest : List ℕ) → length rest < length octets → bindings_taken n rest ≡ bindings_taken m rest) → binding_in octets ≡ o → with_binding (bindings_taken n) octets o ≡ with_binding (bindings_taken m) octets o
same_step n m octets None more e = refl
same_step n m octets (Some x) more e = ap (λ (t : List Variable × List ℕ). (x.0 ∷ t.0, t.1)) (more x.1 (binding_in-shorter octets x e))

taken_same : (n m : ℕ) (octets : List ℕ) → length octets ≤ n → length octets ≤ m → bindings_taken n octets ≡ bindings_taken m octets
unfolding bindings_taken
taken_same zero m octets a b =
    let none = nil_from_length octets (omega arith) in
    subst (λ (os : List ℕ). bindings_taken zero os ≡ bindings_taken m os) (sym none) (nothing_taken zero ∙ sym (nothing_taken m))
taken_same (suc n) zero octets a b =
    let none = nil_from_length octets (omega arith) in
    subst (λ (os : List ℕ). bindings_taken (suc n) os ≡ bindings_taken zero os) (sym none) (nothing_taken (suc n) ∙ sym (nothing_taken zero))
taken_same (suc n) (suc m) octets a b = same_step n m octets (binding_in octets) (λ rest l. taken_same n m rest (omega arith) (omega arith)) refl

taken_step : (octets : List ℕ) (n : ℕ) (x : Variable × List ℕ) → binding_in octets ≡ Some x → bindings_taken (suc n) octets ≡ (x.0 ∷ (bindings_taken n x.1).0, (bindings_taken n x.1).1)
unfolding bindings_taken
taken_step octets n x e = ap (with_binding (bindings_taken n) octets) e

taken_stop : (octets : List ℕ) (n : ℕ) → binding_in octets ≡ None → bindings_taken n octets ≡ ([], octets)
unfolding bindings_taken
taken_stop octets zero e = refl
taken_stop octets (suc n) e = ap (with_binding (bindings_taken n) octets) e

-- where no binding begins
pub no_variable : (octets : List ℕ) → binding_in octets ≡ None → (variables_of octets ≡ []) × (after_variables octets ≡ octets)
unfolding variables_of after_variables
no_variable octets e = let t = taken_stop octets (length octets) e in (ap (λ (p : List Variable × List ℕ). p.0) t, ap (λ (p : List Variable × List ℕ). p.1) t)

-- where one begins
pub more_variables : (octets : List ℕ) (x : Variable × List ℕ) → binding_in octets ≡ Some x → (variables_of octets ≡ x.0 ∷ variables_of x.1) × (after_variables octets ≡ after_variables x.1)
unfolding variables_of after_variables
more_variables octets x e =
    let shorter = binding_in-shorter octets x e in
    let n = length octets - 1 in
    let size : length octets ≡ suc n = omega arith in
    let rest = taken_same n (length x.1) x.1 (omega arith) (omega arith) in
    let t = ap (λ (k : ℕ). bindings_taken k octets) size ∙ taken_step octets n x e in (
      ap (λ (p : List Variable × List ℕ). p.0) t ∙ ap (λ (p : List Variable × List ℕ). x.0 ∷ p.0) rest,
      ap (λ (p : List Variable × List ℕ). p.1) t ∙ ap (λ (p : List Variable × List ℕ). p.1) rest,
    )

all_of_step : (n : ℕ) (octets : List ℕ) (o : Option (Variable × List ℕ)) → ((rest : List ℕ) → Octets rest → (bindings_taken n rest).1 ≡ [] → AreBindings (bindings_taken n rest).0 rest) → Octets octets → binding_in octets ≡ o → (with_binding (bindings_taken n) octets o).1 ≡ [] → AreBindings (with_binding (bindings_taken n) octets o).0 octets
all_of_step n octets None more bytes e none = none
all_of_step n octets (Some x) more bytes e none =
    let s = binding_in-is octets x bytes e in
    (s.text, x.1, s.is_binding, s.parts, more x.1 (octets_back s.text x.1 (subst Octets s.parts bytes)) none)

all_taken : (n : ℕ) (octets : List ℕ) → Octets octets → (bindings_taken n octets).1 ≡ [] → AreBindings (bindings_taken n octets).0 octets
unfolding bindings_taken
all_taken zero octets bytes none = none
all_taken (suc n) octets bytes none = all_of_step n octets (binding_in octets) (all_taken n) bytes refl none

-- What is read is a list of bindings.
pub variables_of-is : (octets : List ℕ) → Octets octets → after_variables octets ≡ [] → AreBindings (variables_of octets) octets
unfolding variables_of after_variables
variables_of-is octets bytes none = all_taken (length octets) octets bytes none

-- A list of bindings is read as these.
pub variables_of-again : (vs : List Variable) (octets : List ℕ) → AreBindings vs octets → (variables_of octets ≡ vs) × (after_variables octets ≡ [])
variables_of-again [] octets h =
    let n = no_variable octets (ap binding_in h ∙ nothing_read) in
    (n.0, n.1 ∙ h)
variables_of-again (v ∷ vs) octets (text, rest, is, parts, others) =
    let begun : binding_in octets ≡ Some (v, rest) = ap binding_in parts ∙ binding_in-again v text rest is in
    let m = more_variables octets (v, rest) begun in
    let next = variables_of-again vs rest others in
    (m.0 ∙ ap (λ (ws : List Variable). v ∷ ws) next.0, m.1 ∙ next.1)

-- A list has one list of variables.
pub one_list : (vs ws : List Variable) (octets : List ℕ) → AreBindings vs octets → AreBindings ws octets → vs ≡ ws
one_list vs ws octets h k = sym (variables_of-again vs octets h).0 ∙ (variables_of-again ws octets k).0

-- what is left where only that is reported
pub none_skipped : (o : Option (Variable × List ℕ)) → None ≡ option_map (λ (x : Variable × List ℕ). x.1) o → o ≡ None
none_skipped None e = refl
none_skipped (Some x) e = absurd cc

pub one_skipped : (o : Option (Variable × List ℕ)) (after : List ℕ) → Some after ≡ option_map (λ (x : Variable × List ℕ). x.1) o → (v : Variable) × (o ≡ Some (v, after))
one_skipped None after e = absurd cc
one_skipped (Some x) after e = (x.0, let is : x.1 ≡ after = cc in ap (λ (rest : List ℕ). Some (x.0, rest)) is)

-- Where none is read, none begins.
pub none_begins : (octets : List ℕ) → binding_in octets ≡ None → (v : Variable) (text rest : List ℕ) → IsBinding text v → octets ≡ text ++ rest → ⊥
none_begins octets none v text rest is parts = let begun : binding_in octets ≡ Some (v, rest) = ap binding_in parts ∙ binding_in-again v text rest is in let never = sym none ∙ begun in cc

-- What is read, with its places.
pub places_read : (octets rest : List ℕ) (b : VarBind) → Octets octets → Octets b.name.content.now → is_some (identifier_in b.name.content.now) ≡ true → option_map (variable_with b rest) (identifier_in b.name.content.now) ≡ binding_in octets → IsReadBinding octets rest b
places_read octets rest b bytes name named says = by (identifier_in b.name.content.now) refl named says
  where
    by : (o : Option (List ℕ)) → identifier_in b.name.content.now ≡ o → is_some o ≡ true → option_map (variable_with b rest) o ≡ binding_in octets → IsReadBinding octets rest b
    by None e named says = absurd cc
    by (Some arcs) e named says =
        let s = binding_in-is octets (variable_with b rest arcs) bytes (sym says) in
        record {
          says = (variable_with b rest arcs).0;
          text = s.text;
          is_binding = s.is_binding;
          parts = s.parts;
          name = identifier_in-is arcs b.name.content.now name e;
          tag = refl;
          content = refl;
        }

-- ---- bindings that can be written

binding_fits : (v : Variable) (text : List ℕ) → IsBinding text v → VariableFits v
binding_fits v text h = record { arcs = arcs_from v.name h.name_content h.is_identifier; object_id = h.is_identifier.object_id; is_tag = h.is_value.1.tag_octet }

pub all_fit : (vs : List Variable) (octets : List ℕ) → AreBindings vs octets → AllFit vs
all_fit [] octets h = tt
all_fit (v ∷ vs) octets (text, rest, is, parts, others) = (binding_fits v text is, all_fit vs rest others)

-- ---- the canonical spelling

pub variable_content-length : (v : Variable) → length (variable_content v) ≡ length (element 6 (identifier v.name)) + length (element v.tag v.content)
unfolding variable_content
variable_content-length v = length-append (element 6 (identifier v.name)) (element v.tag v.content)

-- a value is no longer than its binding
pub variable_text-longer : (v : Variable) → (length v.content ≤ length (variable_content v)) × (length (variable_content v) ≤ length (variable_text v))
unfolding variable_text
variable_text-longer v = (omega (arith, variable_content-length v, element_length v.tag v.content), element_length 48 (variable_content v))

variable_text-is : (v : Variable) → VariableFits v → length (variable_text v) < 4294967296 → IsBinding (variable_text v) v
unfolding variable_text variable_content
variable_text-is v fits size =
    let longer = variable_text-longer v in
    let short = identifier-short v.name fits.arcs.most in
    record {
      name = element 6 (identifier v.name);
      name_content = identifier v.name;
      is_name = element-is 6 (identifier v.name) (λ e. absurd cc) (omega arith);
      is_identifier = identifier-is v.name fits.arcs fits.object_id;
      value = element v.tag v.content;
      is_value = element-is v.tag v.content fits.is_tag (omega (arith, longer.0, longer.1, size));
      content = element 6 (identifier v.name) ++ element v.tag v.content;
      is_whole = element-is 48 (element 6 (identifier v.name) ++ element v.tag v.content) (λ e. absurd cc) (omega (arith, longer.1, size));
      joined = refl;
    }

pub variables_text-is : (vs : List Variable) → AllFit vs → length (variables_text vs) < 4294967296 → AreBindings vs (variables_text vs)
unfolding variables_text
variables_text-is [] fit size = refl
variables_text-is (v ∷ vs) fit size =
    let sizes = length-append (variable_text v) (flat_map variable_text vs) in
    (variable_text v, flat_map variable_text vs, variable_text-is v fit.0 (omega arith), refl, variables_text-is vs fit.1 (omega arith))

-- ---- places

pub octets_slice : (xs : List ℕ) (i j : ℕ) → Octets xs → Octets (slice_range xs i j)
octets_slice xs i j h = octets_take (j - i) (drop i xs) (octets_drop i xs h)

pub nothing_after : (octets : List ℕ) → length octets ≡ 0 → after_variables octets ≡ []
nothing_after octets none = let is = nil_from_length octets none in ap after_variables is ∙ (variables_of-again [] [] refl).1

abbrev pub found : Variable → List ℕ → Option (Variable × List ℕ)
found v rest = Some (v, rest)

-- the bindings that are left after one was read
pub left_after : (rest : List ℕ) (v : Variable) (after : ℕ) → found v (slice_range rest after (length rest)) ≡ binding_in (slice_range rest 0 (length rest)) → variables_of rest ≡ v ∷ variables_of (slice_range rest after (length rest))
left_after rest v after e = (more_variables rest (v, slice_range rest after (length rest)) (ap binding_in (sym (whole_slice rest)) ∙ sym e)).0

pub list_fits : (octets : List ℕ) → Octets octets → after_variables octets ≡ [] → AllFit (variables_of octets)
list_fits octets bytes none = all_fit (variables_of octets) octets (variables_of-is octets bytes none)
