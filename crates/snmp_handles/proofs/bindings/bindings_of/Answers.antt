use Rattle.std.proofs.Common.{◌≡◌, ◌<◌, ◌++◌, ℕ, List, [], ◌∷◌, Option, Some, None, length, map, slice_range, refl, sym, subst, ap, ◌∙◌, append_assoc, arith, rules}
use Rattle.std.specs.Prelude.{is_some}
use Rattle.std.proofs.lemmas.List.{map-append}
use Rattle.std.proofs.lemmas.List.Elements.{All-push}
use Rattle.std.proofs.lemmas.List.Edits.{length-between}
use Rattle.snmp_ber.specs.Element.{IsTag, IsElement}
use Rattle.snmp_ber.proofs.Oids.{identifier_in-again}
use Rattle.snmp_msg.specs.Variables.{Variable, IsBinding, IsReadBinding, AreBindings, bound_variable}
use Rattle.snmp_msg.specs.declared.variable.VariableBinding.{VariableBinding}
use Rattle.snmp_handles.proofs.bindings.bindings_of.Goals as goal

nothing : (xs : List ℕ) → length xs ≡ 0 → xs ≡ []
nothing [] none = refl
nothing (x ∷ xs) none = absurd (omega (arith, none))

abbrev the_name : Option (List ℕ) → List ℕ
the_name None = []
the_name (Some name) = name

same_variable : (v : Variable) (b : VariableBinding) → v.name ≡ b.name → v.tag ≡ b.tag → v.content ≡ b.content.now → v ≡ bound_variable b
same_variable v b name tag content = rw (← name, ← tag, ← content) refl

tag_of_one : (v : Variable) (text : List ℕ) → IsBinding text v → IsTag v.tag
tag_of_one v text is = is.is_value.1.tag_octet

-- What doesn't begin with a binding isn't bindings, unless it has no octets.
none_begins : (octets : List ℕ) → 0 < length octets → ((v : Variable) (text rest : List ℕ) → IsBinding text v → octets ≡ text ++ rest → ⊥)
    → (vs : List Variable) → AreBindings vs octets → ⊥
none_begins octets some none [] are = absurd (omega (arith, some, ap length are))
none_begins octets some none (v ∷ vs) are = none v are.0 are.1 are.2 are.3

-- The octets after the first binding are bindings.
after_one : ((a b x y : List ℕ) (tag other_tag : ℕ) (content other_content : List ℕ) → IsElement tag content a → IsElement other_tag other_content b → a ++ x ≡ b ++ y → x ≡ y)
    → (octets rest text : List ℕ) (v : Variable) → 0 < length octets → IsBinding text v → octets ≡ text ++ rest
    → (vs : List Variable) → AreBindings vs octets → (others : List Variable) × AreBindings others rest
after_one one octets rest text v some is parts [] are = absurd (omega (arith, some, ap length are))
after_one one octets rest text v some is parts (w ∷ ws) are =
    (ws, subst (λ (octets : List ℕ). AreBindings ws octets) (one are.0 text are.1 rest 48 48 are.2.content is.content are.2.is_whole is.is_whole (sym are.3 ∙ parts)) are.4)

pub loop-place-init : goal.loop-place-init
loop-place-init c =
    let w = c.args.list.now in
    let none : c.in-Ok.bindings.items ≡ [] = c.in-Ok.ensures.items in
    let whole : slice_range w 0 (length w) ≡ w = c.whole_slice.ensures w in
    record {
      within = search rules;
      written = search rules;
      joined = λ vs are. rw none (subst (λ (octets : List ℕ). AreBindings vs octets) whole are);
      back = λ vs are. (vs, subst (λ (octets : List ℕ). AreBindings vs octets) (sym whole) are);
    }

pub returns-in_default-read_binding-clause-fault : goal.returns-in_default-read_binding-clause-fault
returns-in_default-read_binding-clause-fault c = λ vs are.
    let w = c.args.list.now in
    let here = slice_range w c.loop-place.place (length w) in
    let rest = c.loop-place.invariant.back vs are in
    let some : 0 < length here = omega (arith, length-between w c.loop-place.place (length w), c.loop-place-test.true) in
    none_begins here some c.in_default-read_binding.ensures.none rest.0 rest.1

pub loop-place-preserved : goal.loop-place-preserved
loop-place-preserved c =
    let w = c.args.list.now in
    let inv = c.loop-place.invariant in
    let here = slice_range w c.loop-place.place (length w) in
    let after = slice_range w c.in-Ok-read_binding.found.end (length w) in
    let read : IsReadBinding here after c.in-Ok-read_binding.found = c.in-Ok-read_binding.ensures.found in
    let name : c.of_content.result ≡ read.says.name = ap the_name (c.of_content.ensures.exact ∙ identifier_in-again read.says.name c.in-Ok-read_binding.found.name.content.now read.name) in
    let b : VariableBinding = record { name = c.of_content.result; tag = c.in-Ok-read_binding.found.value.tag; content = c.in-Ok-read_binding.found.value.content } in
    let items : c.push.new.self.items ≡ c.loop-place.bindings.items ++ b ∷ [] = search rules in
    let says : read.says ≡ bound_variable b = same_variable read.says b (sym name) read.tag read.content in
    let is : IsBinding read.text (bound_variable b) = subst (λ (v : Variable). IsBinding read.text v) says read.is_binding in
    let some : 0 < length here = omega (arith, length-between w c.loop-place.place (length w), c.loop-place-test.true) in
    record {
      within = c.in-Ok-read_binding.ensures.ordered.2;
      written = rw items (All-push (λ (x : VariableBinding). IsTag x.tag) c.loop-place.bindings.items b inv.written (tag_of_one (bound_variable b) read.text is));
      joined = λ vs are.
          let more : AreBindings (map bound_variable c.loop-place.bindings.items ++ bound_variable b ∷ vs) w = inv.joined (bound_variable b ∷ vs) (read.text, after, is, read.parts, are) in
          let same : map bound_variable (c.loop-place.bindings.items ++ b ∷ []) ++ vs ≡ map bound_variable c.loop-place.bindings.items ++ bound_variable b ∷ vs
          = ap (λ (xs : List Variable). xs ++ vs) (map-append bound_variable c.loop-place.bindings.items (b ∷ [])) ∙ append_assoc (map bound_variable c.loop-place.bindings.items) (bound_variable b ∷ []) vs in
          rw items (subst (λ (xs : List Variable). AreBindings xs w) (sym same) more);
      back = λ vs are.
          let rest = inv.back vs are in
          after_one (λ a b x y t u m n p q e. (c.one_element.ensures.one a b x y t u m n p q e).3) here after read.text read.says some read.is_binding read.parts rest.0 rest.1;
    }

pub returns-clause-all : goal.returns-clause-all
returns-clause-all c =
    let w = c.args.list.now in
    let here = slice_range w c.loop-place.place (length w) in
    let none : here ≡ [] = nothing here (omega (arith, length-between w c.loop-place.place (length w), c.loop-place.invariant.within, c.loop-place-test.false)) in
    let all : AreBindings (map bound_variable c.loop-place.bindings.items ++ []) w = c.loop-place.invariant.joined [] none in
    search rules

pub of_content-requires : goal.of_content-requires
of_content-requires c =
    let w = c.args.list.now in
    let read : IsReadBinding (slice_range w c.loop-place.place (length w)) (slice_range w c.in-Ok-read_binding.found.end (length w)) c.in-Ok-read_binding.found = c.in-Ok-read_binding.ensures.found in
    ap is_some (identifier_in-again read.says.name c.in-Ok-read_binding.found.name.content.now read.name)
