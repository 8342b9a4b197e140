use Rattle.std.proofs.Common.{◌≡◌, ◌+◌, ◌<◌, ◌++◌, ℕ, List, [], ◌∷◌, Some, length, slice_range, refl, sym, subst, ap, ◌∙◌, append_assoc, arith, rules}
use Rattle.std.proofs.lemmas.List.{length-append}
use Rattle.std.proofs.lemmas.List.Edits.{length-between}
use Rattle.std.proofs.lemmas.Option.{same_Some}
use Rattle.snmp_ber.specs.Element.{IsElement, Begins}
use Rattle.snmp_ber.specs.Reading.{Front, front_of}
use Rattle.snmp_ber.specs.Tlv.{front_at}
use Rattle.snmp_ber.proofs.Elements.{front_of-begun}
use Rattle.snmp_msg.specs.Variables.{Variable, AreBindings}
use Rattle.snmp_handles.proofs.bindings.outer_count.Goals as goal

begun : (here text more content : List ℕ) (is : IsElement 48 content text) → here ≡ text ++ more → Begins here 48 is.0 content more
begun here text more content is parts = record { is_head = is.1; parts = parts ∙ rw is.2 (append_assoc is.0 content more) }

-- What was read as the first element leaves the octets after the first binding.
after_first : (here text more content : List ℕ) (f : Front) → Some f ≡ front_of here → IsElement 48 content text → here ≡ text ++ more → f.rest ≡ more
after_first here text more content f read is parts =
    let first : Front = record { tag = 48; head_size = length is.0; content = content; rest = more } in
    ap (λ (g : Front). g.rest) (same_Some f first (read ∙ front_of-begun here 48 is.0 content more (begun here text more content is parts)))

one_fewer : (here : List ℕ) (f : Front) → Some f ≡ front_of here → 0 < length here
    → (rest : List Variable) → AreBindings rest here → (others : List Variable) × AreBindings others f.rest × (length rest ≡ length others + 1)
one_fewer here f read some [] are = absurd (omega (arith, some, ap length are))
one_fewer here f read some (v ∷ vs) are =
    (vs, subst (λ (octets : List ℕ). AreBindings vs octets) (sym (after_first here are.0 are.1 are.2.content f read are.2.is_whole are.3)) are.4, omega arith)

-- Nothing is no binding.
none_left : (here : List ℕ) → length here ≡ 0 → (rest : List Variable) → AreBindings rest here → length rest ≡ 0
none_left here none [] are = refl
none_left here none (v ∷ vs) are =
    absurd (omega (arith, none, ap length are.3, length-append are.0 are.1, ap length are.2.is_whole.2, length-append are.2.is_whole.0 are.2.content, ap length are.2.is_whole.1.parts))

pub loop-place-init : goal.loop-place-init
loop-place-init c =
    let w = c.args.list.now in
    record {
      within = search rules;
      few = search rules;
      others = λ vs are. (vs, subst (λ (octets : List ℕ). AreBindings vs octets) (sym (c.whole_slice.ensures w)) are, omega arith);
    }

pub returns-in_default : goal.returns-in_default
returns-in_default c = λ vs are.
    let w = c.args.list.now in
    let here = slice_range w c.loop-place.place (length w) in
    let some : 0 < length here = omega (arith, length-between w c.loop-place.place (length w), c.loop-place-test.true) in
    let left = c.loop-place.invariant.others vs are in
    absurd (nothing_read here some c.in_default.ensures.none left.0 left.1)
  where
    nothing_read : (here : List ℕ) → 0 < length here → ((tag : ℕ) (head content rest : List ℕ) → Begins here tag head content rest → ⊥) → (rest : List Variable) → AreBindings rest here → ⊥
    nothing_read here some none [] are = absurd (omega (arith, some, ap length are))
    nothing_read here some none (v ∷ vs) are = none 48 are.2.is_whole.0 are.2.content are.1 (begun here are.0 are.1 are.2.content are.2.is_whole are.3)

pub loop-place-preserved : goal.loop-place-preserved
loop-place-preserved c =
    let w = c.args.list.now in
    let here = slice_range w c.loop-place.place (length w) in
    let some : 0 < length here = omega (arith, length-between w c.loop-place.place (length w), c.loop-place-test.true) in
    record {
      within = search rules;
      few = search rules;
      others = λ vs are.
          let left = c.loop-place.invariant.others vs are in
          let fewer = one_fewer here (front_at w (length w) c.in-Ok.element) c.in-Ok.ensures.exact some left.0 left.1 in
          (fewer.0, fewer.1, omega (arith, fewer.2, left.2));
    }

pub returns : goal.returns
returns c = λ vs are.
    let w = c.args.list.now in
    let here = slice_range w c.loop-place.place (length w) in
    let none : length here ≡ 0 = omega (arith, length-between w c.loop-place.place (length w), c.loop-place.invariant.within, c.loop-place-test.false) in
    let left = c.loop-place.invariant.others vs are in
    omega (arith, left.2, none_left here none left.0 left.1)
