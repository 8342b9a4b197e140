-- The outer layout: what is read is spelled so, and what is spelled so is read.
use Rattle.std.proofs.Common.{◌≡◌, ◌≢◌, ◌⊎◌, ℕ, ◌+◌, ◌-◌, ◌<◌, Bool, true, false, cond, eqb, ltb, List, [], ◌++◌, length, take, Option, Some, None, refl, sym, ap, subst, ◌∙◌, append_assoc, arith, inl, inr, ℤ, pos}
use Rattle.std.specs.Prelude.{◌||◌}
use Rattle.std.proofs.lemmas.Bool.{eqb-true}
use Rattle.std.proofs.lemmas.List.{append-nil, length-append}
use Rattle.snmp_ber.specs.Number.{IsInteger32}
use Rattle.snmp_ber.specs.Element.{IsHead, IsElement, Begins}
use Rattle.snmp_ber.specs.Reading.{Front, front_of, integer32_of}
use Rattle.snmp_ber.proofs.Elements.{front_of-is, front_of-begun}
use Rattle.snmp_ber.proofs.Integers.{integer32_of-is, integer32_of-again}
use Rattle.snmp_message.specs.Steps.{◌>>=◌}
use Rattle.snmp_message.specs.declared.header.Header.{Header}
use Rattle.snmp_message.specs.Layout.{IsNumber, IsGlobal, Parts, Outer, WrongVersion}
use Rattle.snmp_message.specs.Reading.{element_in, header_of, version_in, with_data, after_version}
use Rattle.snmp_message.proofs.Steps.{bind_some, same_some, TakesElement, element_in-is, element_in-again, begins_from_element}
use Rattle.snmp_message.proofs.Headers.{header_of-is, header_of-again, ended}
use Rattle.snmp_message.proofs.Lengths.{length_of_six}

-- what was read of the version
pub record TakesVersion (w : List ℕ) (z : ℤ) (others after : List ℕ) : Type 0 where
  pub head : List ℕ
  pub content : List ℕ
  pub is_message : Begins w 48 head content after
  pub version_head : List ℕ
  pub version_content : List ℕ
  pub is_version : Begins content 2 version_head version_content others
  pub is_number : IsInteger32 z version_content

begins : (tag : ℕ) (octets : List ℕ) (f : Front) (t : TakesElement tag octets f) → Begins octets tag t.head f.content f.rest
begins tag octets f t = record { is_head = t.is_head; parts = t.parts }

pub version_in-is : (w : List ℕ) (z : ℤ) (others after : List ℕ) → version_in w ≡ Some (z, others, after) → TakesVersion w z others after
unfolding version_in
version_in-is w z others after e =
    let answer : ℤ × List ℕ × List ℕ = (z, others, after) in
    let whole = bind_some (element_in 48 w) (λ whole. element_in 2 whole.content >>= λ version. integer32_of version.content >>= λ z. Some (z, version.rest, whole.rest)) answer e in
    let version = bind_some (element_in 2 whole.0.content) (λ version. integer32_of version.content >>= λ z. Some (z, version.rest, whole.0.rest)) answer whole.2 in
    let number = bind_some (integer32_of version.0.content) (λ z. Some (z, version.0.rest, whole.0.rest)) answer version.2 in
    let t1 = element_in-is 48 w whole.0 whole.1 in
    let t2 = element_in-is 2 whole.0.content version.0 version.1 in
    let made : ℤ × List ℕ × List ℕ = (number.0, version.0.rest, whole.0.rest) in
    let found : TakesVersion w number.0 version.0.rest whole.0.rest = record {
      head = t1.head;
      content = whole.0.content;
      is_message = begins 48 w whole.0 t1;
      version_head = t2.head;
      version_content = version.0.content;
      is_version = begins 2 whole.0.content version.0 t2;
      is_number = integer32_of-is version.0.content number.0 number.1;
    } in
    subst (λ (v : ℤ × List ℕ × List ℕ). TakesVersion w v.0 v.1 v.2) (same_some made answer number.2) found

pub version_in-again : (w : List ℕ) (z : ℤ) (others after : List ℕ) → TakesVersion w z others after → version_in w ≡ Some (z, others, after)
unfolding version_in
version_in-again w z others after t =
    rw (element_in-again w 48 t.head t.content after t.is_message, element_in-again t.content 2 t.version_head t.version_content others t.is_version, integer32_of-again t.version_content z t.is_number) refl

-- what was read after the version, in a message of this size
pub record TakesRest (size : ℕ) (octets : List ℕ) (m : Parts) : Type 0 where
  pub global : List ℕ
  pub global_content : List ℕ
  pub is_global : IsElement 48 global_content global
  pub says : IsGlobal m.header global_content
  pub security_head : List ℕ
  pub is_security : IsHead 4 (length m.security) security_head
  pub data_text : List ℕ
  pub is_data : IsElement m.data_tag m.data_content data_text
  pub tag_allowed : (m.data_tag ≡ 48) ⊎ (m.data_tag ≡ 4)
  pub joined : octets ≡ global ++ (security_head ++ (m.security ++ data_text))
  pub security_place : m.security_at ≡ size - length data_text - length m.security
  pub data_place : m.data_at ≡ size - length data_text

guard_allowed : (a b c : Bool) (p m : Parts) → cond (a || b) (cond c None (Some p)) None ≡ Some m → ((a ≡ true) ⊎ (b ≡ true)) × (c ≡ false) × (p ≡ m)
guard_allowed true b true p m e = absurd cc
guard_allowed true b false p m e = (inl refl, refl, cc)
guard_allowed false true true p m e = absurd cc
guard_allowed false true false p m e = (inr refl, refl, cc)
guard_allowed false false c p m e = absurd cc

tags_allowed : (tag : ℕ) → (eqb tag 48 ≡ true) ⊎ (eqb tag 4 ≡ true) → (tag ≡ 48) ⊎ (tag ≡ 4)
tags_allowed tag (inl h) = inl (eqb-true tag 48 h)
tags_allowed tag (inr h) = inr (eqb-true tag 4 h)

tests_allowed : (tag : ℕ) → (tag ≡ 48) ⊎ (tag ≡ 4) → (eqb tag 48 || eqb tag 4) ≡ true
tests_allowed tag (inl h) = rw h refl
tests_allowed tag (inr h) = rw h refl

made : ℕ → Header → List ℕ → Front → Parts
made size h security f = record {
  header = h;
  security = security;
  data_tag = f.tag;
  data_content = f.content;
  security_at = size - (f.head_size + length f.content) - length security;
  data_at = size - (f.head_size + length f.content);
}

pub after_version-is : (size : ℕ) (octets : List ℕ) (m : Parts) → after_version size octets ≡ Some m → TakesRest size octets m
unfolding after_version made
after_version-is size octets m e =
    let global = bind_some (element_in 48 octets) (λ global. header_of global.content >>= λ h. element_in 4 global.rest >>= λ security. front_of security.rest >>= λ f. with_data size h security.content f) m e in
    let h = bind_some (header_of global.0.content) (λ h. element_in 4 global.0.rest >>= λ security. front_of security.rest >>= λ f. with_data size h security.content f) m global.2 in
    let security = bind_some (element_in 4 global.0.rest) (λ security. front_of security.rest >>= λ f. with_data size h.0 security.content f) m h.2 in
    let f = bind_some (front_of security.0.rest) (λ f. with_data size h.0 security.0.content f) m security.2 in
    let g = guard_allowed (eqb f.0.tag 48) (eqb f.0.tag 4) (ltb 0 (length f.0.rest)) (made size h.0 security.0.content f.0) m f.2 in
    let t1 = element_in-is 48 octets global.0 global.1 in
    let t3 = element_in-is 4 global.0.rest security.0 security.1 in
    let t4 = front_of-is security.0.rest f.0 f.1 in
    let data_head = take f.0.head_size security.0.rest in
    let data_text = data_head ++ f.0.content in
    let last : f.0.rest ≡ [] = ended f.0.rest g.1 in
    let data_is : security.0.rest ≡ data_text = t4.begins.parts ∙ ap (λ (r : List ℕ). data_head ++ (f.0.content ++ r)) last ∙ ap (λ (r : List ℕ). data_head ++ r) (append-nil f.0.content) in
    let data_size : f.0.head_size + length f.0.content ≡ length data_text = sym (length-append data_head f.0.content ∙ ap (λ (n : ℕ). n + length f.0.content) t4.head_length) in
    let security_is : global.0.rest ≡ t3.head ++ (security.0.content ++ data_text) = t3.parts ∙ ap (λ (r : List ℕ). t3.head ++ (security.0.content ++ r)) data_is in
    let global_text = t1.head ++ global.0.content in
    let joined : octets ≡ global_text ++ (t3.head ++ (security.0.content ++ data_text)) = t1.parts ∙ sym (append_assoc t1.head global.0.content global.0.rest) ∙ ap (λ (r : List ℕ). global_text ++ r) security_is in
    let spelled : TakesRest size octets (made size h.0 security.0.content f.0) = record {
      global = global_text;
      global_content = global.0.content;
      is_global = (t1.head, t1.is_head, refl);
      says = header_of-is global.0.content h.0 h.1;
      security_head = t3.head;
      is_security = t3.is_head;
      data_text = data_text;
      is_data = (data_head, t4.begins.is_head, refl);
      tag_allowed = tags_allowed f.0.tag g.0;
      joined = joined;
      security_place = ap (λ (n : ℕ). size - n - length security.0.content) data_size;
      data_place = ap (λ (n : ℕ). size - n) data_size;
    } in
    subst (λ (x : Parts). TakesRest size octets x) g.2 spelled

pub after_version-again : (size : ℕ) (octets : List ℕ) (m : Parts) → TakesRest size octets m → after_version size octets ≡ Some m
unfolding after_version
after_version-again size octets m t =
    let security_text = t.security_head ++ (m.security ++ t.data_text) in
    let r1 = element_in-again (t.global ++ security_text) 48 t.is_global.0 t.global_content security_text (begins_from_element 48 t.global_content t.global security_text t.is_global) in
    let r2 = header_of-again m.header t.global_content t.says in
    let begun : Begins security_text 4 t.security_head m.security t.data_text = record { is_head = t.is_security; parts = refl } in
    let r3 = element_in-again security_text 4 t.security_head m.security t.data_text begun in
    let last : Begins t.data_text m.data_tag t.is_data.0 m.data_content [] = record { is_head = t.is_data.1; parts = t.is_data.2 ∙ ap (λ (r : List ℕ). t.is_data.0 ++ r) (sym (append-nil m.data_content)) } in
    let r4 = front_of-begun t.data_text m.data_tag t.is_data.0 m.data_content [] last in
    let data_size : length t.is_data.0 + length m.data_content ≡ length t.data_text = sym (ap length t.is_data.2 ∙ length-append t.is_data.0 m.data_content) in
    let allowed = tests_allowed m.data_tag t.tag_allowed in
    ap (after_version size) t.joined ∙ rw (r1, r2, r3, r4, allowed, data_size, ← t.security_place, ← t.data_place) refl

-- ---- the whole

-- the octets after the version
abbrev pub others : {w : List ℕ} {m : Parts} → Outer w m → List ℕ
others {w} {m} o = o.global ++ (o.security_head ++ (m.security ++ o.data_text))

outer_length : (w : List ℕ) (m : Parts) (o : Outer w m) → length w ≡ length o.head + (length o.version + (length o.global + (length o.security_head + (length m.security + length o.data_text))))
outer_length w m o = ap length (o.whole ∙ ap (λ (c : List ℕ). o.head ++ c) o.joined) ∙ length_of_six o.head o.version o.global o.security_head m.security o.data_text

pub outer_version : (w : List ℕ) (m : Parts) (o : Outer w m) → version_in w ≡ Some (pos 3, others o, [])
outer_version w m o =
    version_in-again w (pos 3) (others o) [] (record {
      head = o.head;
      content = o.content;
      is_message = record { is_head = o.is_message; parts = o.whole ∙ ap (λ (c : List ℕ). o.head ++ c) (sym (append-nil o.content)) };
      version_head = o.is_version.is_element.0;
      version_content = o.is_version.content;
      is_version = record {
        is_head = o.is_version.is_element.1;
        parts = o.joined ∙ ap (λ (v : List ℕ). v ++ others o) o.is_version.is_element.2 ∙ append_assoc o.is_version.is_element.0 o.is_version.content (others o);
      };
      is_number = o.is_version.is_integer;
    })

pub outer_rest : (w : List ℕ) (m : Parts) (o : Outer w m) → after_version (length w) (others o) ≡ Some m
outer_rest w m o =
    let size = outer_length w m o in
    after_version-again (length w) (others o) m (record {
      global = o.global;
      global_content = o.global_content;
      is_global = o.is_global;
      says = o.says;
      security_head = o.security_head;
      is_security = o.is_security;
      data_text = o.data_text;
      is_data = o.is_data;
      tag_allowed = o.tag_allowed;
      joined = refl;
      security_place = omega (arith, size, o.security_place);
      data_place = omega (arith, size, o.security_place, o.data_place);
    })

pub outer_from : (w : List ℕ) (octets : List ℕ) (m : Parts) → version_in w ≡ Some (pos 3, octets, []) → after_version (length w) octets ≡ Some m → Outer w m
outer_from w octets m first second =
    let v = version_in-is w (pos 3) octets [] first in
    let t = after_version-is (length w) octets m second in
    let version = v.version_head ++ v.version_content in
    let whole : w ≡ v.head ++ v.content = v.is_message.parts ∙ ap (λ (c : List ℕ). v.head ++ c) (append-nil v.content) in
    let is_version : IsNumber 0 3 version = record {
      content = v.version_content;
      is_element = (v.version_head, v.is_version.is_head, refl);
      is_integer = v.is_number;
      at_least = omega arith;
      at_most = omega arith;
    } in
    let joined : v.content ≡ version ++ (t.global ++ (t.security_head ++ (m.security ++ t.data_text))) =
    v.is_version.parts ∙ sym (append_assoc v.version_head v.version_content octets) ∙ ap (λ (r : List ℕ). version ++ r) t.joined in
    let size : length w ≡ length v.head + (length version + (length t.global + (length t.security_head + (length m.security + length t.data_text)))) =
    ap length (whole ∙ ap (λ (c : List ℕ). v.head ++ c) joined) ∙ length_of_six v.head version t.global t.security_head m.security t.data_text in
    record {
      version = version;
      is_version = is_version;
      global = t.global;
      global_content = t.global_content;
      is_global = t.is_global;
      says = t.says;
      security_head = t.security_head;
      is_security = t.is_security;
      data_text = t.data_text;
      is_data = t.is_data;
      tag_allowed = t.tag_allowed;
      head = v.head;
      content = v.content;
      is_message = v.is_message.is_head;
      joined = joined;
      whole = whole;
      security_place = omega (arith, size, t.security_place);
      data_place = omega (arith, size, t.security_place, t.data_place);
    }

pub wrong_version_from : (w : List ℕ) (z : ℤ) (octets after : List ℕ) → z ≢ pos 3 → version_in w ≡ Some (z, octets, after) → WrongVersion w
wrong_version_from w z octets after other e =
    let v = version_in-is w z octets after e in
    record {
      head = v.head;
      content = v.content;
      after = after;
      is_message = v.is_message;
      version_head = v.version_head;
      version_content = v.version_content;
      others = octets;
      is_version = v.is_version;
      number = z;
      is_number = v.is_number;
      other = other;
    }

pub wrong_version_read : (w : List ℕ) (wrong : WrongVersion w) → version_in w ≡ Some (wrong.number, wrong.others, wrong.after)
wrong_version_read w wrong =
    version_in-again w wrong.number wrong.others wrong.after (record {
      head = wrong.head;
      content = wrong.content;
      is_message = wrong.is_message;
      version_head = wrong.version_head;
      version_content = wrong.version_content;
      is_version = wrong.is_version;
      is_number = wrong.is_number;
    })

some_three : (x y : ℤ × List ℕ × List ℕ) → Some x ≡ Some y → (x.0 ≡ y.0) × (x.1 ≡ y.1) × (x.2 ≡ y.2)
some_three x y e =
    let same = same_some x y e in
    (ap (λ (v : ℤ × List ℕ × List ℕ). v.0) same, ap (λ (v : ℤ × List ℕ × List ℕ). v.1) same, ap (λ (v : ℤ × List ℕ × List ℕ). v.2) same)

-- A text has one reading.
pub one_outer : (w : List ℕ) (m n : Parts) → Outer w m → Outer w n → m ≡ n
one_outer w m n a b =
    let same = some_three (pos 3, others a, []) (pos 3, others b, []) (sym (outer_version w m a) ∙ outer_version w n b) in
    same_some m n (sym (outer_rest w m a) ∙ ap (after_version (length w)) same.1 ∙ outer_rest w n b)

abbrev pub HasNoOuter : List ℕ → Type 0
HasNoOuter w = (WrongVersion w → ⊥) × ((m : Parts) → Outer w m → ⊥)

none_some : {A : Type 0} (o : Option A) (x : A) → o ≡ None → o ≡ Some x → ⊥
none_some o x e h = cc

pub no_version : (w : List ℕ) → version_in w ≡ None → HasNoOuter w
no_version w e = (
  λ wrong. none_some (version_in w) (wrong.number, wrong.others, wrong.after) e (wrong_version_read w wrong),
  λ m o. none_some (version_in w) (pos 3, others o, []) e (outer_version w m o),
)

not_wrong : (w octets after : List ℕ) → version_in w ≡ Some (pos 3, octets, after) → WrongVersion w → ⊥
not_wrong w octets after e wrong =
    wrong.other (some_three (wrong.number, wrong.others, wrong.after) (pos 3, octets, after) (sym (wrong_version_read w wrong) ∙ e)).0

pub no_rest : (w octets after : List ℕ) (end : ℕ) → version_in w ≡ Some (pos 3, octets, after) → (length after ≡ 0 → end ≡ length w) → after_version end octets ≡ None → HasNoOuter w
no_rest w octets after end e size none = (
  not_wrong w octets after e,
  λ m o.
      let same = some_three (pos 3, octets, after) (pos 3, others o, []) (sym e ∙ outer_version w m o) in
      let at_end : end ≡ length w = size (ap length same.2) in
      let read : after_version end octets ≡ Some m = rw (same.1, at_end) (outer_rest w m o) in
      none_some (after_version end octets) m none read,
)

pub more_after : (w octets after : List ℕ) → version_in w ≡ Some (pos 3, octets, after) → 0 < length after → HasNoOuter w
more_after w octets after e some = (
  not_wrong w octets after e,
  λ m o.
      let same = some_three (pos 3, octets, after) (pos 3, others o, []) (sym e ∙ outer_version w m o) in
      let none : length after ≡ 0 = ap length same.2 in
      omega arith,
)

pub not_both : (w : List ℕ) (m : Parts) → Outer w m → WrongVersion w → ⊥
not_both w m o wrong = not_wrong w (others o) [] (outer_version w m o) wrong
