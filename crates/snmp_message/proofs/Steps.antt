-- One element of a layout: what is read is spelled so, and what is spelled so is read.
use Rattle.std.proofs.Common.{◌≡◌, ℕ, ◌≤◌, Bool, true, false, cond, eqb, ltb, List, ◌++◌, length, take, Option, Some, None, refl, sym, ap, subst, ◌∙◌, append_assoc, arith, ℤ, pos, negsuc}
use Rattle.std.specs.Prelude.{◌||◌}
use Rattle.std.proofs.lemmas.Bool.{eqb-true, eq-eqb, ltb-false, le-ltb}
use Rattle.snmp_ber.specs.Number.{IsInteger32}
use Rattle.snmp_ber.specs.Element.{IsHead, IsElement, Begins}
use Rattle.snmp_ber.specs.Reading.{Front, front_of, integer32_of}
use Rattle.snmp_ber.proofs.Elements.{front_of-is, front_of-begun}
use Rattle.snmp_ber.proofs.Integers.{integer32_of-is, integer32_of-again}
use Rattle.snmp_message.specs.Steps.{◌>>=◌}
use Rattle.snmp_message.specs.Layout.{IsNumber}
use Rattle.snmp_message.specs.Reading.{with_tag, element_in, from_least, number_in}

-- the value of a step that did not fail
pub bind_some : {A B : Type 0} (o : Option A) (f : A → Option B) (y : B) → (o >>= f) ≡ Some y → (x : A) × (o ≡ Some x) × (f x ≡ Some y)
bind_some None f y e = absurd cc
bind_some (Some x) f y e = (x, refl, e)

-- the same, with what follows from it
pub after_some : {A B P : Type 0} (o : Option A) (f : A → Option B) (y : B) → (o >>= f) ≡ Some y → ((x : A) → o ≡ Some x → f x ≡ Some y → P) → P
after_some None f y e then = absurd cc
after_some (Some x) f y e then = then x refl e

abbrev found : {A : Type 0} → A → Option A
found x = Some x

pub same_some : {A : Type 0} (x y : A) → found x ≡ found y → x ≡ y
same_some x y e = cc

pub guard_then : {A : Type 0} (b : Bool) (x y : A) → cond b (Some x) None ≡ Some y → (b ≡ true) × (x ≡ y)
guard_then true x y e = (refl, cc)
guard_then false x y e = absurd cc

-- What was read at the front of octets: the head, the content and the rest.
pub record TakesElement (tag : ℕ) (octets : List ℕ) (f : Front) : Type 0 where
  pub tag_is : f.tag ≡ tag
  pub head : List ℕ
  pub is_head : IsHead tag (length f.content) head
  pub head_size : length head ≡ f.head_size
  pub parts : octets ≡ head ++ (f.content ++ f.rest)

pub element_in-is : (tag : ℕ) (octets : List ℕ) (f : Front) → element_in tag octets ≡ Some f → TakesElement tag octets f
unfolding element_in
element_in-is tag octets f e =
    let b = bind_some (front_of octets) (with_tag tag) f e in
    let g = guard_then (eqb b.0.tag tag) b.0 f b.2 in
    let front = front_of-is octets b.0 b.1 in
    let tag_is = eqb-true b.0.tag tag g.0 in
    let made : TakesElement tag octets b.0 = record {
      tag_is = tag_is;
      head = take b.0.head_size octets;
      is_head = subst (λ (t : ℕ). IsHead t (length b.0.content) (take b.0.head_size octets)) tag_is front.begins.is_head;
      head_size = front.head_length;
      parts = front.begins.parts;
    } in
    subst (λ (x : Front). TakesElement tag octets x) g.1 made

pub element_in-again : (octets : List ℕ) (tag : ℕ) (head content rest : List ℕ) → Begins octets tag head content rest → element_in tag octets ≡ Some (record { tag = tag; head_size = length head; content = content; rest = rest })
unfolding element_in
element_in-again octets tag head content rest begun =
    let same : eqb tag tag ≡ true = eq-eqb tag tag refl in
    rw (front_of-begun octets tag head content rest begun, same) refl

pub begins_from_element : (tag : ℕ) (content text rest : List ℕ) (e : IsElement tag content text) → Begins (text ++ rest) tag e.0 content rest
begins_from_element tag content text rest e = record { is_head = e.1; parts = rw e.2 (append_assoc e.0 content rest) }

neither : (a b : Bool) (o : Option ℕ) (n : ℕ) → cond (a || b) None o ≡ Some n → (a ≡ false) × (b ≡ false) × (o ≡ Some n)
neither true b o n e = absurd cc
neither false true o n e = absurd cc
neither false false o n e = (refl, refl, e)

from_least-is : (least : ℕ) (z : ℤ) (n : ℕ) → from_least least z ≡ Some n → (z ≡ pos n) × (least ≤ n) × (n ≤ 2147483647)
from_least-is least (pos k) n e =
    let g = neither (ltb k least) (ltb 2147483647 k) (Some k) n e in
    let k-is = same_some k n g.2 in
    (ap pos k-is, omega (arith, ltb-false _ _ g.0, k-is), omega (arith, ltb-false _ _ g.1, k-is))
from_least-is least (negsuc k) n e = absurd cc

from_least-again : (least n : ℕ) → least ≤ n → n ≤ 2147483647 → from_least least (pos n) ≡ Some n
from_least-again least n le most = let a = le-ltb n least le in let b = le-ltb 2147483647 n most in rw (a, b) refl

pub number_in-is : (least : ℕ) (octets : List ℕ) (x : ℕ × List ℕ) → number_in least octets ≡ Some x → (text : List ℕ) × IsNumber least x.0 text × (octets ≡ text ++ x.1)
unfolding number_in
number_in-is least octets x e =
    let f = bind_some (element_in 2 octets) (λ f. integer32_of f.content >>= λ z. from_least least z >>= λ n. Some (n, f.rest)) x e in
    let z = bind_some (integer32_of f.0.content) (λ z. from_least least z >>= λ n. Some (n, f.0.rest)) x f.2 in
    let n = bind_some (from_least least z.0) (λ n. Some (n, f.0.rest)) x z.2 in
    let element = element_in-is 2 octets f.0 f.1 in
    let value = from_least-is least z.0 n.0 n.1 in
    let text = element.head ++ f.0.content in
    let spelled : IsNumber least n.0 text = record {
      content = f.0.content;
      is_element = (element.head, element.is_head, refl);
      is_integer = subst (λ (k : ℤ). IsInteger32 k f.0.content) value.0 (integer32_of-is f.0.content z.0 z.1);
      at_least = value.1;
      at_most = value.2;
    } in
    let made : ℕ × List ℕ = (n.0, f.0.rest) in
    let parts : octets ≡ text ++ f.0.rest = element.parts ∙ sym (append_assoc element.head f.0.content f.0.rest) in
    subst (λ (y : ℕ × List ℕ). (t : List ℕ) × IsNumber least y.0 t × (octets ≡ t ++ y.1)) (same_some made x n.2) (text, spelled, parts)

pub number_in-again : (least n : ℕ) (text rest : List ℕ) → IsNumber least n text → number_in least (text ++ rest) ≡ Some (n, rest)
unfolding number_in
number_in-again least n text rest h =
    let read = element_in-again (text ++ rest) 2 h.is_element.0 h.content rest (begins_from_element 2 h.content text rest h.is_element) in
    rw (read, integer32_of-again h.content (pos n) h.is_integer, from_least-again least n h.at_least h.at_most) refl
