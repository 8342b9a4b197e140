-- PDUs: what is read is spelled so, and what is spelled so is read.
use Rattle.std.proofs.Common.{◌≡◌, ℕ, ◌+◌, ◌≤◌, ◌<◌, true, false, ltb, List, [], ◌++◌, length, Option, Some, None, refl, sym, ap, subst, ◌∙◌, append_assoc, arith, rules, ℤ}
use Rattle.std.proofs.lemmas.Bool.{le-ltb}
use Rattle.std.proofs.lemmas.List.{append-nil, length-append}
use Rattle.snmp_ber.specs.Element.{IsElement, Begins}
use Rattle.snmp_ber.specs.Spelling.{head_of, head_size, element, integer}
use Rattle.snmp_ber.specs.Reading.{Front, front_of, integer32_of}
use Rattle.snmp_ber.proofs.Elements.{guard_some, front_of-begun}
use Rattle.snmp_ber.proofs.Integers.{integer32_of-is, integer32_of-again}
use Rattle.snmp_ber.proofs.Spellings.{element-is, integer32-is}
use Rattle.snmp_ber.specs.Element.{IsTag}
use Rattle.std.proofs.Common.{bit_and, ◌%◌}
use Rattle.std.proofs.lemmas.Nat.{and_mask}
use Rattle.snmp_ber.proofs.Uniques.{shortest_within}
use Rattle.snmp_ber.specs.Spelling.{shortest_length}
use Rattle.snmp_message.specs.Steps.{when_ended}
use Rattle.snmp_message.specs.Reading.{element_in}
use Rattle.snmp_msg.specs.Variables.{Variable, AreBindings, variables_of, after_variables, variables_text}
use Rattle.snmp_message.specs.Spelling.{signed}
use Rattle.snmp_message.specs.Reading.{signed_in}
use Rattle.snmp_msg.specs.Pdu.{IsInRange, IsSigned, AreInRange, PduParts, PduContent, PduText, PduFits, SaysPdu, IsSpelled, with_variables, respelled, pdu_content_text, pdu_text, pdu_content_size, pdu_front_text, with_list, pdu_content_in, with_pdu_tag, pdu_in}
use Rattle.snmp_msg.specs.PduTypes.{IsPduTag, is_pdu_tag}
use Rattle.snmp_message.proofs.Steps.{after_some, same_some, guard_then, element_in-is, element_in-again, begins_from_element}
use Rattle.snmp_message.proofs.Headers.{ended}
use Rattle.snmp_message.proofs.Scopeds.{whole_element}
use Rattle.snmp_msg.proofs.Variables.{Octets, octets_back, variables_of-is, variables_of-again, one_list, all_fit, variables_text-is}
use Rattle.snmp_message.proofs.Writes.{element-length, element_length}

signed_last : (octets : List ℕ) (x : ℤ × List ℕ) (f : Front) (z : ℤ) → IsInRange x.0 → element_in 2 octets ≡ Some f → integer32_of f.content ≡ Some z → ◌≡◌ {A = Option (ℤ × List ℕ)} (Some (z, f.rest)) (Some x) → (text : List ℕ) × IsSigned x.0 text × (octets ≡ text ++ x.1)
signed_last octets x f z range e1 e2 e3 =
    let t = element_in-is 2 octets f e1 in
    let text = t.head ++ f.content in
    let made : ℤ × List ℕ = (z, f.rest) in
    let spelled : IsSigned z text = record { content = f.content; is_element = (t.head, t.is_head, refl); is_integer = integer32_of-is f.content z e2; range = subst (λ (y : ℤ × List ℕ). IsInRange y.0) (sym (same_some made x e3)) range } in
    let parts : octets ≡ text ++ f.rest = t.parts ∙ sym (append_assoc t.head f.content f.rest) in
    subst (λ (y : ℤ × List ℕ). (s : List ℕ) × IsSigned y.0 s × (octets ≡ s ++ y.1)) (same_some made x e3) (text, spelled, parts)

pub signed_in-is : (octets : List ℕ) (x : ℤ × List ℕ) → IsInRange x.0 → signed_in octets ≡ Some x → (text : List ℕ) × IsSigned x.0 text × (octets ≡ text ++ x.1)
unfolding signed_in
signed_in-is octets x range e =
    after_some (element_in 2 octets) _ x e (λ f e1 k1.
    after_some (integer32_of f.content) _ x k1 (λ z e2 e3.
    signed_last octets x f z range e1 e2 e3))

pub signed_in-again : (n : ℤ) (text rest : List ℕ) → IsSigned n text → signed_in (text ++ rest) ≡ Some (n, rest)
unfolding signed_in
signed_in-again n text rest h =
    let read = element_in-again (text ++ rest) 2 h.is_element.0 h.content rest (begins_from_element 2 h.content text rest h.is_element) in
    rw (read, integer32_of-again h.content n h.is_integer) refl

made : ℕ → ℤ → ℤ → ℤ → List ℕ → PduParts
made tag id second third list = record { tag = tag; id = id; second = second; third = third; list = list }

pdu_content_last : (tag : ℕ) (content : List ℕ) (p : PduParts) (id second third : ℤ × List ℕ) (list : Front)
    → AreInRange p → Octets content → signed_in content ≡ Some id → signed_in id.1 ≡ Some second → signed_in second.1 ≡ Some third → element_in 48 third.1 ≡ Some list → with_list tag id.0 second.0 third.0 list ≡ Some p → PduContent content p × (p.tag ≡ tag)
unfolding made
pdu_content_last tag content p id second third list numbers bytes e1 e2 e3 e4 e5 =
    let g = guard_some (ltb 0 (length (after_variables list.content))) _ p e5 in
    let g2 = guard_some (ltb 0 (length list.rest)) (Some (made tag id.0 second.0 third.0 list.content)) p g.1 in
    let same = same_some (made tag id.0 second.0 third.0 list.content) p g2.1 in
    let in_range : AreInRange (made tag id.0 second.0 third.0 list.content) = subst AreInRange (sym same) numbers in
    let t1 = signed_in-is content id in_range.id e1 in
    let t2 = signed_in-is id.1 second in_range.second e2 in
    let t3 = signed_in-is second.1 third in_range.third e3 in
    let t4 = element_in-is 48 third.1 list e4 in
    let list_text = t4.head ++ list.content in
    let parts4 : third.1 ≡ list_text = t4.parts ∙ ap (λ (r : List ℕ). t4.head ++ (list.content ++ r)) (ended list.rest g2.0) ∙ ap (λ (r : List ℕ). t4.head ++ r) (append-nil list.content) in
    let parts3 : second.1 ≡ t3.0 ++ list_text = t3.2 ∙ ap (λ (r : List ℕ). t3.0 ++ r) parts4 in
    let parts2 : id.1 ≡ t2.0 ++ (t3.0 ++ list_text) = t2.2 ∙ ap (λ (r : List ℕ). t2.0 ++ r) parts3 in
    let joined : content ≡ t1.0 ++ (t2.0 ++ (t3.0 ++ list_text)) = t1.2 ∙ ap (λ (r : List ℕ). t1.0 ++ r) parts2 in
    let listed : Octets list.content = octets_back t4.head list.content (octets_back t3.0 list_text (octets_back t2.0 (t3.0 ++ list_text) (octets_back t1.0 (t2.0 ++ (t3.0 ++ list_text)) (subst Octets joined bytes)))) in
    let spelled : PduContent content (made tag id.0 second.0 third.0 list.content) = record {
      id = t1.0;
      is_id = t1.1;
      second = t2.0;
      is_second = t2.1;
      third = t3.0;
      is_third = t3.1;
      list = list_text;
      is_list = (t4.head, t4.is_head, refl);
      variables = variables_of list.content;
      are_bindings = variables_of-is list.content listed (ended (after_variables list.content) g.0);
      joined = joined;
    } in
    subst (λ (q : PduParts). PduContent content q × (q.tag ≡ tag)) same (spelled, refl)

pub pdu_content_in-is : (tag : ℕ) (content : List ℕ) (p : PduParts) → AreInRange p → Octets content → pdu_content_in tag content ≡ Some p → PduContent content p × (p.tag ≡ tag)
unfolding pdu_content_in
pdu_content_in-is tag content p numbers bytes e =
    after_some (signed_in content) _ p e (λ id e1 k1.
    after_some (signed_in id.1) _ p k1 (λ second e2 k2.
    after_some (signed_in second.1) _ p k2 (λ third e3 k3.
    after_some (element_in 48 third.1) _ p k3 (λ list e4 e5.
    pdu_content_last tag content p id second third list numbers bytes e1 e2 e3 e4 e5))))

pub pdu_content_in-again : (content : List ℕ) (p : PduParts) → PduContent content p → pdu_content_in p.tag content ≡ Some p
unfolding pdu_content_in
pdu_content_in-again content p t =
    let r1 = signed_in-again p.id t.id (t.second ++ (t.third ++ t.list)) t.is_id in
    let r2 = signed_in-again p.second t.second (t.third ++ t.list) t.is_second in
    let r3 = signed_in-again p.third t.third t.list t.is_third in
    let begun : Begins t.list 48 t.is_list.0 p.list [] = record { is_head = t.is_list.1; parts = t.is_list.2 ∙ ap (λ (r : List ℕ). t.is_list.0 ++ r) (sym (append-nil p.list)) } in
    let r4 = element_in-again t.list 48 t.is_list.0 p.list [] begun in
    let none = (variables_of-again t.variables p.list t.are_bindings).1 in
    let empty : ltb 0 (length (after_variables p.list)) ≡ false = le-ltb 0 (length (after_variables p.list)) (omega (arith, ap length none)) in
    ap (pdu_content_in p.tag) t.joined ∙ rw (r1, r2, r3, r4, empty) refl

pdu_tag-is : (tag : ℕ) → is_pdu_tag tag ≡ true → IsPduTag tag
pdu_tag-is tag e = search rules

pdu_tag-again : (tag : ℕ) → IsPduTag tag → is_pdu_tag tag ≡ true
pdu_tag-again tag h = search rules

pdu_last : (z : List ℕ) (p q : PduParts) (any f : Front) → AreInRange p → Octets z → front_of z ≡ Some any → with_pdu_tag any ≡ Some f → pdu_content_in f.tag f.content ≡ Some q → when_ended f.rest q ≡ Some p → PduText z p
pdu_last z p q any f numbers bytes e1 e2 e3 e4 =
    let g = guard_then (is_pdu_tag any.tag) any f e2 in
    let allowed = pdu_tag-is any.tag g.0 in
    let g2 = guard_some (ltb 0 (length f.rest)) (Some q) p e4 in
    let none = ended f.rest g2.0 in
    let in_range : AreInRange q = subst AreInRange (sym (same_some q p g2.1)) numbers in
    let is_whole : IsElement f.tag f.content z = whole_element z f (e1 ∙ ap (λ (x : Front). Some x) g.1) none in
    let inner : Octets f.content = octets_back is_whole.0 f.content (subst Octets is_whole.2 bytes) in
    let t = pdu_content_in-is f.tag f.content q in_range inner e3 in
    let made_text : PduText z q = record {
      tag_allowed = subst IsPduTag (ap (λ (x : Front). x.tag) g.1 ∙ sym t.1) allowed;
      content = f.content;
      is_whole = subst (λ (n : ℕ). IsElement n f.content z) (sym t.1) is_whole;
      says = t.0;
    } in
    subst (λ (x : PduParts). PduText z x) (same_some q p g2.1) made_text

pub pdu_in-is : (z : List ℕ) (p : PduParts) → AreInRange p → Octets z → pdu_in z ≡ Some p → PduText z p
unfolding pdu_in
pdu_in-is z p numbers bytes e =
    after_some (front_of z) _ p e (λ any e1 k1.
    after_some (with_pdu_tag any) _ p k1 (λ f e2 k2.
    after_some (pdu_content_in f.tag f.content) _ p k2 (λ q e3 e4.
    pdu_last z p q any f numbers bytes e1 e2 e3 e4)))

pub pdu_in-again : (z : List ℕ) (p : PduParts) → PduText z p → pdu_in z ≡ Some p
unfolding pdu_in
pdu_in-again z p t =
    let begun : Begins z p.tag t.is_whole.0 t.content [] = record { is_head = t.is_whole.1; parts = t.is_whole.2 ∙ ap (λ (r : List ℕ). t.is_whole.0 ++ r) (sym (append-nil t.content)) } in
    let r1 = front_of-begun z p.tag t.is_whole.0 t.content [] begun in
    let allowed = pdu_tag-again p.tag t.tag_allowed in
    rw (r1, allowed, pdu_content_in-again t.content p t.says) refl

-- A text is one PDU at most.
pub one_pdu : (z : List ℕ) (p q : PduParts) → PduText z p → PduText z q → p ≡ q
one_pdu z p q a b = same_some p q (sym (pdu_in-again z p a) ∙ pdu_in-again z q b)

none_some : (o : Option PduParts) (p : PduParts) → o ≡ None → o ≡ Some p → ⊥
none_some o p e h = cc

pub no_pdu : (z : List ℕ) → pdu_in z ≡ None → (p : PduParts) → PduText z p → ⊥
no_pdu z e p t = none_some (pdu_in z) p e (pdu_in-again z p t)

-- ---- the canonical spelling

pub pdu_content_text-length : (p : PduParts) → length (pdu_content_text p) ≡ length (signed p.id) + length (signed p.second) + length (signed p.third) + length (element 48 p.list)
unfolding pdu_content_text
pdu_content_text-length p =
    omega (arith, length-append (signed p.id) (signed p.second ++ (signed p.third ++ element 48 p.list)), length-append (signed p.second) (signed p.third ++ element 48 p.list), length-append (signed p.third) (element 48 p.list))

tag_from : (tag : ℕ) → IsPduTag tag → IsTag tag
tag_from tag h = λ e. let low : bit_and tag 31 ≡ tag % 32 = and_mask tag 5 in omega arith

pub signed-is : (z : ℤ) → IsInRange z → IsSigned z (signed z)
signed-is z range =
    let is_integer = integer32-is z range.0 range.1 in
    record {
      content = integer z;
      is_element = element-is 2 (integer z) (λ e. absurd cc) (omega (arith, is_integer.size));
      is_integer = is_integer;
      range = range;
    }

pub signed-short : (z : ℤ) → IsInRange z → length (signed z) ≤ 11
signed-short z range =
    let is_integer = integer32-is z range.0 range.1 in
    let size = length (integer z) in
    omega (arith, is_integer.size, length-append (shortest_length size) (integer z), shortest_within size 4 (omega arith) (omega arith) (omega (arith, is_integer.size)))

content_joined : (p : PduParts) → pdu_content_text p ≡ signed p.id ++ (signed p.second ++ (signed p.third ++ element 48 p.list))
unfolding pdu_content_text
content_joined p = refl

pub pdu_text-longer : (p : PduParts) → (length p.list ≤ length (pdu_content_text p)) × (length (pdu_content_text p) ≤ length (pdu_text p))
unfolding pdu_text
pdu_text-longer p = (omega (arith, pdu_content_text-length p, element_length 48 p.list), element_length p.tag (pdu_content_text p))

-- What is written is a PDU with these parts.
pub pdu_text-is : (p : PduParts) → PduFits p → length (pdu_text p) ≤ 65507 → PduText (pdu_text p) p
unfolding pdu_text
pdu_text-is p fits size =
    let content = pdu_content_text p in
    let longer = pdu_text-longer p in
    let short : length content < 4294967296 = omega (arith, longer.1, size) in
    record {
      tag_allowed = fits.tag_allowed;
      content = content;
      is_whole = element-is p.tag content (tag_from p.tag fits.tag_allowed) short;
      says = record {
        id = signed p.id;
        is_id = signed-is p.id fits.numbers.id;
        second = signed p.second;
        is_second = signed-is p.second fits.numbers.second;
        third = signed p.third;
        is_third = signed-is p.third fits.numbers.third;
        list = element 48 p.list;
        is_list = element-is 48 p.list (λ e. absurd cc) (omega (arith, longer.0, longer.1, size));
        variables = fits.variables;
        are_bindings = fits.are_bindings;
        joined = content_joined p;
      };
    }

pub pdu_fits : (z : List ℕ) (p : PduParts) → PduText z p → PduFits p
pdu_fits z p t = record { tag_allowed = t.tag_allowed; numbers = record { id = t.says.is_id.range; second = t.says.is_second.range; third = t.says.is_third.range }; variables = t.says.variables; are_bindings = t.says.are_bindings }

-- ---- PDUs whose list is in its canonical spelling

pub spelled_fits : (p : PduParts) → IsSpelled p → length (pdu_text p) ≤ 65507 → PduFits p
spelled_fits p s size =
    let longer = pdu_text-longer p in
    let short : length (variables_text s.variables) < 4294967296 = omega (arith, longer.0, longer.1, size, ap length s.list_is) in
    record {
      tag_allowed = s.tag_allowed;
      numbers = s.numbers;
      variables = s.variables;
      are_bindings = subst (λ (octets : List ℕ). AreBindings s.variables octets) (sym s.list_is) (variables_text-is s.variables s.fit short);
    }

same_list : (p : PduParts) (list : List ℕ) → p.list ≡ list → p ≡ record p { list = list }
same_list p list e = subst (λ (octets : List ℕ). p ≡ record p { list = octets }) e refl

-- a PDU that was written with its list in its canonical spelling says what it was written from
pub says_itself : (p : PduParts) → IsSpelled p → length (pdu_text p) ≤ 65507 → SaysPdu (pdu_text p) p
unfolding pdu_text-is spelled_fits
says_itself p s size = record { as_read = p; is_pdu = pdu_text-is p (spelled_fits p s size) size; same = same_list p (variables_text s.variables) s.list_is }

-- a text says one PDU
pub one_said : (z : List ℕ) (p q : PduParts) → SaysPdu z p → SaysPdu z q → p ≡ q
one_said z p q a b =
    let read : a.as_read ≡ b.as_read = one_pdu z a.as_read b.as_read a.is_pdu b.is_pdu in
    let bindings : AreBindings a.is_pdu.says.variables b.as_read.list = subst (λ (x : PduParts). AreBindings a.is_pdu.says.variables x.list) read a.is_pdu.says.are_bindings in
    let variables = one_list a.is_pdu.says.variables b.is_pdu.says.variables b.as_read.list bindings b.is_pdu.says.are_bindings in
    a.same ∙ ap (λ (x : PduParts). record x { list = variables_text a.is_pdu.says.variables }) read ∙ ap (λ (vs : List Variable). record b.as_read { list = variables_text vs }) variables ∙ sym b.same

pub said_spelled : (z : List ℕ) (p : PduParts) → SaysPdu z p → IsSpelled p
said_spelled z p h =
    let t = h.is_pdu.says in
    let made : IsSpelled (record h.as_read { list = variables_text t.variables }) = record {
      tag_allowed = h.is_pdu.tag_allowed;
      numbers = record { id = t.is_id.range; second = t.is_second.range; third = t.is_third.range };
      variables = t.variables;
      fit = all_fit t.variables h.as_read.list t.are_bindings;
      list_is = refl;
    } in
    subst IsSpelled (sym h.same) made

-- what was read, with its list respelled
pub says_respelled : (z : List ℕ) (p : PduParts) → PduText z p → SaysPdu z (respelled p)
says_respelled z p t = record { as_read = p; is_pdu = t; same = ap (λ (vs : List Variable). record p { list = variables_text vs }) (variables_of-again t.says.variables p.list t.says.are_bindings).0 }

-- ---- sizes

pub pdu_content_text-size : (p : PduParts) → length (pdu_content_text p) ≡ pdu_content_size p (length p.list)
pdu_content_text-size p = omega (arith, pdu_content_text-length p, element-length 48 p.list)

pub pdu_text-size : (p : PduParts) → let size = pdu_content_size p (length p.list) in length (pdu_text p) ≡ head_size size + size
unfolding pdu_text
pdu_text-size p = element-length p.tag (pdu_content_text p) ∙ ap (λ (n : ℕ). head_size n + n) (pdu_content_text-size p)

joined : (head a b c d rest : List ℕ) → (head ++ (a ++ (b ++ (c ++ d)))) ++ rest ≡ head ++ (a ++ (b ++ (c ++ (d ++ rest))))
joined head a b c d rest = simp append_assoc

-- a PDU as it is written: what stands before the content of its list, and then that
pub pdu_text-front : (p : PduParts) → pdu_text p ≡ pdu_front_text p (length p.list) ++ p.list
unfolding pdu_text pdu_front_text
pdu_text-front p =
    ap (λ (n : ℕ). head_of p.tag n ++ pdu_content_text p) (pdu_content_text-size p)
    ∙ ap (λ (t : List ℕ). head_of p.tag (pdu_content_size p (length p.list)) ++ t) (content_joined p)
    ∙ sym (joined (head_of p.tag (pdu_content_size p (length p.list))) (signed p.id) (signed p.second) (signed p.third) (head_of 48 (length p.list)) p.list)

-- a size that was computed is that of the text
pub measured_pdu : (p : PduParts) (list_size size : ℕ) → list_size ≡ length p.list → (let inner = pdu_content_size p list_size in size ≡ head_size inner + inner) → length (pdu_text p) ≡ size
measured_pdu p list_size size list_is measured =
    pdu_text-size p ∙ sym (measured ∙ ap (λ (n : ℕ). head_size (pdu_content_size p n) + pdu_content_size p n) list_is)

-- the same, with bindings in their canonical spelling
pub pdu_text-with : (p : PduParts) (vs : List Variable) → pdu_text (with_variables p vs) ≡ pdu_front_text p (length (variables_text vs)) ++ variables_text vs
unfolding pdu_front_text
pdu_text-with p vs = pdu_text-front (with_variables p vs)
