-- ScopedPDU: what is read is spelled so, and what is spelled so is read.
use Rattle.std.proofs.Common.{◌≡◌, ℕ, ◌+◌, ◌-◌, ◌≤◌, ltb, List, [], ◌++◌, length, take, drop, Option, Some, None, refl, sym, ap, subst, ◌∙◌, append_assoc, arith}
use Rattle.std.specs.Prelude.{slice_range, Bool, true, false, ◌↔◌}
use Rattle.std.proofs.lemmas.List.{append-nil, length-append, drop_at}
use Rattle.snmp_ber.specs.Element.{IsElement, Begins}
use Rattle.snmp_ber.specs.Reading.{Front, front_of}
use Rattle.snmp_ber.proofs.Elements.{guard_some, front_of-is, front_of-begun}
use Rattle.snmp_message.specs.Layout.{Parts, Outer}
use Rattle.snmp_message.specs.Reading.{element_in}
use Rattle.snmp_ber.specs.Spelling.{head_of, head_size, element}
use Rattle.snmp_ber.proofs.Spellings.{head_of-is, element-is}
use Rattle.snmp_message.proofs.Writes.{element-length}
use Rattle.snmp_ber.proofs.Places.{range_rest}
use Rattle.snmp_message.specs.Scoped.{Contexts, ScopedContent, ScopedText, HasScoped, HasSealed, ScopedFront, IsOneElement, contexts_size, contexts_text, scoped_text, contexts_placed, with_pdu, contexts_in, scoped_front_in}
use Rattle.snmp_message.proofs.Steps.{after_some, same_some, TakesElement, element_in-is, element_in-again, begins_from_element}
use Rattle.snmp_message.proofs.Headers.{ended}
use Rattle.snmp_message.proofs.Cuts.{piece_at}

text_of : (tag : ℕ) (octets : List ℕ) (f : Front) (t : TakesElement tag octets f) → octets ≡ (t.head ++ f.content) ++ f.rest
text_of tag octets f t = t.parts ∙ sym (append_assoc t.head f.content f.rest)

-- an element that fills the octets
pub whole_element : (octets : List ℕ) (f : Front) → front_of octets ≡ Some f → f.rest ≡ [] → IsElement f.tag f.content octets
whole_element octets f e none =
    let front = front_of-is octets f e in
    let head = front.begins.is_head in
    let spelled = take f.head_size octets in
    (spelled, head, front.begins.parts ∙ ap (λ (r : List ℕ). spelled ++ (f.content ++ r)) none ∙ ap (λ (r : List ℕ). spelled ++ r) (append-nil f.content))

made : ℕ → List ℕ → List ℕ → List ℕ → Contexts
made end engine name text = record { engine = engine; name = name; pdu = text; pdu_at = end - length text }

contexts_last : (at : ℕ) (octets : List ℕ) (s : Contexts) (engine name f : Front)
    → element_in 4 octets ≡ Some engine → element_in 4 engine.rest ≡ Some name → front_of name.rest ≡ Some f → with_pdu (at + length octets) engine.content name.content name.rest f ≡ Some s → ScopedContent at octets s
unfolding made
contexts_last at octets s engine name f e1 e2 e3 e4 =
    let g = guard_some (ltb 0 (length f.rest)) (Some (made (at + length octets) engine.content name.content name.rest)) s e4 in
    let none = ended f.rest g.0 in
    let t1 = element_in-is 4 octets engine e1 in
    let t2 = element_in-is 4 engine.rest name e2 in
    let engine_text = t1.head ++ engine.content in
    let name_text = t2.head ++ name.content in
    let joined : octets ≡ engine_text ++ (name_text ++ name.rest) = text_of 4 octets engine t1 ∙ ap (λ (r : List ℕ). engine_text ++ r) (text_of 4 engine.rest name t2) in
    let size : length octets ≡ length engine_text + (length name_text + length name.rest) = ap length joined ∙ simp length-append in
    let spelled : ScopedContent at octets (made (at + length octets) engine.content name.content name.rest) = record {
      engine = engine_text;
      is_engine = (t1.head, t1.is_head, refl);
      name = name_text;
      is_name = (t2.head, t2.is_head, refl);
      pdu_tag = f.tag;
      pdu_content = f.content;
      is_pdu = whole_element name.rest f e3 none;
      joined = joined;
      pdu_place = omega (arith, size);
    } in
    subst (λ (x : Contexts). ScopedContent at octets x) (same_some (made (at + length octets) engine.content name.content name.rest) s g.1) spelled

pub contexts_in-is : (at : ℕ) (octets : List ℕ) (s : Contexts) → contexts_in (at + length octets) octets ≡ Some s → ScopedContent at octets s
unfolding contexts_in
contexts_in-is at octets s e =
    after_some (element_in 4 octets) _ s e (λ engine e1 k1.
    after_some (element_in 4 engine.rest) _ s k1 (λ name e2 k2.
    after_some (front_of name.rest) _ s k2 (λ f e3 e4.
    contexts_last at octets s engine name f e1 e2 e3 e4)))

pub contexts_in-again : (at : ℕ) (octets : List ℕ) (s : Contexts) → ScopedContent at octets s → contexts_in (at + length octets) octets ≡ Some s
unfolding contexts_in
contexts_in-again at octets s t =
    let r1 = element_in-again (t.engine ++ (t.name ++ s.pdu)) 4 t.is_engine.0 s.engine (t.name ++ s.pdu) (begins_from_element 4 s.engine t.engine (t.name ++ s.pdu) t.is_engine) in
    let r2 = element_in-again (t.name ++ s.pdu) 4 t.is_name.0 s.name s.pdu (begins_from_element 4 s.name t.name s.pdu t.is_name) in
    let begun : Begins s.pdu t.pdu_tag t.is_pdu.0 t.pdu_content [] = record { is_head = t.is_pdu.1; parts = t.is_pdu.2 ∙ ap (λ (r : List ℕ). t.is_pdu.0 ++ r) (sym (append-nil t.pdu_content)) } in
    let r3 = front_of-begun s.pdu t.pdu_tag t.is_pdu.0 t.pdu_content [] begun in
    let size : length octets ≡ length t.engine + (length t.name + length s.pdu) = ap length t.joined ∙ simp length-append in
    let place : (at + length octets) - length s.pdu ≡ s.pdu_at = omega (arith, size, t.pdu_place) in
    ap (contexts_in (at + length octets)) t.joined ∙ rw (r1, r2, r3, place) refl

-- the content of msgData stands at the end of a message
pub data_stands : (w : List ℕ) (m : Parts) → Outer w m → (slice_range w (length w - length m.data_content) (length w) ≡ m.data_content) × (length m.data_content ≤ length w)
data_stands w m o =
    let front = (o.head ++ (o.version ++ (o.global ++ (o.security_head ++ (m.security ++ o.is_data.0))))) in
    let parts : w ≡ front ++ (m.data_content ++ []) =
    o.whole ∙ ap (λ (c : List ℕ). o.head ++ c) (o.joined ∙ ap (λ (d : List ℕ). o.version ++ (o.global ++ (o.security_head ++ (m.security ++ d)))) (o.is_data.2 ∙ ap (λ (r : List ℕ). o.is_data.0 ++ r) (sym (append-nil m.data_content)))) ∙ simp append_assoc in
    let size : length w ≡ length front + length m.data_content = ap length parts ∙ length-append front (m.data_content ++ []) ∙ ap (λ (r : List ℕ). length front + length r) (append-nil m.data_content) in
    let place : length front ≡ length w - length m.data_content = omega (arith, size) in
    let until : (length w - length m.data_content) + length m.data_content ≡ length w = omega (arith, size) in
    let here : slice_range w (length w - length m.data_content) ((length w - length m.data_content) + length m.data_content) ≡ m.data_content =
    subst (λ (text : List ℕ). slice_range text (length w - length m.data_content) ((length w - length m.data_content) + length m.data_content) ≡ m.data_content) (sym parts) (piece_at front m.data_content [] (length w - length m.data_content) place) in
    (subst (λ (n : ℕ). slice_range w (length w - length m.data_content) n ≡ m.data_content) until here, omega (arith, size))

pub not_so : (b : Bool) (P : Type 0) → (b ≡ true) ↔ P → b ≡ false → P → ⊥
not_so b P h e p = let t : b ≡ true = h.1 p in let f : true ≡ false = cc in absurd (cc)

pub scoped_from : (w : List ℕ) (m : Parts) (content : List ℕ) (s : Contexts) → Outer w m → m.data_content ≡ content
    → contexts_in (length w) (slice_range w (length w - length content) (length w)) ≡ Some s → ScopedContent (length w - length m.data_content) m.data_content s
scoped_from w m content s o same e =
    let here = data_stands w m o in
    let read : contexts_in (length w) m.data_content ≡ Some s = subst (λ (x : List ℕ). contexts_in (length w) x ≡ Some s) here.0 (subst (λ (x : List ℕ). contexts_in (length w) (slice_range w (length w - length x) (length w)) ≡ Some s) (sym same) e) in
    let until : length w ≡ (length w - length m.data_content) + length m.data_content = omega (arith, here.1) in
    contexts_in-is (length w - length m.data_content) m.data_content s (subst (λ (n : ℕ). contexts_in n m.data_content ≡ Some s) until read)

none_some : (o : Option Contexts) (s : Contexts) → o ≡ None → o ≡ Some s → ⊥
none_some o s e h = cc

pub scoped_none : (w : List ℕ) (m : Parts) (content : List ℕ) → Outer w m → m.data_content ≡ content
    → contexts_in (length w) (slice_range w (length w - length content) (length w)) ≡ None → (s : Contexts) → ScopedContent (length w - length m.data_content) m.data_content s → ⊥
scoped_none w m content o same e s t =
    let here = data_stands w m o in
    let read : contexts_in (length w) m.data_content ≡ None = subst (λ (x : List ℕ). contexts_in (length w) x ≡ None) here.0 (subst (λ (x : List ℕ). contexts_in (length w) (slice_range w (length w - length x) (length w)) ≡ None) (sym same) e) in
    let until : (length w - length m.data_content) + length m.data_content ≡ length w = omega (arith, here.1) in
    none_some (contexts_in (length w) m.data_content) s read (subst (λ (n : ℕ). contexts_in n m.data_content ≡ Some s) until (contexts_in-again (length w - length m.data_content) m.data_content s t))

-- the data of a ScopedPDU stands at the end of a message
pub pdu_stands : (w : List ℕ) (m : Parts) (s : Contexts) → Outer w m → HasScoped w m s → (s.pdu_at + length s.pdu ≡ length w) × (s.pdu ≡ slice_range w s.pdu_at (length w))
pdu_stands w m s o h =
    let t = h.2 in
    let here = data_stands w m o in
    let size : length m.data_content ≡ length t.engine + (length t.name + length s.pdu) = ap length t.joined ∙ simp length-append in
    let place : s.pdu_at + length s.pdu ≡ length w = omega (arith, size, t.pdu_place, here.1) in
    let at = length w - length m.data_content in
    let front = t.engine ++ t.name in
    let front_size : length front ≡ length t.engine + length t.name = length-append t.engine t.name in
    let content : m.data_content ≡ front ++ s.pdu = t.joined ∙ sym (append_assoc t.engine t.name s.pdu) in
    let inner : drop (length front) m.data_content ≡ s.pdu = ap (drop (length front)) content ∙ drop_at front s.pdu (length front) refl in
    let moved : drop (length front) (slice_range w at (length w)) ≡ slice_range w (at + length front) (length w) = range_rest w at (length w) (length front) (omega (arith, here.1, size, front_size)) in
    let at_is : at + length front ≡ s.pdu_at = omega (arith, front_size, t.pdu_place) in
    (place, sym inner ∙ ap (drop (length front)) (sym here.0) ∙ moved ∙ ap (λ (n : ℕ). slice_range w n (length w)) at_is)

-- ---- a ScopedPDU in front of octets

front_found : (z : List ℕ) (s : Contexts) (whole : Front) → element_in 48 z ≡ Some whole → contexts_in (whole.head_size + length whole.content) whole.content ≡ Some s → ScopedFront z s
front_found z s whole e1 e2 =
    let t = element_in-is 48 z whole e1 in
    let end_is : whole.head_size + length whole.content ≡ (0 + length t.head) + length whole.content = omega (arith, t.head_size) in
    let read : contexts_in ((0 + length t.head) + length whole.content) whole.content ≡ Some s = subst (λ (n : ℕ). contexts_in n whole.content ≡ Some s) end_is e2 in (
      t.head ++ whole.content,
      whole.rest,
      t.parts ∙ sym (append_assoc t.head whole.content whole.rest),
      record { head = t.head; content = whole.content; is_whole = t.is_head; whole = refl; says = contexts_in-is (0 + length t.head) whole.content s read },
    )

pub scoped_front_in-is : (z : List ℕ) (s : Contexts) → scoped_front_in z ≡ Some s → ScopedFront z s
unfolding scoped_front_in
scoped_front_in-is z s e =
    after_some (element_in 48 z) _ s e (λ whole e1 e2. front_found z s whole e1 e2)

pub scoped_front_in-again : (z : List ℕ) (s : Contexts) → ScopedFront z s → scoped_front_in z ≡ Some s
unfolding scoped_front_in
scoped_front_in-again z s h =
    let t = h.3 in
    let begun : Begins z 48 t.head t.content h.1 = record { is_head = t.is_whole; parts = h.2 ∙ ap (λ (f : List ℕ). f ++ h.1) t.whole ∙ append_assoc t.head t.content h.1 } in
    let read = element_in-again z 48 t.head t.content h.1 begun in
    let end_is : (0 + length t.head) + length t.content ≡ length t.head + length t.content = omega arith in
    let inner = contexts_in-again (0 + length t.head) t.content s t.says in
    rw read (subst (λ (n : ℕ). contexts_in n t.content ≡ Some s) end_is inner)

pub no_front : (z : List ℕ) → scoped_front_in z ≡ None → (s : Contexts) → ScopedFront z s → ⊥
no_front z e s h = none_some (scoped_front_in z) s e (scoped_front_in-again z s h)

-- Octets begin with one ScopedPDU at most.
pub one_front : (z : List ℕ) (s t : Contexts) → ScopedFront z s → ScopedFront z t → s ≡ t
one_front z s t a b = same_some s t (sym (scoped_front_in-again z s a) ∙ scoped_front_in-again z t b)

-- The ScopedPDU of a message is one.
pub one_scoped : (at : ℕ) (content : List ℕ) (s t : Contexts) → ScopedContent at content s → ScopedContent at content t → s ≡ t
one_scoped at content s t a b = same_some s t (sym (contexts_in-again at content s a) ∙ contexts_in-again at content t b)

-- ---- the canonical spelling

pub contexts_text-length : (engine name pdu : List ℕ) → length (contexts_text engine name pdu) ≡ contexts_size (length engine) (length name) (length pdu)
unfolding contexts_text
contexts_text-length engine name pdu =
    omega (arith, length-append (element 4 engine) (element 4 name ++ pdu), length-append (element 4 name) pdu, element-length 4 engine, element-length 4 name)

pub contexts_joined : (engine name pdu : List ℕ) → contexts_text engine name pdu ≡ (element 4 engine ++ element 4 name) ++ pdu
unfolding contexts_text
contexts_joined engine name pdu = sym (append_assoc (element 4 engine) (element 4 name) pdu)

pub scoped_text-size : (engine name pdu : List ℕ) → let size = length (contexts_text engine name pdu) in length (scoped_text engine name pdu) ≡ head_size size + size
unfolding scoped_text
scoped_text-size engine name pdu = element-length 48 (contexts_text engine name pdu)

pub scoped_text-longer : (engine name pdu : List ℕ) → let size = length (scoped_text engine name pdu) in (length engine ≤ size) × (length name ≤ size) × (length pdu ≤ size)
scoped_text-longer engine name pdu =
    let size = scoped_text-size engine name pdu in
    let inner = contexts_text-length engine name pdu in
    (omega arith, omega arith, omega arith)

-- What is written is the content of a ScopedPDU.
pub contexts_text-is : (at : ℕ) (engine name pdu : List ℕ) → IsOneElement pdu → length engine ≤ 65507 → length name ≤ 65507 → ScopedContent at (contexts_text engine name pdu) (contexts_placed at engine name pdu)
unfolding contexts_text
contexts_text-is at engine name pdu one short short2 = record {
  engine = element 4 engine;
  is_engine = element-is 4 engine (λ e. absurd cc) (omega arith);
  name = element 4 name;
  is_name = element-is 4 name (λ e. absurd cc) (omega arith);
  pdu_tag = one.0;
  pdu_content = one.1;
  is_pdu = one.2;
  joined = refl;
  pdu_place = refl;
}

-- What is written is a ScopedPDU.
pub scoped_text-is : (engine name pdu : List ℕ) → IsOneElement pdu → length (scoped_text engine name pdu) ≤ 65507
    → ScopedText 0 (scoped_text engine name pdu) (contexts_placed (head_size (length (contexts_text engine name pdu))) engine name pdu)
unfolding scoped_text
scoped_text-is engine name pdu one short =
    let longer = scoped_text-longer engine name pdu in
    let size = scoped_text-size engine name pdu in
    let content = contexts_text engine name pdu in
    let zero_at : 0 + head_size (length content) ≡ head_size (length content) = omega arith in
    record {
      head = head_of 48 (length content);
      content = content;
      is_whole = head_of-is 48 (length content) (λ e. absurd cc) (omega arith);
      whole = refl;
      says = subst (λ (n : ℕ). ScopedContent n content (contexts_placed (head_size (length content)) engine name pdu)) (sym zero_at) (contexts_text-is (head_size (length content)) engine name pdu one (omega arith) (omega arith));
    }

-- ---- msgData is one thing

pub not_both : (w : List ℕ) (m : Parts) (s : Contexts) → HasSealed m → HasScoped w m s → ⊥
not_both w m s h k = let e : true ≡ false = sym h.0 ∙ k.0 in absurd cc

pub same_scoped : (w : List ℕ) (m : Parts) (s t : Contexts) → HasScoped w m s → HasScoped w m t → s ≡ t
same_scoped w m s t a b = one_scoped (length w - length m.data_content) m.data_content s t a.2 b.2
