-- A message: what is read is spelled so, and what is spelled so is read.
use Rattle.std.proofs.Common.{◌≡◌, ◌≢◌, ℕ, ◌+◌, ◌-◌, ◌≤◌, ltb, List, [], ◌++◌, length, Some, refl, sym, ap, subst, ◌∙◌, append_assoc, arith, ℤ, pos}
use Rattle.std.specs.Prelude.{slice_range}
use Rattle.std.proofs.lemmas.List.{append-nil, length-append}
use Rattle.snmp_ber.specs.Element.{IsElement, Begins}
use Rattle.snmp_ber.specs.Reading.{Front, front_of}
use Rattle.snmp_ber.proofs.Elements.{guard_some, front_of-begun}
use Rattle.snmp_message.specs.Layout.{Outer}
use Rattle.snmp_message.specs.Reading.{element_in, version_in}
use Rattle.snmp_message.proofs.Steps.{after_some, same_some, element_in-is, element_in-again, begins_from_element}
use Rattle.snmp_message.proofs.Headers.{ended}
use Rattle.snmp_message.proofs.Cuts.{piece_at}
use Rattle.snmp_message.proofs.Outers.{TakesVersion, version_in-is, version_in-again, outer_version, others}
use Rattle.snmp_message.proofs.Scopeds.{whole_element}
use Rattle.snmp_community.specs.Versions.{version_number}
use Rattle.snmp_community.specs.Layout.{Parts, IsVersion, IsMessage, OtherVersion}
use Rattle.snmp_community.specs.Reading.{with_pdu, parts_in}
use Rattle.snmp_community.specs.declared.version.Version.{Version}
use Rattle.snmp_community.specs.declared.version.Version.TheVariants.{Version1, Version2c}

-- ---- what follows the version

-- what was read after the version, in a message that ends at this place
pub record TakesParts (end : ℕ) (octets : List ℕ) (m : Parts) : Type 0 where
  pub community : List ℕ
  pub is_community : IsElement 4 m.community community
  pub pdu_tag : ℕ
  pub pdu_content : List ℕ
  pub is_pdu : IsElement pdu_tag pdu_content m.pdu
  pub joined : octets ≡ community ++ m.pdu
  pub pdu_place : m.pdu_at ≡ end - length m.pdu

made : Version → ℕ → List ℕ → List ℕ → Parts
made version end community text = record { version = version; community = community; pdu = text; pdu_at = end - length text }

parts_last : (version : Version) (end : ℕ) (octets : List ℕ) (m : Parts) (community f : Front)
    → element_in 4 octets ≡ Some community → front_of community.rest ≡ Some f → with_pdu version end community.content community.rest f ≡ Some m → (m.version ≡ version) × TakesParts end octets m
unfolding made
parts_last version end octets m community f e1 e2 e3 =
    let g = guard_some (ltb 0 (length f.rest)) (Some (made version end community.content community.rest)) m e3 in
    let none = ended f.rest g.0 in
    let t = element_in-is 4 octets community e1 in
    let spelled : TakesParts end octets (made version end community.content community.rest) = record {
      community = t.head ++ community.content;
      is_community = (t.head, t.is_head, refl);
      pdu_tag = f.tag;
      pdu_content = f.content;
      is_pdu = whole_element community.rest f e2 none;
      joined = t.parts ∙ sym (append_assoc t.head community.content community.rest);
      pdu_place = refl;
    } in
    subst (λ (x : Parts). (x.version ≡ version) × TakesParts end octets x) (same_some (made version end community.content community.rest) m g.1) (refl, spelled)

pub parts_in-is : (version : Version) (end : ℕ) (octets : List ℕ) (m : Parts) → parts_in version end octets ≡ Some m → (m.version ≡ version) × TakesParts end octets m
unfolding parts_in
parts_in-is version end octets m e =
    after_some (element_in 4 octets) _ m e (λ community e1 k1.
    after_some (front_of community.rest) _ m k1 (λ f e2 e3.
    parts_last version end octets m community f e1 e2 e3))

pub parts_in-again : (end : ℕ) (octets : List ℕ) (m : Parts) → TakesParts end octets m → parts_in m.version end octets ≡ Some m
unfolding parts_in
parts_in-again end octets m t =
    let r1 = element_in-again (t.community ++ m.pdu) 4 t.is_community.0 m.community m.pdu (begins_from_element 4 m.community t.community m.pdu t.is_community) in
    let begun : Begins m.pdu t.pdu_tag t.is_pdu.0 t.pdu_content [] = record { is_head = t.is_pdu.1; parts = t.is_pdu.2 ∙ ap (λ (r : List ℕ). t.is_pdu.0 ++ r) (sym (append-nil t.pdu_content)) } in
    let r2 = front_of-begun m.pdu t.pdu_tag t.is_pdu.0 t.pdu_content [] begun in
    ap (parts_in m.version end) t.joined ∙ rw (r1, r2, ← t.pdu_place) refl

-- ---- the whole

-- the octets after the version
abbrev pub after_version : {w : List ℕ} {m : Parts} → IsMessage w m → List ℕ
after_version {w} {m} o = o.community ++ m.pdu

pub message_begins : (w : List ℕ) (m : Parts) (o : IsMessage w m) → Begins w 48 o.head o.content []
message_begins w m o = record { is_head = o.is_message; parts = o.whole ∙ ap (λ (c : List ℕ). o.head ++ c) (sym (append-nil o.content)) }

pub version_begins : (w : List ℕ) (m : Parts) (o : IsMessage w m) → Begins o.content 2 o.is_version.is_element.0 o.is_version.content (after_version o)
version_begins w m o = record {
  is_head = o.is_version.is_element.1;
  parts = o.joined ∙ ap (λ (v : List ℕ). v ++ after_version o) o.is_version.is_element.2 ∙ append_assoc o.is_version.is_element.0 o.is_version.content (after_version o);
}

pub message_version : (w : List ℕ) (m : Parts) (o : IsMessage w m) → version_in w ≡ Some (pos (version_number m.version), after_version o, [])
message_version w m o =
    version_in-again w (pos (version_number m.version)) (after_version o) [] (record {
      head = o.head;
      content = o.content;
      is_message = message_begins w m o;
      version_head = o.is_version.is_element.0;
      version_content = o.is_version.content;
      is_version = version_begins w m o;
      is_number = o.is_version.is_integer;
    })

message_length : (w : List ℕ) (m : Parts) (o : IsMessage w m) → length w ≡ length o.head + (length o.version + (length o.community + length m.pdu))
message_length w m o = ap length (o.whole ∙ ap (λ (c : List ℕ). o.head ++ c) o.joined) ∙ simp length-append

pub message_rest : (w : List ℕ) (m : Parts) (o : IsMessage w m) → parts_in m.version (length w) (after_version o) ≡ Some m
message_rest w m o =
    let size = message_length w m o in
    parts_in-again (length w) (after_version o) m (record {
      community = o.community;
      is_community = o.is_community;
      pdu_tag = o.pdu_tag;
      pdu_content = o.pdu_content;
      is_pdu = o.is_pdu;
      joined = refl;
      pdu_place = omega (arith, size, o.pdu_place);
    })

pub version_at_most : (v : Version) → version_number v ≤ 2147483647
version_at_most Version1 = omega arith
version_at_most Version2c = omega arith

-- the INTEGER of a version that was read
pub is_version_from : (w : List ℕ) (v : Version) (octets after : List ℕ) (t : TakesVersion w (pos (version_number v)) octets after) → IsVersion v (t.version_head ++ t.version_content)
is_version_from w v octets after t = record {
  content = t.version_content;
  is_element = (t.version_head, t.is_version.is_head, refl);
  is_integer = t.is_number;
  at_least = omega arith;
  at_most = version_at_most v;
}

-- A message that the octets begin with.
pub record MessageFront (w : List ℕ) (m : Parts) (after : List ℕ) (end : ℕ) : Type 0 where
  pub text : List ℕ
  pub is_message : IsMessage text m
  pub joined : w ≡ text ++ after
  pub size : length text ≡ end

pub message_front : (w : List ℕ) (v : Version) (octets after : List ℕ) (m : Parts) (end : ℕ) → version_in w ≡ Some (pos (version_number v), octets, after) → parts_in v end octets ≡ Some m → end + length after ≡ length w → MessageFront w m after end
message_front w v octets after m end first second ends =
    let t = version_in-is w (pos (version_number v)) octets after first in
    let p = parts_in-is v end octets m second in
    let r = p.1 in
    let version = t.version_head ++ t.version_content in
    let text = t.head ++ t.content in
    let whole : w ≡ text ++ after = t.is_message.parts ∙ sym (append_assoc t.head t.content after) in
    let joined : t.content ≡ version ++ (r.community ++ m.pdu) =
    t.is_version.parts ∙ sym (append_assoc t.version_head t.version_content octets) ∙ ap (λ (x : List ℕ). version ++ x) r.joined in
    let size : length text ≡ length t.head + (length version + (length r.community + length m.pdu)) =
    length-append t.head t.content ∙ ap (λ (n : ℕ). length t.head + n) (ap length joined ∙ length-append version (r.community ++ m.pdu) ∙ ap (λ (n : ℕ). length version + n) (length-append r.community m.pdu)) in
    let total : length w ≡ length text + length after = ap length whole ∙ length-append text after in
    let text_ends : length text ≡ end = omega (arith, total, ends) in
    record {
      text = text;
      is_message = record {
        version = version;
        is_version = subst (λ (x : Version). IsVersion x version) (sym p.0) (is_version_from w v octets after t);
        community = r.community;
        is_community = r.is_community;
        pdu_tag = r.pdu_tag;
        pdu_content = r.pdu_content;
        is_pdu = r.is_pdu;
        head = t.head;
        content = t.content;
        is_message = t.is_message.is_head;
        joined = joined;
        whole = refl;
        pdu_place = omega (arith, size, text_ends, r.pdu_place);
      };
      joined = whole;
      size = text_ends;
    }

pub message_from : (w : List ℕ) (v : Version) (octets after : List ℕ) (m : Parts) (end : ℕ) → version_in w ≡ Some (pos (version_number v), octets, after) → parts_in v end octets ≡ Some m → end + length after ≡ length w → after ≡ [] → IsMessage w m
message_from w v octets after m end first second ends none =
    let f = message_front w v octets after m end first second ends in
    let same : w ≡ f.text = f.joined ∙ ap (λ (x : List ℕ). f.text ++ x) none ∙ append-nil f.text in
    subst (λ (x : List ℕ). IsMessage x m) (sym same) f.is_message

-- the PDU stands at the end of a message
pub pdu_stands : (w : List ℕ) (m : Parts) → IsMessage w m → m.pdu ≡ slice_range w m.pdu_at (length w)
pdu_stands w m o =
    let front = o.head ++ (o.version ++ o.community) in
    let joined : w ≡ front ++ (m.pdu ++ []) = o.whole ∙ ap (λ (c : List ℕ). o.head ++ c) (o.joined ∙ ap (λ (x : List ℕ). o.version ++ (o.community ++ x)) (sym (append-nil m.pdu))) ∙ simp append_assoc in
    let place : length front ≡ m.pdu_at = length-append o.head (o.version ++ o.community) ∙ ap (λ (n : ℕ). length o.head + n) (length-append o.version o.community) ∙ sym o.pdu_place in
    let ends : m.pdu_at + length m.pdu ≡ length w = omega (arith, message_length w m o, o.pdu_place) in
    let here : slice_range w m.pdu_at (m.pdu_at + length m.pdu) ≡ m.pdu = subst (λ (x : List ℕ). slice_range x m.pdu_at (m.pdu_at + length m.pdu) ≡ m.pdu) (sym joined) (piece_at front m.pdu [] m.pdu_at place) in
    sym (subst (λ (n : ℕ). slice_range w m.pdu_at n ≡ m.pdu) ends here)

-- ---- another version

pub other_version_from : (w : List ℕ) (z : ℤ) (octets after : List ℕ) → ((v : Version) → z ≢ pos (version_number v)) → version_in w ≡ Some (z, octets, after) → OtherVersion w
other_version_from w z octets after other e =
    let t = version_in-is w z octets after e in
    record {
      head = t.head;
      content = t.content;
      after = after;
      is_message = t.is_message;
      version_head = t.version_head;
      version_content = t.version_content;
      others = octets;
      is_version = t.is_version;
      number = z;
      is_number = t.is_number;
      other = other;
    }

pub other_version_read : (w : List ℕ) (o : OtherVersion w) → version_in w ≡ Some (o.number, o.others, o.after)
other_version_read w o =
    version_in-again w o.number o.others o.after (record {
      head = o.head;
      content = o.content;
      is_message = o.is_message;
      version_head = o.version_head;
      version_content = o.version_content;
      is_version = o.is_version;
      is_number = o.is_number;
    })

-- 3 is the number of neither version
not_three : (v : Version) → pos 3 ≢ pos (version_number v)
not_three Version1 e = absurd cc
not_three Version2c e = absurd cc

-- An SNMPv3Message is of another version.
pub outer_is_other : (w : List ℕ) (m : Rattle.snmp_message.specs.Layout.Parts) → Outer w m → OtherVersion w
outer_is_other w m o = other_version_from w (pos 3) (others o) [] not_three (outer_version w m o)

-- ---- one reading

some_parts : (x y : ℤ × List ℕ × List ℕ) → Some x ≡ Some y → (x.0 ≡ y.0) × (x.1 ≡ y.1) × (x.2 ≡ y.2)
some_parts x y e =
    let same = same_some x y e in
    (ap (λ (v : ℤ × List ℕ × List ℕ). v.0) same, ap (λ (v : ℤ × List ℕ × List ℕ). v.1) same, ap (λ (v : ℤ × List ℕ × List ℕ). v.2) same)

same_version : (u v : Version) → pos (version_number u) ≡ pos (version_number v) → u ≡ v
same_version Version1 Version1 e = refl
same_version Version1 Version2c e = absurd cc
same_version Version2c Version1 e = absurd cc
same_version Version2c Version2c e = refl

pub one_message : (w : List ℕ) (m n : Parts) → IsMessage w m → IsMessage w n → m ≡ n
one_message w m n a b =
    let same = some_parts (pos (version_number m.version), after_version a, []) (pos (version_number n.version), after_version b, []) (sym (message_version w m a) ∙ message_version w n b) in
    let version : m.version ≡ n.version = same_version m.version n.version same.0 in
    same_some m n (sym (message_rest w m a) ∙ ap (λ (v : Version). parts_in v (length w) (after_version a)) version ∙ ap (parts_in n.version (length w)) same.1 ∙ message_rest w n b)

pub not_both : (w : List ℕ) (m : Parts) → IsMessage w m → OtherVersion w → ⊥
not_both w m a o =
    o.other m.version (some_parts (o.number, o.others, o.after) (pos (version_number m.version), after_version a, []) (sym (other_version_read w o) ∙ message_version w m a)).0
