-- Where a datagram stops being a message: a message has no fault, and neither has a datagram of another version.
use Rattle.std.proofs.Common.{◌≡◌, ℕ, ◌+◌, ◌<◌, List, [], ◌++◌, length, take, Option, Some, None, refl, sym, ap, subst, ◌∙◌, append_assoc, arith, ℤ, pos, inl, inr}
use Rattle.std.proofs.lemmas.List.{append-nil, length-append}
use Rattle.snmp_ber.specs.Number.{IsInteger32}
use Rattle.snmp_ber.specs.Element.{IsElement, Begins}
use Rattle.snmp_ber.specs.Reading.{Front, front_of, integer32_of}
use Rattle.snmp_ber.proofs.Elements.{front_of-is, front_of-begun, one_element}
use Rattle.snmp_ber.proofs.Integers.{integer32_of-again}
use Rattle.snmp_message.specs.Reading.{element_in, version_in}
use Rattle.snmp_message.specs.declared.refusal.Refusal.TheVariants.{NotMessage}
use Rattle.snmp_message.proofs.Outers.{version_in-is}
use Rattle.snmp_message.proofs.Steps.{same_some, element_in-is, element_in-again, begins_from_element}
use Rattle.snmp_community.specs.Versions.{version_number}
use Rattle.snmp_community.specs.Layout.{Parts, IsVersion, IsMessage, OtherVersion}
use Rattle.snmp_community.specs.Faults.{HasNo, HasNoNumber, PduFaultsAt, RestFaultsAt, ContentFaultsAt, WithinSequence, MoreThanMessage, FaultsAt}
use Rattle.snmp_community.specs.declared.version.Version.{Version}
use Rattle.snmp_community.specs.Reading.{parts_in}
use Rattle.snmp_community.specs.Refusals.{RefusesMessage}
use Rattle.snmp_community.proofs.Messages.{after_version, message_begins, version_begins, is_version_from, message_front}

none_some : {A : Type 0} (o : Option A) (x : A) → o ≡ None → o ≡ Some x → ⊥
none_some o x e h = cc

-- ---- what is found where nothing is read

pub has_no : (tag : ℕ) (octets : List ℕ) → element_in tag octets ≡ None → HasNo tag octets
has_no tag octets e head content rest begun = none_some (element_in tag octets) _ e (element_in-again octets tag head content rest begun)

pub has_no_number : (octets : List ℕ) → element_in 2 octets ≡ None → HasNoNumber octets
has_no_number octets e head content rest n begun number = has_no 2 octets e head content rest begun

-- Octets begin with one element.
pub same_front : (octets : List ℕ) (tag other : ℕ) (head content rest head2 content2 rest2 : List ℕ)
    → Begins octets tag head content rest → Begins octets other head2 content2 rest2 → (content ≡ content2) × (rest ≡ rest2) × (length head ≡ length head2)
same_front octets tag other head content rest head2 content2 rest2 a b =
    let left : Front = record { tag = tag; head_size = length head; content = content; rest = rest } in
    let right : Front = record { tag = other; head_size = length head2; content = content2; rest = rest2 } in
    let same : left ≡ right = same_some left right (sym (front_of-begun octets tag head content rest a) ∙ front_of-begun octets other head2 content2 rest2 b) in
    (ap (λ (f : Front). f.content) same, ap (λ (f : Front). f.rest) same, ap (λ (f : Front). f.head_size) same)

pub no_number_in : (octets : List ℕ) (f : Front) → element_in 2 octets ≡ Some f → integer32_of f.content ≡ None → HasNoNumber octets
no_number_in octets f e none head content rest n begun number =
    let found : Front = record { tag = 2; head_size = length head; content = content; rest = rest } in
    let same : f ≡ found = same_some f found (sym e ∙ element_in-again octets 2 head content rest begun) in
    let inner : f.content ≡ content = ap (λ (x : Front). x.content) same in
    none_some (integer32_of content) n (ap integer32_of (sym inner) ∙ none) (integer32_of-again content n number)

-- A SEQUENCE was read whose content has a fault.
pub within_from : (w : List ℕ) (f : Front) (at inner : ℕ) → element_in 48 w ≡ Some f → at ≡ f.head_size + inner → ContentFaultsAt f.content inner → FaultsAt w at
within_from w f at inner e place fault =
    let t = element_in-is 48 w f e in
    inr (inl (record {
      head = t.head;
      content = f.content;
      after = f.rest;
      is_sequence = record { is_head = t.is_head; parts = t.parts };
      inner = inner;
      fault = fault;
      place = omega (arith, place, t.head_size);
    }))

-- Octets that aren't only one element.
pub more_from : (octets : List ℕ) (f : Front) (at : ℕ) → front_of octets ≡ Some f → at ≡ f.head_size + length f.content → 0 < length f.rest → PduFaultsAt octets at
more_from octets f at e place some =
    let front = front_of-is octets f e in
    let head = take f.head_size octets in
    inr (record {
      tag = f.tag;
      content = f.content;
      text = head ++ f.content;
      is_element = (head, front.begins.is_head, refl);
      more = f.rest;
      some = λ none. omega (arith, ap length none);
      joined = front.begins.parts ∙ sym (append_assoc head f.content f.rest);
      place = omega (arith, place, length-append head f.content, front.head_length);
    })

-- A community was read, and what follows it has a fault.
pub community_from : (octets : List ℕ) (f : Front) (at inner : ℕ) → element_in 4 octets ≡ Some f → at ≡ f.head_size + length f.content + inner → PduFaultsAt f.rest inner → RestFaultsAt octets at
community_from octets f at inner e place fault =
    let t = element_in-is 4 octets f e in
    inr (record {
      content = f.content;
      community = t.head ++ f.content;
      is_community = (t.head, t.is_head, refl);
      others = f.rest;
      joined = t.parts ∙ sym (append_assoc t.head f.content f.rest);
      inner = inner;
      fault = fault;
      place = omega (arith, place, length-append t.head f.content, t.head_size);
    })

-- A version was read, and what follows it has a fault.
pub version_from : (w : List ℕ) (v : Version) (octets after : List ℕ) (at inner : ℕ) → version_in w ≡ Some (pos (version_number v), octets, after) → at + length octets + length after ≡ length w + inner → RestFaultsAt octets inner → FaultsAt w at
version_from w v octets after at inner e place fault =
    let t = version_in-is w (pos (version_number v)) octets after e in
    let version = t.version_head ++ t.version_content in
    let joined : t.content ≡ version ++ octets = t.is_version.parts ∙ sym (append_assoc t.version_head t.version_content octets) in
    let content_size : length t.content ≡ length version + length octets = ap length joined ∙ length-append version octets in
    let size : length w ≡ length t.head + (length t.content + length after) = ap length t.is_message.parts ∙ length-append t.head (t.content ++ after) ∙ ap (λ (n : ℕ). length t.head + n) (length-append t.content after) in
    inr (inl (record {
      head = t.head;
      content = t.content;
      after = after;
      is_sequence = t.is_message;
      inner = length version + inner;
      fault = inr (record {
        number = v;
        version = version;
        is_version = is_version_from w v octets after t;
        others = octets;
        joined = joined;
        inner = inner;
        fault = fault;
        place = refl;
      });
      place = omega (arith, place, size, content_size);
    }))

-- A message was read, and there are octets after it.
pub after_message : (w : List ℕ) (v : Version) (octets after : List ℕ) (m : Parts) (end : ℕ) → version_in w ≡ Some (pos (version_number v), octets, after) → parts_in v end octets ≡ Some m → end + length after ≡ length w → 0 < length after → FaultsAt w end
after_message w v octets after m end first second ends some =
    let f = message_front w v octets after m end first second ends in
    inr (inr (record {
      parts = m;
      text = f.text;
      is_message = f.is_message;
      more = after;
      some = λ none. omega (arith, ap length none);
      joined = f.joined;
      place = sym f.size;
    }))

-- ---- a message has no fault

-- octets that are an element and others begin with it
begins_in : (tag : ℕ) (content text rest octets : List ℕ) (e : IsElement tag content text) → octets ≡ text ++ rest → Begins octets tag e.0 content rest
begins_in tag content text rest octets e joined = record { is_head = e.1; parts = joined ∙ ap (λ (x : List ℕ). x ++ rest) e.2 ∙ append_assoc e.0 content rest }

whole_text : (tag : ℕ) (content text : List ℕ) (e : IsElement tag content text) → Begins text tag e.0 content []
whole_text tag content text e = record { is_head = e.1; parts = e.2 ∙ ap (λ (r : List ℕ). e.0 ++ r) (sym (append-nil content)) }

-- one element, and octets after it, are not one element
not_more : (tag other : ℕ) (content inner whole text more : List ℕ) → IsElement tag content whole → IsElement other inner text → whole ≡ text ++ more → more ≡ []
not_more tag other content inner whole text more a b joined =
    sym (one_element whole text [] more tag other content inner a b (append-nil whole ∙ joined)).3

pdu_whole : (tag : ℕ) (content pdu : List ℕ) (at : ℕ) → IsElement tag content pdu → PduFaultsAt pdu at → ⊥
pdu_whole tag content pdu at e (inl h) = h.0 tag e.0 content [] (whole_text tag content pdu e)
pdu_whole tag content pdu at e (inr h) = h.some (not_more tag h.tag content h.content pdu h.text h.more e h.is_element h.joined)

rest_whole : (tag : ℕ) (content pdu name community : List ℕ) (at : ℕ) → IsElement tag content pdu → IsElement 4 name community → RestFaultsAt (community ++ pdu) at → ⊥
rest_whole tag content pdu name community at e c (inl h) = h.0 c.0 name pdu (begins_from_element 4 name community pdu c)
rest_whole tag content pdu name community at e c (inr h) =
    let same : pdu ≡ h.others = (one_element community h.community pdu h.others 4 4 name h.content c h.is_community h.joined).3 in
    pdu_whole tag content pdu h.inner e (subst (λ (x : List ℕ). PduFaultsAt x h.inner) (sym same) h.fault)

content_whole : (w : List ℕ) (m : Parts) (o : IsMessage w m) (at : ℕ) → ContentFaultsAt o.content at → ⊥
content_whole w m o at (inl h) = h.0 o.is_version.is_element.0 o.is_version.content (after_version o) (pos (version_number m.version)) (version_begins w m o) o.is_version.is_integer
content_whole w m o at (inr h) =
    let same : after_version o ≡ h.others = (one_element o.version h.version (after_version o) h.others 2 2 o.is_version.content h.is_version.content o.is_version.is_element h.is_version.is_element (sym o.joined ∙ h.joined)).3 in
    rest_whole o.pdu_tag o.pdu_content m.pdu m.community o.community h.inner o.is_pdu o.is_community (subst (λ (x : List ℕ). RestFaultsAt x h.inner) (sym same) h.fault)

pub no_fault : (w : List ℕ) (at : ℕ) (m : Parts) → FaultsAt w at → IsMessage w m → ⊥
no_fault w at m (inl h) o = h.0 o.head o.content [] (message_begins w m o)
no_fault w at m (inr (inl h)) o =
    let same = same_front w 48 48 h.head h.content h.after o.head o.content [] h.is_sequence (message_begins w m o) in
    content_whole w m o h.inner (subst (λ (x : List ℕ). ContentFaultsAt x h.inner) same.0 h.fault)
no_fault w at m (inr (inr h)) o =
    h.some (not_more 48 48 o.content h.is_message.content w h.text h.more (o.head, o.is_message, o.whole) (h.is_message.head, h.is_message.is_message, h.is_message.whole) h.joined)

-- ---- another version has no fault

same_number : (content : List ℕ) (y z : ℤ) → IsInteger32 y content → IsInteger32 z content → y ≡ z
same_number content y z a b = sym a.integer.value ∙ b.integer.value

-- The content begins with an INTEGER of another number, so it doesn't begin with a version.
not_version : (content head inner rest : List ℕ) (z : ℤ) (v : Version) (version others : List ℕ) → Begins content 2 head inner rest → IsInteger32 z inner → IsVersion v version → content ≡ version ++ others → z ≡ pos (version_number v)
not_version content head inner rest z v version others begun number is joined =
    let second = begins_in 2 is.content version others content is.is_element joined in
    let same = same_front content 2 2 head inner rest is.is_element.0 is.content others begun second in
    same_number inner z (pos (version_number v)) number (subst (λ (x : List ℕ). IsInteger32 (pos (version_number v)) x) (sym same.0) is.is_integer)

other_content : (w : List ℕ) (o : OtherVersion w) (at : ℕ) → ContentFaultsAt o.content at → ⊥
other_content w o at (inl h) = h.0 o.version_head o.version_content o.others o.number o.is_version o.is_number
other_content w o at (inr h) = o.other h.number (not_version o.content o.version_head o.version_content o.others o.number h.number h.version h.others o.is_version o.is_number h.is_version h.joined)

pub no_fault_other : (w : List ℕ) (at : ℕ) → FaultsAt w at → OtherVersion w → ⊥
no_fault_other w at (inl h) o = h.0 o.head o.content o.after o.is_message
no_fault_other w at (inr (inl h)) o =
    let same = same_front w 48 48 h.head h.content h.after o.head o.content o.after h.is_sequence o.is_message in
    other_content w o h.inner (subst (λ (x : List ℕ). ContentFaultsAt x h.inner) same.0 h.fault)
no_fault_other w at (inr (inr h)) o =
    let m = h.is_message in
    let begun : Begins w 48 m.head m.content h.more = begins_in 48 m.content h.text h.more w (m.head, m.is_message, m.whole) h.joined in
    let same = same_front w 48 48 m.head m.content h.more o.head o.content o.after begun o.is_message in
    o.other h.parts.version (not_version o.content o.version_head o.version_content o.others o.number h.parts.version m.version (after_version m) o.is_version o.is_number m.is_version (sym same.0 ∙ m.joined))

-- A fault is why the datagram is refused as no message.
pub refused : (w : List ℕ) (at : ℕ) → FaultsAt w at → RefusesMessage w NotMessage (Some at)
refused w at f = (no_fault_other w at f, λ m. no_fault w at m f, f)

-- ---- a datagram has one fault

one_pdu_fault : (octets : List ℕ) (a b : ℕ) → PduFaultsAt octets a → PduFaultsAt octets b → a ≡ b
one_pdu_fault octets a b (inl g) (inl h) = g.1 ∙ sym h.1
one_pdu_fault octets a b (inl g) (inr h) = absurd (g.0 h.tag h.is_element.0 h.content h.more (begins_in h.tag h.content h.text h.more octets h.is_element h.joined))
one_pdu_fault octets a b (inr g) (inl h) = absurd (h.0 g.tag g.is_element.0 g.content g.more (begins_in g.tag g.content g.text g.more octets g.is_element g.joined))
one_pdu_fault octets a b (inr g) (inr h) =
    let same = (one_element g.text h.text g.more h.more g.tag h.tag g.content h.content g.is_element h.is_element (sym g.joined ∙ h.joined)).2 in
    g.place ∙ ap length same ∙ sym h.place

one_rest_fault : (octets : List ℕ) (a b : ℕ) → RestFaultsAt octets a → RestFaultsAt octets b → a ≡ b
one_rest_fault octets a b (inl g) (inl h) = g.1 ∙ sym h.1
one_rest_fault octets a b (inl g) (inr h) = absurd (g.0 h.is_community.0 h.content h.others (begins_in 4 h.content h.community h.others octets h.is_community h.joined))
one_rest_fault octets a b (inr g) (inl h) = absurd (h.0 g.is_community.0 g.content g.others (begins_in 4 g.content g.community g.others octets g.is_community g.joined))
one_rest_fault octets a b (inr g) (inr h) =
    let same = one_element g.community h.community g.others h.others 4 4 g.content h.content g.is_community h.is_community (sym g.joined ∙ h.joined) in
    let inner = one_pdu_fault h.others g.inner h.inner (subst (λ (x : List ℕ). PduFaultsAt x g.inner) same.3 g.fault) h.fault in
    omega (arith, g.place, h.place, ap length same.2, inner)

one_content_fault : (content : List ℕ) (a b : ℕ) → ContentFaultsAt content a → ContentFaultsAt content b → a ≡ b
one_content_fault content a b (inl g) (inl h) = g.1 ∙ sym h.1
one_content_fault content a b (inl g) (inr h) =
    let e = h.is_version.is_element in
    absurd (g.0 e.0 h.is_version.content h.others (pos (version_number h.number)) (begins_in 2 h.is_version.content h.version h.others content e h.joined) h.is_version.is_integer)
one_content_fault content a b (inr g) (inl h) =
    let e = g.is_version.is_element in
    absurd (h.0 e.0 g.is_version.content g.others (pos (version_number g.number)) (begins_in 2 g.is_version.content g.version g.others content e g.joined) g.is_version.is_integer)
one_content_fault content a b (inr g) (inr h) =
    let same = one_element g.version h.version g.others h.others 2 2 g.is_version.content h.is_version.content g.is_version.is_element h.is_version.is_element (sym g.joined ∙ h.joined) in
    let inner = one_rest_fault h.others g.inner h.inner (subst (λ (x : List ℕ). RestFaultsAt x g.inner) same.3 g.fault) h.fault in
    omega (arith, g.place, h.place, ap length same.2, inner)

-- A message with octets after it begins with a SEQUENCE whose content has no fault.
front_begins : (w : List ℕ) (at : ℕ) (h : MoreThanMessage w at) → Begins w 48 h.is_message.head h.is_message.content h.more
front_begins w at h = begins_in 48 h.is_message.content h.text h.more w (h.is_message.head, h.is_message.is_message, h.is_message.whole) h.joined

not_within : (w : List ℕ) (a b : ℕ) → WithinSequence w a → MoreThanMessage w b → ⊥
not_within w a b g h =
    let same = same_front w 48 48 g.head g.content g.after h.is_message.head h.is_message.content h.more g.is_sequence (front_begins w b h) in
    content_whole h.text h.parts h.is_message g.inner (subst (λ (x : List ℕ). ContentFaultsAt x g.inner) same.0 g.fault)

pub one_fault : (w : List ℕ) (a b : ℕ) → FaultsAt w a → FaultsAt w b → a ≡ b
one_fault w a b (inl g) (inl h) = g.1 ∙ sym h.1
one_fault w a b (inl g) (inr (inl h)) = absurd (g.0 h.head h.content h.after h.is_sequence)
one_fault w a b (inl g) (inr (inr h)) = absurd (g.0 h.is_message.head h.is_message.content h.more (front_begins w b h))
one_fault w a b (inr (inl g)) (inl h) = absurd (h.0 g.head g.content g.after g.is_sequence)
one_fault w a b (inr (inl g)) (inr (inl h)) =
    let same = same_front w 48 48 g.head g.content g.after h.head h.content h.after g.is_sequence h.is_sequence in
    let inner = one_content_fault h.content g.inner h.inner (subst (λ (x : List ℕ). ContentFaultsAt x g.inner) same.0 g.fault) h.fault in
    omega (arith, g.place, h.place, same.2, inner)
one_fault w a b (inr (inl g)) (inr (inr h)) = absurd (not_within w a b g h)
one_fault w a b (inr (inr g)) (inl h) = absurd (h.0 g.is_message.head g.is_message.content g.more (front_begins w a g))
one_fault w a b (inr (inr g)) (inr (inl h)) = absurd (not_within w b a h g)
one_fault w a b (inr (inr g)) (inr (inr h)) =
    let same = (one_element g.text h.text g.more h.more 48 48 g.is_message.content h.is_message.content (g.is_message.head, g.is_message.is_message, g.is_message.whole) (h.is_message.head, h.is_message.is_message, h.is_message.whole) (sym g.joined ∙ h.joined)).2 in
    g.place ∙ ap length same ∙ sym h.place
