-- The canonical spelling of a message is a message.
use Rattle.std.proofs.Common.{◌≡◌, ℕ, ◌+◌, ◌≤◌, List, ◌++◌, length, refl, sym, ap, ◌∙◌, append_assoc, arith}
use Rattle.std.proofs.lemmas.List.{length-append}
use Rattle.snmp_ber.specs.Spelling.{head_of, head_size, element}
use Rattle.snmp_ber.proofs.Spellings.{head_of-is, element-is}
use Rattle.snmp_message.specs.Scoped.{IsOneElement}
use Rattle.snmp_message.specs.Spelling.{number}
use Rattle.snmp_message.proofs.Writes.{element-length, number-is}
use Rattle.snmp_community.specs.Versions.{version_number}
use Rattle.snmp_community.specs.Layout.{Parts, IsMessage}
use Rattle.snmp_msg.specs.Pdu.{pdu_text}
use Rattle.snmp_msg.specs.Variables.{Variable, variables_text}
use Rattle.snmp_community.specs.Fronts.{pdu_before, pdu_after, text_after}
use Rattle.snmp_community.specs.declared.bindings.CommunityFront.{CommunityFront}
use Rattle.snmp_community.specs.Spelling.{front_text, content_text, community_text, written}
use Rattle.snmp_community.specs.declared.version.Version.{Version}
use Rattle.snmp_community.proofs.Messages.{version_at_most, one_message}

pub front_text-length : (v : Version) (community : List ℕ) → length (front_text v community) ≡ length (number (version_number v)) + length (element 4 community)
unfolding front_text
front_text-length v community = length-append (number (version_number v)) (element 4 community)

pub content_text-length : (v : Version) (community pdu : List ℕ) → length (content_text v community pdu) ≡ length (number (version_number v)) + (head_size (length community) + length community) + length pdu
unfolding content_text
content_text-length v community pdu =
    omega (arith, length-append (front_text v community) pdu, front_text-length v community, element-length 4 community)

content_joined : (v : Version) (community pdu : List ℕ) → content_text v community pdu ≡ number (version_number v) ++ (element 4 community ++ pdu)
unfolding content_text front_text
content_joined v community pdu = append_assoc (number (version_number v)) (element 4 community) pdu

pub community_text-size : (v : Version) (community pdu : List ℕ) → let size = length (content_text v community pdu) in length (community_text v community pdu) ≡ head_size size + size
unfolding community_text
community_text-size v community pdu = element-length 48 (content_text v community pdu)

-- A message is longer than its parts.
pub community_text-longer : (v : Version) (community pdu : List ℕ) → let size = length (community_text v community pdu) in (length community ≤ size) × (length pdu ≤ size)
community_text-longer v community pdu =
    let size = community_text-size v community pdu in
    let inner = content_text-length v community pdu in
    (omega arith, omega arith)

-- What is written is a message, with these parts.
pub community_text-is : (v : Version) (community pdu : List ℕ) → IsOneElement pdu → length (community_text v community pdu) ≤ 65507 → IsMessage (community_text v community pdu) (written v community pdu)
unfolding community_text
community_text-is v community pdu one most =
    let size = community_text-size v community pdu in
    let longer = community_text-longer v community pdu in
    let content = content_text v community pdu in
    record {
      version = number (version_number v);
      is_version = number-is 0 (version_number v) (omega arith) (version_at_most v);
      community = element 4 community;
      is_community = element-is 4 community (λ e. absurd cc) (omega (arith, most, longer));
      pdu_tag = one.0;
      pdu_content = one.1;
      is_pdu = one.2;
      head = head_of 48 (length content);
      content = content;
      is_message = head_of-is 48 (length content) (λ e. absurd cc) (omega (arith, most, size));
      joined = content_joined v community pdu;
      whole = refl;
      pdu_place = ap (λ (n : ℕ). length (head_of 48 (length content)) + n) (front_text-length v community);
    }

-- What is read of a message that was written is what was written.
pub read_as_written : (v : Version) (community pdu : List ℕ) (m : Parts) → IsOneElement pdu → length (community_text v community pdu) ≤ 65507 → IsMessage (community_text v community pdu) m → m ≡ written v community pdu
read_as_written v community pdu m one most is = one_message (community_text v community pdu) m (written v community pdu) is (community_text-is v community pdu one most)

-- a message by what comes before its PDU, whose content has so many octets
pub community_text-front : (v : Version) (community pdu : List ℕ) (size : ℕ) → size ≡ length (front_text v community) + length pdu → community_text v community pdu ≡ (head_of 48 size ++ front_text v community) ++ pdu
unfolding community_text content_text
community_text-front v community pdu size size_is =
    let whole : length (front_text v community ++ pdu) ≡ size = length-append (front_text v community) pdu ∙ sym size_is in
    ap (λ (n : ℕ). head_of 48 n ++ (front_text v community ++ pdu)) whole ∙ sym (append_assoc (head_of 48 size) (front_text v community) pdu)

-- the size of a message, as it was computed
pub measured : (v : Version) (community pdu : List ℕ) (inner size : ℕ) → inner ≡ length (front_text v community) + length pdu → size ≡ head_size inner + inner → length (community_text v community pdu) ≡ size
unfolding content_text
measured v community pdu inner size inner_is size_is =
    let content : inner ≡ length (content_text v community pdu) = inner_is ∙ sym (length-append (front_text v community) pdu) in
    community_text-size v community pdu ∙ sym (size_is ∙ ap (λ (n : ℕ). head_size n + n) content)

-- the same, of a message that is measured by its front and its bindings
pub measured_bindings : (f : CommunityFront) (vs : List Variable) (list_len pdu_len inner size : ℕ) → list_len ≡ length (variables_text vs)
    → ((list : List ℕ) → length list ≡ list_len → pdu_len ≡ length (pdu_text (pdu_before f list)))
    → inner ≡ length (front_text f.version f.community.now) + pdu_len → size ≡ head_size inner + inner → length (text_after f vs) ≡ size
measured_bindings f vs list_len pdu_len inner size list_is pdu_is inner_is size_is =
    let pdu = pdu_is (variables_text vs) (sym list_is) in
    measured f.version f.community.now (pdu_text (pdu_after f vs)) inner size (inner_is ∙ ap (λ (n : ℕ). length (front_text f.version f.community.now) + n) pdu) size_is
