-- Where a datagram stops being a message.
--
-- `FaultsAt w at`: the element that is expected at this place of w doesn't stand there, and all before it is
-- as it has to be. Elements are looked for depth first and from left to right, and each within its parent.
-- Octets after the last child of an element are a fault at the first of them; those after the whole message
-- are found last.
use Rattle.std.specs.Prelude.{◌≡◌, ◌≢◌, ◌⊎◌, ℕ, ℤ, ◌+◌, List, [], ◌++◌, length}
use Rattle.snmp_ber.specs.Number.{IsInteger32}
use Rattle.snmp_ber.specs.Element.{IsElement, Begins}
use Rattle.snmp_message.specs.declared.field.TheConstants.{INTEGER, OCTET_STRING, SEQUENCE}
use Rattle.snmp_community.specs.Layout.{Parts, IsVersion, IsMessage}
use Rattle.snmp_community.specs.declared.version.Version.{Version}

-- No element with this tag begins the octets.
abbrev pub HasNo : ℕ → List ℕ → Type 0
HasNo tag octets = (head content rest : List ℕ) → Begins octets tag head content rest → ⊥

-- No INTEGER of 32 bits begins the octets.
abbrev pub HasNoNumber : List ℕ → Type 0
HasNoNumber octets = (head content rest : List ℕ) (n : ℤ) → Begins octets INTEGER head content rest
    → IsInteger32 n content → ⊥

-- The octets are an element, of any tag, and more octets, of which the first is at this place.
pub record MoreThanElement (octets : List ℕ) (at : ℕ) : Type 0 where
  pub tag : ℕ
  pub content : List ℕ
  pub text : List ℕ
  pub is_element : IsElement tag content text
  pub more : List ℕ
  pub some : more ≢ []
  pub joined : octets ≡ text ++ more
  pub place : at ≡ length text

-- The octets that have to be the PDU aren't one element.
abbrev pub PduFaultsAt : List ℕ → ℕ → Type 0
PduFaultsAt octets at = (((tag : ℕ) → HasNo tag octets) × (at ≡ 0)) ⊎ MoreThanElement octets at

-- The community stands there, and what follows it has a fault.
pub record AfterCommunity (octets : List ℕ) (at : ℕ) : Type 0 where
  pub content : List ℕ
  pub community : List ℕ
  pub is_community : IsElement OCTET_STRING content community
  pub others : List ℕ
  pub joined : octets ≡ community ++ others
  pub inner : ℕ
  pub fault : PduFaultsAt others inner
  pub place : at ≡ length community + inner

-- The octets after the version aren't a community and a PDU.
abbrev pub RestFaultsAt : List ℕ → ℕ → Type 0
RestFaultsAt octets at = (HasNo OCTET_STRING octets × (at ≡ 0)) ⊎ AfterCommunity octets at

-- One of the versions stands there, and what follows it has a fault.
pub record AfterVersion (content : List ℕ) (at : ℕ) : Type 0 where
  pub number : Version
  pub version : List ℕ
  pub is_version : IsVersion number version
  pub others : List ℕ
  pub joined : content ≡ version ++ others
  pub inner : ℕ
  pub fault : RestFaultsAt others inner
  pub place : at ≡ length version + inner

-- The content isn't that of a message.
abbrev pub ContentFaultsAt : List ℕ → ℕ → Type 0
ContentFaultsAt content at = (HasNoNumber content × (at ≡ 0)) ⊎ AfterVersion content at

-- A SEQUENCE stands there, and its content has a fault.
pub record WithinSequence (w : List ℕ) (at : ℕ) : Type 0 where
  pub head : List ℕ
  pub content : List ℕ
  pub after : List ℕ
  pub is_sequence : Begins w SEQUENCE head content after
  pub inner : ℕ
  pub fault : ContentFaultsAt content inner
  pub place : at ≡ length head + inner

-- The octets are a message and more octets, of which the first is at this place.
pub record MoreThanMessage (w : List ℕ) (at : ℕ) : Type 0 where
  pub parts : Parts
  pub text : List ℕ
  pub is_message : IsMessage text parts
  pub more : List ℕ
  pub some : more ≢ []
  pub joined : w ≡ text ++ more
  pub place : at ≡ length text

abbrev pub FaultsAt : List ℕ → ℕ → Type 0
FaultsAt w at = (HasNo SEQUENCE w × (at ≡ 0)) ⊎ (WithinSequence w at ⊎ MoreThanMessage w at)
