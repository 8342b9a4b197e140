-- Octets that begin with a ScopedPDU.
--
-- `HasTag`. Octets begin with a scoped PDU whose data is a PDU with this tag. `ContextsThere`: its contexts
-- and its data stand at the places that were kept as it was read; `StandsThere`: the PDU's numbers and the
-- place of its list are those kept.
use Rattle.std.specs.Prelude.{◌≡◌, ℕ, List, length, slice_range, Option, Some, option_map, option_and_then}
use Rattle.snmp_message.specs.declared.scoped.ScopedPlace.{ScopedPlace}
use Rattle.snmp_message.specs.Scoped.{Contexts, ScopedFront, scoped_front_in, contexts_there, StandsWithin}
use Rattle.snmp_msg.specs.Pdu.{PduParts, PduText, pdu_in}
use Rattle.snmp_incoming.specs.declared.place.PduPlace.{PduPlace}
use Rattle.snmp_incoming.specs.declared.octets.Octets.{Octets}
use Rattle.snmp_incoming.specs.declared.octets.Octets.TheVariants.{Borrowed, Owned}

abbrev pub text_of : Octets → List ℕ
text_of (Borrowed octets) = octets.now
text_of (Owned octets) = octets.items

-- a ScopedPDU in front of the text
pub record FrontOf (text : List ℕ) : Type 0 where
  pub contexts : Contexts
  pub is : ScopedFront text contexts

-- the PDU that a text is
pub record PduOf (text : List ℕ) : Type 0 where
  pub pdu : PduParts
  pub is : PduText text pdu

-- The text begins with a ScopedPDU, whose data is a PDU with this tag.
abbrev pub HasTag : List ℕ → ℕ → Type 0
HasTag text tag = (s : FrontOf text) × (p : PduOf s.contexts.pdu) × (p.pdu.tag ≡ tag)

-- ---- where its parts were found

-- The ScopedPDU that the text begins with has its parts at these places, and these are places of the text.
abbrev pub ContextsThere : List ℕ → ScopedPlace → Type 0
ContextsThere text p = (scoped_front_in text ≡ Some (contexts_there text p)) × StandsWithin (length text) p

-- ---- where its PDU was found

-- the PDU of the ScopedPDU that the text begins with, as it is read
abbrev pub pdu_read : List ℕ → Option PduParts
pdu_read text = option_and_then (λ (c : Contexts). pdu_in c.pdu) (scoped_front_in text)

-- a PDU with this tag, with these numbers and the list at this place
abbrev pub pdu_placed : List ℕ → ℕ → PduPlace → PduParts
pdu_placed text tag p = record {
  tag = tag;
  id = p.id;
  second = p.second;
  third = p.third;
  list = slice_range text p.list_at p.end;
}

-- The PDU of the text has this tag, and its numbers and its list are those of the place.
abbrev pub StandsThere : List ℕ → ℕ → PduPlace → Type 0
StandsThere text tag p =
    (option_map (λ (q : PduParts). q.tag) (pdu_read text) ≡ Some tag)
    × (option_map (λ (q : PduParts). q.id) (pdu_read text) ≡ Some p.id)
    × (option_map (λ (q : PduParts). q.second) (pdu_read text) ≡ Some p.second)
    × (option_map (λ (q : PduParts). q.third) (pdu_read text) ≡ Some p.third)
    × (option_map (λ (q : PduParts). q.list) (pdu_read text) ≡ Some (slice_range text p.list_at p.end))
