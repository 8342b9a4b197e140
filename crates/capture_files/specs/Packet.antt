-- The datagram of a packet: the frame of its link, IP and UDP. A packet is octets as they were captured.
--
-- `IsFound link packet whole found`. What a packet on a link of this type is. `IsNetwork`: what its frame
-- has in it; `IsUntagged` is the type behind all tags of virtual LANs (IEEE 802.1Q). `FindsIpv4` (RFC 791,
-- section 3.1) and `FindsIpv6` (RFC 8200, sections 3 and 4) say of each answer when it comes; `LeadsTo`:
-- the extension headers before a place are there and are skipped; `IsUdp` (RFC 768): the octets begin with
-- a datagram from a port to another. `IsCutShort` and `HasBadLength`: why there is none.
use Rattle.std.specs.Prelude.{◌≡◌, ◌≢◌, ◌⊎◌, ℕ, zero, suc, ◌+◌, ◌-◌, ◌*◌, ◌/◌, ◌%◌, ◌<◌, ◌≤◌, ◌==◌, ◌&&◌, ◌||◌, not}
use Rattle.std.specs.Prelude.{Bool, true, false, if◌then◌else◌, List, length, take, drop, slice_index}
use Rattle.capture_files.specs.Field.{field16}
use Rattle.capture_files.specs.declared.packet.Place.{Place}
use Rattle.capture_files.specs.declared.packet.Walk.{Walk}
use Rattle.capture_files.specs.declared.packet.Walk.TheVariants as walk
use Rattle.capture_files.specs.declared.packet.Network.{Network}
use Rattle.capture_files.specs.declared.packet.Network.TheVariants as network
use Rattle.capture_files.specs.declared.packet.Found.{Found}
use Rattle.capture_files.specs.declared.packet.Found.TheVariants as found

-- ---- UDP (RFC 768)

-- what IP has in it, of which it says that there are so many octets, begins with a UDP datagram from a port to another
pub record IsUdp (octets : List ℕ) (size source destination : ℕ) (datagram : List ℕ) : Type 0 where
  pub least : 8 ≤ field16 octets 4
  pub most : field16 octets 4 ≤ size
  pub there : field16 octets 4 ≤ length octets
  pub from : source ≡ field16 octets 0
  pub to : destination ≡ field16 octets 2
  pub is : datagram ≡ drop 8 (take (field16 octets 4) octets)

-- a length that can't be: there is no room for a header, or the header says another length than there can be
abbrev pub HasBadLength : List ℕ → ℕ → Type 0
HasBadLength octets size = (size < 8) ⊎ ((8 ≤ length octets) × ((field16 octets 4 < 8) ⊎ (size < field16 octets 4)))

-- the header or the datagram isn't whole
abbrev pub IsCutShort : List ℕ → ℕ → Type 0
IsCutShort octets size = (8 ≤ size)
    × ((length octets < 8)
    ⊎ ((8 ≤ field16 octets 4) × (field16 octets 4 ≤ size) × (length octets < field16 octets 4)))

abbrev pub FindsUdp : List ℕ → ℕ → Found → Type 0
FindsUdp octets size (found.Datagram source destination datagram) = IsUdp octets size source destination datagram.now
FindsUdp octets size found.Fragment = ⊥
FindsUdp octets size found.CutShort = IsCutShort octets size
FindsUdp octets size found.BadLength = HasBadLength octets size
FindsUdp octets size found.NotUdp = ⊥
FindsUdp octets size found.NotIp = ⊥
FindsUdp octets size found.OtherLink = ⊥

-- ---- IPv4 (RFC 791, section 3.1)

-- how many octets the header has
abbrev pub ipv4_head : List ℕ → ℕ
ipv4_head octets = slice_index octets 0 % 16 * 4

-- the octets begin with a header of IPv4
pub record IsIpv4 (octets : List ℕ) : Type 0 where
  pub long : 20 ≤ length octets
  pub version : slice_index octets 0 / 16 ≡ 4
  pub head : 20 ≤ ipv4_head octets
  pub total : ipv4_head octets ≤ field16 octets 2

-- the protocol
abbrev pub ipv4_protocol : List ℕ → ℕ
ipv4_protocol octets = slice_index octets 9

-- The flag "more fragments" and the offset, both 0 for a packet that isn't a piece. The flag "don't fragment"
-- is left out.
abbrev pub ipv4_piece : List ℕ → ℕ
ipv4_piece octets = field16 octets 6 % 16384

-- a packet of UDP which isn't a piece: what is behind its header up to its total length
pub record IsWholeUdp4 (octets : List ℕ) (Inside : List ℕ → ℕ → Type 0) : Type 0 where
  pub header : IsIpv4 octets
  pub protocol : ipv4_protocol octets ≡ 17
  pub piece : ipv4_piece octets ≡ 0
  pub inside : Inside (drop (ipv4_head octets) (take (field16 octets 2) octets)) (field16 octets 2 - ipv4_head octets)

abbrev pub FindsIpv4 : List ℕ → Bool → Found → Type 0
FindsIpv4 octets whole (found.Datagram source destination datagram) =
    IsWholeUdp4 octets (λ inside size. IsUdp inside size source destination datagram.now)
FindsIpv4 octets whole found.Fragment = IsIpv4 octets × (ipv4_protocol octets ≡ 17) × (ipv4_piece octets ≢ 0)
FindsIpv4 octets whole found.CutShort = ((whole ≡ false) × (length octets < 20)) ⊎ IsWholeUdp4 octets IsCutShort
FindsIpv4 octets whole found.BadLength = IsWholeUdp4 octets HasBadLength
FindsIpv4 octets whole found.NotUdp = IsIpv4 octets × (ipv4_protocol octets ≢ 17)
FindsIpv4 octets whole found.NotIp = ((whole ≡ true) ⊎ (20 ≤ length octets)) × (IsIpv4 octets → ⊥)
FindsIpv4 octets whole found.OtherLink = ⊥

-- ---- IPv6 (RFC 8200, sections 3 and 4)

-- hop by hop, routing, fragment, destination
abbrev pub is_extension : ℕ → Bool
is_extension kind = (kind == 0) || (kind == 43) || (kind == 44) || (kind == 60)

-- a fragment header that has an offset, or behind which more pieces come
abbrev pub is_piece : List ℕ → Place → Bool
is_piece octets p = (p.kind == 44) &&
    (not (field16 octets (p.at + 2) / 8 == 0) || not (field16 octets (p.at + 2) % 2 == 0))

-- What follows an extension header: its kind is in the first octet, and its length in the second but
-- for a fragment header.
abbrev pub next_place : List ℕ → Place → Place
next_place octets p = record {
  kind = slice_index octets p.at;
  at = p.at + (if p.kind == 44 then 8 else 8 * (slice_index octets (p.at + 1) + 1));
}

-- the extension header of this number, from 0
abbrev pub place_of : List ℕ → ℕ → Place
place_of octets zero = record { kind = slice_index octets 6; at = 40 }
place_of octets (suc n) = next_place octets (place_of octets n)

-- an extension header that is skipped: it is there, and not that of a piece
pub record IsSkipped (octets : List ℕ) (p : Place) : Type 0 where
  pub extension : is_extension p.kind ≡ true
  pub there : p.at + 8 ≤ length octets
  pub not_piece : is_piece octets p ≡ false

-- the headers before this place are skipped
abbrev pub LeadsTo : List ℕ → Place → Type 0
LeadsTo octets p = (n : ℕ) × ((k : ℕ) → k < n → IsSkipped octets (place_of octets k)) × (p ≡ place_of octets n)

-- a fragment header that is there, and is that of a piece of such a protocol
pub record IsPieceOf (octets : List ℕ) (Protocol : ℕ → Type 0) (p : Place) : Type 0 where
  pub leads : LeadsTo octets p
  pub there : p.at + 8 ≤ length octets
  pub piece : is_piece octets p ≡ true
  pub protocol : Protocol (slice_index octets p.at)

abbrev pub WalksTo : List ℕ → Walk → Type 0
WalksTo octets (walk.Udp at) = LeadsTo octets (record { kind = 17; at = at })
WalksTo octets walk.Fragment = (p : Place) × IsPieceOf octets (λ kind. kind ≡ 17) p
WalksTo octets walk.Other = (p : Place)
    × ((LeadsTo octets p × (is_extension p.kind ≡ false) × (p.kind ≢ 17)) ⊎ IsPieceOf octets (λ kind. kind ≢ 17) p)
WalksTo octets walk.Ends = (p : Place) × LeadsTo octets p × (is_extension p.kind ≡ true) × (length octets < p.at + 8)

-- the octets begin with a header of IPv6
pub record IsIpv6 (octets : List ℕ) : Type 0 where
  pub long : 40 ≤ length octets
  pub version : slice_index octets 0 / 16 ≡ 6

-- the packet, without what follows its payload
abbrev pub ipv6_packet : List ℕ → List ℕ
ipv6_packet octets = take (40 + field16 octets 4) octets

-- a packet of UDP which isn't a piece
pub record IsWholeUdp6 (octets : List ℕ) (Inside : List ℕ → ℕ → Type 0) : Type 0 where
  pub header : IsIpv6 octets
  pub at : ℕ
  pub leads : WalksTo (ipv6_packet octets) (walk.Udp at)
  pub inside : Inside (drop at (ipv6_packet octets)) (40 + field16 octets 4 - at)

-- what the extension headers lead to
pub record LeadsIpv6 (octets : List ℕ) (to : Walk) : Type 0 where
  pub header : IsIpv6 octets
  pub walks : WalksTo (ipv6_packet octets) to

abbrev pub FindsIpv6 : List ℕ → Bool → Found → Type 0
FindsIpv6 octets whole (found.Datagram source destination datagram) =
    IsWholeUdp6 octets (λ inside size. IsUdp inside size source destination datagram.now)
FindsIpv6 octets whole found.Fragment = LeadsIpv6 octets walk.Fragment
FindsIpv6 octets whole found.CutShort =
    ((whole ≡ false) × ((length octets < 40) ⊎ LeadsIpv6 octets walk.Ends)) ⊎ IsWholeUdp6 octets IsCutShort
FindsIpv6 octets whole found.BadLength = IsWholeUdp6 octets HasBadLength
FindsIpv6 octets whole found.NotUdp = LeadsIpv6 octets walk.Other ⊎ ((whole ≡ true) × LeadsIpv6 octets walk.Ends)
FindsIpv6 octets whole found.NotIp = ((whole ≡ true) ⊎ (40 ≤ length octets)) × (IsIpv6 octets → ⊥)
FindsIpv6 octets whole found.OtherLink = ⊥

-- ---- frames

-- the type of a tag of a virtual LAN
abbrev pub is_tag : ℕ → Bool
is_tag kind = (kind == 33024) || (kind == 34984)

-- the type behind so many tags, of which each has four octets, the type behind it last
abbrev pub type_behind : ℕ → List ℕ → ℕ → ℕ
type_behind first octets zero = first
type_behind first octets (suc n) = field16 octets (4 * n + 2)

-- The type and the octets behind all tags.
pub record IsUntagged (first : ℕ) (behind : List ℕ) (kind : ℕ) (octets : List ℕ) : Type 0 where
  pub tags : ℕ
  pub each : (k : ℕ) → k < tags → is_tag (type_behind first behind k) ≡ true
  pub kind_is : kind ≡ type_behind first behind tags
  pub there : 4 * tags ≤ length behind
  pub octets_are : octets ≡ drop (4 * tags) behind
  pub last : is_tag kind ≡ true → length octets < 4

-- The frame has a header of so many octets, with the type at a place, and behind it and all tags these octets
-- of that type.
pub record IsFrame (packet : List ℕ) (place head kind : ℕ) (octets : List ℕ) : Type 0 where
  pub long : head ≤ length packet
  pub untagged : IsUntagged (field16 packet place) (drop head packet) kind octets

abbrev pub IsFramed : List ℕ → ℕ → ℕ → Network → Type 0
IsFramed packet place head (network.Ipv4 octets) = IsFrame packet place head 2048 octets.now
IsFramed packet place head (network.Ipv6 octets) = IsFrame packet place head 34525 octets.now
IsFramed packet place head network.NotIp =
    (length packet < head)
    ⊎ ((kind : ℕ) × (octets : List ℕ) × IsFrame packet place head kind octets × (kind ≢ 2048) × (kind ≢ 34525))
IsFramed packet place head network.OtherLink = ⊥

-- IP without a frame
abbrev pub IsRaw : List ℕ → Network → Type 0
IsRaw packet (network.Ipv4 octets) = (octets.now ≡ packet) × (0 < length packet) × (slice_index packet 0 / 16 ≡ 4)
IsRaw packet (network.Ipv6 octets) = (octets.now ≡ packet) × (0 < length packet) × (slice_index packet 0 / 16 ≡ 6)
IsRaw packet network.NotIp = (length packet ≡ 0) ⊎ ((slice_index packet 0 / 16 ≢ 4) × (slice_index packet 0 / 16 ≢ 6))
IsRaw packet network.OtherLink = ⊥

-- what the frame of a link of this type has in it: Ethernet, IP, and both cooked kinds of Linux
abbrev pub IsNetwork : ℕ → List ℕ → Network → Type 0
IsNetwork link packet n =
    ((link ≡ 1) × IsFramed packet 12 14 n)
    ⊎ (((link ≡ 101) × IsRaw packet n)
    ⊎ (((link ≡ 113) × IsFramed packet 14 16 n)
    ⊎ (((link ≡ 276) × IsFramed packet 0 20 n)
    ⊎ ((n ≡ network.OtherLink) × (link ≢ 1) × (link ≢ 101) × (link ≢ 113) × (link ≢ 276)))))

-- what is found in what a frame has in it
abbrev pub FindsIn : Network → Bool → Found → Type 0
FindsIn (network.Ipv4 octets) whole f = FindsIpv4 octets.now whole f
FindsIn (network.Ipv6 octets) whole f = FindsIpv6 octets.now whole f
FindsIn network.NotIp whole f = f ≡ found.NotIp
FindsIn network.OtherLink whole f = f ≡ found.OtherLink

-- What a packet on a link of this type is, where `whole` says that it wasn't cut when it was captured.
abbrev pub IsFound : ℕ → List ℕ → Bool → Found → Type 0
IsFound link packet whole f = (n : Network) × IsNetwork link packet n × FindsIn n whole f
