-- A capture in the format of libpcap: a header, and records of a header and a packet each. All numbers are in
-- one order.
--
-- `IsHeader`, `IsRecord header octets record` (the format of libpcap). A header says the order of all
-- numbers, by the number that it begins with, version 2 and a link below 65,536. A record is 16 octets and
-- the packet, whose length they say, at most 262,144. `IsHeaderFault octets place`: what is first at fault.
-- `field16_by`, `field32`, `field64` (`Field`): the number that stands at a place.
use Rattle.std.specs.Prelude.{◌≡◌, ◌≢◌, ◌⊎◌, ℕ, ◌+◌, ◌<◌, ◌≤◌, ◌==◌, ◌&&◌, ◌||◌, nat_le, Bool, true, false, List}
use Rattle.std.specs.Prelude.{◌++◌, length, drop, Option, Some}
use Rattle.std.specs.Io.KnownBytes.{Consumes}
use Rattle.capture_files.specs.Field.{field16_by, field32}
use Rattle.capture_files.specs.Items.{Record}
use Rattle.capture_files.specs.declared.field.Order.{Order}
use Rattle.capture_files.specs.declared.field.Order.TheVariants.{Big, Little}
use Rattle.capture_files.specs.declared.pcap.Header.{Header}
use Rattle.capture_files.specs.declared.item.Head.{Head}

-- ---- the header

-- it begins with a1b2c3d4, for microseconds, or with a1b23c4d, for nanoseconds
abbrev pub is_magic : Order → List ℕ → Bool
is_magic order octets = (field32 order octets 0 == 2712847316) || (field32 order octets 0 == 2712812621)

-- the octets begin with one of the numbers of the format
abbrev pub begins_pcap : List ℕ → Bool
begins_pcap octets = nat_le 4 (length octets) && (is_magic Big octets || is_magic Little octets)

abbrev pub major : Order → List ℕ → ℕ
major order octets = field16_by order octets 4

pub record IsHeader (octets : List ℕ) (h : Header) : Type 0 where
  pub long : length octets ≡ 24
  pub magic : is_magic h.order octets ≡ true
  pub version : major h.order octets ≡ 2
  pub link : h.link ≡ field32 h.order octets 20

-- The number of a capture doesn't stand there, or the header isn't whole: 0. Then the version: 4. Then the link: 20.
abbrev pub IsHeaderFault : List ℕ → ℕ → Type 0
IsHeaderFault octets place =
    ((place ≡ 0) × ((length octets < 24) ⊎ ((order : Order) → is_magic order octets ≡ false)))
    ⊎ ((order : Order) × (is_magic order octets ≡ true) × (length octets ≡ 24)
    × (((place ≡ 4) × (major order octets ≢ 2))
    ⊎ ((place ≡ 20) × (major order octets ≡ 2) × (65535 < field32 order octets 20))))

-- ---- a record

-- The octets are a record: the second, what is below a second, how many octets of the packet there are and
-- how many it had, in four octets each, and the packet. The link is the header's.
pub record IsRecord (header : Header) (octets : List ℕ) (r : Record) : Type 0 where
  pub long : length octets ≡ 16 + length r.packet
  pub link : r.link ≡ header.link
  pub moment : r.moment ≡ Some (field32 header.order octets 0)
  pub size : length r.packet ≡ field32 header.order octets 8
  pub original : r.original ≡ field32 header.order octets 12
  pub packet : r.packet ≡ drop 16 octets
  pub most : length r.packet ≤ 262144

-- the octets don't begin with a record
abbrev pub HasNoRecord : Header → List ℕ → Type 0
HasNoRecord header octets = (r : Record) (record' rest : List ℕ) → IsRecord header record' r
    → octets ≡ record' ++ rest → ⊥

-- ---- between the functions

-- what the 16 octets of a record's header say
pub record IsHead (header : Header) (octets : List ℕ) (h : Head) : Type 0 where
  pub link : h.link ≡ header.link
  pub moment : h.moment ≡ Some (field32 header.order octets 0)
  pub begins : h.at ≡ 0
  pub size : h.size ≡ field32 header.order octets 8
  pub original : h.original ≡ field32 header.order octets 12
  pub most : h.size ≤ 262144

-- less than a record was read
abbrev pub ReadsPart : Header → Option (List ℕ) → Option (List ℕ) → Type 0
ReadsPart header old new = (part : List ℕ) × HasNoRecord header part × (length part ≤ 262160) × Consumes old new part
