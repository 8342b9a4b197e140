-- A capture in pcapng (draft-ietf-opsawg-pcapng): blocks, of which the header of a section says the order of
-- the numbers up to the next one, a description of an interface how the packets are captured that name it,
-- and a packet block one of them.
--
-- `IsBlock order octets`, `IsBlockIn section octets record section'` (draft-ietf-opsawg-pcapng). A block
-- has its length twice, alike, a multiple of 4; its order is the section's, but for the header of a section
-- (`block_order`). What it means by its kind (`Means`): another section, an interface more (`IsInterface`,
-- by its options: `Say`), a record (`IsPacket`), a record without a moment, or nothing. `IsMoved`: the
-- seconds with an offset, where they are from 0 to 2^64 - 1; `units`: how many units a second has.
use Rattle.std.specs.Prelude.{◌≡◌, ℕ, zero, suc, ◌+◌, ◌-◌, ◌*◌, ◌/◌, ◌%◌, ◌^◌, ◌<◌, ◌≤◌, ◌==◌, ◌&&◌, ◌||◌, not}
use Rattle.std.specs.Prelude.{nat_le, Bool, true, false, if◌then◌else◌, List, [], ◌∷◌, ◌++◌, length, take, drop}
use Rattle.std.specs.Prelude.{slice_index, slice_get, Option, Some, None, SomeIff}
use Rattle.capture_files.specs.Field.{field16_by, field32, field64}
use Rattle.capture_files.specs.Items.{Record}
use Rattle.capture_files.specs.declared.field.Order.{Order}
use Rattle.capture_files.specs.declared.field.Order.TheVariants.{Big, Little}
use Rattle.capture_files.specs.declared.pcapng.Kind.{Kind}
use Rattle.capture_files.specs.declared.pcapng.Kind.TheVariants as kind
use Rattle.capture_files.specs.declared.pcapng.Section.{Section}
use Rattle.capture_files.specs.declared.interface.Interface.{Interface}

-- ---- blocks

-- the octets begin with the header of a section, 0a0d0d0a, which reads alike in either order
abbrev pub begins_section : List ℕ → Bool
begins_section octets = nat_le 4 (length octets) && (field32 Big octets 0 == 168627466)

-- The order of a block's numbers: the section's, but for the header of a section, which has 1a2b3c4d in its own.
abbrev pub block_order : Order → List ℕ → Option Order
block_order section octets =
    if field32 Big octets 0 == 168627466
    then (if field32 Big octets 8 == 439041101 then Some Big
    else (if field32 Little octets 8 == 439041101 then Some Little else None))
    else Some section

-- how many octets a block has at least
abbrev pub least_size : List ℕ → ℕ
least_size octets = if field32 Big octets 0 == 168627466 then 28 else 12

abbrev pub IsFours : ℕ → Type 0
IsFours n = n % 4 ≡ 0

-- The octets are a block: its kind and its length in four octets each, what it has, and its length again. The
-- length counts all of them.
pub record IsBlock (order : Order) (octets : List ℕ) : Type 0 where
  pub least : least_size octets ≤ length octets
  pub fours : IsFours (length octets)
  pub size : field32 order octets 4 ≡ length octets
  pub again : field32 order octets (length octets - 4) ≡ length octets

-- how much of a block is looked at
abbrev pub LOOKED_AT : ℕ
LOOKED_AT = 262172

abbrev pub kind_of : ℕ → Kind
kind_of n = if n == 1 then kind.Interface
    else (if n == 6 then kind.Packet else (if (n == 2) || (n == 3) then kind.Undated else kind.Other))

abbrev pub block_kind : Order → List ℕ → Kind
block_kind order octets = if field32 Big octets 0 == 168627466 then kind.Section else kind_of (field32 order octets 0)

-- ---- interfaces

-- The octets begin with an option: its code, which isn't 0, and the length of its value, in two octets each,
-- and the value.
abbrev pub has_option : Order → List ℕ → Bool
has_option order octets = nat_le 4 (length octets) &&
    (not (field16_by order octets 0 == 0) && nat_le (4 + field16_by order octets 2) (length octets))

-- what the option says of an interface: if_tsresol is 9, and if_tsoffset 14
abbrev pub with_option : Order → List ℕ → Interface → Interface
with_option order octets i =
    if (field16_by order octets 0 == 9) && (field16_by order octets 2 == 1) then record i
    { resolution = slice_index octets 4 }
    else (if (field16_by order octets 0 == 14) && (field16_by order octets 2 == 8) then record i
    { offset = field64 order octets 4 } else i)

-- what follows it: a value is filled up to a multiple of four octets
abbrev pub behind_option : Order → List ℕ → List ℕ
behind_option order octets = drop (4 + (field16_by order octets 2 + 3) / 4 * 4) octets

-- So many options, behind which there is none, say of an interface that was so that it is so.
abbrev pub Say : ℕ → Order → List ℕ → Interface → Interface → Type 0
Say zero order octets i j = (has_option order octets ≡ false) × (j ≡ i)
Say (suc n) order octets i j = (has_option order octets ≡ true)
    × Say n order (behind_option order octets) (with_option order octets i) j

-- an interface of which no option says anything: millionths of a second since 1970
abbrev pub plain_interface : ℕ → Interface
plain_interface link = record { link = link; resolution = 6; offset = 0 }

-- the options say this of an interface
abbrev pub SayAll : Order → List ℕ → Interface → Interface → Type 0
SayAll order octets i j = (n : ℕ) × Say n order octets i j

-- a description of an interface, of so many octets
pub record IsInterface (order : Order) (front : List ℕ) (size : ℕ) (i : Interface) : Type 0 where
  pub least : 20 ≤ size
  pub most : size ≤ LOOKED_AT
  pub says : SayAll order (drop 16 (take (size - 4) front)) (plain_interface (field16_by order front 8)) i

-- ---- moments

-- how many units a second has: a power of 2 where the highest bit is set, and else of 10
abbrev pub units : ℕ → ℕ
units resolution = if nat_le 128 resolution then 2 ^ (resolution - 128) else 10 ^ resolution

-- The seconds with an offset, which is below 0 from 2^63 on; none where they aren't from 0 to 2^64 - 1.
pub record IsMoved (seconds offset : ℕ) (moment : Option ℕ) : Type 0 where
  pub on : offset < 9223372036854775808 → SomeIff moment (seconds + offset < 18446744073709551616) (seconds + offset)
  pub back : 9223372036854775808 ≤ offset
      → SomeIff moment (18446744073709551616 - offset ≤ seconds) (seconds - (18446744073709551616 - offset))

-- ---- what a block means

-- what was read of a section up to here
pub record InSection : Type 0 where
  pub order : Order
  pub interfaces : List Interface

-- a packet of the interface that it names by its place in the section
pub record IsPacket (s : InSection) (order : Order) (front : List ℕ) (size : ℕ) (r : Record) : Type 0 where
  pub least : 32 ≤ size
  pub interface : Interface
  pub named : slice_get s.interfaces (field32 order front 8) ≡ Some interface
  pub within : 32 + field32 order front 20 ≤ size
  pub most : field32 order front 20 ≤ 262144
  pub link : r.link ≡ interface.link
  pub moment : IsMoved
      ((field32 order front 12 * 4294967296 + field32 order front 16) / units interface.resolution)
      interface.offset r.moment
  pub packet : r.packet ≡ take (field32 order front 20) (drop 28 front)
  pub original : r.original ≡ field32 order front 24

-- a record of which nothing is reported but that it has no moment
abbrev pub undated : Record
undated = record { link = 0; moment = None; packet = []; original = 0 }

-- A block of such a kind, with this order and so many octets, which begins so: the record that it is, if it
-- is one, and what is read of its section then. A section's header has the major version 1.
abbrev pub MeansAs : Kind → InSection → Order → List ℕ → ℕ → Option Record → InSection → Type 0
MeansAs kind.Section s order front size r t = (field16_by order front 12 ≡ 1) × (r ≡ None)
    × (t ≡ record { order = order; interfaces = [] })
MeansAs kind.Interface s order front size r t =
    (i : Interface) × IsInterface order front size i × (r ≡ None)
    × (t ≡ record { order = s.order; interfaces = s.interfaces ++ i ∷ [] })
MeansAs kind.Packet s order front size r t = (c : Record) × IsPacket s order front size c × (r ≡ Some c) × (t ≡ s)
MeansAs kind.Undated s order front size r t = (r ≡ Some undated) × (t ≡ s)
MeansAs kind.Other s order front size r t = (r ≡ None) × (t ≡ s)

abbrev pub Means : InSection → Order → List ℕ → ℕ → Option Record → InSection → Type 0
Means s order front size r t = MeansAs (block_kind order front) s order front size r t

-- The octets are a block, which means this in a section of which that was read.
abbrev pub IsBlockIn : InSection → List ℕ → Option Record → InSection → Type 0
IsBlockIn s octets r t =
    (order : Order) × (block_order s.order octets ≡ Some order) × IsBlock order octets
    × Means s order (take LOOKED_AT octets) (length octets) r t

-- before the first section
abbrev pub nowhere : InSection
nowhere = record { order = Big; interfaces = [] }

-- ---- between the functions

abbrev pub section_of : Section → InSection
section_of s = record { order = s.order; interfaces = s.interfaces.items }
