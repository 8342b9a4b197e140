-- A capture in either format, as items that are read one behind the other: records, and blocks that are none.
--
-- `IsItem state octets record state'`, `AreItems`. The octets are an item of a capture, a record or a
-- block; which record it is, if it is one, and what the next is read by: the header, or what was read of
-- the section (`State`). A text is the items of a list. `HasNoItem`: the octets begin with no item.
-- `IsBeginning`: a capture's header, or that of the first section. `begins_capture`: what the first four
-- octets tell.
use Rattle.std.specs.Prelude.{◌≡◌, ◌≢◌, ◌⊎◌, ℕ, ◌+◌, ◌-◌, ◌<◌, ◌≤◌, ◌||◌, ⊤, Bool, true, false, List, [], ◌∷◌, ◌++◌}
use Rattle.std.specs.Prelude.{length, take, filter_map, Option, Some, None, IfSome, option_map}
use Rattle.std.specs.Io.KnownBytes.{Consumes, IsAtEnd}
use Rattle.std.proofs.Common.{inl, inr}
use Rattle.capture_files.specs.Field.{field16_by, field32}
use Rattle.capture_files.specs.Items.{Record, record_of}
use Rattle.capture_files.specs.Pcap.{IsHeader, IsHeaderFault, IsRecord, begins_pcap}
use Rattle.capture_files.specs.Pcapng.{InSection, IsBlockIn, IsFours, IsPacket, LOOKED_AT, Means, begins_section}
use Rattle.capture_files.specs.Pcapng.{block_order, least_size, nowhere, section_of}
use Rattle.capture_files.specs.declared.field.Order.{Order}
use Rattle.capture_files.specs.declared.pcap.Header.{Header}
use Rattle.capture_files.specs.declared.pcapng.BlockHead.{BlockHead}
use Rattle.capture_files.specs.declared.pcapng.Meaning.{Meaning}
use Rattle.capture_files.specs.declared.pcapng.Meaning.TheVariants as meaning
use Rattle.capture_files.specs.declared.format.Begun.{Begun}
use Rattle.capture_files.specs.declared.format.Format.{Format}
use Rattle.capture_files.specs.declared.format.Format.TheVariants as format
use Rattle.capture_files.specs.declared.interface.Interface.{Interface}
use Rattle.capture_files.specs.declared.item.Head.{Head}
use Rattle.capture_files.specs.declared.item.Item.{Item}
use Rattle.capture_files.specs.declared.item.Next.{Next}
use Rattle.capture_files.specs.declared.item.Next.TheVariants as next
use Rattle.capture_files.specs.declared.fault.CaptureFault.{CaptureFault}
use Rattle.capture_files.specs.declared.fault.CaptureFault.TheVariants as fault

-- ---- items

-- what the next item is read by: the header of a capture in the format of libpcap, or what was read of a
-- section of one in pcapng
abbrev pub State : Type 0
State = Header ⊎ InSection

-- The octets are an item: the record that it is, if it is one, and what the next is read by.
abbrev pub IsItem : State → List ℕ → Option Record → State → Type 0
IsItem (inl h) octets r t = (c : Record) × IsRecord h octets c × (r ≡ Some c) × (t ≡ inl h)
IsItem (inr s) octets r t = (q : InSection) × IsBlockIn s octets r q × (t ≡ inr q)

-- the octets are these items
abbrev pub AreItems : State → List (Option Record) → List ℕ → State → Type 0
AreItems s [] octets t = (octets ≡ []) × (t ≡ s)
AreItems s (x ∷ xs) octets t =
    (item : List ℕ) × (rest : List ℕ) × (next' : State) × IsItem s item x next' × (octets ≡ item ++ rest)
    × AreItems next' xs rest t

abbrev pub records_of : List (Option Record) → List Record
records_of items = filter_map (λ x. x) items

-- the octets don't begin with an item
abbrev pub HasNoItem : State → List ℕ → Type 0
HasNoItem s octets = (item rest : List ℕ) (r : Option Record) (t : State) → IsItem s item r t
    → octets ≡ item ++ rest → ⊥

-- ---- the beginning of a capture

-- the octets begin as a capture does
abbrev pub begins_capture : List ℕ → Bool
begins_capture octets = begins_pcap octets || begins_section octets

-- what a capture begins with: the header, or that of the first section
abbrev pub IsBeginning : List ℕ → State → Type 0
IsBeginning octets (inl h) = IsHeader octets h
IsBeginning octets (inr q) = (begins_section octets ≡ true) × (r : Option Record)
    × IsItem (inr nowhere) octets r (inr q)

-- ---- between the functions

abbrev pub state_of : Format → State
state_of (format.Pcap h) = inl h
state_of (format.Pcapng s) = inr (section_of s)

-- an item was read, of which the packet stands in the room
pub record ReadsItem (s t : State) (room : List ℕ) (old new : Option (List ℕ)) (i : Item) : Type 0 where
  pub octets : List ℕ
  pub is_item : IsItem s octets (option_map (λ h. record_of h room) i.packet) t
  pub size : length octets ≡ i.size
  pub least : 12 ≤ i.size
  pub most : i.size ≤ 4294967295
  pub within : IfSome i.packet (λ h. h.at + h.size ≤ LOOKED_AT)
  pub consumed : Consumes old new octets

-- what is next is no item
pub record ReadsNone (s : State) (old new : Option (List ℕ)) : Type 0 where
  pub part : List ℕ
  pub some : 0 < length part
  pub most : length part ≤ 4294967295
  pub consumed : Consumes old new part
  pub none : (rest : List ℕ) → new ≡ Some rest → HasNoItem s (part ++ rest)

abbrev pub IsNext : State → State → List ℕ → Option (List ℕ) → Option (List ℕ) → Next → Type 0
IsNext s t room old new (next.Item i) = ReadsItem s t room old new i
IsNext s t room old new next.End = Consumes old new [] × IsAtEnd new
IsNext s t room old new next.OutOfForm = ReadsNone s old new

-- less than an item was read
pub record ReadsFront (s : State) (old new : Option (List ℕ)) : Type 0 where
  pub part : List ℕ
  pub none : HasNoItem s part
  pub most : length part ≤ 4294967295
  pub consumed : Consumes old new part

-- an item was read whole
pub record ReadsWhole (s : State) (old new : Option (List ℕ)) : Type 0 where
  pub part : List ℕ
  pub item : Option Record
  pub next' : State
  pub is_item : IsItem s part item next'
  pub most : length part ≤ 4294967295
  pub consumed : Consumes old new part

-- why the next item isn't read
abbrev pub StopsItem : State → Option (List ℕ) → Option (List ℕ) → CaptureFault → Type 0
StopsItem s old new (fault.Octet place) = ⊥
StopsItem s old new fault.CannotRead = ReadsFront s old new
StopsItem s old new fault.CannotWrite = ⊥
StopsItem s old new fault.OutOfMemory = ReadsWhole s old new

-- what the first 12 octets of a block say
pub record IsBlockHead (section : Order) (octets : List ℕ) (h : BlockHead) : Type 0 where
  pub order : block_order section octets ≡ Some h.order
  pub size : h.size ≡ field32 h.order octets 4
  pub least : least_size octets ≤ h.size
  pub fours : IsFours h.size
  pub most : h.size ≤ 4294967295

-- of no block
abbrev pub HasNoBlockHead : Order → List ℕ → Type 0
HasNoBlockHead section octets =
    (order : Order) → block_order section octets ≡ Some order → least_size octets ≤ field32 order octets 4
    → IsFours (field32 order octets 4) → ⊥

-- These octets of a block were read: it is whole, and its length stands there again, or not.
abbrev pub IsRead : BlockHead → List ℕ → List ℕ → Option (List ℕ) → Bool → Type 0
IsRead h octets room left true =
    (length octets ≡ h.size) × (take LOOKED_AT octets ≡ take h.size room)
    × (field32 h.order octets (h.size - 4) ≡ h.size)
IsRead h octets room left false =
    ((length octets < h.size) × IsAtEnd left)
    ⊎ ((length octets ≡ h.size) × (field32 h.order octets (h.size - 4) ≢ h.size))

-- behind the front of a block more was read
pub record ReadsRest (h : BlockHead) (front room : List ℕ) (old new : Option (List ℕ)) (whole : Bool) : Type 0 where
  pub more : List ℕ
  pub consumed : Consumes old new more
  pub is : IsRead h (front ++ more) room new whole

-- less than the rest
pub record ReadsNoRest (h : BlockHead) (front : List ℕ) (old new : Option (List ℕ)) : Type 0 where
  pub more : List ℕ
  pub consumed : Consumes old new more
  pub less : length (front ++ more) < h.size

abbrev pub SkipsAll : ℕ → Option (List ℕ) → Option (List ℕ) → Bool → Type 0
SkipsAll n old new true = (octets : List ℕ) × Consumes old new octets × (length octets ≡ n)
SkipsAll n old new false = (octets : List ℕ) × Consumes old new octets × (length octets < n) × IsAtEnd new

abbrev pub SkipsPart : ℕ → Option (List ℕ) → Option (List ℕ) → Type 0
SkipsPart n old new = (octets : List ℕ) × Consumes old new octets × (length octets < n)

abbrev pub of_header : Header → State
of_header h = inl h

abbrev pub of_section : InSection → State
of_section s = inr s

-- a block of which that is the front was read, or it isn't one
abbrev pub IsNextBlock : List ℕ → InSection → InSection → List ℕ → Option (List ℕ) → Option (List ℕ)
    → Option Item → Type 0
IsNextBlock front s t room old new (Some i) = (w : ReadsItem (inr s) (inr t) room old new i) × (more : List ℕ)
    × (w.octets ≡ front ++ more)
IsNextBlock front s t room old new None = ReadsNone (inr s) old new

-- what a block means of which that is the front
abbrev pub IsMeaning : InSection → Order → List ℕ → ℕ → InSection → Meaning → Type 0
IsMeaning s order front size t (meaning.Record h) = Means s order front size (Some (record_of h front)) t
    × (h.at + h.size ≤ length front)
IsMeaning s order front size t meaning.Nothing = Means s order front size None t
IsMeaning s order front size t meaning.OutOfForm = (r : Option Record) (q : InSection)
    → Means s order front size r q → ⊥

-- an interface more is known
abbrev pub with_interface : InSection → Interface → InSection
with_interface s i = record { order = s.order; interfaces = s.interfaces ++ i ∷ [] }

abbrev pub TakesInterface : InSection → Order → List ℕ → ℕ → Type 0
TakesInterface s order front size = (i : Interface) × Means s order front size None (with_interface s i)

abbrev pub IsSectionBegun : Order → List ℕ → InSection → Meaning → Type 0
IsSectionBegun order front t (meaning.Record h) = ⊥
IsSectionBegun order front t meaning.Nothing = (field16_by order front 12 ≡ 1)
    × (t ≡ record { order = order; interfaces = [] })
IsSectionBegun order front t meaning.OutOfForm = field16_by order front 12 ≢ 1

abbrev pub IsPacketHead : InSection → Order → List ℕ → ℕ → Head → Type 0
IsPacketHead s order front size h = IsPacket s order front size (record_of h front) × (h.at + h.size ≤ length front)

abbrev pub IsNotPacket : InSection → Order → List ℕ → ℕ → Type 0
IsNotPacket s order front size = (r : Record) → IsPacket s order front size r → ⊥

-- a beginning was read, of so many octets, and what is left then
pub record HasBegun (unread left : Option (List ℕ)) (s : State) (place : ℕ) : Type 0 where
  pub front : List ℕ
  pub is_beginning : IsBeginning front s
  pub size : place ≡ length front
  pub most : place ≤ 4294967295
  pub consumed : Consumes unread left front

abbrev pub BeginsSection : Option (List ℕ) → Type 0
BeginsSection known = IfSome known (λ octets. begins_section octets ≡ true)

-- what was read is at fault where it begins a capture
abbrev pub IsBadBeginning : Option (List ℕ) → Option (List ℕ) → ℕ → List ℕ → Type 0
IsBadBeginning unread left place part =
    ((begins_section part ≡ false) × IsHeaderFault part place × ((length part < 24) → IsAtEnd left))
    ⊎ (BeginsSection unread × (place ≡ 0)
    × ((rest : List ℕ) → left ≡ Some rest → HasNoItem (inr nowhere) (part ++ rest)))

-- less than the beginning was read
abbrev pub IsPartBeginning : Option (List ℕ) → List ℕ → Type 0
IsPartBeginning unread part = (length part < 24) ⊎ (BeginsSection unread × HasNoItem (inr nowhere) part)

-- why the beginning isn't read
abbrev pub StopsBeginning : Option (List ℕ) → Option (List ℕ) → List ℕ → CaptureFault → Type 0
StopsBeginning unread left part (fault.Octet place) = IsBadBeginning unread left place part
StopsBeginning unread left part fault.CannotRead = IsPartBeginning unread part
StopsBeginning unread left part fault.CannotWrite = ⊥
StopsBeginning unread left part fault.OutOfMemory = ⊤

-- at most a beginning was read
pub record ReadsBeginning (unread left : Option (List ℕ)) (f : CaptureFault) : Type 0 where
  pub part : List ℕ
  pub most : length part ≤ 4294967295
  pub consumed : Consumes unread left part
  pub stops : StopsBeginning unread left part f

abbrev pub Begins : Option (List ℕ) → Option (List ℕ) → Begun → Type 0
Begins unread left b = HasBegun unread left (state_of b.format) b.place
