-- What `snmpsec datagrams`, `show --from` and `open --from` do with dumps.
use Rattle.std.specs.Prelude.{◌≡◌, ◌⊎◌, ⊤, ℕ, ◌+◌, ◌||◌, Bool, false, List, [], ◌∷◌, ◌++◌, codes, decimal}
use Rattle.capture_files.specs.Datagrams.{Printing}
use Rattle.capture_dumps.specs.Dumps.{HasDumps, IsUnread}
use Rattle.capture_dumps.specs.declared.dumps.DumpFault.{DumpFault}
use Rattle.capture_dumps.specs.declared.dumps.DumpFault.TheVariants as fault
use Rattle.capture_datagrams.specs.Datagrams.{status_of}
use Rattle.capture_datagrams.specs.Packets.{PrintsPackets}
use Rattle.capture_datagrams.specs.declared.texts.TextForm.{TextForm}
use Rattle.capture_datagrams.specs.declared.texts.TextForm.TheVariants.{Hex, Dump, Packets, Found}

-- ---- what is printed of datagrams

-- what is printed of these datagrams, which were received at this moment and of which the first has number n,
-- and whether any of it tells a refusal
abbrev pub PrintsAll : Printing → ℕ → ℕ → List (List ℕ) → List ℕ → Bool → Type 0
PrintsAll P n moment [] text refused = (text ≡ []) × (refused ≡ false)
PrintsAll P n moment (octets ∷ others) text refused =
    (first : List ℕ) × (tells : Bool) × (later : List ℕ) × (tell : Bool) × P n moment octets first tells
    × PrintsAll P (n + 1) moment others later tell
    × (text ≡ first ++ later) × (refused ≡ (tells || tell))

-- nothing is reported beside, and the status is 1 where a refusal is printed
abbrev pub PrintsDumps : Printing → ℕ → List (List ℕ) → List ℕ → List ℕ → ℕ → Type 0
PrintsDumps P moment dumps text note status = (refused : Bool) × PrintsAll P 1 moment dumps text refused × (note ≡ [])
    × (status ≡ status_of refused)

-- the octets of each dump are a datagram, or a packet where these are asked for
abbrev pub PrintsOctets : Printing → TextForm → ℕ → List (List ℕ) → List ℕ → List ℕ → ℕ → Type 0
PrintsOctets P (Packets ports) moment dumps text note status = PrintsPackets P ports.now moment dumps text note status
PrintsOctets P Hex moment dumps text note status = PrintsDumps P moment dumps text note status
PrintsOctets P Dump moment dumps text note status = PrintsDumps P moment dumps text note status
PrintsOctets P Found moment dumps text note status = PrintsDumps P moment dumps text note status

-- ---- the lines of a refusal

-- the line on which a text is no dump; one without a dump is none from its first on
abbrev pub fault_line : DumpFault → ℕ
fault_line fault.NoDump = 1
fault_line (fault.Unreadable line) = line
fault_line (fault.NotBegun line) = line
fault_line (fault.OtherCount line) = line
fault_line fault.OutOfMemory = 1

abbrev pub refused_row : List ℕ → ℕ → List ℕ
refused_row name line = codes "refused datagrams " ++ (name ++ (codes " line " ++ (decimal line ++ codes "\n")))

-- a fault of the text
abbrev pub IsOfText : DumpFault → Type 0
IsOfText fault.NoDump = ⊤
IsOfText (fault.Unreadable line) = ⊤
IsOfText (fault.NotBegun line) = ⊤
IsOfText (fault.OtherCount line) = ⊤
IsOfText fault.OutOfMemory = ⊥

-- The text is refused by the line at which it is no dump, with status 1. In which words the reason is reported beside
-- isn't defined.
abbrev pub IsRefusedDump : List ℕ → List ℕ → List ℕ → List ℕ → ℕ → Type 0
IsRefusedDump name text line note status =
    (why : DumpFault) × IsUnread text why × IsOfText why × (line ≡ refused_row name (fault_line why))
    × (status ≡ 1)

-- what is printed of a text of dumps, what is reported beside, and the status: that of the octets of each dump,
-- in their order, or of the refusal alone
abbrev pub IsDumpsOf : Printing → TextForm → ℕ → List ℕ → List ℕ → List ℕ → List ℕ → ℕ → Type 0
IsDumpsOf P form moment name text line note status =
    ((dumps : List (List ℕ)) × HasDumps text dumps × PrintsOctets P form moment dumps line note status)
    ⊎ IsRefusedDump name text line note status
