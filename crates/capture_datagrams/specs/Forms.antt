-- What `snmpsec datagrams`, `show --from` and `open --from` do with a file in any of its forms.
--
-- `TellsFile P asked streams status`, `StopsFile`. What `datagrams` does with a file of any form: with
-- a capture `Tells`, with a text `TellsText` (`Texts`): of pasted hex what P prints of its octets, or the
-- line that refuses it (`IsHexOf`); of dumps what P prints of the octets of each (`PrintsAll` in `Dumped`),
-- or of the datagrams in them where they are packets (`PrintsPackets` in `Packets`), or the line of the
-- first that is none, and why (`IsRefusedDump`). `is_capture`: whether it is a capture, by what is asked or
-- by the file's first octets (`begins_capture`); `IsDumpText`: whether a text is dumps, by what is asked or
-- by a dump's first line (`HasDumpOn`). `IsFormWord`: the name of a form; `may_be_dumps`: it goes with
-- dumps of packets.
use Rattle.std.specs.Prelude.{◌≡◌, ◌⊎◌, Bool, true, false, List, ℕ, codes, Option, Some, None, IfSome}
use Rattle.capture_files.specs.Formats.{begins_capture}
use Rattle.capture_files.specs.Datagrams.{CannotBegin, Printing, Streams}
use Rattle.capture_files.specs.declared.fault.CaptureFault.TheVariants as capture
use Rattle.capture_datagrams.specs.Datagrams.{Tells, TellsNot}
use Rattle.capture_datagrams.specs.Texts.{TellsText, StopsText}
use Rattle.capture_datagrams.specs.declared.forms.Form.{Form}
use Rattle.capture_datagrams.specs.declared.forms.Form.TheVariants.{Pcap, Hex, Dump, Packets}
use Rattle.capture_datagrams.specs.declared.texts.TextForm.{TextForm}
use Rattle.capture_datagrams.specs.declared.texts.TextForm.TheVariants as text
use Rattle.capture_datagrams.specs.declared.forms.ReadOptions.{ReadOptions}
use Rattle.capture_datagrams.specs.declared.datagrams.Unread.{Unread}
use Rattle.capture_datagrams.specs.declared.datagrams.Unread.TheVariants as unread

-- the words for a form; dumps of packets have none
abbrev pub IsFormWord : Form → List ℕ → Type 0
IsFormWord Pcap word = (word ≡ codes "pcap") ⊎ (word ≡ codes "pcapng")
IsFormWord Hex word = word ≡ codes "hex"
IsFormWord Dump word = word ≡ codes "dump"
IsFormWord Packets word = ⊥

-- a form that dumps of packets may be asked for beside, or none
abbrev pub may_be_dumps : Option Form → Bool
may_be_dumps (Some Pcap) = false
may_be_dumps (Some Hex) = false
may_be_dumps (Some Dump) = true
may_be_dumps (Some Packets) = true
may_be_dumps None = true

-- a file is read as a capture: that is asked for, or the file begins as one where no form is
abbrev pub is_capture : Option Form → List ℕ → Bool
is_capture (Some Pcap) octets = true
is_capture (Some Hex) octets = false
is_capture (Some Dump) octets = false
is_capture (Some Packets) octets = false
is_capture None octets = begins_capture octets

abbrev pub form_by : Option Form → ReadOptions → TextForm
form_by (Some Pcap) a = text.Found
form_by (Some Hex) a = text.Hex
form_by (Some Dump) a = text.Dump
form_by (Some Packets) a = text.Packets a.ports
form_by None a = text.Found

-- how a text is read: as it is asked for
abbrev pub text_form : ReadOptions → TextForm
text_form a = form_by a.form a

-- A capture is read, or else a text.
abbrev pub Reads : Option Form → Streams → Type 0 → Type 0 → Type 0
Reads form s Capture Text =
    (IfSome s.unread (λ octets. is_capture form octets ≡ true) × Capture)
    ⊎ (IfSome s.unread (λ octets. is_capture form octets ≡ false) × Text)

abbrev pub TellsFile : Printing → ReadOptions → Streams → ℕ → Type 0
TellsFile P a s status = Reads a.form s (Tells P a.ports.now a.name.now s status)
    (TellsText P (text_form a) a.moment a.name.now s status)

-- the first octets aren't read, or it stops behind them
abbrev pub StopsFile : Printing → ReadOptions → Streams → Unread → Type 0
StopsFile P a s f =
    ((f ≡ unread.CannotRead) × CannotBegin s capture.CannotRead)
    ⊎ Reads a.form s (TellsNot P a.ports.now a.name.now s f) (StopsText P (text_form a) a.moment a.name.now s f)
