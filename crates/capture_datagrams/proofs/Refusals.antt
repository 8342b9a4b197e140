-- What is written of a configuration that is refused.
use Rattle.std.proofs.Common.{◌≡◌, ◌⊎◌, ℕ, Bool, List, sym, ◌∙◌, subst, inl, inr}
use Rattle.std.specs.Io.KnownBytes.{Appends, Keeps}
use Rattle.snmpsec_io.specs.Transfer.{WritesFront}
use Rattle.capture_files.specs.Datagrams.{Streams}
use Rattle.capture_datagrams.specs.declared.datagrams.Unread.{Unread}
use Rattle.capture_datagrams.specs.declared.datagrams.Unread.TheVariants as unread
use Rattle.capture_datagrams.specs.declared.forms.ReadOptions.{ReadOptions}
use Rattle.capture_datagrams.specs.Printout.{IsRefusalOf, OpensFile, StopsBefore, StopsOpening}

pub refusal_written : (names : Bool) (config : List ℕ) (a : ReadOptions) (s : Streams) (line note : List ℕ) (told status : ℕ)
    → IsRefusalOf config line note × (told ≡ 1) → s.left ≡ s.unread → status ≡ told → Appends s.held s.written line → Appends s.untold s.told note
    → OpensFile names config a s status
refusal_written names config a s line note told status refuses unread same wrote tells =
    inl (same ∙ refuses.1, record { line = line; note = note; refuses = refuses.0; unread = unread; wrote = wrote; tells = tells })

front_written : (config : List ℕ) (s : Streams) (line note : List ℕ) → IsRefusalOf config line note → s.left ≡ s.unread
    → (WritesFront s.held s.written line × Keeps s.untold s.told) ⊎ (Appends s.held s.written line × WritesFront s.untold s.told note)
    → StopsBefore config s unread.CannotWrite
front_written config s line note refuses unread (inl w) = inl (record { line = line; note = note; refuses = refuses; unread = unread; wrote = w.0; tells = w.1 })
front_written config s line note refuses unread (inr w) = inr (record { line = line; note = note; refuses = refuses; unread = unread; wrote = w.0; tells = w.1 })

pub refusal_stopped : (names : Bool) (config : List ℕ) (a : ReadOptions) (s : Streams) (line note : List ℕ) (told : ℕ) (fault : Unread)
    → IsRefusalOf config line note × (told ≡ 1) → s.left ≡ s.unread → fault ≡ unread.CannotWrite
    → (WritesFront s.held s.written line × Keeps s.untold s.told) ⊎ (Appends s.held s.written line × WritesFront s.untold s.told note)
    → StopsOpening names config a s fault
refusal_stopped names config a s line note told fault refuses unread same wrote =
    inl (subst (StopsBefore config s) (sym same) (front_written config s line note refuses.0 unread wrote))
