-- What the first octets of a file tell is what the file tells.
use Rattle.std.proofs.Common.{◌≡◌, ◌<◌, Bool, ℕ, List, [], ◌++◌, length, Option, Some, None, IfSome, sym, ap, ◌∙◌}
use Rattle.std.proofs.lemmas.Bool.{cases_lt}
use Rattle.std.specs.Io.KnownBytes.{Consumes, IsAtEnd}
use Rattle.capture_files.specs.Formats.{begins_capture}
use Rattle.capture_files.proofs.Records.{same_beginning}
use Rattle.capture_datagrams.specs.Forms.{is_capture}
use Rattle.capture_datagrams.specs.declared.forms.Form.{Form}
use Rattle.capture_datagrams.specs.declared.forms.Form.TheVariants.{Pcap, Hex, Dump, Packets}

tells : (form : Option Form) (front rest octets : List ℕ) (b : Bool) → octets ≡ front ++ rest → (length front < 24 → rest ≡ []) → is_capture form front ≡ b → is_capture form octets ≡ b
tells (Some Pcap) front rest octets b parts end is = is
tells (Some Hex) front rest octets b parts end is = is
tells (Some Dump) front rest octets b parts end is = is
tells (Some Packets) front rest octets b parts end is = is
tells None front rest octets b parts end is = ap begins_capture parts ∙ (same_beginning front rest (cases_lt (length front) 4) end ∙ is)

pub form_tells : (form : Option Form) (front : List ℕ) (unread left : Option (List ℕ)) (b : Bool) → Consumes unread left front → (length front < 24 → IsAtEnd left)
    → b ≡ is_capture form front → IfSome unread (λ octets. is_capture form octets ≡ b)
form_tells form front None left b read end is = tt
form_tells form front (Some octets) None b read end is = absurd read
form_tells form front (Some octets) (Some rest) b read end is = tells form front rest octets b read end (sym is)
