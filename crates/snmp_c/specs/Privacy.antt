-- What the calls that seal and open a text in its place answer and leave.
--
-- `Seals`, `Opens` (RFC 3826, sections 3.1.3 and 3.1.4). A text is sealed or opened in its place, over
-- `IsSealed`, `schedule` and `iv_of`; or it is as it was, exactly where key and salt haven't their lengths
-- (`AreKeyAndSalt`, sections 3.1.2.1 and 3.3.2).
use Rattle.std.specs.Prelude.{◌≡◌, ⊤, ℕ, List, length, Result, Ok, Err}
use Rattle.usm_aes.specs.Aes.{enciphered, schedule}
use Rattle.usm_aes.specs.Feedback.{IsSealed, iv_of, opened}
use Rattle.snmp_handles.specs.declared.fault.CallFault.{CallFault}
use Rattle.snmp_handles.specs.declared.fault.CallFault.TheVariants.{BadArgument}

-- an AES-128 key has 16 octets, and a salt, which msgPrivacyParameters is, 8 (RFC 3826, sections 3.1.2.1 and 3.3.2)
abbrev pub AreKeyAndSalt : List ℕ → List ℕ → Type 0
AreKeyAndSalt key salt = (length key ≡ 16) × (length salt ≡ 8)

-- The text is sealed in its place (RFC 3826, section 3.1.3), and opens again; exactly where key and salt have
-- their lengths, and else it is as it was.
abbrev pub Seals : List ℕ → ℕ → ℕ → List ℕ → List ℕ → List ℕ → Result ⊤ CallFault → Type 0
Seals key boots time salt text text_new (Ok done) =
    AreKeyAndSalt key salt
    × IsSealed (enciphered (schedule key)) (iv_of boots time salt) text text_new
    × (opened (enciphered (schedule key)) (iv_of boots time salt) text_new ≡ text)
Seals key boots time salt text text_new (Err BadArgument) = (AreKeyAndSalt key salt → ⊥) × (text_new ≡ text)
Seals key boots time salt text text_new (Err _) = ⊥

-- The sealed text is opened in its place (RFC 3826, section 3.1.4), likewise.
abbrev pub Opens : List ℕ → ℕ → ℕ → List ℕ → List ℕ → List ℕ → Result ⊤ CallFault → Type 0
Opens key boots time salt text text_new (Ok done) =
    AreKeyAndSalt key salt
    × IsSealed (enciphered (schedule key)) (iv_of boots time salt) text_new text
    × (text_new ≡ opened (enciphered (schedule key)) (iv_of boots time salt) text)
Opens key boots time salt text text_new (Err BadArgument) = (AreKeyAndSalt key salt → ⊥) × (text_new ≡ text)
Opens key boots time salt text text_new (Err _) = ⊥
