-- What the calls on keys and codes answer and write.
--
-- `Gives InRange size octets protocol ..`. What a call on keys answers and writes: the octets, of which
-- there are so many, in the front of the buffer and their number, or nothing. `WritesOctets`: the same
-- without a protocol; `IsUntouched`: nothing is written. `auth_of` (RFC 3414 section 5, RFC 7860 section
-- 8): the protocol of a number. `GivesKey` (RFC 3414 sections 2.6, 11.2 and A.2), `GivesLocalised`
-- (sections 2.6 and A.2; RFC 7860 section 5), `GivesCode` (sections 6.3.1 and 7.3.1; RFC 7860 section
-- 4.2.1): the three calls, each with its ranges, over `ku`, `kul` and `mac`.
use Rattle.std.specs.Prelude.{◌==◌, if◌then◌else◌, ◌≡◌, ◌<◌, ◌≤◌, ⊤, ℕ, List, ◌++◌, length, drop, replicate, Option}
use Rattle.std.specs.Prelude.{Some, None, Result, Ok, Err}
use Rattle.usm_keys.specs.Keys.{ku, kul}
use Rattle.usm_keys.specs.Protocols.{hash_of, key_octets, mac, mac_octets}
use Rattle.usm_keys.specs.declared.auth.Auth.{Auth}
use Rattle.usm_keys.specs.declared.auth.Auth.TheVariants.{Md5, Sha1, Sha256}
use Rattle.usm_core.specs.Authentic.{HasEngineLength}
use Rattle.snmp_handles.specs.declared.fault.CallFault.{CallFault}
use Rattle.snmp_handles.specs.declared.fault.CallFault.TheVariants.{BadArgument, ShortBuffer}

-- the protocol with this number below snmpAuthProtocols: 2 usmHMACMD5AuthProtocol, 3 usmHMACSHAAuthProtocol
-- (RFC 3414, section 5), 5 usmHMAC192SHA256AuthProtocol (RFC 7860, section 8)
abbrev pub auth_of : ℕ → Option Auth
auth_of n = if n == 2 then Some Md5 else if n == 3 then Some Sha1 else if n == 5 then Some Sha256 else None

-- ---- what is written

-- The buffer is as it was, and nothing is counted.
abbrev pub IsUntouched : List ℕ → List ℕ → ℕ → ℕ → Type 0
IsUntouched out out_new written written_new = (out_new ≡ out) × (written_new ≡ written)

-- The octets stand in the front of the buffer, which is else as it was, and are counted; or the buffer is too
-- short for them.
abbrev pub WritesOctets : List ℕ → List ℕ → List ℕ → ℕ → ℕ → Result ⊤ CallFault → Type 0
WritesOctets octets out out_new written written_new (Ok done) =
    (length octets ≤ length out) × (written_new ≡ length octets) × (out_new ≡ octets ++ drop (length octets) out)
WritesOctets octets out out_new written written_new (Err ShortBuffer) = (length out < length octets)
    × IsUntouched out out_new written written_new
WritesOctets octets out out_new written written_new (Err _) = ⊥

-- The octets of the protocol, which are so many, stand in the front of the buffer, which is else as it was,
-- and are counted: exactly where there is a protocol, the arguments are in their ranges, and then the buffer
-- has room. What isn't done leaves all untouched.
abbrev pub Gives : Type 0 → (Auth → ℕ) → (Auth → List ℕ) → Option Auth → List ℕ → List ℕ → ℕ → ℕ
    → Result ⊤ CallFault → Type 0
Gives InRange size octets (Some auth) out out_new written written_new (Ok done) =
    InRange × (size auth ≤ length out) × (written_new ≡ size auth) × (out_new ≡ octets auth ++ drop (size auth) out)
Gives InRange size octets (Some auth) out out_new written written_new (Err ShortBuffer) =
    InRange × (length out < size auth) × IsUntouched out out_new written written_new
Gives InRange size octets (Some auth) out out_new written written_new (Err BadArgument) = (InRange → ⊥)
    × IsUntouched out out_new written written_new
Gives InRange size octets None out out_new written written_new
    (Err BadArgument) = IsUntouched out out_new written written_new
Gives InRange size octets _ out out_new written written_new _ = ⊥

-- ---- the calls

-- the key of a password of at least 8 octets (RFC 3414, sections 2.6, 11.2 and A.2)
abbrev pub GivesKey : ℕ → List ℕ → List ℕ → List ℕ → ℕ → ℕ → Result ⊤ CallFault → Type 0
GivesKey protocol password = Gives (8 ≤ length password) key_octets (λ auth. ku (hash_of auth) password)
    (auth_of protocol)

-- a key of at most 32 octets, localised to an engine whose ID has 5 to 32 (RFC 3414, sections 2.6 and A.2;
-- RFC 7860, section 5; RFC 3411, section 5)
abbrev pub GivesLocalised : ℕ → List ℕ → List ℕ → List ℕ → List ℕ → ℕ → ℕ → Result ⊤ CallFault → Type 0
GivesLocalised protocol key engine =
    Gives ((length key ≤ 32) × HasEngineLength engine) key_octets (λ auth. kul (hash_of auth) key engine)
    (auth_of protocol)

-- the code, under a key of at most 32 octets, of two pieces with at most 24 zeros between them (RFC 3414,
-- sections 6.3.1 and 7.3.1; RFC 7860, section 4.2.1)
abbrev pub GivesCode : ℕ → List ℕ → List ℕ → ℕ → List ℕ → List ℕ → List ℕ → ℕ → ℕ → Result ⊤ CallFault → Type 0
GivesCode protocol key front zeros back =
    Gives ((length key ≤ 32) × (zeros ≤ 24)) mac_octets (λ auth. mac auth key (front ++ replicate zeros 0 ++ back))
    (auth_of protocol)
