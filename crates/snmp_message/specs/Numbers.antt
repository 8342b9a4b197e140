-- The refusals' numbers, names and words, which the whole engine shares.
--
-- The refusals' numbers, 1 to 18, and their names, which the whole engine shares. `has_place` says which of them
-- have a place, and `in_table` which of them a table of refusals can answer.
use Rattle.std.specs.Prelude.{ℕ, List, ◌++◌, codes, decimal, Bool, true, false, Option, Some, None}
use Rattle.std.specs.Prelude.{◌≡◌, ◌≢◌, MatchBool}
use Rattle.snmp_message.specs.declared.refusal.Refusal.{Refusal}
use Rattle.snmp_message.specs.declared.refusal.Refusal.TheVariants.{NotMessage, BadVersion, NotSecurity, NotScoped}
use Rattle.snmp_message.specs.declared.refusal.Refusal.TheVariants.{NotPdu, UnknownEngine, UnknownUser}
use Rattle.snmp_message.specs.declared.refusal.Refusal.TheVariants.{UnsupportedLevel, WrongDigest, NotInWindow}
use Rattle.snmp_message.specs.declared.refusal.Refusal.TheVariants.{DecryptionError, BadScoped, BadPdu, OutOfMemory}
use Rattle.snmp_message.specs.declared.refusal.Refusal.TheVariants.{ClockExhausted, TooLarge, UnknownModel}
use Rattle.snmp_message.specs.declared.refusal.Refusal.TheVariants.{InvalidFlags}

abbrev pub refusal_number : Refusal → ℕ
refusal_number NotMessage = 1
refusal_number BadVersion = 2
refusal_number NotSecurity = 3
refusal_number NotScoped = 4
refusal_number NotPdu = 5
refusal_number UnknownEngine = 6
refusal_number UnknownUser = 7
refusal_number UnsupportedLevel = 8
refusal_number WrongDigest = 9
refusal_number NotInWindow = 10
refusal_number DecryptionError = 11
refusal_number BadScoped = 12
refusal_number BadPdu = 13
refusal_number OutOfMemory = 14
refusal_number ClockExhausted = 15
refusal_number TooLarge = 16
refusal_number UnknownModel = 17
refusal_number InvalidFlags = 18

abbrev pub refusal_name : Refusal → List ℕ
refusal_name NotMessage = codes "NotMessage"
refusal_name BadVersion = codes "BadVersion"
refusal_name NotSecurity = codes "NotSecurity"
refusal_name NotScoped = codes "NotScoped"
refusal_name NotPdu = codes "NotPdu"
refusal_name UnknownEngine = codes "UnknownEngine"
refusal_name UnknownUser = codes "UnknownUser"
refusal_name UnsupportedLevel = codes "UnsupportedLevel"
refusal_name WrongDigest = codes "WrongDigest"
refusal_name NotInWindow = codes "NotInWindow"
refusal_name DecryptionError = codes "DecryptionError"
refusal_name BadScoped = codes "BadScoped"
refusal_name BadPdu = codes "BadPdu"
refusal_name OutOfMemory = codes "OutOfMemory"
refusal_name ClockExhausted = codes "ClockExhausted"
refusal_name TooLarge = codes "TooLarge"
refusal_name UnknownModel = codes "UnknownModel"
refusal_name InvalidFlags = codes "InvalidFlags"

-- what is reported to people
abbrev pub refusal_words : Refusal → List ℕ
refusal_words NotMessage = codes "not a message"
refusal_words BadVersion = codes "not version 3"
refusal_words NotSecurity = codes "not security parameters"
refusal_words NotScoped = codes "not a scoped PDU"
refusal_words NotPdu = codes "not a PDU"
refusal_words UnknownEngine = codes "unknown engine"
refusal_words UnknownUser = codes "unknown user"
refusal_words UnsupportedLevel = codes "unsupported security level"
refusal_words WrongDigest = codes "wrong digest"
refusal_words NotInWindow = codes "not in the time window"
refusal_words DecryptionError = codes "decryption error"
refusal_words BadScoped = codes "no scoped PDU after decryption"
refusal_words BadPdu = codes "not a PDU in the message"
refusal_words OutOfMemory = codes "out of memory"
refusal_words ClockExhausted = codes "engine time exhausted"
refusal_words TooLarge = codes "longer than a datagram"
refusal_words UnknownModel = codes "unknown security model"
refusal_words InvalidFlags = codes "privacy without authentication"

-- the same, with the place of the fault in octets where there is one
abbrev pub words_at : Refusal → Option ℕ → List ℕ
words_at refusal None = refusal_words refusal
words_at refusal (Some at) = refusal_words refusal ++ (codes " at octet " ++ decimal at)

-- A refusal of octets has the place of the first octet that isn't of the layout.
abbrev pub has_place : Refusal → Bool
has_place NotMessage = true
has_place NotSecurity = true
has_place NotScoped = true
has_place NotPdu = true
has_place BadScoped = true
has_place BadPdu = true
has_place _ = false

-- The refusal as an answer of a table. Out of memory says nothing of the message, so no table answers it.
abbrev pub in_table : Refusal → Option Refusal
in_table OutOfMemory = None
in_table refusal = Some refusal

-- whether the refusal is out of memory
abbrev pub MemoryIs : Refusal → Bool → Type 0
MemoryIs refusal is = MatchBool is (in_table refusal ≡ None) (in_table refusal ≢ None)
