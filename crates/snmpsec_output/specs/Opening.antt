-- What a message says that is opened by the keys of users.
--
-- `Opens users w answer`. The table of a manager without its time window, with the lines of the message in
-- place of what is given on: `Verifies`, a row on the salt, and `ReadsMessage`. `TellsText`: the lines are
-- those of the message and of the scoped PDU that the opened text begins with. `OpensWith names users w answer`:
-- the same, of lines that are printed so if no names are asked for.
use Rattle.usm_core.specs.Table.{refusal_answer}
use Rattle.snmp_message.specs.declared.refusal.Refusal.TheVariants.{DecryptionError}
use Rattle.snmp_message.specs.declared.refusal.Refusal.{Refusal}
use Rattle.std.specs.Prelude.{◌≡◌, ℕ, Bool, List, ◌++◌, codes, length, true, Option, Some, Result, Ok, Err, String}
use Rattle.std.specs.Prelude.{string_bytes}
use Rattle.snmp_message.specs.Level.{level_of}
use Rattle.snmp_message.specs.Scoped.{Contexts}
use Rattle.snmp_msg.specs.Pdu.{PduParts}
use Rattle.usm_users.specs.User.{User}
use Rattle.usm_core.specs.Table.{Needs, Then}
use Rattle.usm_core.specs.Verified.{Verified, Verifies, manager}
use Rattle.snmp_incoming.specs.Texts.{FrontOf, PduOf}
use Rattle.snmp_incoming.specs.Outcome.{ReadsMessage}
use Rattle.snmp_message.specs.declared.refused_at.RefusedAt.{RefusedAt}
use Rattle.snmpsec_config.specs.Words.{level_word}
use Rattle.snmpsec_output.specs.Lines.{IsUnnamed, message_lines, scoped_lines}

-- the lines of the message, of its level, and of the ScopedPDU in it
abbrev pub opened_lines : Verified → Contexts → PduParts → List ℕ
opened_lines v s p =
    message_lines v.parts.header v.fields
    ++ (codes "level " ++ (level_word (level_of v.parts.header) ++ (codes "\n" ++ scoped_lines s.engine s.name p)))

-- The lines are those of the message and of the ScopedPDU that the text begins with.
abbrev pub TellsText : Verified → List ℕ → List ℕ → Type 0
TellsText v text lines = (s : FrontOf text) × (p : PduOf s.contexts.pdu) × (lines ≡ opened_lines v s.contexts p.pdu)

-- No refusal comes where a text was given.
abbrev pub Tells : Verified → List ℕ → Result (List ℕ) Refusal → Type 0
Tells v text (Ok lines) = TellsText v text lines
Tells v text (Err refusal) = ⊥

-- The table of a manager without its time window (RFC 3412, section 7.2, and RFC 3414, section 3.2): the
-- refusals down to the digest, the row on the salt, and those on the ScopedPDU that the message was opened
-- to. Where none of them refuses the message, its lines are given.
unfoldable pub Opens : List User → List ℕ → Result (List ℕ) Refusal → Type 0
Opens users w =
    Then (Verifies manager users w) (λ v.
    Needs (v.parts.header.privacy ≡ true → length v.fields.salt ≡ 8) DecryptionError (λ _.
    Then (ReadsMessage users w v) (λ given. Tells v given.text)))

-- ---- with names

-- The lines are those of `TellsText`, if no names are asked for.
abbrev pub TellsWith : Bool → Verified → List ℕ → List ℕ → Type 0
TellsWith names v text lines = (plain : List ℕ) × TellsText v text plain × IsUnnamed names plain lines

-- The answer of `Opens`, its lines as they are if no names are asked for.
abbrev pub OpensWith : Bool → List User → List ℕ → Result (List ℕ) Refusal → Type 0
OpensWith names users w (Ok lines) = (plain : List ℕ) × Opens users w (Ok plain) × IsUnnamed names plain lines
OpensWith names users w (Err refusal) = Opens users w (Err refusal)

-- ---- the answer of the code

-- None for out of memory, which is no answer of the table
abbrev pub lines_answer : {Z : Type 0} → Result (String Z) RefusedAt → Option (Result (List ℕ) Refusal)
lines_answer (Ok text) = Some (Ok (string_bytes text))
lines_answer (Err e) = refusal_answer e.refusal
