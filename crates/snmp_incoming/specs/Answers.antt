-- The answers of the code, as the table has them.
use Rattle.snmp_message.specs.declared.refusal.Refusal.{Refusal}
use Rattle.std.specs.Prelude.{◌≡◌, ◌≢◌, ℕ, List, Option, Some, None, Result, Ok, Err, true, false, length}
use Rattle.usm_users.specs.User.{User}
use Rattle.usm_core.specs.Verified.{Side, Verified, Verifies}
use Rattle.snmp_incoming.specs.declared.taken.Taken.{Taken}
use Rattle.snmp_message.specs.declared.refused_at.RefusedAt.{RefusedAt}
use Rattle.snmp_message.specs.declared.refusal.Refusal.TheVariants.{BadScoped, BadPdu}
use Rattle.usm_core.specs.Table.{refusal_answer}
use Rattle.snmp_incoming.specs.Texts.{text_of, FrontOf, PduOf}
use Rattle.snmp_incoming.specs.Outcome.{Given, IsTextOf}

abbrev pub given_of : Taken → Given
given_of t = record {
  engine = t.engine;
  user = t.user.now;
  level = t.level;
  id = t.id;
  max_size = t.max_size;
  tag = t.tag;
  text = text_of t.text;
}

-- None for out of memory, which is no answer of the table
abbrev pub answer_of : Result Taken RefusedAt → Option (Result Given Refusal)
answer_of (Ok t) = Some (Ok (given_of t))
answer_of (Err e) = refusal_answer e.refusal

-- No message that passes the digest is sealed, so that no memory is needed to open one.
abbrev pub IsPlain : Side → List User → List ℕ → Type 0
IsPlain side users w = (v : Verified) → Verifies side users w (Ok v) → v.parts.header.privacy ≡ false

-- ---- between the functions

-- what a message was opened to: None where its salt doesn't have 8 octets
abbrev pub IsOpening : List User → List ℕ → Verified → Option (List ℕ) → Type 0
IsOpening users w v None = (v.parts.header.privacy ≡ true) × (length v.fields.salt ≢ 8)
IsOpening users w v (Some text) = (v.parts.header.privacy ≡ true → length v.fields.salt ≡ 8) × IsTextOf users w v text

-- The refusal is why the text has no PDU.
abbrev pub RefusesText : List ℕ → Refusal → Type 0
RefusesText text BadScoped = FrontOf text → ⊥
RefusesText text BadPdu = (s : FrontOf text) × (PduOf s.contexts.pdu → ⊥)
RefusesText text _ = ⊥
