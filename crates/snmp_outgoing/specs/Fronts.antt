-- The bindings at the front of a list that a message has room for.
--
-- `IsLongestFront` and `SealsFront`. So many bindings from the first on that no text of the message with
-- these has more octets than the limit, and each with one more has; the text with these and their number,
-- or a refusal: those before the text, and TooLarge where each text without bindings is longer.
use Rattle.snmp_message.specs.declared.message.TheConstants.{LARGEST}
use Rattle.snmp_message.specs.declared.refusal.Refusal.{Refusal}
use Rattle.std.specs.Prelude.{◌≡◌, ◌⊎◌, ◌+◌, ◌<◌, ◌≤◌, ℕ, nat_le, if◌then◌else◌, List, [], length, take, Option, Some}
use Rattle.std.specs.Prelude.{Result, Ok, Err}
use Rattle.snmp_message.specs.declared.refusal.Refusal.TheVariants.{TooLarge}
use Rattle.usm_core.specs.Table.{refusal_answer}
use Rattle.snmp_msg.specs.Variables.{Variable}
use Rattle.usm_users.specs.User.{User}
use Rattle.usm_core.specs.Sealed.{Sending, SealedText, Seals, IsSealable}
use Rattle.snmp_message.specs.declared.refused_at.RefusedAt.{RefusedAt}
use Rattle.snmp_outgoing.specs.declared.front.Fronted.{Fronted}

-- No text of the message has more octets than this.
abbrev pub IsWithin : List User → ℕ → Sending → Type 0
IsWithin users limit m = (text : List ℕ) → SealedText users m text → length text ≤ limit

-- Each text of the message has more octets than this.
abbrev pub IsBeyond : List User → ℕ → Sending → Type 0
IsBeyond users limit m = (text : List ℕ) → SealedText users m text → limit < length text

-- So many of the variables, from the first on, and no more: with these the message is within the limit, and
-- with one more it is beyond that.
pub record IsLongestFront (users : List User) (limit : ℕ) (message : List Variable → Sending) (vs : List Variable)
    (count : ℕ) : Type 0 where
  pub most : count ≤ length vs
  pub fits : IsWithin users limit (message (take count vs))
  pub longest : count < length vs → IsBeyond users limit (message (take (count + 1) vs))

-- the most octets of a datagram within a limit
abbrev pub room : ℕ → ℕ
room limit = if nat_le limit LARGEST then limit else LARGEST

-- A text with the variables at the front of a list.
pub record FrontText : Type 0 where
  pub text : List ℕ
  pub count : ℕ

-- The text of the message with the longest front that has room, and how many variables that has; or a
-- refusal: those before the text, and TooLarge where there is no room even for the message without variables.
abbrev pub SealsFront : List User → ℕ → (List Variable → Sending) → List Variable → Result FrontText Refusal → Type 0
SealsFront users limit message vs (Ok f) = Seals users (message (take f.count vs)) (Ok f.text)
    × (length f.text ≤ limit) × IsLongestFront users (room limit) message vs f.count
SealsFront users limit message vs (Err refusal) = Seals users (message []) (Err refusal)
    ⊎ ((refusal ≡ TooLarge) × IsSealable users (message []) × IsBeyond users (room limit) (message []))

-- what the call answers; None for out of memory
abbrev pub front_answer : Result Fronted RefusedAt → Option (Result FrontText Refusal)
front_answer (Ok f) = Some (Ok (record { text = f.text.items; count = f.count }))
front_answer (Err e) = refusal_answer e.refusal
