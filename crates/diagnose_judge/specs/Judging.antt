-- What a datagram is judged to be by one who reads the traffic of engines, and what is learned of it.
--
-- `IsJudged old now w judgement new`. The authoritative engine is the receiver of a message of the Confirmed
-- Class, and the sender of any other (RFC 3414, section 1.5.1). `sent_by`: the authoritative engine sent it.
-- It is taken as a manager takes it (`Takes`), and learned from. `sent_to`: it was sent to the authoritative
-- engine. It is answered as that engine's agent answers it, by the boots that are held of the engine and the
-- time counted on (`clock_for`), and it teaches nothing. `discovery`: a request without authentication and
-- without an engine (RFC 3414, section 4). `unread`: the refusal before the time window for which its PDU
-- isn't read, so that its sender isn't known; it teaches nothing.
use Rattle.std.specs.Prelude.{◌≡◌, ◌≢◌, ℕ, List, [], Bool, true, false, length, Option, Some, None, Result, Ok, Err}
use Rattle.std.specs.Prelude.{◌⊎◌, option_map}
use Rattle.snmp_message.specs.Layout.{Parts, Outer}
use Rattle.snmp_message.specs.Security.{Fields, SecText}
use Rattle.snmp_message.specs.Numbers.{in_table}
use Rattle.snmp_message.specs.declared.refusal.Refusal.{Refusal}
use Rattle.snmp_message.specs.declared.refusal.Refusal.TheVariants.{UnknownEngine, DecryptionError, NotInWindow}
use Rattle.engine_clock.specs.Marks.{mark_at}
use Rattle.usm_users.specs.User.{User}
use Rattle.usm_core.specs.Table.{Needs, Then}
use Rattle.usm_core.specs.Verified.{Verified, Verifies, manager}
use Rattle.snmp_incoming.specs.Outcome.{Given, Outcome, ReadsMessage, as_agent}
use Rattle.snmp_incoming.specs.Answers.{given_of}
use Rattle.snmp_msg.specs.PduTypes.{is_confirmed}
use Rattle.snmp_manager.specs.Views.{Held}
use Rattle.snmp_manager.specs.Takes.{Takes}
use Rattle.diagnose_judge.specs.Clocks.{clock_for}
use Rattle.diagnose_judge.specs.declared.judged.Judged.{Judged}
use Rattle.diagnose_judge.specs.declared.judged.Judged.TheVariants as judged
use Rattle.diagnose_judge.specs.declared.judged.Verdict.{Verdict}
use Rattle.diagnose_judge.specs.declared.judged.Verdict.TheVariants.{Accepted, Unweighed, Refused}

-- ---- the table without its time window

-- the rows behind the digest but for the window: the salt and the text
unfoldable pub Opens : List User → List ℕ → Verified → Result Given Refusal → Type 0
Opens users w v =
    Needs (v.parts.header.privacy ≡ true → length v.fields.salt ≡ 8) DecryptionError (λ _.
    ReadsMessage users w v)

-- all rows but for the window
unfoldable pub Reads : List User → List ℕ → Result Given Refusal → Type 0
Reads users w = Then (Verifies manager users w) (Opens users w)

-- ---- the judgement

-- what a datagram is judged to be, without where it lies in memory
pub data Judgement : Type 0 where
  unread : (refusal : Refusal) → Judgement
  discovery : Judgement
  sent_by : (given : Given) (in_window : Bool) → Judgement
  sent_to : (given : Given) (verdict : Verdict) → Judgement

-- the table's answer to a message that was read, in its window or not
abbrev pub window_answer : Given → Bool → Result Given Refusal
window_answer given true = Ok given
window_answer given false = Err NotInWindow

-- the table's answer that a verdict becomes
abbrev pub verdict_answer : Given → Verdict → Result Given Refusal
verdict_answer given Accepted = Ok given
verdict_answer given Unweighed = Ok given
verdict_answer given (Refused refusal) = Err refusal

-- a message without authentication whose msgAuthoritativeEngineID is empty (RFC 3414, section 4)
pub record IsDiscovery (w : List ℕ) : Type 0 where
  pub parts : Parts
  pub fields : Fields
  pub outer : Outer w parts
  pub security : SecText parts.security_at parts.security fields
  pub plain : parts.header.auth ≡ false
  pub no_engine : fields.engine ≡ []

-- The authoritative engine sent the message, and a manager takes it.
pub record IsSentBy (old : Held) (now : ℕ) (w : List ℕ) (given : Given) (in_window : Bool) (new : Held) : Type 0 where
  pub class : is_confirmed given.tag ≡ false
  pub reads : Reads old.users w (Ok given)
  pub takes : Takes old now w (Some (window_answer given in_window)) new

-- The message was sent to the authoritative engine. An agent of that engine, with the clock that is known of it,
-- gives this answer. The window isn't judged only where nothing is held of the engine.
pub record IsSentTo (old : Held) (now : ℕ) (w : List ℕ) (given : Given) (verdict : Verdict) : Type 0 where
  pub class : is_confirmed given.tag ≡ true
  pub reads : Reads old.users w (Ok given)
  pub message : Verified
  pub verified : Verifies manager old.users w (Ok message)
  pub answers : Outcome (as_agent message.fields.engine (clock_for old.clocks now message).boots 0) old.users
      (clock_for old.clocks now message).time w (verdict_answer given verdict)
  pub unweighed : verdict ≡ Unweighed → mark_at old.clocks message.fields.engine ≡ None
  pub weighed : verdict ≡ Accepted → message.parts.header.auth ≡ true → mark_at old.clocks message.fields.engine ≢ None

abbrev pub IsJudged : Held → ℕ → List ℕ → Judgement → Held → Type 0
IsJudged old now w (unread refusal) new = (new ≡ old) × Reads old.users w (Err refusal)
    × (refusal ≡ UnknownEngine → IsDiscovery w → ⊥)
IsJudged old now w discovery new = (new ≡ old) × Reads old.users w (Err UnknownEngine) × IsDiscovery w
IsJudged old now w (sent_by given in_window) new = IsSentBy old now w given in_window new
IsJudged old now w (sent_to given verdict) new = (new ≡ old) × IsSentTo old now w given verdict

-- ---- of the code

-- None for out of memory, which says nothing of a datagram
abbrev pub judgement_of : Judged → Option Judgement
judgement_of (judged.Unread refused) = option_map unread (in_table refused.refusal)
judgement_of judged.Discovery = Some discovery
judgement_of (judged.SentBy taken in_window) = Some (sent_by (given_of taken) in_window)
judgement_of (judged.SentTo taken verdict) = Some (sent_to (given_of taken) verdict)

-- ---- between the functions

-- a datagram that this refused before its PDU could be read
abbrev pub IsUnread : List ℕ → Refusal → Option Judgement → Type 0
IsUnread w refusal found =
    ((refusal ≡ UnknownEngine) × IsDiscovery w × (found ≡ Some discovery))
    ⊎ ((refusal ≡ UnknownEngine → IsDiscovery w → ⊥) × (found ≡ option_map unread (in_table refusal)))
