-- What is sent, and who can send.
use Rattle.snmp_message.specs.declared.refusal.Refusal.{Refusal}
use Rattle.std.specs.Prelude.{◌≡◌, ℕ, true, List}
use Rattle.snmp_ber.specs.declared.level.Level.{Level}
use Rattle.usm_users.specs.User.{User}
use Rattle.usm_users.specs.Users.{HasUserAt}
use Rattle.usm_core.specs.Refusals.{RefusesUser}
use Rattle.usm_core.specs.Sealed.{Sending, sending}
use Rattle.snmp_outgoing.specs.declared.body.Body.{Body}
use Rattle.snmp_outgoing.specs.declared.envelope.Envelope.{Envelope}
use Rattle.snmp_outgoing.specs.Bodies.{has_auth, header_at, scoped_of}

-- the message with this envelope and this ScopedPDU
abbrev pub sent_with : Envelope → List ℕ → Sending
sent_with e scoped = sending (header_at e.level e.id e.reportable) e.engine.now e.pair e.user.now e.salt scoped

-- the message with this envelope and this body
abbrev pub sent : Envelope → Body → Sending
sent e b = sent_with e (scoped_of b)

-- ---- whose messages go out

-- Messages of this user at this level can go out: at levels with authentication there is a user of this name
-- that supports it.
abbrev pub CanSend : List User → List ℕ → Level → Type 0
CanSend users name level = has_auth level ≡ true → HasUserAt users name level

-- The refusal is why none of them can, whatever it says (RFC 3414, section 3.1, steps 1 and 2).
abbrev pub RefusesSender : List User → List ℕ → Level → Refusal → Type 0
RefusesSender users name level refusal = (has_auth level ≡ true) × RefusesUser users name level refusal
