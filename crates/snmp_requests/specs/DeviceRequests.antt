-- One request of a device whose engine ID, or whose boots and time, may be unknown (RFC 3414, section 4).
--
-- `first_message`, `Begins`: what is sent first. `level_of`: the level at which it is sent. `TellsEngine`, `TellsTime`:
-- what is heard tells the engine ID, or boots and time. `IsOutsideWindow`: the request was refused since its time was
-- outside of the time window (RFC 3414, section 3.2, step 7), and may be sent once more. `IsRefused`: the engine
-- refuses it. `Hears`: what is to be done then, and what is left.
use Rattle.std.specs.Prelude.{◌≡◌, ◌⊎◌, ℕ, Bool, true, false, Option, Some, None}
use Rattle.snmp_ber.specs.declared.level.Level.{Level}
use Rattle.snmp_ber.specs.declared.level.Level.TheVariants.{NoAuthNoPriv, AuthNoPriv, AuthPriv}
use Rattle.snmp_requests.specs.declared.device_request.DeviceRequest.{DeviceRequest}
use Rattle.snmp_requests.specs.declared.device_request.Heard.{Heard}
use Rattle.snmp_requests.specs.declared.device_request.Heard.TheVariants.{Response, Report}
use Rattle.snmp_requests.specs.declared.device_request.Known.{Known}
use Rattle.snmp_requests.specs.declared.device_request.Known.TheVariants as known
use Rattle.snmp_requests.specs.declared.device_request.SentMessage.{SentMessage}
use Rattle.snmp_requests.specs.declared.device_request.SentMessage.TheVariants.{Discovery, TimeRequest, Request}
use Rattle.snmp_requests.specs.declared.device_request.NextStep.{NextStep}
use Rattle.snmp_requests.specs.declared.device_request.NextStep.TheVariants.{Wait, Send, Answered, Refused}

-- usmStatsNotInTimeWindows and usmStatsUnknownEngineIDs (RFC 3414, section 5)
abbrev pub not_in_windows : ℕ
not_in_windows = 2

abbrev pub unknown_engines : ℕ
unknown_engines = 4

-- the level at which a message is sent for a request of this level: a discovery has no user, and what asks for the time
-- seals nothing
abbrev pub level_of : Level → SentMessage → Level
level_of level Discovery = NoAuthNoPriv
level_of level TimeRequest = AuthNoPriv
level_of level Request = level

-- what is sent to an engine whose ID is known: at levels with authentication boots and time have to be known too
abbrev pub to_engine : Level → Bool → SentMessage
to_engine NoAuthNoPriv holds_clock = Request
to_engine AuthNoPriv true = Request
to_engine AuthNoPriv false = TimeRequest
to_engine AuthPriv true = Request
to_engine AuthPriv false = TimeRequest

abbrev pub first_message : Level → Known → SentMessage
first_message level known.Nothing = Discovery
first_message level known.Engine = to_engine level false
first_message level known.Clock = to_engine level true

-- this was sent last, for a request of this level
pub record IsSent (x : DeviceRequest) (level : Level) (m : SentMessage) : Type 0 where
  pub level_is : x.level ≡ level
  pub sent_is : x.sent ≡ Some m

-- it begins with this message
pub record Begins (level : Level) (m : SentMessage) (x : DeviceRequest) : Type 0 where
  pub sent : IsSent x level m
  pub again_is : x.again ≡ false
  pub hint_is : x.hint ≡ None

-- ---- what is heard

-- the Report to a discovery, which nothing authenticates, tells the engine ID
pub record TellsEngine (x : DeviceRequest) (heard : Heard) : Type 0 where
  pub asked : x.sent ≡ Some Discovery
  pub authentic : Bool
  pub heard_is : heard ≡ Report unknown_engines authentic

-- boots and time came with authentication
pub record TellsTime (x : DeviceRequest) (heard : Heard) : Type 0 where
  pub asked : x.sent ≡ Some TimeRequest
  pub heard_is : (heard ≡ Response) ⊎ (heard ≡ Report not_in_windows true)

-- the request came outside of the engine's time window, for the first time
pub record IsOutsideWindow (x : DeviceRequest) (heard : Heard) : Type 0 where
  pub asked : x.sent ≡ Some Request
  pub heard_is : heard ≡ Report not_in_windows true
  pub first : x.again ≡ false

-- the request is answered
pub record IsAnswered (x : DeviceRequest) (heard : Heard) : Type 0 where
  pub asked : x.sent ≡ Some Request
  pub heard_is : heard ≡ Response

-- the engine refuses what was sent to it
pub record IsRefused (x : DeviceRequest) (heard : Heard) (counter : ℕ) : Type 0 where
  pub asked : (x.sent ≡ Some TimeRequest) ⊎ (x.sent ≡ Some Request)
  pub heard_is : heard ≡ Report counter true
  pub no_time : TellsTime x heard → ⊥
  pub no_window : IsOutsideWindow x heard → ⊥

-- ---- what is to be done

-- this message is sent next
abbrev pub sending : DeviceRequest → SentMessage → Bool → DeviceRequest
sending x m again = record { level = x.level; sent = Some m; again = again; hint = x.hint }

-- nothing is sent any more
abbrev pub ended : DeviceRequest → DeviceRequest
ended x = record { level = x.level; sent = None; again = x.again; hint = x.hint }

-- what a Report says is remembered, as long as an answer is waited for
abbrev pub hint_of : Option SentMessage → Heard → Option ℕ → Option ℕ
hint_of (Some m) (Report counter authentic) hint = Some counter
hint_of sent heard hint = hint

abbrev pub hinted : DeviceRequest → Heard → DeviceRequest
hinted x heard = record { level = x.level; sent = x.sent; again = x.again; hint = hint_of x.sent heard x.hint }

-- the reason to send a message, and what is left
abbrev pub IsSentNext : DeviceRequest → Heard → Bool → SentMessage → DeviceRequest → Type 0
IsSentNext x heard holds_clock m new =
    (TellsEngine x heard × (m ≡ to_engine x.level holds_clock) × (new ≡ sending x m x.again))
    ⊎ ((TellsTime x heard × (m ≡ Request) × (new ≡ sending x m x.again))
    ⊎ (IsOutsideWindow x heard × (m ≡ Request) × (new ≡ sending x m true)))

-- it isn't one of those that change the turn
pub record IsNoAnswer (x : DeviceRequest) (heard : Heard) : Type 0 where
  pub no_engine : TellsEngine x heard → ⊥
  pub no_time : TellsTime x heard → ⊥
  pub no_window : IsOutsideWindow x heard → ⊥
  pub no_response : IsAnswered x heard → ⊥
  pub no_refusal : (counter : ℕ) → IsRefused x heard counter → ⊥

abbrev pub Hears : DeviceRequest → Heard → Bool → NextStep → DeviceRequest → Type 0
Hears x heard holds_clock (Send m) new = IsSentNext x heard holds_clock m new
Hears x heard holds_clock Answered new = IsAnswered x heard × (new ≡ ended x)
Hears x heard holds_clock (Refused counter) new = IsRefused x heard counter × (new ≡ ended x)
Hears x heard holds_clock Wait new = IsNoAnswer x heard × (new ≡ hinted x heard)
