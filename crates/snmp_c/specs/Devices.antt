-- One request of a device whose engine ID, or whose boots and time, may be unknown, by numbers (RFC 3414, section 4).
--
-- `sent_of`, `known_of`, `heard_of`: what was sent, what is known and what is heard, by number; `message_number`,
-- `sent_number`, `tells_step`: the numbers that are written. `BeginsDevice`, `HearsDevice`: what the exports answer and
-- write.
use Rattle.std.specs.Prelude.{◌≡◌, ◌==◌, if◌then◌else◌, nat_eq, nat_lt, not, ℕ, ℤ, pos, negsuc, Bool, true, false}
use Rattle.std.specs.Prelude.{Option, Some, None, MatchOption}
use Rattle.snmp_ber.specs.declared.level.Level.{Level}
use Rattle.snmp_requests.specs.declared.device_request.DeviceRequest.{DeviceRequest}
use Rattle.snmp_requests.specs.declared.device_request.Heard.{Heard}
use Rattle.snmp_requests.specs.declared.device_request.Heard.TheVariants.{Response, Report}
use Rattle.snmp_requests.specs.declared.device_request.Known.{Known}
use Rattle.snmp_requests.specs.declared.device_request.Known.TheVariants.{Nothing, Engine, Clock}
use Rattle.snmp_requests.specs.declared.device_request.NextStep.{NextStep}
use Rattle.snmp_requests.specs.declared.device_request.NextStep.TheVariants.{Wait, Send, Answered, Refused}
use Rattle.snmp_requests.specs.declared.device_request.SentMessage.{SentMessage}
use Rattle.snmp_requests.specs.declared.device_request.SentMessage.TheVariants.{Discovery, TimeRequest, Request}
use Rattle.snmp_requests.specs.DeviceRequests.{Hears, first_message}
use Rattle.snmp_handles.specs.Numbers.{level_of}
use Rattle.snmp_c.specs.declared.devices.DeviceSaid.{DeviceSaid}

abbrev pub is_set : ℕ → Bool
is_set n = not (nat_eq n 0)

-- 0 nothing, 1 the engine ID, 2 boots and time too
abbrev pub known_of : ℕ → Option Known
known_of n = if n == 0 then Some Nothing else if n == 1 then Some Engine else if n == 2 then Some Clock else None

-- 0 the discovery, 1 the request for the time, 2 the request
abbrev pub message_number : SentMessage → ℕ
message_number Discovery = 0
message_number TimeRequest = 1
message_number Request = 2

-- 3 where nothing is sent any more
abbrev pub sent_number : Option SentMessage → ℕ
sent_number (Some m) = message_number m
sent_number None = 3

abbrev pub sent_of : ℕ → Option (Option SentMessage)
sent_of n = if n == 0 then Some (Some Discovery) else if n == 1 then Some (Some TimeRequest) else if n == 2 then Some
    (Some Request) else if n == 3 then Some None else None

-- 0 the Response, 2 a Report of a counter that has one octet
abbrev pub heard_of : ℕ → ℕ → ℕ → Option Heard
heard_of kind counter authentic = if kind == 0 then Some Response else if kind == 2 then
    (if nat_lt counter 256 then Some (Report counter (is_set authentic)) else None) else None

abbrev pub bool_number : Bool → ℕ
bool_number false = 0
bool_number true = 1

-- what is to be sent, 3 to wait, 4 where it is answered, 5 where this counter refuses it
abbrev pub tells_step : DeviceSaid → NextStep → DeviceSaid
tells_step said (Send m) = record said { step = message_number m }
tells_step said Wait = record said { step = 3 }
tells_step said Answered = record said { step = 4 }
tells_step said (Refused counter) = record said { step = 5; counter = counter }

abbrev pub BeginsDevice : ℕ → ℕ → ℕ → ℕ → ℤ → Type 0
BeginsDevice level known sent sent_new answer = MatchOption (level_of level) ((answer ≡ negsuc 0) × (sent_new ≡ sent))
    (λ l. MatchOption (known_of known) ((answer ≡ negsuc 0) × (sent_new ≡ sent))
    (λ k. (answer ≡ pos 0) × (sent_new ≡ message_number (first_message l k))))

-- nothing is written
pub record IsFault (said said_new : DeviceSaid) (answer : ℤ) : Type 0 where
  pub answer_is : answer ≡ negsuc 0
  pub said_is : said_new ≡ said

-- what is to be done and what is left, of a request of this level of which this was sent last
pub record HearsBy (l : Level) (m : Option SentMessage) (h : Heard) (holds : ℕ) (said said_new : DeviceSaid)
    (answer : ℤ) : Type 0 where
  pub step : NextStep
  pub new : DeviceRequest
  pub hears : Hears (record { level = l; sent = m; again = is_set said.again; hint = None }) h (is_set holds) step new
  pub answer_is : answer ≡ pos 0
  pub said_is : said_new
      ≡ tells_step (record said { sent = sent_number new.sent; again = bool_number new.again }) step

abbrev pub HearsDevice : ℕ → ℕ → ℕ → ℕ → ℕ → DeviceSaid → DeviceSaid → ℤ → Type 0
HearsDevice level kind counter authentic holds said said_new answer =
    MatchOption (level_of level) (IsFault said said_new answer)
    (λ l. MatchOption (sent_of said.sent) (IsFault said said_new answer)
    (λ m. MatchOption (heard_of kind counter authentic) (IsFault said said_new answer)
    (λ h. HearsBy l m h holds said said_new answer)))
