-- What a device is sent for one request, whatever is heard.
--
-- `IsHeardRun`: what was heard leads from one exchange to another. `times_sent`: how often a message was sent.
-- `window_reports`: how many Reports told, with authentication, that the request was outside of the time window.
-- `AreUnauthenticated`: all that was heard are Reports that can be anybody's.
use Rattle.std.specs.Prelude.{◌≡◌, ℕ, ◌+◌, nat_eq, Bool, true, false, cond, List, [], ◌∷◌}
use Rattle.snmp_requests.specs.declared.device_request.DeviceRequest.{DeviceRequest}
use Rattle.snmp_requests.specs.declared.device_request.Heard.{Heard}
use Rattle.snmp_requests.specs.declared.device_request.Heard.TheVariants.{Response, Report}
use Rattle.snmp_requests.specs.declared.device_request.SentMessage.{SentMessage}
use Rattle.snmp_requests.specs.declared.device_request.SentMessage.TheVariants.{Discovery, TimeRequest, Request}
use Rattle.snmp_requests.specs.declared.device_request.NextStep.{NextStep}
use Rattle.snmp_requests.specs.declared.device_request.NextStep.TheVariants.{Send}
use Rattle.snmp_requests.specs.DeviceRequests.{Hears, not_in_windows}

-- what was heard, whether the clock was held then, and what was to be done
pub record HearStep : Type 0 where
  pub heard : Heard
  pub holds_clock : Bool
  pub turn : NextStep

abbrev pub IsHeardRun : DeviceRequest → List HearStep → DeviceRequest → Type 0
IsHeardRun first [] last = last ≡ first
IsHeardRun first (step ∷ steps) last = (second : DeviceRequest)
    × Hears first step.heard step.holds_clock step.turn second × IsHeardRun second steps last

-- 1 where this message is sent
abbrev pub is_sending : SentMessage → NextStep → ℕ
is_sending Discovery (Send Discovery) = 1
is_sending TimeRequest (Send TimeRequest) = 1
is_sending Request (Send Request) = 1
is_sending m turn = 0

abbrev pub times_sent : SentMessage → List HearStep → ℕ
times_sent m [] = 0
times_sent m (step ∷ steps) = is_sending m step.turn + times_sent m steps

-- 1 for a Report, with authentication, that the request was outside of the time window
abbrev pub is_window_report : Heard → ℕ
is_window_report Response = 0
is_window_report (Report counter true) = cond (nat_eq counter not_in_windows) 1 0
is_window_report (Report counter false) = 0

abbrev pub window_reports : List HearStep → ℕ
window_reports [] = 0
window_reports (step ∷ steps) = is_window_report step.heard + window_reports steps

-- a Report without authentication
abbrev pub IsUnauthenticated : Heard → Type 0
IsUnauthenticated Response = ⊥
IsUnauthenticated (Report counter authentic) = authentic ≡ false

abbrev pub AreUnauthenticated : List HearStep → Type 0
AreUnauthenticated [] = Unit {0}
AreUnauthenticated (step ∷ steps) = IsUnauthenticated step.heard × AreUnauthenticated steps
