-- A manager's requests, over any run of steps.
--
-- `IsRequestRun`: the steps lead from some requests that wait to others. `times_asked`, `times_ended`: how often the
-- request with a token was asked, and how often it had its Response or was given up. `times_waiting`: how often it
-- waits. `times_told`: how often a message was an answer to it.
use Rattle.std.specs.Prelude.{◌≡◌, ℕ, ◌+◌, ◌<◌, nat_eq, cond, List, [], ◌∷◌, Option, Some, None}
use Rattle.std.specs.FinMap as map
use Rattle.snmp_message.specs.Scoped.{Contexts}
use Rattle.snmp_msg.specs.Pdu.{PduParts}
use Rattle.snmp_incoming.specs.Outcome.{Given}
use Rattle.snmp_manager.specs.declared.pending.Pending.{Pending}
use Rattle.snmp_requests.specs.declared.answered.AnsweredRequest.{AnsweredRequest}
use Rattle.snmp_requests.specs.declared.device_request.Heard.{Heard}
use Rattle.snmp_requests.specs.declared.device_request.Heard.TheVariants.{Response, Report}
use Rattle.snmp_requests.specs.declared.outstanding.OutstandingRequest.{OutstandingRequest}
use Rattle.snmp_requests.specs.declared.outstanding.TheConstants.{REQUESTS_LIMIT}
use Rattle.snmp_requests.specs.Answering.{TellsAnswered}
use Rattle.snmp_requests.specs.Outstanding.{IsAdded, IsEnded, IsNextToken, Outstanding, message_id_of}

-- a request is asked; a message is accepted, and is an answer to a request or to none; a request is given up
pub data RequestStep : Type 0 where
  asks : (first token : ℕ) (pending : Pending) → RequestStep
  accepts : (g : Given) (c : Contexts) (p : PduParts) (told : Option AnsweredRequest) → RequestStep
  gives_up : (token : ℕ) → RequestStep

abbrev pub Steps : Outstanding → RequestStep → Outstanding → Type 0
Steps old (asks first token pending) new = (map.len old.requests < REQUESTS_LIMIT) × IsNextToken old first token
    × IsAdded old token pending new
Steps old (accepts g c p told) new = TellsAnswered old g c p told new
Steps old (gives_up token) new = IsEnded old token new

abbrev pub IsRequestRun : Outstanding → List RequestStep → Outstanding → Type 0
IsRequestRun first [] last = last ≡ first
IsRequestRun first (step ∷ steps) last = (second : Outstanding) × Steps first step second
    × IsRequestRun second steps last

-- 1 for the same token
abbrev pub is_token : ℕ → ℕ → ℕ
is_token token other = cond (nat_eq other token) 1 0

-- 1 where this is the request with the token
abbrev pub is_request : ℕ → Option OutstandingRequest → ℕ
is_request token None = 0
is_request token (Some r) = is_token token r.token

abbrev pub times_waiting : ℕ → Outstanding → ℕ
times_waiting token all = is_request token (map.get all.requests (message_id_of token))

abbrev pub asked_by : ℕ → RequestStep → ℕ
asked_by token (asks first other pending) = is_token token other
asked_by token (accepts g c p told) = 0
asked_by token (gives_up other) = 0

abbrev pub times_asked : ℕ → List RequestStep → ℕ
times_asked token [] = 0
times_asked token (step ∷ steps) = asked_by token step + times_asked token steps

-- 1 where this is the Response of the request with the token
abbrev pub is_response_told : ℕ → ℕ → Heard → ℕ
is_response_told token other Response = is_token token other
is_response_told token other (Report counter authentic) = 0

abbrev pub response_told : ℕ → Option AnsweredRequest → ℕ
response_told token None = 0
response_told token (Some told) = is_response_told token told.token told.heard

abbrev pub ended_by : ℕ → RequestStep → ℕ
ended_by token (asks first other pending) = 0
ended_by token (accepts g c p told) = response_told token told
ended_by token (gives_up other) = is_token token other

abbrev pub times_ended : ℕ → List RequestStep → ℕ
times_ended token [] = 0
times_ended token (step ∷ steps) = ended_by token step + times_ended token steps

-- 1 where the message is an answer to the request with the token
abbrev pub is_told : ℕ → Option AnsweredRequest → ℕ
is_told token None = 0
is_told token (Some told) = is_token token told.token

abbrev pub told_by : ℕ → RequestStep → ℕ
told_by token (asks first other pending) = 0
told_by token (accepts g c p told) = is_told token told
told_by token (gives_up other) = 0

abbrev pub times_told : ℕ → List RequestStep → ℕ
times_told token [] = 0
times_told token (step ∷ steps) = told_by token step + times_told token steps
