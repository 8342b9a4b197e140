-- Which request an accepted message answers (RFC 3412, section 7.2, steps 10 to 12).
--
-- `IsOfEngine`: the message came with authentication, from the engine that was asked and for the user that asks.
-- `IsHeardOf`: what the message is to a request: its Response, a Report on it, or neither. `IsAnswerTo`: the one
-- request of those that wait to which the message is an answer. `TellsAnswered`: what is returned of it, and which
-- requests still wait.
use Rattle.std.specs.Prelude.{◌≡◌, ◌≢◌, ◌↔◌, IsTrue, ℕ, List, Option, Some, None}
use Rattle.std.specs.FinMap as map
use Rattle.snmp_ber.specs.declared.level.Level.TheVariants.{NoAuthNoPriv}
use Rattle.snmp_message.specs.Scoped.{Contexts}
use Rattle.snmp_msg.specs.Pdu.{PduParts}
use Rattle.snmp_msg.specs.Variables.{Variable, AreBindings}
use Rattle.snmp_incoming.specs.Outcome.{Given}
use Rattle.snmp_manager.specs.Replies.{IsReportTo, IsResponseTo, TellsCounter}
use Rattle.snmp_manager.specs.declared.pending.Pending.{Pending}
use Rattle.snmp_requests.specs.declared.device_request.Heard.{Heard}
use Rattle.snmp_requests.specs.declared.device_request.Heard.TheVariants.{Response, Report}
use Rattle.snmp_requests.specs.declared.answered.AnsweredRequest.{AnsweredRequest}
use Rattle.snmp_requests.specs.declared.outstanding.OutstandingRequest.{OutstandingRequest}
use Rattle.snmp_requests.specs.Outstanding.{Outstanding, message_id_of, without}

-- only one who has the user's key for that engine can have sent it
pub record IsOfEngine (a : Pending) (g : Given) : Type 0 where
  pub authenticated : g.level ≢ NoAuthNoPriv
  pub engine : g.engine ≡ a.engine.items
  pub user : g.user ≡ a.user.items

-- the only binding names this counter; another list names counter 0
abbrev pub NamesTold : PduParts → ℕ → Type 0
NamesTold p counter = (vs : List Variable) → AreBindings vs p.list → (value : Option ℕ) × TellsCounter vs counter value

abbrev pub IsHeardOf : Pending → Given → Contexts → PduParts → Option Heard → Type 0
IsHeardOf a g c p (Some Response) = IsResponseTo a g c p
IsHeardOf a g c p (Some (Report counter authentic)) = IsReportTo a g p × NamesTold p counter
    × (IsTrue authentic ↔ IsOfEngine a g)
IsHeardOf a g c p None = (IsResponseTo a g c p → ⊥) × (IsReportTo a g p → ⊥)

-- the message is an answer to the request with this token, and to no other that waits
pub record IsAnswerTo (all : Outstanding) (g : Given) (c : Contexts) (p : PduParts) (told : AnsweredRequest)
    : Type 0 where
  pub request : OutstandingRequest
  pub there : map.get all.requests (message_id_of told.token) ≡ Some request
  pub token_is : request.token ≡ told.token
  pub heard_is : IsHeardOf request.pending g c p (Some told.heard)
  pub alone : (id : ℕ) (other : OutstandingRequest) → map.get all.requests id ≡ Some other
      → other.token ≢ told.token → IsHeardOf other.pending g c p None

-- the message is an answer to none that waits
abbrev pub IsNoAnswer : Outstanding → Given → Contexts → PduParts → Type 0
IsNoAnswer all g c p = (id : ℕ) (other : OutstandingRequest) → map.get all.requests id ≡ Some other
    → IsHeardOf other.pending g c p None

-- its Response ends a request, and nothing else does
abbrev pub left_after : Heard → ℕ → Outstanding → Outstanding
left_after Response token all = without all (message_id_of token)
left_after (Report counter authentic) token all = all

abbrev pub TellsAnswered : Outstanding → Given → Contexts → PduParts → Option AnsweredRequest → Outstanding → Type 0
TellsAnswered old g c p (Some told) new = IsAnswerTo old g c p told × (new ≡ left_after told.heard told.token old)
TellsAnswered old g c p None new = IsNoAnswer old g c p × (new ≡ old)
