-- Many requests at once: what a manager's handle asks, which of them an accepted message answers, and what it gives up.
--
-- `HasRoom`, `HasNoRoom`: the token of the request that is asked next, or why there is none. `with_id`: the request
-- with the msgID of its token. `AsksHeld`, `DiscoversMany`: one more request waits. `FindsAnswer`: the one request that
-- the message that is kept answers. `GivesUp`: a request isn't waited for any more.
use Rattle.std.specs.Prelude.{◌≡◌, ◌⊎◌, ℕ, ◌<◌, ◌≤◌, ◌+◌, ◌-◌, ◌^◌, pos, List, [], Option, Some, None, Result, Ok, Err}
use Rattle.std.specs.FinMap as map
use Rattle.std.specs.Global.{Vec}
use Rattle.snmp_ber.specs.declared.level.Level.{Level}
use Rattle.snmp_ber.specs.declared.level.Level.TheVariants.{NoAuthNoPriv}
use Rattle.snmp_ber.specs.declared.number.TheConstants.{MAX_INTEGER32}
use Rattle.snmp_message.specs.Scoped.{Contexts, ScopedFront}
use Rattle.snmp_msg.specs.Pdu.{PduParts, PduText}
use Rattle.usm_core.specs.Sealed.{Seals}
use Rattle.snmp_incoming.specs.Outcome.{Given}
use Rattle.snmp_message.specs.declared.refusal.Refusal.TheVariants.{OutOfMemory}
use Rattle.snmp_outgoing.specs.Requests.{discovering}
use Rattle.snmp_manager.specs.Views.{Held}
use Rattle.snmp_manager.specs.Pendings.{Remembers}
use Rattle.snmp_manager.specs.declared.pending.Pending.{Pending}
use Rattle.snmp_requests.specs.declared.answered.AnsweredRequest.{AnsweredRequest}
use Rattle.snmp_requests.specs.declared.outstanding.TheConstants.{REQUESTS_LIMIT}
use Rattle.snmp_requests.specs.Answering.{TellsAnswered}
use Rattle.snmp_requests.specs.Outstanding.{HasNoToken, IsAdded, IsEnded, IsNextToken, Outstanding, from_token}
use Rattle.snmp_requests.specs.Outstanding.{message_id_of}
use Rattle.snmp_requests.specs.Outstanding.{Waits as IsWaiting}
use Rattle.snmp_handles.specs.Numbers.{level_of}
use Rattle.snmp_handles.specs.Managers.{Asking, IsOutOfRange, IsRequestText, ManagerHeld, RefusesRequest}
use Rattle.snmp_handles.specs.Asked.{AnswersRequest, RemembersAsking}
use Rattle.snmp_handles.specs.declared.fault.CallFault.{CallFault}
use Rattle.snmp_handles.specs.declared.fault.CallFault.TheVariants.{Refused, BadArgument, NothingTaken, BadBindings}
use Rattle.snmp_handles.specs.declared.fault.CallFault.TheVariants.{TooManyRequests}

-- the token of the request that is asked next
pub record HasRoom (all : Outstanding) (first token : ℕ) : Type 0 where
  pub few : map.len all.requests < REQUESTS_LIMIT
  pub next : IsNextToken all first token

-- no token is left, which is so only where nearly all were given
abbrev pub HasNoTokenLeft : Outstanding → ℕ → Type 0
HasNoTokenLeft all first = HasNoToken all first × (2 ^ 64 - 1 ≤ from_token all.next first + REQUESTS_LIMIT)

-- as many wait as may, or no token is left
abbrev pub HasNoRoom : Outstanding → ℕ → Type 0
HasNoRoom all first = (REQUESTS_LIMIT ≤ map.len all.requests) ⊎ HasNoTokenLeft all first

-- the same request with the msgID of this token
abbrev pub with_id : Asking → ℕ → Asking
with_id ask token = record {
  id = message_id_of token;
  engine = ask.engine;
  user = ask.user;
  level = ask.level;
  context_engine = ask.context_engine;
  context_name = ask.context_name;
  tag = ask.tag;
  request_id = ask.request_id;
  second = ask.second;
  third = ask.third;
}

-- Between the functions: the request that is written with the msgID of this token, or why it isn't.
abbrev pub WritesAsk : Held → ℕ → Asking → ℕ → List ℕ → List ℕ → Result (Vec ℕ × Pending) CallFault → Type 0
WritesAsk held now ask token list salt answer = (level : Level) × (level_of ask.level ≡ Some level)
    × AnswersRequest held now (with_id ask token) level list salt answer

-- The message is to be sent, and the request with this token waits too. The one that was written last stays.
abbrev pub WaitsToo : ManagerHeld → List ℕ → ℕ → Pending → ManagerHeld → Type 0
WaitsToo old text token pending new = (requests : Outstanding) × IsAdded old.requests token pending requests
    × (new ≡ record old { message = Some text; requests = requests })

-- why a request isn't asked, the first that applies
abbrev pub RefusesAsk : ManagerHeld → ℕ → Asking → List ℕ → List ℕ → CallFault → Type 0
RefusesAsk held now ask list salt BadArgument = IsOutOfRange ask
RefusesAsk held now ask list salt TooManyRequests = (IsOutOfRange ask → ⊥) × HasNoRoom held.requests ask.id
RefusesAsk held now ask list salt (Refused fault) = (IsOutOfRange ask → ⊥)
    × ((token : ℕ) × HasRoom held.requests ask.id token
    × (RefusesRequest held now (with_id ask token) list salt (Refused fault) ⊎ (fault ≡ OutOfMemory)))
RefusesAsk held now ask list salt BadBindings = (IsOutOfRange ask → ⊥)
    × ((token : ℕ) × HasRoom held.requests ask.id token
    × RefusesRequest held now (with_id ask token) list salt BadBindings)
RefusesAsk held now ask list salt _ = ⊥

abbrev pub AsksHeld : ManagerHeld → ℕ → Asking → List ℕ → List ℕ → Result ℕ CallFault → ManagerHeld → Type 0
AsksHeld old now ask list salt (Ok token) new = (IsOutOfRange ask → ⊥) × HasRoom old.requests ask.id token
    × ((level : Level) × (text : List ℕ) × (a : Pending) × (level_of ask.level ≡ Some level)
    × IsRequestText old.manager now (with_id ask token) level list salt text
    × RemembersAsking a (with_id ask token) level × WaitsToo old text token a new)
AsksHeld old now ask list salt (Err fault) new = RefusesAsk old now ask list salt fault × (new ≡ old)

-- The discovery request is to be sent, and waits too.
abbrev pub DiscoversMany : ManagerHeld → ℕ → Result ℕ CallFault → ManagerHeld → Type 0
DiscoversMany old first (Ok token) new = (first ≤ MAX_INTEGER32) × HasRoom old.requests first token
    × ((text : List ℕ) × (a : Pending) × Seals old.manager.users (discovering (message_id_of token)) (Ok text)
    × Remembers a (message_id_of token) [] [] NoAuthNoPriv [] [] (pos (message_id_of token))
    × WaitsToo old text token a new)
DiscoversMany old first (Err BadArgument) new = (MAX_INTEGER32 < first) × (new ≡ old)
DiscoversMany old first (Err TooManyRequests) new = (first ≤ MAX_INTEGER32) × HasNoRoom old.requests first
    × (new ≡ old)
DiscoversMany old first (Err (Refused fault)) new = (first ≤ MAX_INTEGER32)
    × ((token : ℕ) × HasRoom old.requests first token) × (fault ≡ OutOfMemory) × (new ≡ old)
DiscoversMany old first (Err _) new = ⊥

-- The message that is kept is an answer to one request that waits, or to none; its Response ends the request.
abbrev pub FindsAnswer : ManagerHeld → Result (Option AnsweredRequest) CallFault → ManagerHeld → Type 0
FindsAnswer old (Ok told) new = (g : Given) × (requests : Outstanding) × (old.last ≡ Some g)
    × ((c : Contexts) (p : PduParts) → ScopedFront g.text c → PduText c.pdu p
    → TellsAnswered old.requests g c p told requests)
    × (new ≡ record old { requests = requests })
FindsAnswer old (Err NothingTaken) new = (old.last ≡ None) × (new ≡ old)
FindsAnswer old (Err _) new = ⊥

abbrev pub GivesUp : {V : Type 0} → ManagerHeld → ℕ → Result V CallFault → ManagerHeld → Type 0
GivesUp old token (Ok done) new = (requests : Outstanding) × IsEnded old.requests token requests
    × (new ≡ record old { requests = requests })
GivesUp old token (Err NothingTaken) new = (IsWaiting old.requests token → ⊥) × (new ≡ old)
GivesUp old token (Err _) new = ⊥
