-- When a gateway has something to do by time alone.
--
-- `due_in`: the moment from which on something is due for a request. `IsFirstDue`: the first of these moments.
-- `AreIdle`: nothing is due for any. `IsTodo`: what is to be done for a request at a moment. Moments are milliseconds.
use Rattle.std.specs.Prelude.{◌≡◌, ◌*◌, ◌-◌, ◌^◌, ◌<◌, ◌≤◌, ⊤, ℕ, Bool, true, min, List, All, Contains, Option, Some}
use Rattle.std.specs.Prelude.{None, length}
use Rattle.std.specs.List.{HoldsAt}
use Rattle.snmp_gate.specs.Sending.{Requests}
use Rattle.snmp_gate.specs.Time.{IsDue, due_at}
use Rattle.snmp_gate.specs.declared.asks.DeviceAsks.{DeviceAsks}
use Rattle.snmp_gate.specs.declared.limits.GateLimits.{GateLimits}
use Rattle.snmp_gate.specs.declared.requests.WaitingRequest.{WaitingRequest}
use Rattle.snmp_gate.specs.declared.retries.Retries.{Retries}
use Rattle.snmp_gate.specs.declared.task.Task.{Task}
use Rattle.snmp_gate.specs.declared.task.Task.TheVariants as task
use Rattle.snmp_gate.specs.declared.timer.Due.TheVariants as due
use Rattle.snmp_gate.specs.declared.waiting_message.WaitingMessage.{WaitingMessage}
use Rattle.snmp_gate.specs.declared.work.OpenRequest.{OpenRequest}
use Rattle.snmp_gate.specs.declared.work.Todo.{Todo}
use Rattle.snmp_gate.specs.declared.work.Todo.TheVariants.{Answer, Ask, AskAgain, GiveUp}
use Rattle.snmp_gate.specs.declared.work.Work.{Work}
use Rattle.snmp_gate.specs.declared.work.Work.TheVariants.{Open, Ends}

-- a Set is asked once, and waits as long as for all tries of another request
abbrev pub once : Retries → Retries
once r = record { again = min (r.again * r.tries) (2 ^ 64 - 1); tries = 1; last = r.last }

abbrev pub retries_in : GateLimits → Task → Retries
retries_in limits task.Set = once limits.retries
retries_in limits _ = limits.retries

-- a request that has ended is to be answered at once
abbrev pub due_in : GateLimits → Work → ℕ
due_in limits (Open o) = min (due_at (retries_in limits o.task.task) o.timer) (2 ^ 64 - 1)
due_in limits (Ends e) = 0

-- the first moment of all requests'
pub record IsFirstDue (limits : GateLimits) (requests : Requests) (at : ℕ) : Type 0 where
  pub least : All (λ (r : WaitingRequest WaitingMessage Work). at ≤ due_in limits r.work) requests
  pub request : WaitingRequest WaitingMessage Work
  pub there : Contains requests request
  pub at_is : at ≡ due_in limits request.work

-- nothing is due for it by time alone, and it hasn't ended
abbrev pub IsIdle : GateLimits → ℕ → Work → Type 0
IsIdle limits now (Open o) = now < due_at (retries_in limits o.task.task) o.timer
IsIdle limits now (Ends e) = ⊥

abbrev pub AreIdle : GateLimits → ℕ → Requests → Type 0
AreIdle limits now requests = All (λ (r : WaitingRequest WaitingMessage Work). IsIdle limits now r.work) requests

abbrev pub HasEnded : Work → Type 0
HasEnded (Open o) = ⊥
HasEnded (Ends e) = ⊤

-- the device is asked less than it may be asked at once
pub record HasRoom (asks : List DeviceAsks) (device : ℕ) : Type 0 where
  pub within : device < length asks
  pub few : HoldsAt (λ (a : DeviceAsks). length a.asks.items < a.at_once) asks device

-- what is to be done for a request whose device is to be asked, where it has room for more, or is to answer
abbrev pub IsTodoOpen : GateLimits → Bool → ℕ → OpenRequest → Option Todo → Type 0
IsTodoOpen limits room now o None = IsDue (retries_in limits o.task.task) o.timer now due.Nothing
IsTodoOpen limits room now o (Some Ask) = (o.asked ≡ None) × (room ≡ true)
    × IsDue (retries_in limits o.task.task) o.timer now due.Nothing
IsTodoOpen limits room now o (Some AskAgain) = IsDue (retries_in limits o.task.task) o.timer now due.AskAgain
IsTodoOpen limits room now o (Some GiveUp) = IsDue (retries_in limits o.task.task) o.timer now due.GiveUp
IsTodoOpen limits room now o (Some Answer) = ⊥

-- what is to be done for a request, if something is
abbrev pub IsTodo : GateLimits → List DeviceAsks → ℕ → Work → Option Todo → Type 0
IsTodo limits asks now (Open o) None = IsIdle limits now (Open o)
IsTodo limits asks now (Open o) (Some Ask) = (o.asked ≡ None) × HasRoom asks o.device
    × IsDue (retries_in limits o.task.task) o.timer now due.Nothing
IsTodo limits asks now (Open o) (Some AskAgain) = IsDue (retries_in limits o.task.task) o.timer now due.AskAgain
IsTodo limits asks now (Open o) (Some GiveUp) = IsDue (retries_in limits o.task.task) o.timer now due.GiveUp
IsTodo limits asks now (Open o) (Some Answer) = ⊥
IsTodo limits asks now (Ends e) (Some Answer) = ⊤
IsTodo limits asks now (Ends e) _ = ⊥

pub record IsTodoAt (limits : GateLimits) (asks : List DeviceAsks) (now : ℕ) (requests : Requests) (place : ℕ)
    (todo : Todo) : Type 0 where
  pub within : place < length requests
  pub is : HoldsAt (λ (r : WaitingRequest WaitingMessage Work). IsTodo limits asks now r.work (Some todo)) requests
      place
