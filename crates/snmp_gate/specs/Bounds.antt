-- What a gateway keeps to, whatever comes.
--
-- `IsTimely`: a request's device was asked as often, and as late, as it may be. `waiting_for`: how many requests wait
-- for a device. `AreBounded`: there are as many requests as may wait, in all and for each device, and messages as may
-- join one. `AsksBounded`: each device is asked as much as it may be at once. `IsBounded`: all of that. `IsFresh`,
-- `IsNew`: a request whose device wasn't asked yet. Times are milliseconds.
use Rattle.std.specs.Prelude.{◌≡◌, ◌+◌, ◌<◌, ◌≤◌, ⊤, ℕ, cond, max, nat_eq, List, All, None, length, map}
use Rattle.std.specs.List.{sum_by}
use Rattle.snmp_gate.specs.Due.{retries_in}
use Rattle.snmp_gate.specs.Groups.{Group, groups_of}
use Rattle.snmp_gate.specs.GroupRuns.{IsFew}
use Rattle.snmp_gate.specs.Time.{times_asked}
use Rattle.snmp_gate.specs.declared.asks.DeviceAsks.{DeviceAsks}
use Rattle.snmp_gate.specs.declared.devices.Device.{Device}
use Rattle.snmp_gate.specs.declared.gate.Gate.{Gate}
use Rattle.snmp_gate.specs.declared.limits.GateLimits.{GateLimits}
use Rattle.snmp_gate.specs.declared.requests.WaitingRequests.{WaitingRequests}
use Rattle.snmp_gate.specs.declared.retries.Retries.{Retries}
use Rattle.snmp_gate.specs.declared.timer.Turn.{Turn}
use Rattle.snmp_gate.specs.declared.timer.Turn.TheVariants.{Asked, ToAsk}
use Rattle.snmp_gate.specs.declared.waiting_message.WaitingMessage.{WaitingMessage}
use Rattle.snmp_gate.specs.declared.work.OpenRequest.{OpenRequest}
use Rattle.snmp_gate.specs.declared.work.Work.{Work}
use Rattle.snmp_gate.specs.declared.work.Work.TheVariants.{Open, Ends}

-- of a request that came at this moment: its device was asked the last time less than `last` after it, and the same not
-- more often than it may be
abbrev pub IsTurnOf : Retries → ℕ → Turn → Type 0
IsTurnOf r began ToAsk = ⊤
IsTurnOf r began (Asked at times) = (at < began + r.last) × (times ≤ max 1 r.tries)

pub record IsTimelyOpen (r : Retries) (o : OpenRequest) : Type 0 where
  pub turn : IsTurnOf r o.timer.began o.timer.turn
  pub to_ask : o.asked ≡ None → o.timer.turn ≡ ToAsk

abbrev pub IsTimely : GateLimits → Work → Type 0
IsTimely limits (Open o) = IsTimelyOpen (retries_in limits o.task.task) o
IsTimely limits (Ends e) = ⊤

abbrev pub AreTimely : GateLimits → List (Group WaitingMessage Work) → Type 0
AreTimely limits groups = All (λ (g : Group WaitingMessage Work). IsTimely limits g.work) groups

-- its device wasn't asked since it came, or since it answered
abbrev pub IsFresh : Work → Type 0
IsFresh (Open o) = (o.asked ≡ None) × (o.timer.turn ≡ ToAsk)
IsFresh (Ends e) = ⊤

-- it came now, and its device wasn't asked
abbrev pub IsNew : ℕ → Work → Type 0
IsNew now (Open o) = (o.asked ≡ None) × (o.timer.turn ≡ ToAsk) × (o.timer.began ≡ now)
IsNew now (Ends e) = ⊤

-- its device may be asked now
abbrev pub MayBeAsked : GateLimits → ℕ → Work → Type 0
MayBeAsked limits now (Open o) = (now < o.timer.began + (retries_in limits o.task.task).last)
    × (times_asked o.timer.turn < max 1 (retries_in limits o.task.task).tries)
MayBeAsked limits now (Ends e) = ⊤

-- 1 if it waits for this device, or for its answer, and 0 if it doesn't
abbrev pub for_device : ℕ → Work → ℕ
for_device device (Open o) = cond (nat_eq device o.device) 1 0
for_device device (Ends e) = 0

abbrev pub waiting_for : ℕ → List (Group WaitingMessage Work) → ℕ
waiting_for device groups = sum_by (λ (g : Group WaitingMessage Work). for_device device g.work) groups

-- another work waits for the same device, or for none
abbrev pub IsForNoOther : Work → Work → Type 0
IsForNoOther before after = (device : ℕ) → for_device device after ≤ for_device device before

-- it is for a device, and as many requests wait for that as may
abbrev pub IsShareFull : ℕ → List (Group WaitingMessage Work) → Work → Type 0
IsShareFull share groups (Open o) = share ≤ waiting_for o.device groups
IsShareFull share groups (Ends e) = ⊥

-- no device has more of the requests than its share
abbrev pub AreShared : GateLimits → List (Group WaitingMessage Work) → Type 0
AreShared limits groups = (device : ℕ) → waiting_for device groups ≤ limits.waiting_per_device

pub record AreBounded (limits : GateLimits) (rs : WaitingRequests WaitingMessage Work) : Type 0 where
  pub most : rs.most ≡ limits.waiting
  pub most_messages : rs.most_messages ≡ limits.joined
  pub few : length (groups_of rs.list.items) ≤ limits.waiting
  pub messages : All (IsFew limits.joined) (groups_of rs.list.items)
  pub shared : AreShared limits (groups_of rs.list.items)
  pub timely : AreTimely limits (groups_of rs.list.items)

-- how much a device may be asked at once
abbrev pub at_once_of : Device → ℕ
at_once_of d = d.at_once

abbrev pub at_once_in : DeviceAsks → ℕ
at_once_in asks = asks.at_once

abbrev pub IsWithin : DeviceAsks → Type 0
IsWithin asks = length asks.asks.items ≤ asks.at_once

pub record AsksBounded (devices : List Device) (asks : List DeviceAsks) : Type 0 where
  pub at_once : map at_once_of devices ≡ map at_once_in asks
  pub few : All IsWithin asks

pub record IsBounded (g : Gate) : Type 0 where
  pub requests : AreBounded g.limits g.requests
  pub asks : AsksBounded g.devices.list.items g.asks.items
