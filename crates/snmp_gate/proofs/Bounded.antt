-- What a gateway keeps to, step by step.
use Rattle.std.specs.Prelude.{◌≡◌, ◌∷◌, ◌++◌, ◌+◌, ◌<◌, ◌≤◌, ℕ, List, [], All, MatchOption, Option, None, Some, length, slice_index_or, slice_set}
use Rattle.std.proofs.Common.{refl, sym, ap, subst, ◌∙◌, arith}
use Rattle.std.specs.Global.{Vec}
use Rattle.std.proofs.Math.Seq.{map-set_same}
use Rattle.std.proofs.lemmas.List.{length-map, length-set, length_push}
use Rattle.std.proofs.lemmas.List.Edits.{length-remove}
use Rattle.std.proofs.lemmas.List.Elements.{All-get_or, All-push, All-set}
use Rattle.snmp_agent.specs.Agent.{AgentState}
use Rattle.snmp_gate.specs.Asks.{ask_of}
use Rattle.snmp_gate.specs.Asks.{Ends as AskEnds, Waits as AskWaits}
use Rattle.snmp_gate.specs.Bounds.{AreBounded, AreShared, AreTimely, AsksBounded, IsForNoOther, IsFresh, IsNew, IsShareFull, IsTimely, IsTurnOf, IsWithin}
use Rattle.snmp_gate.specs.Due.{retries_in}
use Rattle.snmp_gate.specs.Groups.{Group, IsAnswered, IsJoined, IsWorked, begun, group_of, groups_of, with_work}
use Rattle.snmp_gate.specs.GroupRuns.{IsFew}
use Rattle.snmp_gate.specs.Replies.{SameAgent}
use Rattle.snmp_gate.specs.Taking.{TaskSaysSame, WorkSaysSame}
use Rattle.snmp_gate.specs.Waiting.{SameButSets, Stays}
use Rattle.snmp_gate.specs.declared.asks.DeviceAsk.{DeviceAsk}
use Rattle.snmp_gate.specs.declared.asks.DeviceAsks.{DeviceAsks}
use Rattle.snmp_gate.specs.declared.devices.Device.{Device}
use Rattle.snmp_gate.specs.declared.devices.Devices.{Devices}
use Rattle.snmp_gate.specs.declared.gate.Gate.{Gate}
use Rattle.snmp_gate.specs.declared.limits.GateLimits.{GateLimits}
use Rattle.snmp_gate.specs.declared.requests.Joined.{Joined}
use Rattle.snmp_gate.specs.declared.requests.WaitingRequest.{WaitingRequest}
use Rattle.snmp_gate.specs.declared.requests.WaitingRequests.{WaitingRequests}
use Rattle.snmp_gate.specs.declared.retries.Retries.{Retries}
use Rattle.snmp_gate.specs.declared.task.Task.{Task}
use Rattle.snmp_gate.specs.declared.task.Task.TheVariants as task
use Rattle.snmp_gate.specs.declared.timer.Timer.{Timer}
use Rattle.snmp_gate.specs.declared.timer.Turn.{Turn}
use Rattle.snmp_gate.specs.declared.waiting_message.WaitingMessage.{WaitingMessage}
use Rattle.snmp_gate.specs.declared.work.Work.{Work}
use Rattle.snmp_gate.specs.declared.work.Work.TheVariants.{Open, Ends}
use Rattle.snmp_gate.proofs.GroupSteps.{group_at, groups_set}
use Rattle.snmp_gate.proofs.Shares.{shared_answered, shared_at, shared_begun, shared_joined, shared_worked}
use Rattle.snmp_gate.proofs.Questions.{all_answered, all_joined, all_worked, at_place, few_begun, few_less, few_more, few_worked, long_joined, long_left}

abbrev pub Waits : Type 0
Waits = WaitingRequests WaitingMessage Work

-- ---- requests

pub fresh_timely : (limits : GateLimits) (w : Work) → IsFresh w → IsTimely limits w
fresh_timely limits (Open o) fresh = record {
  turn = subst (λ (t : Turn). IsTurnOf (retries_in limits o.task.task) o.timer.began t) (sym fresh.1) tt;
  to_ask = λ none. fresh.1;
}
fresh_timely limits (Ends e) fresh = tt

pub new_fresh : (now : ℕ) (w : Work) → IsNew now w → IsFresh w
new_fresh now (Open o) is = (is.0, is.1)
new_fresh now (Ends e) is = tt

same_retries : (limits : GateLimits) (old new : Task) → TaskSaysSame old new → retries_in limits new ≡ retries_in limits old
same_retries limits (task.Bulk by old) (task.Bulk other new) same = refl
same_retries limits (task.Bulk by old) (task.Read o d) same = ap (retries_in limits) same
same_retries limits (task.Bulk by old) task.Set same = ap (retries_in limits) same
same_retries limits (task.Read o d) new same = ap (retries_in limits) same
same_retries limits task.Set new same = ap (retries_in limits) same

-- a request that stays what it was
pub same_timely : (limits : GateLimits) (old new : Work) → WorkSaysSame old new → IsTimely limits old → IsTimely limits new
same_timely limits (Open old) (Open new) same timely =
    let retries = same_retries limits old.task.task new.task.task same.task in record {
      turn = subst (λ (r : Retries). IsTurnOf r new.timer.began new.timer.turn) (sym retries)
          (subst (λ (t : Timer). IsTurnOf (retries_in limits old.task.task) t.began t.turn) (sym same.timer) timely.turn);
      to_ask = λ none. ap (λ (t : Timer). t.turn) same.timer ∙ timely.to_ask (sym same.asked ∙ none);
    }
same_timely limits (Open old) (Ends e) same timely = subst (IsTimely limits) (sym same) timely
same_timely limits (Ends e) new same timely = subst (IsTimely limits) (sym same) timely

module _ (limits : GateLimits) (old new : Waits) (most : new.most ≡ old.most) (messages : new.most_messages ≡ old.most_messages) where
  pub bounded_same : groups_of new.list.items ≡ groups_of old.list.items → AreBounded limits old → AreBounded limits new
  bounded_same same b = record {
    most = most ∙ b.most;
    most_messages = messages ∙ b.most_messages;
    few = subst (λ (gs : List (Group WaitingMessage Work)). length gs ≤ limits.waiting) (sym same) b.few;
    messages = subst (All (IsFew limits.joined)) (sym same) b.messages;
    shared = subst (AreShared limits) (sym same) b.shared;
    timely = subst (AreTimely limits) (sym same) b.timely;
  }

  pub bounded_joined : (place : ℕ) (m : WaitingMessage) (becomes : Joined) → IsJoined old.most_messages (groups_of old.list.items) place m (groups_of new.list.items) becomes → AreBounded limits old → AreBounded limits new
  bounded_joined place m becomes j b = record {
    most = most ∙ b.most;
    most_messages = messages ∙ b.most_messages;
    few = omega (arith, long_joined old.most_messages (groups_of old.list.items) (groups_of new.list.items) place m becomes j, b.few);
    messages = all_joined (IsFew limits.joined) old.most_messages (groups_of old.list.items) (groups_of new.list.items) place m becomes j
        (λ g at room f. few_more (λ (x : WaitingMessage). x) 0 limits.joined m g (omega (arith, room, b.most_messages)) f) b.messages;
    shared = shared_joined limits old.most_messages (groups_of old.list.items) place m (groups_of new.list.items) becomes j b.shared;
    timely = all_joined (λ (g : Group WaitingMessage Work). IsTimely limits g.work) old.most_messages (groups_of old.list.items) (groups_of new.list.items) place m becomes j (λ g at room f. f) b.timely;
  }

  pub bounded_begun : (n : ℕ) (m : WaitingMessage) (w : Work) → length old.list.items < old.most → groups_of new.list.items ≡ groups_of old.list.items ++ begun n m w ∷ [] → IsFresh w
      → (IsShareFull limits.waiting_per_device (groups_of old.list.items) w → ⊥) → AreBounded limits old → AreBounded limits new
  bounded_begun n m w room is fresh share b =
      let gs = groups_of old.list.items in
      let long : length (groups_of new.list.items) ≡ length gs + 1 = ap (λ (x : List (Group WaitingMessage Work)). length x) is ∙ length_push gs (begun n m w) in
      let same : length gs ≡ length old.list.items = length-map old.list.items (λ (r : WaitingRequest WaitingMessage Work). group_of r) in record {
        most = most ∙ b.most;
        most_messages = messages ∙ b.most_messages;
        few = omega (arith, long, same, room, b.most);
        messages = subst (All (IsFew limits.joined)) (sym is) (All-push (IsFew limits.joined) gs (begun n m w) b.messages (few_begun (λ (x : WaitingMessage). x) 0 limits.joined n m w));
        shared = shared_begun limits gs (groups_of new.list.items) n m w is share b.shared;
        timely = subst (AreTimely limits) (sym is) (All-push (λ (g : Group WaitingMessage Work). IsTimely limits g.work) gs (begun n m w) b.timely (fresh_timely limits w fresh));
      }

  pub bounded_worked : (place : ℕ) (before after : Work) → IsWorked (groups_of old.list.items) place before after (groups_of new.list.items) → IsTimely limits after → IsForNoOther before after → AreBounded limits old → AreBounded limits new
  bounded_worked place before after w timely other b =
      let gs = groups_of old.list.items in record {
        most = most ∙ b.most;
        most_messages = messages ∙ b.most_messages;
        few = omega (arith, ap (λ (x : List (Group WaitingMessage Work)). length x) w.new_is, length-set gs place (with_work w.group after), b.few);
        messages = all_worked (IsFew limits.joined) gs (groups_of new.list.items) place before after w (few_worked (λ (x : WaitingMessage). x) 0 limits.joined after) b.messages;
        shared = shared_worked limits gs (groups_of new.list.items) place before after w other b.shared;
        timely = all_worked (λ (g : Group WaitingMessage Work). IsTimely limits g.work) gs (groups_of new.list.items) place before after w (λ g was. timely) b.timely;
      }

  pub bounded_answered : (place : ℕ) (m : WaitingMessage) → IsAnswered (groups_of old.list.items) place m (groups_of new.list.items) → AreBounded limits old → AreBounded limits new
  bounded_answered place m a b =
      let gs = groups_of old.list.items in record {
        most = most ∙ b.most;
        most_messages = messages ∙ b.most_messages;
        few = omega (arith, long_left gs (groups_of new.list.items) place a.group a.others a.at.within a.left, b.few);
        messages = all_answered (IsFew limits.joined) gs (groups_of new.list.items) place m a (few_less (λ (x : WaitingMessage). x) 0 limits.joined m) b.messages;
        shared = shared_answered limits gs (groups_of new.list.items) place m a b.shared;
        timely = all_answered (λ (g : Group WaitingMessage Work). IsTimely limits g.work) gs (groups_of new.list.items) place m a (λ g next rest were f. f) b.timely;
      }

  -- something else becomes of the request at a place
  pub bounded_set : (place : ℕ) (r s : WaitingRequest WaitingMessage Work) → place < length old.list.items → r ≡ slice_index_or old.list.items place r → new.list.items ≡ slice_set old.list.items place s
      → s.others ≡ r.others → IsForNoOther r.work s.work → (AreTimely limits (groups_of old.list.items) → AreTimely limits (groups_of new.list.items)) → AreBounded limits old → AreBounded limits new
  bounded_set place r s within is set others other timely b =
      let gs = groups_of old.list.items in
      let at = group_at old.list.items place r within is in
      let groups : groups_of new.list.items ≡ slice_set gs place (group_of s) = ap (λ (rs : List (WaitingRequest WaitingMessage Work)). groups_of rs) set ∙ groups_set old.list.items place s in
      let few = at_place (IsFew limits.joined) gs place (group_of r) at b.messages in
      let long = ap (λ (v : Vec WaitingMessage). length v.items) others in record {
        most = most ∙ b.most;
        most_messages = messages ∙ b.most_messages;
        few = omega (arith, ap (λ (x : List (Group WaitingMessage Work)). length x) groups, length-set gs place (group_of s), b.few);
        messages = subst (All (IsFew limits.joined)) (sym groups)
            (All-set (IsFew limits.joined) gs place (group_of s) (record { some = omega arith; few = λ more. omega (arith, long, few.few (omega (arith, long, more))) }) b.messages);
        shared = subst (AreShared limits) (sym groups) (shared_at limits gs place (group_of r) (group_of s) at other b.shared);
        timely = timely b.timely;
      }

-- ---- what the devices are asked

pub asks_set : (devices : List Device) (asks : List DeviceAsks) (device : ℕ) (a new : DeviceAsks) → device < length asks → a ≡ slice_index_or asks device a → new.at_once ≡ a.at_once → (IsWithin a → IsWithin new)
    → AsksBounded devices asks → AsksBounded devices (slice_set asks device new)
asks_set devices asks device a new within is same few b = record {
  at_once = b.at_once ∙ sym (map-set_same (λ (x : DeviceAsks). x.at_once) asks device new a (same ∙ ap (λ (x : DeviceAsks). x.at_once) is));
  few = All-set IsWithin asks device new (few (subst IsWithin (sym is) (All-get_or IsWithin asks device a within b.few))) b.few;
}

-- an ask is answered or given up
pub ended_few : (a new : DeviceAsks) (id : ℕ) (ended : Option ℕ) → MatchOption ended ((¬ AskWaits a.asks.items id) × (new.asks.items ≡ a.asks.items)) (λ request. AskEnds a.asks.items (ask_of id request) new.asks.items) → new.at_once ≡ a.at_once
    → IsWithin a → IsWithin new
ended_few a new id None is same few = omega (arith, few, same, ap (λ (xs : List DeviceAsk). length xs) is.1)
ended_few a new id (Some request) is same few = omega (arith, few, same, ap (λ (xs : List DeviceAsk). length xs) is.new_is, length-remove a.asks.items is.place is.within)

-- ---- all of the gateway

pub agent_same : (a b : AgentState) → b ≡ a → SameAgent a b
agent_same a b is = record {
  engine = ap (λ (x : AgentState). x.engine) is;
  boots = ap (λ (x : AgentState). x.boots) is;
  started = ap (λ (x : AgentState). x.started) is;
  users = ap (λ (x : AgentState). x.users) is;
  tables = ap (λ (x : AgentState). x.tables) is;
}

pub stays_of : (old new : Gate) → SameAgent old.agent new.agent → new.devices ≡ old.devices → new.limits ≡ old.limits → (AreBounded old.limits old.requests → AreBounded old.limits new.requests)
    → (AsksBounded old.devices.list.items old.asks.items → AsksBounded old.devices.list.items new.asks.items) → Stays old new
stays_of old new agent devices limits requests asks = record {
  agent = agent;
  devices = devices;
  limits = limits;
  bounded = λ b. record {
    requests = subst (λ (l : GateLimits). AreBounded l new.requests) (sym limits) (requests b.requests);
    asks = subst (λ (d : Devices). AsksBounded d.list.items new.asks.items) (sym devices) (asks b.asks);
  };
}

-- only the Sets change that are remembered
pub stays_noted : (old new : Gate) → SameButSets old new → Stays old new
stays_noted old new same =
    stays_of old new (agent_same old.agent new.agent same.agent) same.devices same.limits (subst (AreBounded old.limits) (sym same.requests))
    (subst (λ (v : Vec DeviceAsks). AsksBounded old.devices.list.items v.items) (sym same.asks))

-- only the agent's counters change
pub stays_counted : (old new : Gate) → SameAgent old.agent new.agent → new.devices ≡ old.devices → new.limits ≡ old.limits → new.requests ≡ old.requests → new.asks ≡ old.asks → Stays old new
stays_counted old new agent devices limits requests asks =
    stays_of old new agent devices limits (subst (AreBounded old.limits) (sym requests)) (subst (λ (v : Vec DeviceAsks). AsksBounded old.devices.list.items v.items) (sym asks))

-- only the requests change
pub stays_requests : (old new : Gate) → SameAgent old.agent new.agent → new.devices ≡ old.devices → new.limits ≡ old.limits → new.asks ≡ old.asks → (AreBounded old.limits old.requests → AreBounded old.limits new.requests) → Stays old new
stays_requests old new agent devices limits asks requests =
    stays_of old new agent devices limits requests (subst (λ (v : Vec DeviceAsks). AsksBounded old.devices.list.items v.items) (sym asks))

-- nothing changes
pub stays_same : (g : Gate) → Stays g g
stays_same g = stays_of g g (agent_same g.agent g.agent refl) refl refl (λ b. b) (λ b. b)

pub stays_on : (first middle last : Gate) → Stays first middle → Stays middle last → Stays first last
stays_on first middle last a b = record {
  agent = record {
    engine = b.agent.engine ∙ a.agent.engine;
    boots = b.agent.boots ∙ a.agent.boots;
    started = b.agent.started ∙ a.agent.started;
    users = b.agent.users ∙ a.agent.users;
    tables = b.agent.tables ∙ a.agent.tables;
  };
  devices = b.devices ∙ a.devices;
  limits = b.limits ∙ a.limits;
  bounded = λ is. b.bounded (a.bounded is);
}

-- a message is answered
pub stays_answered : (old mid new : Gate) (place : ℕ) (m : WaitingMessage) → SameAgent old.agent mid.agent → mid.devices ≡ old.devices → mid.limits ≡ old.limits → mid.asks ≡ old.asks
    → IsAnswered (groups_of old.requests.list.items) place m (groups_of mid.requests.list.items) → mid.requests.most ≡ old.requests.most → mid.requests.most_messages ≡ old.requests.most_messages → SameButSets mid new → Stays old new
stays_answered old mid new place m agent devices limits asks answered most messages same =
    stays_on old mid new (stays_requests old mid agent devices limits asks (bounded_answered old.limits old.requests mid.requests most messages place m answered)) (stays_noted mid new same)

-- a message isn't taken, and a Set that was remembered is forgotten again
pub stays_forgotten : (old mid : Gate) (requests : Waits) (new : Gate) → SameButSets old mid → SameButSets (record mid { requests = requests }) new → groups_of requests.list.items ≡ groups_of mid.requests.list.items
    → requests.most ≡ mid.requests.most → requests.most_messages ≡ mid.requests.most_messages → Stays old new
stays_forgotten old mid requests new note last groups most messages =
    let after : Gate = record mid { requests = requests } in
    stays_on old mid new (stays_noted old mid note)
    (stays_on mid after new (stays_requests mid after (agent_same mid.agent mid.agent refl) refl refl refl (bounded_same mid.limits mid.requests requests most messages groups)) (stays_noted after new last))

-- the Sets that are remembered change twice
pub stays_twice : (old mid new : Gate) → SameButSets old mid → SameButSets mid new → Stays old new
stays_twice old mid new first second = stays_on old mid new (stays_noted old mid first) (stays_noted mid new second)
