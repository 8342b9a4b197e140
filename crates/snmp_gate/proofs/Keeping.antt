-- A gateway that is as it was, where memory runs out.
use Rattle.std.specs.Prelude.{◌≡◌, ◌++◌, ◌-◌, ℕ, List, [], ◌∷◌, All, Bool, true, cond, filter, Option, length, take, Result, Ok, Err, OnErr, ◌≤◌, Some, None, MatchOption}
use Rattle.std.proofs.Common.{refl, sym, ap, subst, ◌∙◌, inl, inr, arith}
use Rattle.std.specs.Global.{Vec}
use Rattle.snmp_agent.specs.Agent.{AgentState}
use Rattle.snmp_gate.specs.Groups.{Group, groups_of}
use Rattle.snmp_gate.specs.History.{Happening}
use Rattle.snmp_gate.specs.Noting.{IsNotedAgain, IsNotedFor, IsUnnoted}
use Rattle.snmp_gate.specs.Sets.{KeepsSets, lasting, lasts, new_set}
use Rattle.snmp_gate.specs.Taking.{AllWorkSaysSame}
use Rattle.snmp_gate.specs.Waiting.{AsksStand, GateStands, IsAsBefore, OutcomesStand, SameButSets, SetsStand, asks_in, messages_in}
use Rattle.snmp_gate.specs.declared.asks.DeviceAsks.{DeviceAsks}
use Rattle.snmp_gate.specs.declared.devices.Devices.{Devices}
use Rattle.snmp_gate.specs.declared.gate.Gate.{Gate}
use Rattle.snmp_gate.specs.declared.requests.WaitingRequests.{WaitingRequests}
use Rattle.snmp_gate.specs.declared.set_answer.ResponseStatus.{ResponseStatus}
use Rattle.snmp_gate.specs.declared.sets.RememberedSet.{RememberedSet}
use Rattle.snmp_gate.specs.declared.sets.RememberedSets.{RememberedSets}
use Rattle.snmp_gate.specs.declared.take_client.Noted.{Noted}
use Rattle.snmp_gate.specs.declared.take_client.Noted.TheVariants as noted
use Rattle.snmp_gate.specs.declared.waiting_message.WaitingMessage.{WaitingMessage}
use Rattle.snmp_gate.specs.declared.work.Work.{Work}
use Rattle.snmp_gate.proofs.Causing.{causes_moved}
use Rattle.snmp_gate.proofs.Coming.{same_stands}
use Rattle.snmp_gate.proofs.Histories.{moved}
use Rattle.snmp_gate.proofs.Same.{work_as_before}
use Rattle.snmp_gate.proofs.Repeating.{from_kept, outcomes_kept, were_again}
use Rattle.snmp_gate.proofs.SetsKept.{keeps_kept, sets_step}
use Rattle.snmp_gate.specs.declared.sets.SetNote.TheVariants.{New, NoRoom, Repeated}
use Rattle.std.proofs.lemmas.List.{length_push}
use Rattle.std.proofs.lemmas.List.Elements.{All-head, All-tail, filter_passes}
use Rattle.std.proofs.Math.Seq.{take-append_seam}

filter_kept : {X : Type 0} (p : X → Bool) (xs : List X) → All (λ x. p x ≡ true) xs → filter p xs ≡ xs
filter_kept p [] all = refl
filter_kept p (x ∷ xs) all =
    ap (λ (b : Bool). cond b (x ∷ filter p xs) (filter p xs)) (All-head (λ y. p y ≡ true) x xs all) ∙ ap (λ ys. x ∷ ys) (filter_kept p xs (All-tail (λ y. p y ≡ true) x xs all))

last_again : (now : ℕ) (sets : List RememberedSet) → lasting now (lasting now sets) ≡ lasting now sets
last_again now sets = filter_kept (lasts now) (lasting now sets) (filter_passes (lasts now) sets)

-- the last one that was pushed is taken off
pushed_off : {X : Type 0} (xs : List X) (y : X) → take (length (xs ++ y ∷ []) - 1) (xs ++ y ∷ []) ≡ xs
pushed_off xs y =
    let long : length (xs ++ y ∷ []) - 1 ≡ length xs = omega (arith, length_push xs y) in
    ap (λ (n : ℕ). take n (xs ++ y ∷ [])) long ∙ take-append_seam xs (y ∷ [])

pub keeps_again : (now : ℕ) (a b c : List RememberedSet) → KeepsSets now a b → KeepsSets now b c → KeepsSets now a c
keeps_again now a b c first second = elim first [
  | inl same ↦ elim second [ inl stays ↦ inl (stays ∙ same) | inr forgets ↦ inr (forgets ∙ ap (lasting now) same) ]
  | inr last ↦ elim second [ inl stays ↦ inr (stays ∙ last) | inr forgets ↦ inr (forgets ∙ ap (lasting now) last ∙ last_again now a) ]
]

-- the Set that was noted just now is forgotten again
pub unnoted : (now : ℕ) (digest : Option (List ℕ)) (w : Work) (a b c : List RememberedSet) (n : Noted) → IsNotedFor now digest w a b n → IsUnnoted n b c → KeepsSets now a c
unnoted now digest w a b c noted.NoSet is un = inl (un ∙ is.1)
unnoted now digest w a b c noted.Now is un =
    inr (un ∙ ap (λ (x : List RememberedSet). take (length x - 1) x) is.2.2 ∙ pushed_off (lasting now a) (new_set now is.0))
unnoted now digest w a b c noted.Before is un = subst (KeepsSets now a) (sym un) (inr is.2.1.1)
unnoted now digest w a b c noted.NoRoom is un = subst (KeepsSets now a) (sym un) (inr is.2.2)

-- a gateway with the same requests and asks, which remembers what may still come
pub stands_kept : (now : ℕ) (old new : Gate) → new.limits ≡ old.limits → new.agent.engine ≡ old.agent.engine → new.agent.tables ≡ old.agent.tables → new.devices ≡ old.devices → asks_in new.asks.items ≡ asks_in old.asks.items → groups_of new.requests.list.items ≡ groups_of old.requests.list.items
    → new.requests.next ≡ old.requests.next → KeepsSets now old.sets.sets.items new.sets.sets.items → (since : ℕ) (before : List Happening) → since ≤ now → GateStands since before old → GateStands now before new
stands_kept now old new limits engine tables devices asks groups next keeps since before later stands = record {
  requests = moved old.agent.tables new.agent.tables old.devices.list.items new.devices.list.items before old.requests.next new.requests.next (groups_of old.requests.list.items) (groups_of new.requests.list.items)
      tables (ap (λ (d : Devices). d.list.items) devices) next groups stands.requests;
  asks = subst (AsksStand before) (sym asks) stands.asks;
  sets = subst (λ (gs : List (Group WaitingMessage Work)). SetsStand now before gs new.sets.sets.items) (sym groups)
      (sets_step since now before before (groups_of old.requests.list.items) (groups_of old.requests.list.items) old.sets.sets.items new.sets.sets.items later (λ n at w m there. there) (λ n out. out) (keeps_kept now old.sets.sets.items new.sets.sets.items keeps)
      stands.sets);
  outcomes = subst (λ (gs : List (Group WaitingMessage Work)). OutcomesStand before gs new.sets.sets.items) (sym groups)
      (outcomes_kept before (groups_of old.requests.list.items) (groups_of old.requests.list.items) old.sets.sets.items new.sets.sets.items (from_kept before now old.sets.sets.items new.sets.sets.items keeps)
      (were_again (groups_of old.requests.list.items)) stands.outcomes);
  causes = causes_moved old new before (groups_of old.requests.list.items) limits engine tables devices groups stands.causes;
}

pub stands_later : (now : ℕ) (g : Gate) (since : ℕ) (before : List Happening) → since ≤ now → GateStands since before g → GateStands now before g
stands_later now g = stands_kept now g g refl refl refl refl refl refl refl (inl refl)

-- the same, where only the Sets changed that are remembered
pub stands_noted : (now : ℕ) (old new : Gate) → SameButSets old new → KeepsSets now old.sets.sets.items new.sets.sets.items → (since : ℕ) (before : List Happening) → since ≤ now → GateStands since before old → GateStands now before new
stands_noted now old new same keeps =
    stands_kept now old new same.limits (ap (λ (a : AgentState). a.engine) same.agent) (ap (λ (a : AgentState). a.tables) same.agent) same.devices (ap (λ (v : Vec DeviceAsks). asks_in v.items) same.asks) (ap (λ (rs : WaitingRequests WaitingMessage Work). groups_of rs.list.items) same.requests)
    (ap (λ (rs : WaitingRequests WaitingMessage Work). rs.next) same.requests) keeps

-- what still lasts is the same
pub lasting_same : (now : ℕ) (old new : List RememberedSet) → KeepsSets now old new → lasting now new ≡ lasting now old
lasting_same now old new keeps = elim keeps [ inl same ↦ ap (lasting now) same | inr last ↦ ap (lasting now) last ∙ last_again now old ]

pub unnoted_again : (now : ℕ) (digest : Option (List ℕ)) (a b c : List RememberedSet) (n : Noted) → IsNotedAgain now digest a b New → MatchOption digest (n ≡ noted.NoSet) (λ d. n ≡ noted.Now) → IsUnnoted n b c → KeepsSets now a c
unnoted_again now None a b c n is kind un = inl (subst (λ (k : Noted). IsUnnoted k b c) kind un ∙ is.1)
unnoted_again now (Some d) a b c n is kind un =
    inr (subst (λ (k : Noted). IsUnnoted k b c) kind un ∙ ap (λ (x : List RememberedSet). take (length x - 1) x) is.2 ∙ pushed_off (lasting now a) (new_set now d))

-- a Set that is repeated, or for which there is no room, isn't remembered
pub keeps_repeated : (now : ℕ) (digest : Option (List ℕ)) (a b : List RememberedSet) (outcome : Option ResponseStatus) → IsNotedAgain now digest a b (Repeated outcome) → KeepsSets now a b
keeps_repeated now None a b outcome is = inl is.1
keeps_repeated now (Some d) a b outcome is = inr is.1

pub keeps_no_room : (now : ℕ) (digest : Option (List ℕ)) (a b : List RememberedSet) → IsNotedAgain now digest a b NoRoom → KeepsSets now a b
keeps_no_room now None a b is = inl is.1
keeps_no_room now (Some d) a b is = inr is.2

pub as_before : (now : ℕ) (old new : Gate) → new.agent ≡ old.agent → new.devices ≡ old.devices → new.limits ≡ old.limits → new.asks ≡ old.asks
    → groups_of new.requests.list.items ≡ groups_of old.requests.list.items → new.requests.next ≡ old.requests.next → KeepsSets now old.sets.sets.items new.sets.sets.items → IsAsBefore now old new
as_before now old new agent devices limits asks groups next sets = record {
  agent = agent;
  devices = devices;
  limits = limits;
  asks = ap (λ (v : Vec DeviceAsks). asks_in v.items) asks;
  messages = ap messages_in groups;
  work = work_as_before (groups_of old.requests.list.items) (groups_of new.requests.list.items) groups;
  next = next;
  sets = sets;
  stands = stands_kept now old new limits (ap (λ (a : AgentState). a.engine) agent) (ap (λ (a : AgentState). a.tables) agent) devices (ap (λ (v : Vec DeviceAsks). asks_in v.items) asks) groups next sets;
}

-- nothing changes
pub stays_as_before : (now : ℕ) (g : Gate) → IsAsBefore now g g
stays_as_before now g = as_before now g g refl refl refl refl refl refl (inl refl)

pub same_before : (now : ℕ) (old new : Gate) → SameButSets old new → KeepsSets now old.sets.sets.items new.sets.sets.items → IsAsBefore now old new
same_before now old new same sets =
    as_before now old new same.agent same.devices same.limits same.asks (ap (λ (rs : WaitingRequests WaitingMessage Work). groups_of rs.list.items) same.requests) (ap (λ (rs : WaitingRequests WaitingMessage Work). rs.next) same.requests) sets

-- a Set was remembered, and is forgotten again, since its message isn't taken
pub forgotten : (now : ℕ) (old mid : Gate) (requests : WaitingRequests WaitingMessage Work) (new : Gate) (digest : Option (List ℕ)) (n : Noted) → SameButSets old mid → SameButSets (record mid { requests = requests }) new
    → groups_of requests.list.items ≡ groups_of mid.requests.list.items → requests.next ≡ mid.requests.next → IsNotedAgain now digest old.sets.sets.items mid.sets.sets.items New
    → MatchOption digest (n ≡ noted.NoSet) (λ d. n ≡ noted.Now) → IsUnnoted n mid.sets.sets.items new.sets.sets.items → IsAsBefore now old new
forgotten now old mid requests new digest n note last groups next is kind un =
    as_before now old new (last.agent ∙ note.agent) (last.devices ∙ note.devices) (last.limits ∙ note.limits) (last.asks ∙ note.asks)
    (ap (λ (x : WaitingRequests WaitingMessage Work). groups_of x.list.items) last.requests ∙ groups ∙ ap (λ (x : WaitingRequests WaitingMessage Work). groups_of x.list.items) note.requests)
    (ap (λ (x : WaitingRequests WaitingMessage Work). x.next) last.requests ∙ next ∙ ap (λ (x : WaitingRequests WaitingMessage Work). x.next) note.requests)
    (unnoted_again now digest old.sets.sets.items mid.sets.sets.items new.sets.sets.items n is kind un)

-- the same, where another gateway was the same at first
pub as_before_same : (now : ℕ) (old mid new : Gate) → mid.agent ≡ old.agent → mid.devices ≡ old.devices → mid.limits ≡ old.limits → mid.asks ≡ old.asks → mid.requests ≡ old.requests → mid.sets ≡ old.sets
    → IsAsBefore now mid new → IsAsBefore now old new
as_before_same now old mid new agent devices limits asks requests sets is =
    let same_first = same_stands old mid limits agent devices asks requests sets in
    let first = as_before now old mid agent devices limits asks (ap (λ (rs : WaitingRequests WaitingMessage Work). groups_of rs.list.items) requests) (ap (λ (rs : WaitingRequests WaitingMessage Work). rs.next) requests)
    (inl (ap (λ (s : RememberedSets). s.sets.items) sets)) in record {
      agent = is.agent ∙ first.agent;
      devices = is.devices ∙ first.devices;
      limits = is.limits ∙ first.limits;
      asks = is.asks ∙ first.asks;
      messages = is.messages ∙ first.messages;
      work = subst (λ (rs : WaitingRequests WaitingMessage Work). AllWorkSaysSame (groups_of rs.list.items) (groups_of new.requests.list.items)) requests is.work;
      next = is.next ∙ first.next;
      sets = keeps_again now old.sets.sets.items mid.sets.sets.items new.sets.sets.items first.sets is.sets;
      stands = λ since before later stands. is.stands since before later (same_first since before stands);
    }

pub if_err : {T E : Type 0} (r : Result T E) (P Q : Type 0) → (P → Q) → OnErr r P → OnErr r Q
if_err (Ok t) P Q f p = tt
if_err (Err e) P Q f p = f p
