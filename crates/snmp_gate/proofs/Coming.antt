-- What happens when a client's message is taken.
use Rattle.std.specs.Prelude.{◌≡◌, ◌/◌, ◌≤◌, ℕ, List, Result, Ok, Err, IfOk, length}
use Rattle.std.specs.Global.{Vec}
use Rattle.std.proofs.Common.{ap, subst, sym}
use Rattle.std.specs.declared.alloc.AllocError.{AllocError}
use Rattle.snmp_agent.specs.Agent.{AgentState, taker_of}
use Rattle.snmp_incoming.specs.Outcome.{Outcome}
use Rattle.snmp_gate.specs.Beginning.{IsOfDatagram, IsNoRefusal, TakenFor, TakenIn}
use Rattle.snmp_gate.specs.Groups.{groups_of}
use Rattle.snmp_gate.specs.History.{Happening, accepted}
use Rattle.snmp_gate.specs.Waiting.{AsksStand, ClientHappens, GateStands, Happens, IsRefusedBy, OutcomesStand, SetsStand, asks_in}
use Rattle.snmp_gate.specs.declared.asks.DeviceAsks.{DeviceAsks}
use Rattle.snmp_gate.specs.declared.devices.Devices.{Devices}
use Rattle.snmp_gate.specs.declared.requests.WaitingRequests.{WaitingRequests}
use Rattle.snmp_gate.specs.declared.sets.RememberedSets.{RememberedSets}
use Rattle.snmp_gate.specs.declared.work.Work.{Work}
use Rattle.snmp_gate.proofs.Causing.{causes_moved}
use Rattle.snmp_gate.proofs.Histories.{moved}
use Rattle.snmp_gate.specs.declared.gate.ClientTaken.{ClientTaken}
use Rattle.snmp_gate.specs.declared.gate.ClientTaken.TheVariants as client
use Rattle.snmp_gate.specs.declared.gate.Gate.{Gate}
use Rattle.snmp_gate.specs.declared.waiting_message.WaitingMessage.{WaitingMessage}

module _ (old new : Gate) (now : ℕ) (from datagram : List ℕ) (m : WaitingMessage) where
  accepts_for : (before : List Happening) (n : ℕ) → m.size ≡ length datagram → Outcome (taker_of old.agent) old.agent.users (now / 1000) datagram (Ok m.kept) → TakenFor before now datagram m n new
      → Happens old now before (accepted n now datagram m) new
  accepts_for before n size accepts takes = record {
    lawful = record { mediated = accepts; in_turn = takes.0; own_id = tt; once = tt };
    allowed = size;
    stands = takes.1;
  }

  taken_so : (before : List Happening) (taken : ClientTaken) → m.client.items ≡ from → m.size ≡ length datagram → Outcome (taker_of old.agent) old.agent.users (now / 1000) datagram (Ok m.kept)
      → TakenIn before now datagram m taken new → ClientHappens old now before from datagram taken new
  taken_so before (client.Refused why) is size accepts stands = stands
  taken_so before (client.Begins n) is size accepts takes = (m, is, accepts_for before n size accepts takes)
  taken_so before (client.Joins n) is size accepts takes = (m, is, accepts_for before n size accepts takes)
  taken_so before client.NoRoom is size accepts stands = stands
  taken_so before client.SetOfBefore is size accepts stands = stands

  -- the message is accepted, and the gateway stood before it is taken in
  pub message_happens : (mid : Gate) (result : Result ClientTaken AllocError) → m.client.items ≡ from → Outcome (taker_of old.agent) old.agent.users (now / 1000) datagram (Ok m.kept) → IsOfDatagram m datagram
      → ((since : ℕ) (before : List Happening) → GateStands since before old → GateStands since before mid)
      → IfOk result (λ taken. (since : ℕ) (before : List Happening) (w : List ℕ) → since ≤ now → IsOfDatagram m w → GateStands since before mid → TakenIn before now w m taken new)
      → IfOk result (λ taken. (since : ℕ) (before : List Happening) → since ≤ now → GateStands since before old → ClientHappens old now before from datagram taken new)
  message_happens mid (Ok taken) is accepts digest stood takes = λ since before later stands. taken_so before taken is digest.size accepts (takes since before datagram later digest (stood since before stands))
  message_happens mid (Err none) is accepts digest stood takes = tt

-- the same, with an agent that is the same
pub same_stands : (old mid : Gate) → mid.limits ≡ old.limits → mid.agent ≡ old.agent → mid.devices ≡ old.devices → mid.asks ≡ old.asks → mid.requests ≡ old.requests → mid.sets ≡ old.sets → (since : ℕ) (before : List Happening) → GateStands since before old → GateStands since before mid
same_stands old mid limits agent devices asks requests sets since before stands = record {
  requests = moved old.agent.tables mid.agent.tables old.devices.list.items mid.devices.list.items before old.requests.next mid.requests.next (groups_of old.requests.list.items) (groups_of mid.requests.list.items)
      (ap (λ (a : AgentState). a.tables) agent)
      (ap (λ (d : Devices). d.list.items) devices)
      (ap (λ (rs : WaitingRequests WaitingMessage Work). rs.next) requests)
      (ap (λ (rs : WaitingRequests WaitingMessage Work). groups_of rs.list.items) requests)
      stands.requests;
  asks = subst (λ (v : Vec DeviceAsks). AsksStand before (asks_in v.items)) (sym asks) stands.asks;
  sets = subst (λ (rs : WaitingRequests WaitingMessage Work). SetsStand since before (groups_of rs.list.items) mid.sets.sets.items) (sym requests)
      (subst (λ (s : RememberedSets). SetsStand since before (groups_of old.requests.list.items) s.sets.items) (sym sets) stands.sets);
  outcomes = subst (λ (rs : WaitingRequests WaitingMessage Work). OutcomesStand before (groups_of rs.list.items) mid.sets.sets.items) (sym requests)
      (subst (λ (s : RememberedSets). OutcomesStand before (groups_of old.requests.list.items) s.sets.items) (sym sets) stands.outcomes);
  causes = causes_moved old mid before (groups_of old.requests.list.items) limits (ap (λ (a : AgentState). a.engine) agent) (ap (λ (a : AgentState). a.tables) agent) devices
      (ap (λ (rs : WaitingRequests WaitingMessage Work). groups_of rs.list.items) requests) stands.causes;
}

-- what isn't refused needs no refusal
pub no_refusal : (old new : Gate) (seconds : ℕ) (datagram : List ℕ) (result : Result ClientTaken AllocError) → IfOk result IsNoRefusal → IfOk result (IsRefusedBy old seconds datagram new)
no_refusal old new seconds datagram (Ok (client.Refused why)) is = absurd is
no_refusal old new seconds datagram (Ok (client.Begins n)) is = tt
no_refusal old new seconds datagram (Ok (client.Joins n)) is = tt
no_refusal old new seconds datagram (Ok client.NoRoom) is = tt
no_refusal old new seconds datagram (Ok client.SetOfBefore) is = tt
no_refusal old new seconds datagram (Err none) is = tt
