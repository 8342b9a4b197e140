-- Why a message isn't taken, by what was found of it.
use Rattle.std.specs.Prelude.{◌≡◌, ◌≤◌, ℕ, List, Contains, Option, Some, None, length}
use Rattle.std.proofs.Common.{◌∙◌, refl, subst, sym}
use Rattle.snmp_gate.specs.Beginning.{BeginsWell}
use Rattle.snmp_gate.specs.Bounds.{IsShareFull, waiting_for}
use Rattle.snmp_gate.specs.Devices.{IsDeviceOf}
use Rattle.snmp_gate.specs.Groups.{Group, IsAt, groups_of}
use Rattle.snmp_gate.specs.Messages.{question_in}
use Rattle.snmp_gate.specs.Question.{Question}
use Rattle.snmp_gate.specs.Noting.{IsNotedAgain, IsNotedFor}
use Rattle.snmp_gate.specs.Sets.{HasDigest, KeepsSets}
use Rattle.snmp_gate.specs.Untaken.{AreManySets, AsksIn, CameBefore, HasNoRoom, IsCauseOf, IsDeviceFull, IsRememberedAt, by_device, by_messages, by_numbers, by_requests, by_sets}
use Rattle.snmp_gate.specs.declared.gate.ClientTaken.{ClientTaken}
use Rattle.snmp_gate.specs.declared.gate.ClientTaken.TheVariants as client
use Rattle.snmp_gate.specs.declared.devices.Devices.{Devices}
use Rattle.snmp_gate.specs.declared.gate.Gate.{Gate}
use Rattle.snmp_gate.specs.declared.limits.GateLimits.{GateLimits}
use Rattle.snmp_gate.specs.declared.requests.WaitingRequests.{WaitingRequests}
use Rattle.snmp_gate.specs.declared.set_answer.ResponseStatus.{ResponseStatus}
use Rattle.snmp_gate.specs.declared.sets.RememberedSet.{RememberedSet}
use Rattle.snmp_gate.specs.declared.sets.RememberedSets.{RememberedSets}
use Rattle.snmp_gate.specs.declared.sets.SetNote.TheVariants.{New, NoRoom, Repeated}
use Rattle.snmp_gate.specs.declared.sets.TheConstants.{SETS_LIMIT}
use Rattle.snmp_gate.specs.declared.take_client.Noted.TheVariants as noted
use Rattle.snmp_gate.specs.declared.waiting_message.WaitingMessage.{WaitingMessage}
use Rattle.snmp_gate.specs.declared.work.Work.{Work}
use Rattle.snmp_gate.specs.declared.work.Work.TheVariants.{Open, Ends}
use Rattle.snmp_gate.proofs.Keeping.{lasting_same}

-- another agent's state, and all else as it was
pub record SameButAgent (g mid : Gate) : Type 0 where
  pub devices : mid.devices ≡ g.devices
  pub limits : mid.limits ≡ g.limits
  pub requests : mid.requests ≡ g.requests
  pub sets : mid.sets ≡ g.sets

-- a Set that asks again what waits
pub again_before : (now : ℕ) (digest : Option (List ℕ)) (g : Gate) (new : List RememberedSet) (outcome : Option ResponseStatus) → IsNotedAgain now digest g.sets.sets.items new (Repeated outcome) → CameBefore now digest g
again_before now None g new outcome is = let wrong : Repeated outcome ≡ New = is.0 in cc
again_before now (Some d) g new outcome is = (d, refl, (is.0.0, is.0.1))

pub again_full : (now : ℕ) (digest : Option (List ℕ)) (g : Gate) (new : List RememberedSet) → (asks : List ℕ → Type 0) → IsNotedAgain now digest g.sets.sets.items new NoRoom → HasNoRoom now g asks
again_full now None g new asks is = let wrong : NoRoom ≡ New = is.0 in cc
again_full now (Some d) g new asks is = by_sets is.1

-- a Set whose device was to be asked
pub noted_before : (now : ℕ) (digest : Option (List ℕ)) (w : Work) (g : Gate) (mid new : List RememberedSet) → KeepsSets now g.sets.sets.items mid → IsNotedFor now digest w mid new noted.Before → CameBefore now digest g
noted_before now digest w g mid new keeps is =
    (is.0, is.1, subst (λ (x : List RememberedSet). (set : RememberedSet) × HasDigest is.0 x set) (lasting_same now g.sets.sets.items mid keeps) (is.2.1.0.0, is.2.1.0.1))

pub noted_full : (now : ℕ) (digest : Option (List ℕ)) (w : Work) (g : Gate) (mid new : List RememberedSet) → KeepsSets now g.sets.sets.items mid → (asks : List ℕ → Type 0) → IsNotedFor now digest w mid new noted.NoRoom → HasNoRoom now g asks
noted_full now digest w g mid new keeps asks is = by_sets (subst (λ (x : List RememberedSet). SETS_LIMIT ≤ length x) (lasting_same now g.sets.sets.items mid keeps) is.2.1)

-- a request that as many messages ask as may
pub full_of_messages : (now : ℕ) (g : Gate) (rs : WaitingRequests WaitingMessage Work) (place : ℕ) (r : Group WaitingMessage Work) (asks : List ℕ → Type 0) → rs ≡ g.requests → IsAt (groups_of rs.list.items) place r → rs.most_messages ≤ length r.messages
    → HasNoRoom now g asks
full_of_messages now g rs place r asks same at most =
    by_messages r (subst (λ (x : WaitingRequests WaitingMessage Work). Contains (groups_of x.list.items) r) same (place, at.within, sym at.group_is))
    (subst (λ (x : WaitingRequests WaitingMessage Work). x.most_messages ≤ length r.messages) same most)

-- as many requests wait for the device of a context as may
pub full_device : (now : ℕ) (g : Gate) (q : Question) (m : WaitingMessage) (w : Work) → question_in m ≡ Some q → BeginsWell g.agent.tables g.devices.list.items q w
    → IsShareFull g.limits.waiting_per_device (groups_of g.requests.list.items) w → HasNoRoom now g (AsksIn m)
full_device now g q m (Open o) asked well full = by_device q.context (q, asked, refl) (o.device, well.1, full)
full_device now g q m (Ends e) asked well full = absurd full

-- the same of a gateway with the same requests, devices, limits and Sets
module _ (now : ℕ) (g mid : Gate) (same : SameButAgent g mid) (asks asks_given : List ℕ → Type 0) (given : (context : List ℕ) → asks context → asks_given context) where
  device_same : (context : List ℕ) → IsDeviceFull mid context → IsDeviceFull g context
  device_same context (device, is, full) = (
    device,
    subst (λ (d : Devices). IsDeviceOf d.list.items context device) same.devices is,
    subst (λ (l : GateLimits). l.waiting_per_device ≤ waiting_for device (groups_of g.requests.list.items)) same.limits
        (subst (λ (x : WaitingRequests WaitingMessage Work). mid.limits.waiting_per_device ≤ waiting_for device (groups_of x.list.items)) same.requests full),
  )

  room_same : HasNoRoom now mid asks → HasNoRoom now g asks_given
  room_same room = elim room [
    | by_requests most ↦ by_requests (subst (λ (x : WaitingRequests WaitingMessage Work). x.most ≤ length x.list.items) same.requests most)
    | by_device context in_it full ↦ by_device context (given context in_it) (device_same context full)
    | by_numbers last ↦ by_numbers (subst (λ (x : WaitingRequests WaitingMessage Work). x.next ≡ mid.requests.next) same.requests refl ∙ last)
    | by_messages r there most ↦ full_of_messages now g mid.requests there.0 r asks_given same.requests (record { within = there.1; group_is = sym there.2 }) most
    | by_sets many ↦ by_sets (subst (λ (x : RememberedSets). AreManySets now x.sets.items) same.sets many)
  ]

  pub cause_of : (digest : Option (List ℕ)) (v : List ℕ) → ((d : List ℕ) → digest ≡ Some d → d ≡ v)
      → (taken : ClientTaken) → IsCauseOf mid now asks digest taken → IsCauseOf g now asks_given (Some v) taken
  cause_of digest v own (client.Refused why) is = tt
  cause_of digest v own (client.Begins n) is = tt
  cause_of digest v own (client.Joins n) is = tt
  cause_of digest v own client.NoRoom is = room_same is
  cause_of digest v own client.SetOfBefore is = (
    v,
    refl,
    subst (λ (x : RememberedSets). IsRememberedAt now v x.sets.items) same.sets (subst (λ (d : List ℕ). IsRememberedAt now d mid.sets.sets.items) (own is.0 is.1) is.2),
  )
