-- Requests that wait, and the messages that ask them.
--
-- `Group`: the messages that ask one request and aren't answered. `begun`: a group as a message begins it.
-- `IsJoined`: a message asks again what waits. `IsWorked`: something becomes of a request. `IsAnswered`: the first
-- message is answered.
use Rattle.std.specs.Prelude.{◌≡◌, ℕ, ◌<◌, ◌≤◌, List, [], ◌∷◌, ◌++◌, length, map, remove, slice_index_or, slice_set}
use Rattle.snmp_gate.specs.declared.requests.Joined.{Joined}
use Rattle.snmp_gate.specs.declared.requests.Joined.TheVariants as joined
use Rattle.snmp_gate.specs.declared.requests.WaitingRequest.{WaitingRequest}

-- the messages that ask one request, in the order in which they came, and what becomes of it
pub record Group (M W : Type 0) : Type 0 where
  pub number : ℕ
  pub messages : List M
  pub work : W

module _ {M W : Type 0} where
  abbrev pub group_of : WaitingRequest M W → Group M W
  group_of r = record { number = r.number; messages = r.first ∷ r.others.items; work = r.work }

  abbrev pub groups_of : List (WaitingRequest M W) → List (Group M W)
  groups_of rs = map group_of rs

  -- a message begins a request
  abbrev pub begun : ℕ → M → W → Group M W
  begun number message work = record { number = number; messages = message ∷ []; work = work }

  abbrev pub with_messages : Group M W → List M → Group M W
  with_messages g messages = record { number = g.number; messages = messages; work = g.work }

  abbrev pub with_work : Group M W → W → Group M W
  with_work g work = record { number = g.number; messages = g.messages; work = work }

  -- the group at a place
  pub record IsAt (groups : List (Group M W)) (place : ℕ) (group : Group M W) : Type 0 where
    pub within : place < length groups
    pub group_is : group ≡ slice_index_or groups place group

  -- the message asks the request at a place again: it comes after the others, unless there are as many as may be
  abbrev pub IsJoined : ℕ → List (Group M W) → ℕ → M → List (Group M W) → Joined → Type 0
  IsJoined most old place message new joined.Joined = (g : Group M W) × IsAt old place g
      × (length g.messages < most)
      × (new ≡ slice_set old place (with_messages g (g.messages ++ message ∷ [])))
  IsJoined most old place message new joined.NoRoom = (g : Group M W) × IsAt old place g
      × (most ≤ length g.messages)
      × (new ≡ old)

  -- the work on the request at a place was one thing, and is another now
  pub record IsWorked (old : List (Group M W)) (place : ℕ) (before after : W) (new : List (Group M W)) : Type 0 where
    pub group : Group M W
    pub at : IsAt old place group
    pub before_is : before ≡ group.work
    pub new_is : new ≡ slice_set old place (with_work group after)

  -- what is left where one message of a group is answered: the group with the others, or no such group
  abbrev pub IsLeft : List (Group M W) → ℕ → Group M W → List M → List (Group M W) → Type 0
  IsLeft old place g [] new = new ≡ remove old place
  IsLeft old place g (next ∷ others) new = new ≡ slice_set old place (with_messages g (next ∷ others))

  -- the first message of the request at a place is answered
  pub record IsAnswered (old : List (Group M W)) (place : ℕ) (message : M) (new : List (Group M W)) : Type 0 where
    pub group : Group M W
    pub at : IsAt old place group
    pub others : List M
    pub messages_are : group.messages ≡ message ∷ others
    pub left : IsLeft old place group others new
