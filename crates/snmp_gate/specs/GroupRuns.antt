-- Requests and the messages that ask them, over any run of steps.
--
-- `IsGroupRun`: the steps lead from some groups to others, where a message joins exactly the request that asks the
-- same. `taken_by`, `answered_by`: the messages that come, and those that are answered. `times_held`: how many wait.
-- `AsksOneThing`: all messages of a group ask the same. `AskOwn`: no two groups ask the same.
use Rattle.std.specs.Prelude.{◌≡◌, ℕ, suc, ◌<◌, ◌≤◌, Bool, List, [], ◌∷◌, ◌++◌, length, All, AllPairs, count_by}
use Rattle.std.specs.List.{sum_by}
use Rattle.snmp_gate.specs.Groups.{Group, IsAnswered, IsAt, IsJoined, IsWorked, begun}
use Rattle.snmp_gate.specs.declared.requests.Joined.{Joined}
use Rattle.snmp_gate.specs.declared.requests.Joined.TheVariants as joined

-- what happens: a message begins a request, or joins the one at a place; something becomes of a request; or its first
-- message is answered
pub data GroupStep (M W : Type 0) : Type 0 where
  begins : (message : M) (work : W) → GroupStep M W
  joins : (place : ℕ) (message : M) (becomes : Joined) → GroupStep M W
  works : (place : ℕ) (before after : W) → GroupStep M W
  answers : (place : ℕ) (message : M) → GroupStep M W

module _ {M Q : Type 0} (question : M → Q) where
  -- the message asks this
  abbrev pub Asks : Q → M → Type 0
  Asks q message = question message ≡ q

module _ {M W Q : Type 0} (question : M → Q) where
  -- all messages of the group ask this
  abbrev pub AsksOne : Q → Group M W → Type 0
  AsksOne q g = All (Asks question q) g.messages

  -- no message of the group asks it
  abbrev pub AsksNot : Q → Group M W → Type 0
  AsksNot q g = All (λ m. ¬ Asks question q m) g.messages

  -- the group at the place asks it
  pub record AsksAt (groups : List (Group M W)) (place : ℕ) (q : Q) : Type 0 where
    pub group : Group M W
    pub at : IsAt groups place group
    pub asks : AsksOne q group

  -- all messages of the group ask one thing
  abbrev pub AsksOneThing : Group M W → Type 0
  AsksOneThing g = (q : Q) × AsksOne q g

  -- two groups of which no message of one asks what a message of the other asks
  abbrev pub AskDifferent : Group M W → Group M W → Type 0
  AskDifferent a b = All (λ m. AsksNot (question m) b) a.messages

  -- no two groups ask the same
  abbrev pub AskOwn : List (Group M W) → Type 0
  AskOwn groups = AllPairs AskDifferent groups

module _ {M W Q : Type 0} (question : M → Q) (most most_messages : ℕ) where
  abbrev pub IsGroupRun : ℕ → List (Group M W) → List (GroupStep M W) → List (Group M W) → Type 0
  IsGroupRun next first [] last = last ≡ first
  IsGroupRun next first (begins message work ∷ steps) last = (length first < most)
      × All (AsksNot question (question message)) first
      × IsGroupRun (suc next) (first ++ begun next message work ∷ []) steps last
  IsGroupRun next first (joins place message becomes ∷ steps) last = (second : List (Group M W))
      × AsksAt question first place (question message)
      × IsJoined most_messages first place message second becomes
      × IsGroupRun next second steps last
  IsGroupRun next first (works place before after ∷ steps) last = (second : List (Group M W))
      × IsWorked first place before after second
      × IsGroupRun next second steps last
  IsGroupRun next first (answers place message ∷ steps) last = (second : List (Group M W))
      × IsAnswered first place message second
      × IsGroupRun next second steps last

module _ {M W : Type 0} where
  -- the messages that come and may be answered, in order
  abbrev pub taken_by : List (GroupStep M W) → List M
  taken_by [] = []
  taken_by (begins message work ∷ steps) = message ∷ taken_by steps
  taken_by (joins place message joined.Joined ∷ steps) = message ∷ taken_by steps
  taken_by (joins place message joined.NoRoom ∷ steps) = taken_by steps
  taken_by (works place before after ∷ steps) = taken_by steps
  taken_by (answers place message ∷ steps) = taken_by steps

  -- the messages that are answered, in order
  abbrev pub answered_by : List (GroupStep M W) → List M
  answered_by [] = []
  answered_by (begins message work ∷ steps) = answered_by steps
  answered_by (joins place message becomes ∷ steps) = answered_by steps
  answered_by (works place before after ∷ steps) = answered_by steps
  answered_by (answers place message ∷ steps) = message ∷ answered_by steps

  -- how many messages of the groups pass a test
  abbrev pub times_held : (M → Bool) → List (Group M W) → ℕ
  times_held test groups = sum_by (λ g. count_by test g.messages) groups

  -- a group has at least one message, and at most so many, or one
  pub record IsFew (most : ℕ) (g : Group M W) : Type 0 where
    pub some : 0 < length g.messages
    pub few : 1 < length g.messages → length g.messages ≤ most

  -- the requests' numbers rise
  abbrev pub HaveOwnNumbers : List (Group M W) → Type 0
  HaveOwnNumbers groups = AllPairs (λ (a b : Group M W). a.number < b.number) groups
