-- What becomes of a column (RFC 3416, sections 4.2.1 and 4.2.2).
--
-- `Begins`: how it begins. `GoesOn`: before the device is asked. `Takes`: after it answered.
use Rattle.std.specs.Prelude.{◌≡◌, ℕ, List, Option, Some, None}
use Rattle.snmp_msg.specs.Variables.{Variable}
use Rattle.vacm_next.specs.Walk.{IsSeenAfter, NoneOf, WalksFrom}
use Rattle.snmp_responder.specs.Bulk.{IsEnded}
use Rattle.snmp_walk.specs.Bindings.{given_says}
use Rattle.snmp_walk.specs.declared.operation.ReadOperation.{ReadOperation}
use Rattle.snmp_walk.specs.declared.operation.ReadOperation.TheVariants.{Get, GetNext}
use Rattle.snmp_walk.specs.declared.column.Progress.{Progress}
use Rattle.snmp_walk.specs.declared.column.Progress.TheVariants.{Wanting, Asked, Given, Hidden, Ended}

-- the device is to be asked, but not for a GetRequest of a name that isn't seen
abbrev pub Begins : (List ℕ → Type 0) → ReadOperation → List ℕ → Progress → Type 0
Begins Seen Get first (Wanting from) = (from ≡ first) × Seen first
Begins Seen Get first Hidden = ¬ Seen first
Begins Seen GetNext first (Wanting from) = from ≡ first
Begins Seen operation first _ = ⊥

-- how a walk is that goes on from this name and asks for another one, or else is at its end
abbrev pub asking : List ℕ → Option (List ℕ) → Progress
asking from (Some name) = Asked (record { from = from; name = name })
asking from None = Ended

-- of a column that wants this name or what comes after it: of a GetRequest the name is asked, and of a walk the place
-- before the next name that is seen; a walk after which none is seen is at its end
abbrev pub GoesOnFrom : (List ℕ → Type 0) → ReadOperation → List ℕ → Progress → Type 0
GoesOnFrom Seen Get from (Asked ask) = (ask.from ≡ from) × (ask.name ≡ from)
GoesOnFrom Seen GetNext from (Asked ask) = (ask.from ≡ from) × WalksFrom Seen from ask.name
GoesOnFrom Seen GetNext from Ended = NoneOf (IsSeenAfter Seen from)
GoesOnFrom Seen operation from _ = ⊥

-- a column that wants nothing stays as it is
abbrev pub GoesOn : (List ℕ → Type 0) → ReadOperation → Progress → Progress → Type 0
GoesOn Seen operation (Wanting from) new = GoesOnFrom Seen operation from new
GoesOn Seen operation old new = new ≡ old

-- after the device gave this variable: a GetRequest has it; a walk is at its end at endOfMibView, has the variable if
-- its name is seen, and else goes on from that name
abbrev pub Takes : (List ℕ → Type 0) → ReadOperation → Variable → Progress → Type 0
Takes Seen Get v (Given g) = given_says g ≡ v
Takes Seen GetNext v (Wanting from) = (¬ IsEnded v) × (¬ Seen v.name) × (from ≡ v.name)
Takes Seen GetNext v (Given g) = (¬ IsEnded v) × Seen v.name × (given_says g ≡ v)
Takes Seen GetNext v Ended = IsEnded v
Takes Seen operation v _ = ⊥
