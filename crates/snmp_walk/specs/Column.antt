-- One binding of a request in a dialogue with a device (RFC 3416, sections 4.2.1 and 4.2.2).
--
-- `Seen`: the names of variables that the message may see. `told`: what the bindings of the device's answers in this
-- dialogue say, so far. `StandsAt`: a name from which a walk may go on. `MayAsk`: the law inwards, what may be asked of
-- the device for a binding. `MayShow`: the law outwards, what the Response may hold for it. `Stands`: what is known of
-- a column, by its state.
use Rattle.std.specs.Prelude.{◌≡◌, ◌⊎◌, ⊤, ℕ, List, Contains}
use Rattle.snmp_msg.specs.Variables.{Variable}
use Rattle.snmp_msg.specs.declared.value.Syntax.TheVariants.{NoSuchObject, EndOfMibView}
use Rattle.vacm_next.specs.Next.{IsBefore, IsUpto}
use Rattle.vacm_next.specs.Walk.{IsSeenAfter, NoneOf, PassesNothing}
use Rattle.snmp_responder.specs.Instrumentation.{IsException}
use Rattle.snmp_responder.specs.Bulk.{IsEnded}
use Rattle.snmp_walk.specs.Bindings.{IsReply, IsValue, given_says}
use Rattle.snmp_walk.specs.declared.operation.ReadOperation.{ReadOperation}
use Rattle.snmp_walk.specs.declared.operation.ReadOperation.TheVariants.{Get, GetNext}
use Rattle.snmp_walk.specs.declared.column.Column.{Column}
use Rattle.snmp_walk.specs.declared.column.Progress.{Progress}
use Rattle.snmp_walk.specs.declared.column.Progress.TheVariants.{Wanting, Asked, Given, Hidden, Ended}

-- at the name of the request, or at one that the device told, not before it
pub record StandsAt (first : List ℕ) (told : List Variable) (name : List ℕ) : Type 0 where
  pub place : (name ≡ first) ⊎ ((v : Variable) × Contains told v × (v.name ≡ name))
  pub upto : IsUpto first name

-- the law inwards: of a GetRequest the name of the request, if it is seen; of a walk a name at or after the one at
-- which the column stands, and none between that is seen
abbrev pub MayAsk : (List ℕ → Type 0) → List Variable → ReadOperation → List ℕ → List ℕ → Type 0
MayAsk Seen told Get first name = (name ≡ first) × Seen first
MayAsk Seen told GetNext first name = (from : List ℕ) × StandsAt first told from × PassesNothing Seen from name

-- why a walk is at its end: nothing is seen after where it stands, or the device told endOfMibView
abbrev pub IsAtEnd : (List ℕ → Type 0) → List Variable → List ℕ → Type 0
IsAtEnd Seen told first = ((from : List ℕ) × StandsAt first told from × NoneOf (IsSeenAfter Seen from))
    ⊎ ((v : Variable) × Contains told v × IsEnded v)

-- the law outwards: of a GetRequest the name of the request, with noSuchObject exactly where it isn't seen, or else as
-- the device told it; of a walk a value that the device told of a later name that is seen, or the name of the request
-- with endOfMibView
abbrev pub MayShow : (List ℕ → Type 0) → List Variable → ReadOperation → List ℕ → Variable → Type 0
MayShow Seen told Get first v = ((¬ Seen first) × IsException NoSuchObject first v)
    ⊎ (Seen first × (v.name ≡ first) × IsReply v × Contains told v)
MayShow Seen told GetNext first v = (Seen v.name × IsBefore first v.name × IsValue v × Contains told v)
    ⊎ (IsAtEnd Seen told first × IsException EndOfMibView first v)

-- what is known of a column of a GetRequest
abbrev pub StandsInGet : (List ℕ → Type 0) → List Variable → List ℕ → Progress → Type 0
StandsInGet Seen told first (Wanting from) = (from ≡ first) × Seen first
StandsInGet Seen told first (Asked ask) = (ask.name ≡ first) × Seen first
StandsInGet Seen told first (Given g) =
    Seen first × ((given_says g).name ≡ first) × IsReply (given_says g) × Contains told (given_says g)
StandsInGet Seen told first Hidden = ¬ Seen first
StandsInGet Seen told first Ended = ⊥

-- what is known of a column of a walk
abbrev pub StandsInWalk : (List ℕ → Type 0) → List Variable → List ℕ → Progress → Type 0
StandsInWalk Seen told first (Wanting from) = StandsAt first told from
StandsInWalk Seen told first (Asked ask) = StandsAt first told ask.from × PassesNothing Seen ask.from ask.name
StandsInWalk Seen told first (Given g) = Seen (given_says g).name × IsBefore first (given_says g).name
    × IsValue (given_says g) × Contains told (given_says g)
StandsInWalk Seen told first Hidden = ⊥
StandsInWalk Seen told first Ended = IsAtEnd Seen told first

abbrev pub StandsIn : (List ℕ → Type 0) → List Variable → ReadOperation → List ℕ → Progress → Type 0
StandsIn Seen told Get first progress = StandsInGet Seen told first progress
StandsIn Seen told GetNext first progress = StandsInWalk Seen told first progress

-- what is known of a column
abbrev pub Stands : (List ℕ → Type 0) → List Variable → Column → Type 0
Stands Seen told c = StandsIn Seen told c.operation c.first c.progress

-- what the Response holds for it: what was given, noSuchObject where the name of a GetRequest isn't seen, or the name
-- of the request with endOfMibView
abbrev pub IsShownBy : List ℕ → Progress → Variable → Type 0
IsShownBy first (Given g) v = v ≡ given_says g
IsShownBy first Hidden v = IsException NoSuchObject first v
IsShownBy first Ended v = IsException EndOfMibView first v
IsShownBy first _ v = ⊥

-- the device is still to be asked, or to answer
abbrev pub IsOpen : Progress → Type 0
IsOpen (Wanting from) = ⊤
IsOpen (Asked ask) = ⊤
IsOpen _ = ⊥

-- the device was asked for this name
abbrev pub Asks : Progress → List ℕ → Type 0
Asks (Asked ask) name = ask.name ≡ name
Asks _ name = ⊥

-- the device was asked
abbrev pub IsAsked : Progress → Type 0
IsAsked (Asked ask) = ⊤
IsAsked _ = ⊥
