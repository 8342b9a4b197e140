-- How far a column has come over the variables of a device (RFC 3416, sections 4.2.1 and 4.2.2).
--
-- `NoneUpto`: no variable that is seen is passed over. `Tracks`: what is known of a column by its state. `AllTrack`: of
-- all columns of a dialogue.
use Rattle.std.specs.Prelude.{◌≡◌, ℕ, List, All}
use Rattle.snmp_msg.specs.Variables.{Variable}
use Rattle.vacm_next.specs.Next.{IsBefore, IsUpto}
use Rattle.snmp_responder.specs.Instrumentation.{IsGot, Known}
use Rattle.snmp_responder.specs.Next.{ComesNext, IsNext, NoneNext}
use Rattle.snmp_walk.specs.Bindings.{given_says}
use Rattle.snmp_walk.specs.declared.operation.ReadOperation.{ReadOperation}
use Rattle.snmp_walk.specs.declared.operation.ReadOperation.TheVariants.{Get, GetNext}
use Rattle.snmp_walk.specs.declared.column.Column.{Column}
use Rattle.snmp_walk.specs.declared.column.Progress.{Progress}
use Rattle.snmp_walk.specs.declared.column.Progress.TheVariants.{Wanting, Asked, Given, Hidden, Ended}

module _ (device : Known) (Seen : List ℕ → Type 0) where
  -- of the variables that are seen after the first name, each is after the other name
  abbrev pub NoneUpto : List ℕ → List ℕ → Type 0
  NoneUpto first from = (v : Variable) → ComesNext device Seen first v → IsBefore from v.name

  -- the other name is at or after the first one, and so is it
  abbrev pub HasNoneUpto : List ℕ → List ℕ → Type 0
  HasNoneUpto first from = IsUpto first from × NoneUpto first from

  abbrev pub TracksWalk : List ℕ → Progress → Type 0
  TracksWalk first (Wanting from) = HasNoneUpto first from
  TracksWalk first (Asked ask) = HasNoneUpto first ask.from × HasNoneUpto first ask.name
  TracksWalk first (Given g) = IsNext device Seen first (given_says g)
  TracksWalk first Hidden = ⊥
  TracksWalk first Ended = NoneNext device Seen first

  abbrev pub TracksGet : List ℕ → Progress → Type 0
  TracksGet first (Wanting from) = (from ≡ first) × Seen first
  TracksGet first (Asked ask) = (ask.name ≡ first) × Seen first
  TracksGet first (Given g) = IsGot device Seen first (given_says g)
  TracksGet first Hidden = ¬ Seen first
  TracksGet first Ended = ⊥

  abbrev pub Tracks : ReadOperation → List ℕ → Progress → Type 0
  Tracks Get first p = TracksGet first p
  Tracks GetNext first p = TracksWalk first p

  abbrev pub ColumnTracks : Column → Type 0
  ColumnTracks c = Tracks c.operation c.first c.progress

  abbrev pub AllTrack : List Column → Type 0
  AllTrack cs = All ColumnTracks cs
