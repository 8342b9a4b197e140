-- How far a column of a GetBulkRequest has come over the variables of a device (RFC 3416, section 4.2.3).
--
-- `AreNexts`: variables that come one after another. `TracksBulk`: what is known of a column by its state.
-- `AllBulkTrack`: of all columns of a dialogue.
use Rattle.std.specs.Prelude.{⊤, ℕ, List, [], ◌∷◌, All}
use Rattle.snmp_msg.specs.Variables.{Variable}
use Rattle.snmp_responder.specs.Instrumentation.{Known}
use Rattle.snmp_responder.specs.Next.{IsNext}
use Rattle.snmp_walk.specs.BulkColumn.{given_in, last_name}
use Rattle.snmp_walk.specs.declared.column.Progress.{Progress}
use Rattle.snmp_walk.specs.declared.column.Progress.TheVariants.{Wanting, Asked, Given, Hidden, Ended}
use Rattle.snmp_walk.specs.declared.bulk_column.BulkColumn.{BulkColumn}
use Rattle.gateway_laws.specs.Tracks.{TracksWalk}

-- it is to be asked, or is asked, or is at its end
abbrev pub IsWalking : Progress → Type 0
IsWalking (Wanting from) = ⊤
IsWalking (Asked ask) = ⊤
IsWalking (Given g) = ⊥
IsWalking Hidden = ⊥
IsWalking Ended = ⊤

module _ (device : Known) (Seen : List ℕ → Type 0) where
  -- each is the next variable that is seen after the one before it
  abbrev pub AreNexts : List ℕ → List Variable → Type 0
  AreNexts first [] = ⊤
  AreNexts first (v ∷ vs) = IsNext device Seen first v × AreNexts v.name vs

  -- what is known of a walk that gave these variables, and has come so far
  pub record TracksBulk (first : List ℕ) (given : List Variable) (p : Progress) : Type 0 where
    pub nexts : AreNexts first given
    pub walking : IsWalking p
    pub walk : TracksWalk device Seen (last_name first given) p

  abbrev pub BulkColumnTracks : BulkColumn → Type 0
  BulkColumnTracks c = TracksBulk c.first (given_in c) c.progress

  abbrev pub AllBulkTrack : List BulkColumn → Type 0
  AllBulkTrack cs = All BulkColumnTracks cs
