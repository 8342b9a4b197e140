-- One dialogue with a device for a GetBulkRequest (RFC 3416, section 4.2.3).
--
-- `bulk_requests`: what the columns are for, in the order of the bindings. `BulkAllStand`: what is known of the
-- columns. `IsFirstWanting`: the first column that wants more. `HasRepetition`, `HasFront`: a whole repetition is
-- known, or a binding at least. `HasGathered`: the device gave more octets than are kept. `IsBulkNext`: what becomes of
-- the dialogue next.
use Rattle.std.specs.Prelude.{◌≡◌, ◌⊎◌, ◌+◌, ◌<◌, ◌≤◌, ℕ, ℤ, pos, List, [], ◌∷◌, ◌++◌, All, drop, length, map, max}
use Rattle.std.specs.Prelude.{slice_index_or, take}
use Rattle.std.specs.List.{HoldsAt, AllZip}
use Rattle.snmp_msg.specs.Variables.{Variable}
use Rattle.snmp_walk.specs.BulkColumn.{BulkStands, IsUnknownAt, Wants, bulk_request, given_in, octets_in}
use Rattle.snmp_walk.specs.BulkSteps.{BulkGoesOn}
use Rattle.snmp_walk.specs.BulkAsk.{Chooses, IsAskOf, IsFewest, NoneAsked, SomeAsked, repetitions_due}
use Rattle.snmp_walk.specs.declared.bulk_ask.BulkAsk.{BulkAsk}
use Rattle.snmp_walk.specs.declared.bulk_column.BulkColumn.{BulkColumn}
use Rattle.snmp_walk.specs.declared.bulk_dialogue.BulkDialogue.{BulkDialogue}
use Rattle.snmp_walk.specs.declared.bulk_dialogue.BulkLimits.{BulkLimits}
use Rattle.snmp_walk.specs.declared.bulk_dialogue.BulkNext.{BulkNext}
use Rattle.snmp_walk.specs.declared.bulk_dialogue.BulkNext.TheVariants.{Asks, Ends, RoundsUsedUp}

abbrev pub bulk_requests : BulkDialogue → List (List ℕ × ℕ)
bulk_requests d = map bulk_request d.columns.items

-- the name of each binding, with how many variables are wanted: 1 of a non-repeater, max-repetitions of a repeater
abbrev pub bulk_requests_of : ℕ → ℕ → List Variable → List (List ℕ × ℕ)
bulk_requests_of non_repeaters max_repetitions vs = map (λ (v : Variable). (v.name, 1)) (take non_repeaters vs)
    ++ map (λ (v : Variable). (v.name, max_repetitions)) (drop non_repeaters vs)

-- how many variables are wanted of the binding of this number: 1 of a non-repeater
pub record IsMostOf (number non_repeaters max_repetitions most : ℕ) : Type 0 where
  pub single : number < non_repeaters → most ≡ 1
  pub repeated : non_repeaters ≤ number → most ≡ max_repetitions

-- the value of non-repeaters or max-repetitions, which counts as 0 below 0
pub record IsCountOf (value : ℤ) (count : ℕ) : Type 0 where
  pub from_0 : (n : ℕ) → value ≡ pos n → count ≡ n
  pub below_0 : ((n : ℕ) → ¬ (value ≡ pos n)) → count ≡ 0

-- the dialogue for a request, which has these limits
pub record IsBulkFor (non_repeaters max_repetitions : ℤ) (vs : List Variable) (limits : BulkLimits) (d : BulkDialogue)
    : Type 0 where
  pub first : IsCountOf non_repeaters d.non_repeaters
  pub most : IsCountOf max_repetitions d.max_repetitions
  pub requests : bulk_requests d ≡ bulk_requests_of d.non_repeaters d.max_repetitions vs
  pub rounds : d.rounds ≡ limits.rounds
  pub repetitions : d.repetitions ≡ limits.repetitions
  pub at_once : d.at_once ≡ limits.at_once
  pub gathered : d.gathered ≡ limits.gathered

abbrev pub BulkAllStand : (List ℕ → Type 0) → List Variable → BulkDialogue → Type 0
BulkAllStand Seen told d = All (BulkStands Seen told) d.columns.items

-- no column wants more
abbrev pub NoneWants : List BulkColumn → Type 0
NoneWants cs = All (λ (c : BulkColumn). ¬ Wants c) cs

-- the column of this number wants more, and none before it
pub record IsFirstWanting (cs : List BulkColumn) (number : ℕ) : Type 0 where
  pub within : number < length cs
  pub wants : HoldsAt Wants cs number
  pub before : (k : ℕ) (d : BulkColumn) → k < number → ¬ Wants (slice_index_or cs k d)

-- the first repetition is known, and the non-repeaters
abbrev pub HasRepetition : List BulkColumn → Type 0
HasRepetition cs = All (λ (c : BulkColumn). ¬ IsUnknownAt c 0) cs

-- the first binding is known
abbrev pub HasFront : List BulkColumn → Type 0
HasFront cs = (0 < length cs) × HoldsAt (λ (c : BulkColumn). ¬ IsUnknownAt c 0) cs 0

-- the octets that the device gave
abbrev pub gathered_in : List BulkColumn → ℕ
gathered_in [] = 0
gathered_in (c ∷ cs) = octets_in (given_in c) + gathered_in cs

-- there are more than are kept, and a binding for the Response
abbrev pub HasGathered : ℕ → List BulkColumn → Type 0
HasGathered most cs = (most < gathered_in cs) × HasFront cs

abbrev pub BulkAllGoOn : (List ℕ → Type 0) → List BulkColumn → List BulkColumn → Type 0
BulkAllGoOn Seen olds news = AllZip (BulkGoesOn Seen) olds news

-- what the dialogue is for, and its limits, are the same
pub record SameLimits (old new : BulkDialogue) : Type 0 where
  pub non_repeaters : new.non_repeaters ≡ old.non_repeaters
  pub max_repetitions : new.max_repetitions ≡ old.max_repetitions
  pub repetitions : new.repetitions ≡ old.repetitions
  pub at_once : new.at_once ≡ old.at_once
  pub gathered : new.gathered ≡ old.gathered

-- of these columns those are asked, in this way, that the dialogue asks
pub record IsChosen (old : BulkDialogue) (columns : List BulkColumn) (new : BulkDialogue) (ask : BulkAsk) : Type 0 where
  pub fewest : ℕ
  pub is_fewest : IsFewest (drop old.non_repeaters columns) fewest ⊎ NoneAsked (drop old.non_repeaters columns)
  pub chooses : Chooses old.non_repeaters fewest 0 (max old.at_once 1) columns new.columns.items
  pub asks : IsAskOf old.non_repeaters (repetitions_due old.repetitions old.max_repetitions fewest) new.columns.items
      ask
  pub keeps : new.ask ≡ ask

-- the device is asked once more, for one name at least
pub record AsksMore (Seen : List ℕ → Type 0) (old new : BulkDialogue) (ask : BulkAsk) : Type 0 where
  pub columns : List BulkColumn
  pub goes_on : BulkAllGoOn Seen old.columns.items columns
  pub some_wants : ¬ NoneWants columns
  pub not_gathered : ¬ HasGathered old.gathered columns
  pub chosen : IsChosen old columns new ask
  pub some_asked : SomeAsked new.columns.items
  pub rounds : new.rounds + 1 ≡ old.rounds

-- why a dialogue ends with the front: all is there; there is enough; or it may not ask again, and has a repetition
abbrev pub IsEnough : BulkDialogue → Type 0
IsEnough d = NoneWants d.columns.items ⊎ HasGathered d.gathered d.columns.items
    ⊎ ((d.rounds ≡ 0) × HasRepetition d.columns.items)

-- the device is asked once more; or the dialogue ends with the front; or the column of this number is the first one
-- that wants more, and it may not ask again
abbrev pub IsBulkNext : (List ℕ → Type 0) → BulkDialogue → BulkDialogue → BulkNext → Type 0
IsBulkNext Seen old new (Asks ask) = SameLimits old new × AsksMore Seen old new ask
IsBulkNext Seen old new Ends = SameLimits old new × BulkAllGoOn Seen old.columns.items new.columns.items
    × (new.rounds ≡ old.rounds) × IsEnough new
IsBulkNext Seen old new (RoundsUsedUp number) = SameLimits old new
    × BulkAllGoOn Seen old.columns.items new.columns.items × (new.rounds ≡ old.rounds) × (old.rounds ≡ 0)
    × IsFirstWanting new.columns.items number × (¬ HasRepetition new.columns.items)
    × (¬ HasGathered new.gathered new.columns.items)
