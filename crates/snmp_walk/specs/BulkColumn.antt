-- One binding of a GetBulkRequest in a dialogue with a device (RFC 3416, section 4.2.3).
--
-- A repeater is a walk: each repetition asks as a GetNextRequest does, at first for the name of the request, and then
-- for the name that the one before gave. `given_in`: what of it the message may see. `shown`: the last name that the
-- message knows of. `name_before`: the name of a column before a repetition. `IsNew`: how a column begins.
-- `BulkStands`: what is known of it. `IsAt`: what the Response holds for it in a repetition. `IsUnknownAt`: that isn't
-- known yet.
use Rattle.std.specs.Prelude.{◌≡◌, ◌⊎◌, ◌+◌, ◌<◌, ◌≤◌, ⊤, ℕ, List, [], ◌∷◌, All, Contains, length, map, take}
use Rattle.std.specs.List.{HoldsAt}
use Rattle.snmp_msg.specs.Variables.{Variable}
use Rattle.snmp_msg.specs.declared.value.Syntax.TheVariants.{EndOfMibView}
use Rattle.vacm_next.specs.Next.{IsBefore}
use Rattle.snmp_responder.specs.Instrumentation.{IsException}
use Rattle.snmp_walk.specs.Bindings.{IsValue, given_says}
use Rattle.snmp_walk.specs.Column.{IsOpen, StandsInWalk}
use Rattle.snmp_walk.specs.declared.column.Progress.{Progress}
use Rattle.snmp_walk.specs.declared.column.Progress.TheVariants.{Ended, Wanting}
use Rattle.snmp_walk.specs.declared.bulk_column.BulkColumn.{BulkColumn}

-- the name of the last one of the variables, or else this name
abbrev pub last_name : List ℕ → List Variable → List ℕ
last_name first [] = first
last_name first (v ∷ vs) = last_name v.name vs

-- each name is greater than the one before it, at first than this one
abbrev pub Ascends : List ℕ → List Variable → Type 0
Ascends first [] = ⊤
Ascends first (v ∷ vs) = IsBefore first v.name × Ascends v.name vs

-- a value that the device told, of a name that is seen
pub record IsGiven (Seen : List ℕ → Type 0) (told : List Variable) (v : Variable) : Type 0 where
  pub seen : Seen v.name
  pub value : IsValue v
  pub there : Contains told v

-- what is known of a walk that gave these variables, and has come so far: it stands where a GetNextRequest for the last
-- name does that it gave
pub record StandsInBulk (Seen : List ℕ → Type 0) (told : List Variable) (first : List ℕ) (given : List Variable)
    (progress : Progress) : Type 0 where
  pub ascends : Ascends first given
  pub are_given : All (IsGiven Seen told) given
  pub walk : StandsInWalk Seen told (last_name first given) progress

-- what the device gave for the column, and the message may see, as it came
abbrev pub given_in : BulkColumn → List Variable
given_in c = map given_says c.got.items

-- the last name that the message knows of
abbrev pub shown : BulkColumn → List ℕ
shown c = last_name c.first (given_in c)

-- the name of the column before the repetition of this number, which counts from 0
abbrev pub name_before : BulkColumn → ℕ → List ℕ
name_before c k = last_name c.first (take k (given_in c))

-- the device gave nothing yet, and is to be asked from the name of the request on
pub record IsNew (c : BulkColumn) : Type 0 where
  pub given : c.got.items ≡ []
  pub wanting : c.progress ≡ Wanting c.first

-- what is known of a column
abbrev pub BulkStands : (List ℕ → Type 0) → List Variable → BulkColumn → Type 0
BulkStands Seen told c = StandsInBulk Seen told c.first (given_in c) c.progress

-- what the column is for: the name in the request, and how many variables are wanted
abbrev pub bulk_request : BulkColumn → List ℕ × ℕ
bulk_request c = (c.first, c.most)

-- it has fewer variables than are wanted, and isn't at its end
pub record Wants (c : BulkColumn) : Type 0 where
  pub few : length c.got.items < c.most
  pub opened : IsOpen c.progress

-- in the repetition of this number it has this variable; or it is at its end before, and has the last name that it
-- showed with endOfMibView
abbrev pub IsAt : BulkColumn → ℕ → Variable → Type 0
IsAt c k v = ((k < length (given_in c)) × HoldsAt (λ (w : Variable). v ≡ w) (given_in c) k)
    ⊎ ((length (given_in c) ≤ k) × (c.progress ≡ Ended) × IsException EndOfMibView (shown c) v)

-- neither of both is known
pub record IsUnknownAt (c : BulkColumn) (k : ℕ) : Type 0 where
  pub behind : length (given_in c) ≤ k
  pub not_ended : ¬ (c.progress ≡ Ended)

-- the arcs of the names and the octets of the values
abbrev pub octets_in : List Variable → ℕ
octets_in [] = 0
octets_in (v ∷ vs) = (length v.name + length v.content) + octets_in vs
