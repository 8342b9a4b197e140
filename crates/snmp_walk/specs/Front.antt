-- What a Response to a GetBulkRequest holds (RFC 3416, section 4.2.3).
--
-- `IsRowAt`: a whole repetition. `IsCutRow`: what is known of one, up to the first column of which nothing is known.
-- `AreKnown`: repetitions, up to one in which all are endOfMibView, or to the first binding that isn't known.
-- `IsFront`: the non-repeaters and then the repetitions. `IsShownOf`: the law outwards of one binding.
use Rattle.std.specs.Prelude.{◌≡◌, ◌⊎◌, ◌+◌, ◌≤◌, ℕ, zero, suc, List, [], ◌∷◌, ◌++◌, All, Bool, true, false}
use Rattle.std.specs.Prelude.{Contains, drop, length, take}
use Rattle.std.specs.List.{AllZip}
use Rattle.snmp_msg.specs.Variables.{Variable}
use Rattle.snmp_walk.specs.Column.{MayShow}
use Rattle.snmp_walk.specs.BulkColumn.{IsAt, IsUnknownAt, given_in, name_before}
use Rattle.snmp_walk.specs.declared.operation.ReadOperation.TheVariants.{GetNext}
use Rattle.snmp_walk.specs.declared.column.Progress.TheVariants.{Ended}
use Rattle.snmp_walk.specs.declared.bulk_column.BulkColumn.{BulkColumn}

-- each column has its variable in the repetition of this number
abbrev pub IsRowAt : List BulkColumn → ℕ → List Variable → Type 0
IsRowAt cs k row = AllZip (λ (c : BulkColumn) (v : Variable). IsAt c k v) cs row

-- the first columns have theirs, and the next one isn't known
abbrev pub IsCutRow : List BulkColumn → ℕ → List Variable → Type 0
IsCutRow [] k vs = ⊥
IsCutRow (c ∷ cs) k vs = (IsUnknownAt c k × (vs ≡ []))
    ⊎ ((v : Variable) × (rest : List Variable) × (vs ≡ v ∷ rest) × IsAt c k v × IsCutRow cs k rest)

abbrev pub IsRowOrCut : List BulkColumn → ℕ → Bool → List Variable → Type 0
IsRowOrCut cs k true vs = IsRowAt cs k vs
IsRowOrCut cs k false vs = IsCutRow cs k vs

-- it is at its end before this repetition, and has endOfMibView there
pub record IsOverAt (k : ℕ) (c : BulkColumn) : Type 0 where
  pub behind : length (given_in c) ≤ k
  pub ended : c.progress ≡ Ended

abbrev pub AreOverAt : List BulkColumn → ℕ → Type 0
AreOverAt cs k = All (IsOverAt k) cs

-- so many repetitions, of which the first has this number; fewer, if all are endOfMibView in one, or not all is known
abbrev pub AreKnown : List BulkColumn → ℕ → ℕ → List Variable → Type 0
AreKnown cs zero k vs = vs ≡ []
AreKnown cs (suc n) k vs = IsCutRow cs k vs ⊎ ((row : List Variable) × (rest : List Variable) × (vs ≡ row ++ rest)
    × IsRowAt cs k row × ((AreOverAt cs k × (rest ≡ [])) ⊎ ((¬ AreOverAt cs k) × AreKnown cs n (k + 1) rest)))

-- of columns of which so many are non-repeaters, and so many repetitions
abbrev pub IsFront : ℕ → ℕ → List BulkColumn → List Variable → Type 0
IsFront non_repeaters most cs vs = IsCutRow (take non_repeaters cs) 0 vs
    ⊎ ((single : List Variable) × (rest : List Variable) × (vs ≡ single ++ rest)
    × IsRowAt (take non_repeaters cs) 0 single × AreKnown (drop non_repeaters cs) most 0 rest)

-- the law outwards: in a repetition it belongs to one of the columns, and is a value that the device told of a name
-- that is seen and greater than the one before in its column, or that name with endOfMibView
pub record IsShownOf (Seen : List ℕ → Type 0) (told : List Variable) (cs : List BulkColumn) (v : Variable)
    : Type 0 where
  pub column : BulkColumn
  pub there : Contains cs column
  pub repetition : ℕ
  pub is_at : IsAt column repetition v
  pub shows : MayShow Seen told GetNext (name_before column repetition) v
