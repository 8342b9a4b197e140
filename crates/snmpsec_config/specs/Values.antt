-- Which values are allowed at a key, and what they stand for. None is for an absent key.
--
-- `IsName`, `IsLevel`, `IsOid`, `IsMask` and so on (`Values`, `Words`). Which value is allowed at a key,
-- and what it stands for; an absent key is None. `wanted_at table key`: what is wanted there. `IsRightAt`:
-- what stands at a key is what is wanted, or it is left out and may be (`MayMiss`). `IsFirstWrong`: the
-- first listed key at which a row isn't right.
use Rattle.std.specs.Prelude.{◌≡◌, ⊤, ◌⊎◌, ℕ, pos, ◌≤◌, Bool, List, [], ◌∷◌, length, Option, Some, None, is_none, Ok}
use Rattle.std.specs.Prelude.{option_map}
use Rattle.hex.specs.Hex.{decode_of}
use Rattle.toml.specs.Data.{Data, Members, string, integer, boolean}
use Rattle.snmpsec_config.specs.Keys.{at, listed, FirstKey}
use Rattle.snmpsec_config.specs.declared.keys.ValueFault.{ValueFault}
use Rattle.snmpsec_config.specs.declared.table.ConfigTable.{ConfigTable}
use Rattle.snmpsec_config.specs.declared.table.ConfigTable.TheVariants as tables
use Rattle.snmpsec_config.specs.declared.table.ConfigKey.{ConfigKey}
use Rattle.snmpsec_config.specs.declared.table.ConfigKey.TheVariants as keys
use Rattle.snmp_ber.specs.Oid.{AreArcs, dotted}
use Rattle.snmp_ber.specs.declared.level.Level.{Level}
use Rattle.snmp_ber.specs.declared.number.TheConstants.{MAX_INTEGER32}
use Rattle.usm_keys.specs.declared.auth.Auth.{Auth}
use Rattle.vacm_core.specs.declared.rows.Matching.{Matching}
use Rattle.snmpsec_config.specs.Words.{level_word, auth_word, matching_word}
use Rattle.snmpsec_config.specs.declared.wanted.Wanted.{Wanted}
use Rattle.snmpsec_config.specs.declared.wanted.Wanted.TheVariants as wanted

-- a text
abbrev pub IsText : Option Data → List ℕ → Type 0
IsText value text = value ≡ Some (string text)

-- a text, or none where the key is absent
abbrev pub IsTextIfAny : Option Data → Option (List ℕ) → Type 0
IsTextIfAny value text = value ≡ option_map string text

-- a text, or the empty one where the key is absent
abbrev pub IsTextOrEmpty : Option Data → List ℕ → Type 0
IsTextOrEmpty value text = IsText value text ⊎ ((value ≡ None) × (text ≡ []))

-- a name: at most 32 octets
abbrev pub IsName : Option Data → List ℕ → Type 0
IsName value name = IsText value name × (length name ≤ 32)

abbrev pub IsNameOrEmpty : Option Data → List ℕ → Type 0
IsNameOrEmpty value name = IsTextOrEmpty value name × (length name ≤ 32)

-- the number of a security model, or 0
abbrev pub IsModel : Option Data → ℕ → Type 0
IsModel value model = (value ≡ Some (integer (pos model))) × (model ≤ MAX_INTEGER32)

abbrev pub IsLevel : Option Data → Level → Type 0
IsLevel value level = IsText value (level_word level)

abbrev pub IsMatching : Option Data → Matching → Type 0
IsMatching value matching = IsText value (matching_word matching)

-- an object identifier in dotted decimal
abbrev pub IsOid : Option Data → List ℕ → Type 0
IsOid value arcs = AreArcs arcs × IsText value (dotted arcs)

-- at most 16 octets, in hex of either case
abbrev pub IsMask : Option Data → List ℕ → Type 0
IsMask value mask = (digits : List ℕ) × IsTextOrEmpty value digits × (decode_of digits ≡ Ok mask) × (length mask ≤ 16)

abbrev pub IsFlag : Option Data → Bool → Type 0
IsFlag value flag = value ≡ Some (boolean flag)

-- a protocol and a password, both or neither
abbrev pub AreAuth : Option Data → Option Data → Option (Auth × List ℕ) → Type 0
AreAuth protocol password None = (protocol ≡ None) × (password ≡ None)
AreAuth protocol password (Some own) = IsText protocol (auth_word own.0) × IsText password own.1

-- ---- what is wanted at a key

abbrev pub wanted_name : ConfigTable → Wanted
wanted_name tables.User = wanted.Text
wanted_name tables.Context = wanted.Name
wanted_name tables.Group = wanted.Name
wanted_name tables.Access = wanted.Name
wanted_name tables.Family = wanted.Name

abbrev pub wanted_at : ConfigTable → ConfigKey → Wanted
wanted_at of keys.Name = wanted_name of
wanted_at of keys.Auth = wanted.Auth
wanted_at of keys.AuthPassword = wanted.Text
wanted_at of keys.PrivPassword = wanted.Text
wanted_at of keys.Model = wanted.Model
wanted_at of keys.Group = wanted.Name
wanted_at of keys.Prefix = wanted.Name
wanted_at of keys.Level = wanted.Level
wanted_at of keys.Match = wanted.Matching
wanted_at of keys.Read = wanted.Name
wanted_at of keys.Write = wanted.Name
wanted_at of keys.Notify = wanted.Name
wanted_at of keys.View = wanted.Name
wanted_at of keys.Subtree = wanted.Oid
wanted_at of keys.Include = wanted.Flag
wanted_at of keys.Mask = wanted.Mask

-- The value is what is wanted.
abbrev pub Allows : Wanted → Option Data → Type 0
Allows wanted.Text value = (text : List ℕ) × IsText value text
Allows wanted.Name value = (name : List ℕ) × IsName value name
Allows wanted.Model value = (model : ℕ) × IsModel value model
Allows wanted.Level value = (level : Level) × IsLevel value level
Allows wanted.Matching value = (matching : Matching) × IsMatching value matching
Allows wanted.Oid value = (arcs : List ℕ) × IsOid value arcs
Allows wanted.Mask value = (mask : List ℕ) × IsMask value mask
Allows wanted.Flag value = (flag : Bool) × IsFlag value flag
Allows wanted.Auth value = (auth : Auth) × IsText value (auth_word auth)

-- The row may leave the key out. A user's protocol and password are both left out, or neither. (A mask that
-- is left out is the empty one, and so is what is wanted.)
abbrev pub MayMiss : Members → ConfigKey → Type 0
MayMiss row keys.Auth = at row keys.AuthPassword ≡ None
MayMiss row keys.AuthPassword = at row keys.Auth ≡ None
MayMiss row keys.PrivPassword = ⊤
MayMiss row keys.Read = ⊤
MayMiss row keys.Write = ⊤
MayMiss row keys.Notify = ⊤
MayMiss row keys.Name = ⊥
MayMiss row keys.Model = ⊥
MayMiss row keys.Group = ⊥
MayMiss row keys.Prefix = ⊥
MayMiss row keys.Level = ⊥
MayMiss row keys.Match = ⊥
MayMiss row keys.View = ⊥
MayMiss row keys.Subtree = ⊥
MayMiss row keys.Include = ⊥
MayMiss row keys.Mask = ⊥

-- What stands at the key is what is wanted there, or it is left out and may be.
abbrev pub IsRightAt : ConfigTable → Members → ConfigKey → Type 0
IsRightAt of row key = Allows (wanted_at of key) (at row key) ⊎ ((at row key ≡ None) × MayMiss row key)

-- The first key, of those that the table lists, at which the row isn't right.
abbrev pub IsFirstWrong : ConfigTable → Members → ConfigKey → Type 0
IsFirstWrong of row key = FirstKey (IsRightAt of row) (listed of) key

-- ---- between the calls

-- what is reported of the value at a key that isn't right
abbrev pub value_fault : Option Data → ConfigKey → ValueFault
value_fault value key = record { key = key; is_missing = is_none value }

-- what is reported of a user's protocol and password
pub record IsAuthFault (row : Members) (fault : ValueFault) : Type 0 where
  pub first : FirstKey (IsRightAt tables.User row) (keys.Auth ∷ keys.AuthPassword ∷ []) fault.key
  pub told : fault ≡ value_fault (at row fault.key) fault.key
