-- Which values are allowed at a key, and what they say. None is for an absent key.
--
-- `IsEngineId`, `IsPath`, `IsAddress`, `AreAddresses`, `IsCommunity`, `IsLimit`, `IsFlagOrFalse`, `IsKindOrTrap`: a
-- value and what it says. `IsRightAt`: what is there at a key is what is expected, or it is left out and may be
-- (`MayMiss`). `IsFirstWrong`: the first listed key at which a row isn't right.
use Rattle.std.specs.Prelude.{◌≡◌, ◌≢◌, ⊤, ◌⊎◌, ℕ, pos, ◌≤◌, ◌<◌, Bool, false, List, [], ◌∷◌, length, slice_index}
use Rattle.std.specs.Prelude.{codes, EachIndex, Option, Some, None, is_none, Ok}
use Rattle.std.specs.Net.Grammar.{IsSocketText}
use Rattle.std.specs.Net.Socket.{socket_port}
use Rattle.std.specs.declared.net.socket_addr.SocketAddr.{SocketAddr}
use Rattle.hex.specs.Hex.{decode_of}
use Rattle.toml.specs.Data.{Data, Members, integer, array, Items, no_items, item}
use Rattle.engine_clock.specs.Engines.{IsEngine}
use Rattle.snmpsec_config.specs.Keys.{FirstKey}
use Rattle.snmp_ber.specs.declared.level.Level.{Level}
use Rattle.snmpsec_config.specs.Values.{IsText, IsName, IsLevel, IsFlag}
use Rattle.snmpsec_gate_config.specs.Keys.{at, listed}
use Rattle.snmpsec_gate_config.specs.Limits.{limit_of}
use Rattle.snmpsec_gate_config.specs.declared.settings.ReceiverKind.{ReceiverKind}
use Rattle.snmpsec_gate_config.specs.declared.settings.ReceiverKind.TheVariants.{Trap, Inform}
use Rattle.snmpsec_gate_config.specs.declared.table.GateTable.{GateTable}
use Rattle.snmpsec_gate_config.specs.declared.table.GateKey.{GateKey}
use Rattle.snmpsec_gate_config.specs.declared.table.GateKey.TheVariants as keys
use Rattle.snmpsec_gate_config.specs.declared.table.LimitKey.{LimitKey}
use Rattle.snmpsec_gate_config.specs.declared.values.GateValueFault.{GateValueFault}

-- an snmpEngineID of 5 to 32 octets, in hex of either case (RFC 3411, section 5)
abbrev pub IsEngineId : Option Data → List ℕ → Type 0
IsEngineId value engine = (digits : List ℕ) × IsText value digits × (decode_of digits ≡ Ok engine) × IsEngine engine

-- the path of a file: at least one octet, and none of them 0
abbrev pub IsPath : Option Data → List ℕ → Type 0
IsPath value path = IsText value path × (0 < length path) × EachIndex path (λ k. slice_index path k ≢ 0)

-- a numeric address of IPv4, or of IPv6 in brackets (RFC 4291, section 2.2), and a UDP port from 1 on
abbrev pub IsAddress : Option Data → SocketAddr → Type 0
IsAddress value address = (text : List ℕ) × IsText value text × IsSocketText text address × (0 < socket_port address)

-- addresses, one for one and in order
abbrev pub AreAddressesIn : Items → List SocketAddr → Type 0
AreAddressesIn no_items [] = ⊤
AreAddressesIn no_items (address ∷ addresses) = ⊥
AreAddressesIn (item value values) [] = ⊥
AreAddressesIn (item value values) (address ∷ addresses) = IsAddress (Some value) address
    × AreAddressesIn values addresses

-- an array of at least one address
abbrev pub AreAddresses : Option Data → List SocketAddr → Type 0
AreAddresses value addresses = (values : Items) × (value ≡ Some (array values)) × AreAddressesIn values addresses
    × (0 < length addresses)

-- an array of at least one address, or none where the key is absent
abbrev pub AreAddressesIfAny : Option Data → List SocketAddr → Type 0
AreAddressesIfAny value addresses = AreAddresses value addresses ⊎ ((value ≡ None) × (addresses ≡ []))

-- a community of at most 255 octets
abbrev pub IsCommunity : Option Data → List ℕ → Type 0
IsCommunity value community = IsText value community × (length community ≤ 255)

-- a community, or none where the key is absent
abbrev pub IsCommunityIfAny : Option Data → Option (List ℕ) → Type 0
IsCommunityIfAny value None = value ≡ None
IsCommunityIfAny value (Some community) = IsCommunity value community

-- a whole number from the least to the greatest of the limit
pub record IsNumber (key : LimitKey) (value : Option Data) (n : ℕ) : Type 0 where
  pub number : value ≡ Some (integer (pos n))
  pub least : (limit_of key).least ≤ n
  pub most : n ≤ (limit_of key).most

-- that number, or the limit's default where the key is absent
abbrev pub IsLimit : LimitKey → Option Data → ℕ → Type 0
IsLimit key value n = IsNumber key value n ⊎ ((value ≡ None) × (n ≡ (limit_of key).default))

-- true or false; false where the key is absent
abbrev pub IsFlagOrFalse : Option Data → Bool → Type 0
IsFlagOrFalse value flag = IsFlag value flag ⊎ ((value ≡ None) × (flag ≡ false))

-- the word for a kind of notification, as snmpNotifyType has it (RFC 3413, section 4.1)
abbrev pub kind_word : ReceiverKind → List ℕ
kind_word Trap = codes "trap"
kind_word Inform = codes "inform"

-- a kind of notification
abbrev pub IsKind : Option Data → ReceiverKind → Type 0
IsKind value kind = IsText value (kind_word kind)

-- that kind, or a Trap where the key is absent
abbrev pub IsKindOrTrap : Option Data → ReceiverKind → Type 0
IsKindOrTrap value kind = IsKind value kind ⊎ ((value ≡ None) × (kind ≡ Trap))

-- ---- what is expected at a key

-- The value is what is expected at the key.
abbrev pub Allows : GateKey → Option Data → Type 0
Allows keys.Engine value = (engine : List ℕ) × IsEngineId value engine
Allows keys.Boots value = (path : List ℕ) × IsPath value path
Allows keys.Listen value = (addresses : List SocketAddr) × AreAddresses value addresses
Allows keys.Traps value = (addresses : List SocketAddr) × AreAddresses value addresses
Allows keys.LongAnswers value = (flag : Bool) × IsFlag value flag
Allows keys.ReportUnreachable value = (flag : Bool) × IsFlag value flag
Allows keys.Context value = (name : List ℕ) × IsName value name
Allows keys.Address value = (address : SocketAddr) × IsAddress value address
Allows keys.Community value = (community : List ℕ) × IsCommunity value community
Allows keys.WriteCommunity value = (community : List ℕ) × IsCommunity value community
Allows keys.User value = (name : List ℕ) × IsName value name
Allows keys.Level value = (level : Level) × IsLevel value level
Allows keys.Kind value = (kind : ReceiverKind) × IsKind value kind
Allows (keys.Limit key) value = (n : ℕ) × IsNumber key value n

-- The key may be left out.
abbrev pub MayMiss : GateKey → Type 0
MayMiss keys.Engine = ⊥
MayMiss keys.Boots = ⊥
MayMiss keys.Listen = ⊥
MayMiss keys.Traps = ⊤
MayMiss keys.LongAnswers = ⊤
MayMiss keys.ReportUnreachable = ⊤
MayMiss keys.Context = ⊥
MayMiss keys.Address = ⊥
MayMiss keys.Community = ⊥
MayMiss keys.WriteCommunity = ⊤
MayMiss keys.User = ⊥
MayMiss keys.Level = ⊥
MayMiss keys.Kind = ⊤
MayMiss (keys.Limit key) = ⊤

-- What is there at the key is what is expected, or it is left out and may be.
abbrev pub IsRightAt : Members → GateKey → Type 0
IsRightAt row key = Allows key (at row key) ⊎ ((at row key ≡ None) × MayMiss key)

-- The first key, of those that the table lists, at which the row isn't right.
abbrev pub IsFirstWrong : GateTable → Members → GateKey → Type 0
IsFirstWrong of row key = FirstKey (IsRightAt row) (listed of) key

-- ---- between the calls

-- what is reported of the value at a key that isn't right
abbrev pub value_fault : Option Data → GateKey → GateValueFault
value_fault value key = record { key = key; is_missing = is_none value }

-- what is reported of the first of some keys that isn't right
pub record IsFirstFault (row : Members) (among : List GateKey) (fault : GateValueFault) : Type 0 where
  pub first : FirstKey (IsRightAt row) among fault.key
  pub told : fault ≡ value_fault (at row fault.key) fault.key
