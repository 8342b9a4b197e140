-- The three tables that a gateway's configuration has beside those of users and access, and their keys.
--
-- `table_name`, `key_name`: their names in the text. `listed`: the keys that a table lists, in the order in which they
-- are looked at. `at row key`: what is there at a key of a row, None where it is absent.
use Rattle.std.specs.Prelude.{◌≡◌, ℕ, List, [], ◌∷◌, codes, Option, Contains}
use Rattle.toml.specs.Data.{Data, Members, get_member}
use Rattle.snmpsec_config.specs.Keys.{EachMember, FirstMember}
use Rattle.snmpsec_gate_config.specs.declared.table.GateTable.{GateTable}
use Rattle.snmpsec_gate_config.specs.declared.table.GateTable.TheVariants as tables
use Rattle.snmpsec_gate_config.specs.declared.table.GateKey.{GateKey}
use Rattle.snmpsec_gate_config.specs.declared.table.GateKey.TheVariants as keys
use Rattle.snmpsec_gate_config.specs.declared.table.LimitKey.{LimitKey}
use Rattle.snmpsec_gate_config.specs.declared.table.LimitKey.TheVariants as limits

abbrev pub table_name : GateTable → List ℕ
table_name tables.Gate = codes "gate"
table_name tables.Device = codes "device"
table_name tables.Receiver = codes "receiver"

abbrev pub limit_name : LimitKey → List ℕ
limit_name limits.Waiting = codes "waiting"
limit_name limits.Rounds = codes "rounds"
limit_name limits.Again = codes "again"
limit_name limits.Tries = codes "tries"
limit_name limits.Last = codes "last"
limit_name limits.Gather = codes "gather"
limit_name limits.WaitingPerDevice = codes "waiting-per-device"
limit_name limits.Repetitions = codes "repetitions"
limit_name limits.MaxSize = codes "max-size"
limit_name limits.AtOnce = codes "at-once"

abbrev pub key_name : GateKey → List ℕ
key_name keys.Engine = codes "engine"
key_name keys.Boots = codes "boots"
key_name keys.Listen = codes "listen"
key_name keys.Traps = codes "traps"
key_name keys.LongAnswers = codes "long-answers"
key_name keys.ReportUnreachable = codes "report-unreachable"
key_name keys.Context = codes "context"
key_name keys.Address = codes "address"
key_name keys.Community = codes "community"
key_name keys.WriteCommunity = codes "write-community"
key_name keys.User = codes "user"
key_name keys.Level = codes "level"
key_name keys.Kind = codes "kind"
key_name (keys.Limit key) = limit_name key

-- the keys that a table lists
abbrev pub listed : GateTable → List GateKey
listed tables.Gate = keys.Engine ∷ keys.Boots ∷ keys.Listen ∷ keys.Traps ∷ keys.Limit limits.Waiting
    ∷ keys.Limit limits.Rounds ∷ keys.Limit limits.Again ∷ keys.Limit limits.Tries ∷ keys.Limit limits.Last
    ∷ keys.Limit limits.Gather ∷ keys.Limit limits.WaitingPerDevice ∷ keys.LongAnswers ∷ keys.ReportUnreachable ∷ []
listed tables.Device = keys.Context ∷ keys.Address ∷ keys.Community ∷ keys.WriteCommunity
    ∷ keys.Limit limits.Repetitions ∷ keys.Limit limits.MaxSize ∷ keys.Limit limits.AtOnce ∷ []
listed tables.Receiver = keys.Address ∷ keys.User ∷ keys.Level ∷ keys.Kind ∷ []

-- The text is the name of a key that the table lists.
abbrev pub IsListed : GateTable → List ℕ → Type 0
IsListed table text = (key : GateKey) × Contains (listed table) key × (text ≡ key_name key)

-- The row has no key that its table doesn't list.
abbrev pub HasOnlyListed : GateTable → Members → Type 0
HasOnlyListed table row = EachMember (λ key _. IsListed table key) row

-- The first key of the row that its table doesn't list.
abbrev pub IsFirstUnlisted : GateTable → Members → List ℕ → Type 0
IsFirstUnlisted table row key = FirstMember (λ name _. IsListed table name) row key

-- what is there at a key of a row: None where it is absent
abbrev pub at : Members → GateKey → Option Data
at row key = get_member (key_name key) row
