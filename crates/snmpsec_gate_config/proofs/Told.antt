-- What is reported of the keys of [gate], of a device and of a receiver.
use Rattle.std.proofs.Common.{◌≡◌, ◌∙◌, ℕ, true, false, is_some, option_map, Bool, List, [], ◌∷◌, ◌++◌, Option, Some, None, ◌⊎◌, refl, inl, inr}
use Rattle.std.specs.Prelude.{⊤}
use Rattle.toml.specs.Data.{Data, Members, no_members, member}
use Rattle.snmpsec_config.specs.Keys.{EachKey, FirstKey}
use Rattle.snmpsec_config.proofs.Told.{wrong_if_any, none_wrong}
use Rattle.snmpsec_gate_config.specs.Keys.{at, listed, HasOnlyListed, IsFirstUnlisted}
use Rattle.snmpsec_gate_config.specs.Rows.{IsGate, IsDevice, IsReceiver, AreGateLimits, AreDeviceLimits}
use Rattle.snmpsec_gate_config.specs.Values.{Allows, IsRightAt, IsFirstWrong, IsFirstFault, IsLimit, IsFlagOrFalse, AreAddressesIfAny, IsCommunityIfAny, IsKindOrTrap, value_fault}
use Rattle.std.specs.declared.net.socket_addr.SocketAddr.{SocketAddr}
use Rattle.snmpsec_gate_config.specs.Refusals.{TellsKey, TellsNoTable, TellsUnlisted, TellsNoAddresses, TellsNoAddressesIfAny, key_fault}
use Rattle.snmpsec_gate_config.specs.declared.values.GateValueFault.{GateValueFault}
use Rattle.snmpsec_gate_config.specs.declared.settings.GateSettings.{GateSettings}
use Rattle.snmpsec_gate_config.specs.declared.settings.ReceiverKind.{ReceiverKind}
use Rattle.snmpsec_gate_config.specs.declared.settings.ReceiverKind.TheVariants.{Trap}
use Rattle.snmpsec_gate_config.specs.declared.table.GateTable.{GateTable}
use Rattle.snmpsec_gate_config.specs.declared.table.GateTable.TheVariants as tables
use Rattle.snmpsec_gate_config.specs.declared.table.GateKey.{GateKey}
use Rattle.snmpsec_gate_config.specs.declared.table.GateKey.TheVariants as keys
use Rattle.snmpsec_gate_config.specs.declared.table.LimitKey.{LimitKey}
use Rattle.snmpsec_gate_config.specs.declared.table.LimitKey.TheVariants as limits
use Rattle.snmpsec_gate_config.specs.declared.fault.GateKeyFault.TheVariants.{Missing, Unlisted}
use Rattle.snmpsec_gate_config.specs.declared.fault.GateTableFault.{GateTableFault}
use Rattle.snmpsec_gate_config.specs.declared.fault.GateTableFault.TheVariants as table_faults

-- ---- values that are right, and that aren't, at keys that may be left out

pub right_limit : (key : LimitKey) (v : Option Data) (n : ℕ) → IsLimit key v n → Allows (keys.Limit key) v ⊎ ((v ≡ None) × ⊤)
right_limit key v n (inl h) = inl (n, h)
right_limit key v n (inr h) = inr (h.0, tt)

pub wrong_limit : (key : LimitKey) (v : Option Data) → ((n : ℕ) → IsLimit key v n → ⊥) → Allows (keys.Limit key) v ⊎ ((v ≡ None) × ⊤) → ⊥
wrong_limit key v none = wrong_if_any v (λ a. none a.0 (inl a.1)) (λ e. none _ (inr (e, refl)))

pub right_flag : (v : Option Data) (flag : Bool) → IsFlagOrFalse v flag → Allows keys.LongAnswers v ⊎ ((v ≡ None) × ⊤)
right_flag v flag (inl h) = inl (flag, h)
right_flag v flag (inr h) = inr (h.0, tt)

pub wrong_flag : (v : Option Data) → ((flag : Bool) → IsFlagOrFalse v flag → ⊥) → Allows keys.LongAnswers v ⊎ ((v ≡ None) × ⊤) → ⊥
wrong_flag v none = wrong_if_any v (λ a. none a.0 (inl a.1)) (λ e. none false (inr (e, refl)))

pub right_if_any : (v : Option Data) (own : Option (List ℕ)) → IsCommunityIfAny v own → Allows keys.WriteCommunity v ⊎ ((v ≡ None) × ⊤)
right_if_any v None h = inr (h, tt)
right_if_any v (Some community) h = inl (community, h)

pub wrong_community_if_any : (v : Option Data) → ((own : Option (List ℕ)) → IsCommunityIfAny v own → ⊥) → Allows keys.WriteCommunity v ⊎ ((v ≡ None) × ⊤) → ⊥
wrong_community_if_any v none = wrong_if_any v (λ a. none (Some a.0) a.1) (λ e. none None e)

pub right_addresses_if_any : (v : Option Data) (addresses : List SocketAddr) → AreAddressesIfAny v addresses → Allows keys.Traps v ⊎ ((v ≡ None) × ⊤)
right_addresses_if_any v addresses (inl h) = inl (addresses, h)
right_addresses_if_any v addresses (inr h) = inr (h.0, tt)

wrong_addresses_if_any : (v : Option Data) → ((addresses : List SocketAddr) → AreAddressesIfAny v addresses → ⊥) → Allows keys.Traps v ⊎ ((v ≡ None) × ⊤) → ⊥
wrong_addresses_if_any v none = wrong_if_any v (λ a. none a.0 (inl a.1)) (λ e. none [] (inr (e, refl)))

right_kind : (v : Option Data) (kind : ReceiverKind) → IsKindOrTrap v kind → Allows keys.Kind v ⊎ ((v ≡ None) × ⊤)
right_kind v kind (inl h) = inl (kind, h)
right_kind v kind (inr h) = inr (h.0, tt)

pub wrong_kind : (v : Option Data) → ((kind : ReceiverKind) → IsKindOrTrap v kind → ⊥) → Allows keys.Kind v ⊎ ((v ≡ None) × ⊤) → ⊥
wrong_kind v none = wrong_if_any v (λ a. none a.0 (inl a.1)) (λ e. none Trap (inr (e, refl)))

-- ---- keys in their order

-- the first of some is the first of more
pub first_more : {K : Type 0} (P : K → Type 0) (ks more : List K) (key : K) → FirstKey P ks key → FirstKey P (ks ++ more) key
first_more P [] more key h = absurd h
first_more P (k ∷ ks) more key (inl here) = inl here
first_more P (k ∷ ks) more key (inr later) = inr (later.0, first_more P ks more key later.1)

-- the first behind some that are right
pub first_behind : {K : Type 0} (P : K → Type 0) (ks more : List K) (key : K) → EachKey P ks → FirstKey P more key → FirstKey P (ks ++ more) key
first_behind P [] more key h f = f
first_behind P (k ∷ ks) more key h f = inr (h.0, first_behind P ks more key h.1 f)

-- more that are right
pub each_behind : {K : Type 0} (P : K → Type 0) (ks more : List K) → EachKey P ks → EachKey P more → EachKey P (ks ++ more)
each_behind P [] more h f = f
each_behind P (k ∷ ks) more h f = (h.0, each_behind P ks more h.1 f)

abbrev pub gate_limit_keys : List GateKey
gate_limit_keys = keys.Limit limits.Waiting ∷ keys.Limit limits.Rounds ∷ keys.Limit limits.Again ∷ keys.Limit limits.Tries ∷ keys.Limit limits.Last ∷ keys.Limit limits.Gather ∷ keys.Limit limits.WaitingPerDevice ∷ []

abbrev pub device_limit_keys : List GateKey
device_limit_keys = keys.Limit limits.Repetitions ∷ keys.Limit limits.MaxSize ∷ keys.Limit limits.AtOnce ∷ []

abbrev pub flag_keys : List GateKey
flag_keys = keys.LongAnswers ∷ keys.ReportUnreachable ∷ []

-- ---- tables are right at each key

pub gate_limits_right : (t : Members) {own : _} → AreGateLimits t own → EachKey (IsRightAt t) gate_limit_keys
gate_limits_right t h = (right_limit _ _ _ h.waiting, (right_limit _ _ _ h.rounds, (right_limit _ _ _ h.again, (right_limit _ _ _ h.tries, (right_limit _ _ _ h.last, (right_limit _ _ _ h.gather, (right_limit _ _ _ h.waiting_per_device, tt)))))))

pub device_limits_right : (t : Members) {own : _} → AreDeviceLimits t own → EachKey (IsRightAt t) device_limit_keys
device_limits_right t h = (right_limit _ _ _ h.repetitions, (right_limit _ _ _ h.max_size, (right_limit _ _ _ h.at_once, tt)))

pub gate_right : (t : Members) {gate : _} → IsGate t gate → EachKey (IsRightAt t) (listed tables.Gate)
gate_right t h =
    let flags : EachKey (IsRightAt t) flag_keys = (right_flag _ _ h.long_answers, (right_flag _ _ h.report_unreachable, tt)) in (inl (_, h.engine), (inl (_, h.boots), (inl (_, h.listen), (right_addresses_if_any _ _ h.traps, each_behind (IsRightAt t) gate_limit_keys flag_keys (gate_limits_right t h.limits) flags))))

pub device_right : (t : Members) {device : _} → IsDevice t device → EachKey (IsRightAt t) (listed tables.Device)
device_right t h = (inl (_, h.context), (inl (_, h.address), (inl (_, h.community), (right_if_any _ _ h.write_community, device_limits_right t h.limits))))

pub receiver_right : (t : Members) {receiver : _} → IsReceiver t receiver → EachKey (IsRightAt t) (listed tables.Receiver)
receiver_right t h = (inl (_, h.address), (inl (_, h.user), (inl (_, h.level), (right_kind _ _ h.kind, tt))))

-- ---- what is reported

pub first_fault : (row : Members) (among : List GateKey) (f : GateValueFault) (key : GateKey) → f ≡ value_fault (at row key) key → FirstKey (IsRightAt row) among key → IsFirstFault row among f
first_fault row among f key is first = rw is (record { first = first; told = refl })

tells_value : (of : GateTable) (row : Members) (key : GateKey) (v : Option Data) → at row key ≡ v → HasOnlyListed of row → IsFirstWrong of row key → TellsKey of row (key_fault (value_fault v key))
tells_value of row key None e only first = (only, first, e)
tells_value of row key (Some d) e only first = (only, first, λ n. let never : Some d ≡ None = cc in cc)

-- a value that isn't right, where then the table says nothing
pub tells : {R : Type 0} (of : GateTable) (Stands : Members → R → Type 0) (row : Members) (f : GateValueFault) (key : GateKey) → f ≡ value_fault (at row key) key → HasOnlyListed of row → IsFirstWrong of row key
    → ((made : R) → Stands row made → EachKey (IsRightAt row) (listed of)) → TellsNoTable of Stands row (table_faults.Key (key_fault f))
tells of Stands row f key is only first right =
    rw is (tells_value of row key (at row key) refl only first, λ made stands. none_wrong (IsRightAt row) (listed of) key first (right made stands))

-- a key that isn't listed
not_only : (of : GateTable) (key : List ℕ) (row : Members) → IsFirstUnlisted of row key → HasOnlyListed of row → ⊥
not_only of key no_members s h = absurd s
not_only of key (member name value others) (inl here) h = here.1 h.0
not_only of key (member name value others) (inr later) h = not_only of key others later.1 h.1

pub tells_unlisted : {R : Type 0} (of : GateTable) (Stands : Members → R → Type 0) (row : Members) (f : GateTableFault) → TellsUnlisted of row f
    → ((made : R) → Stands row made → HasOnlyListed of row) → TellsNoTable of Stands row f
tells_unlisted of Stands row (table_faults.Key (Unlisted key)) h only = (h, λ made stands. not_only of _ row h (only made stands))
tells_unlisted of Stands row table_faults.OutOfMemory h only = tt
tells_unlisted of Stands row _ h only = absurd h

-- addresses that aren't right, after an engine ID and a path that are
pub tells_addresses : (row : Members) (f : GateTableFault) → HasOnlyListed tables.Gate row → IsRightAt row keys.Engine → IsRightAt row keys.Boots → TellsNoAddresses row keys.Listen f → TellsNoTable tables.Gate IsGate row f
tells_addresses row (table_faults.Key fault) only engine boots h =
    rw h.0 (tells tables.Gate IsGate row _ keys.Listen refl only (inr (engine, inr (boots, inl (refl, λ right. elim right [ inl a ↦ h.1 a.0 a.1 | inr b ↦ b.1 ])))) (λ made stands. gate_right row stands))
tells_addresses row table_faults.OutOfMemory only engine boots h = tt

-- a value that is there
pub some_value : {A B : Type 0} (f : A → B) (r : Option A) (v : Option B) → option_map f r ≡ v → is_some r ≡ true → v ≡ None → ⊥
some_value f None v e some none = let never : false ≡ true = some in cc
some_value f (Some x) v e some none = let never : Some (f x) ≡ None = e ∙ none in cc

-- a key that is there, and has no addresses
pub no_addresses_if_any : (row : Members) (key : GateKey) (f : GateTableFault) → (at row key ≡ None → ⊥) → TellsNoAddresses row key f → TellsNoAddressesIfAny row key f
no_addresses_if_any row key (table_faults.Key fault) there h = (h.0, λ addresses is. elim is [ inl a ↦ h.1 addresses a | inr b ↦ there b.0 ])
no_addresses_if_any row key table_faults.OutOfMemory there h = tt

-- addresses of Traps that aren't right, after the keys before
pub tells_traps : (row : Members) (f : GateTableFault) → HasOnlyListed tables.Gate row → IsRightAt row keys.Engine → IsRightAt row keys.Boots → IsRightAt row keys.Listen → TellsNoAddressesIfAny row keys.Traps f → TellsNoTable tables.Gate IsGate row f
tells_traps row (table_faults.Key fault) only engine boots listen h =
    rw h.0 (tells tables.Gate IsGate row _ keys.Traps refl only (inr (engine, inr (boots, inr (listen, inl (refl, wrong_addresses_if_any _ h.1))))) (λ made stands. gate_right row stands))
tells_traps row table_faults.OutOfMemory only engine boots listen h = tt

-- without [gate] the engine ID is missing
pub no_gate_table : (t : Members) → t ≡ no_members → TellsKey tables.Gate t (Missing keys.Engine) × ((gate : GateSettings) → IsGate t gate → ⊥)
no_gate_table t none =
    let no_engine : IsRightAt no_members keys.Engine → ⊥ = λ right. elim right [ inl a ↦ let never = a.1.1 in cc | inr b ↦ b.1 ] in
    rw none ((tt, inl (refl, no_engine), refl), λ gate h. no_engine (inl (_, h.engine)))
