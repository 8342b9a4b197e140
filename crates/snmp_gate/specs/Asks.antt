-- What a device is asked at once, by request-id (RFC 3416, section 3).
--
-- `Waits`: the device is asked with this request-id, and didn't answer. `IsNextFree`: the first request-id, from one
-- on, with which it isn't asked. `Ends`: an ask is answered, or given up.
use Rattle.std.specs.Prelude.{◌≡◌, ℕ, ◌+◌, ◌%◌, ◌<◌, List, length, Contains, remove, slice_index_or}
use Rattle.std.specs.List.{HoldsAt}
use Rattle.snmp_gate.specs.declared.asks.DeviceAsk.{DeviceAsk}
use Rattle.snmp_gate.specs.declared.asks.TheConstants.{REQUEST_IDS}

abbrev pub ask_of : ℕ → ℕ → DeviceAsk
ask_of id request = record { id = id; request = request }

-- one of the asks has this request-id
pub record Waits (asks : List DeviceAsk) (id : ℕ) : Type 0 where
  pub ask : DeviceAsk
  pub there : Contains asks ask
  pub id_is : ask.id ≡ id

-- the place of an ask with this request-id
pub record IsAskAt (asks : List DeviceAsk) (id place : ℕ) : Type 0 where
  pub within : place < length asks
  pub id_is : HoldsAt (λ (ask : DeviceAsk). ask.id ≡ id) asks place

-- the request-id that comes so many after another one; after the last one comes 0
abbrev pub id_after : ℕ → ℕ → ℕ
id_after id n = (id + n) % REQUEST_IDS

-- the first request-id, from this one on, with which nothing is asked
pub record IsNextFree (asks : List DeviceAsk) (id free : ℕ) : Type 0 where
  pub n : ℕ
  pub free_is : free ≡ id_after id n
  pub is_free : ¬ Waits asks free
  pub first : (k : ℕ) → k < n → Waits asks (id_after id k)

-- this ask is answered or given up, and the others stay as they are
pub record Ends (old : List DeviceAsk) (ask : DeviceAsk) (new : List DeviceAsk) : Type 0 where
  pub place : ℕ
  pub within : place < length old
  pub ask_is : ask ≡ slice_index_or old place ask
  pub new_is : new ≡ remove old place
