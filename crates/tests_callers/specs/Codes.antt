-- Two keys that give one datagram the same code.
use Rattle.std.specs.Prelude.{◌≡◌, ℕ, List, ◌++◌, length, replicate}
use Rattle.snmp_message.specs.Layout.{Parts}
use Rattle.snmp_message.specs.Security.{Fields, IsCut}
use Rattle.usm_keys.specs.AuthKey.{AuthKey}
use Rattle.usm_keys.specs.Keys.{kul}
use Rattle.usm_keys.specs.Protocols.{hash_of, mac}

-- the code of the datagram, cut round the field of its code, under the key localised to the engine
abbrev pub code_of : AuthKey → Fields → List ℕ → List ℕ → List ℕ
code_of key f front back =
    mac key.auth (kul (hash_of key.auth) key.octets f.engine) (front ++ replicate (length f.auth) 0 ++ back)

-- The datagram, cut round the field of its code, has one code under both keys.
pub record HaveOneCode (key other : AuthKey) (w : List ℕ) : Type 0 where
  pub parts : Parts
  pub fields : Fields
  pub front : List ℕ
  pub back : List ℕ
  pub cut : IsCut w parts fields front back
  pub codes : code_of key fields front back ≡ code_of other fields front back
