-- What of a device's variables a message may see (RFC 3413, section 3.2; RFC 3416, section 4.2.1).
--
-- `Known`: the object types of a device and its variables. `SeenBy`: such messages may see the variable of this
-- name. `IsGot`: the answer to a name in a GetRequest: the variable of this name, if it is there and is seen; else
-- noSuchInstance, if the name is seen and begins with an object type of the device; else noSuchObject.
use Rattle.std.specs.Prelude.{◌≡◌, ◌⊎◌, ℕ, List, [], length, take, Contains, Some}
use Rattle.snmp_msg.specs.Values.{syntax_of}
use Rattle.snmp_msg.specs.Variables.{Variable}
use Rattle.snmp_msg.specs.declared.value.Syntax.{Syntax}
use Rattle.snmp_msg.specs.declared.value.Syntax.TheVariants.{NoSuchObject, NoSuchInstance}

-- what a device knows: the names of its object types, and its variables
pub record Known : Type 0 where
  pub objects : List (List ℕ)
  pub variables : List Variable

-- the name begins with these arcs
abbrev pub BeginsWith : List ℕ → List ℕ → Type 0
BeginsWith beginning name = take (length beginning) name ≡ beginning

-- the name begins with that of an object type of the device
pub record HasObject (device : Known) (name : List ℕ) : Type 0 where
  pub object : List ℕ
  pub there : Contains device.objects object
  pub begins : BeginsWith object name

-- the variable is there, has the name, and is seen
pub record IsSeenVariable (device : Known) (Seen : List ℕ → Type 0) (name : List ℕ) (v : Variable) : Type 0 where
  pub there : Contains device.variables v
  pub named : v.name ≡ name
  pub seen : Seen name

-- no variable of the name is there and seen
abbrev pub NoneSeen : Known → (List ℕ → Type 0) → List ℕ → Type 0
NoneSeen device Seen name = (v : Variable) → ¬ IsSeenVariable device Seen name v

-- the name with an exception where a value would stand, whose content is empty (RFC 3416, section 3)
pub record IsException (syntax : Syntax) (name : List ℕ) (v : Variable) : Type 0 where
  pub named : v.name ≡ name
  pub syntax_is : syntax_of v.tag ≡ Some syntax
  pub empty : v.content ≡ []

-- a name that is seen, without a variable, of an object type that the device has
pub record IsMissingInstance (device : Known) (Seen : List ℕ → Type 0) (name : List ℕ) : Type 0 where
  pub none : NoneSeen device Seen name
  pub seen : Seen name
  pub object : HasObject device name

-- a name without a variable, that isn't seen or is of no object type of the device
pub record IsMissingObject (device : Known) (Seen : List ℕ → Type 0) (name : List ℕ) : Type 0 where
  pub none : NoneSeen device Seen name
  pub no_object : Seen name → ¬ HasObject device name

-- what the name is answered with in a GetRequest
abbrev pub IsGot : Known → (List ℕ → Type 0) → List ℕ → Variable → Type 0
IsGot device Seen name v = IsSeenVariable device Seen name v
    ⊎ (IsMissingInstance device Seen name × IsException NoSuchInstance name v)
    ⊎ (IsMissingObject device Seen name × IsException NoSuchObject name v)
