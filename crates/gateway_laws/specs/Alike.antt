-- Devices that a message can't tell apart (RFC 3415, section 1).
--
-- `LookAlike`: of the variables that are seen, one has each that the other has.
use Rattle.std.specs.Prelude.{◌≡◌, ◌⊎◌, ℕ, List, Contains}
use Rattle.snmp_msg.specs.Variables.{Variable}
use Rattle.snmp_msg.specs.declared.value.Syntax.TheVariants.{NoSuchInstance, NoSuchObject}
use Rattle.snmp_responder.specs.Instrumentation.{IsException, Known}

-- each variable of one that is seen is one of the other
abbrev pub ShowsNoMore : (List ℕ → Type 0) → Known → Known → Type 0
ShowsNoMore Seen one other = (v : Variable) → Seen v.name → Contains one.variables v → Contains other.variables v

pub record LookAlike (Seen : List ℕ → Type 0) (one other : Known) : Type 0 where
  pub there : ShowsNoMore Seen one other
  pub back : ShowsNoMore Seen other one

-- the name has noSuchObject or noSuchInstance
abbrev pub IsMissing : List ℕ → Variable → Type 0
IsMissing name v = IsException NoSuchObject name v ⊎ IsException NoSuchInstance name v

-- they are the same, or both say that there is no such variable
abbrev pub IsAlike : List ℕ → Variable → Variable → Type 0
IsAlike name v w = (v ≡ w) ⊎ (IsMissing name v × IsMissing name w)
