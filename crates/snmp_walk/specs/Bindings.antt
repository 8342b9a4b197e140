-- What a device's binding may be (RFC 3416, sections 4.2.1 and 4.2.2).
--
-- `IsValue`, `IsReply`: a value, and what a Response to a GetRequest may have in its place. `FitsPlace`: the binding
-- answers what was asked. `Misfits`: why it doesn't.
use Rattle.std.specs.Prelude.{◌≡◌, ◌≢◌, ◌⊎◌, List, Some, ℕ}
use Rattle.snmp_msg.specs.Variables.{Variable}
use Rattle.snmp_msg.specs.Values.{IsValueOf, syntax_of}
use Rattle.snmp_msg.specs.declared.value.Syntax.TheVariants.{NoSuchObject, NoSuchInstance}
use Rattle.vacm_next.specs.Next.{IsBefore}
use Rattle.snmp_responder.specs.Bulk.{IsEnded}
use Rattle.snmp_walk.specs.declared.operation.ReadOperation.{ReadOperation}
use Rattle.snmp_walk.specs.declared.operation.ReadOperation.TheVariants.{Get, GetNext}
use Rattle.snmp_walk.specs.declared.misfit.Misfit.{Misfit}
use Rattle.snmp_walk.specs.declared.misfit.Misfit.TheVariants.{OtherName, NotAfter, NotValue, AfterEnd}
use Rattle.snmp_walk.specs.declared.given.GivenVariable.{GivenVariable}

-- what a variable says that a device gave
abbrev pub given_says : GivenVariable → Variable
given_says g = record { name = g.name; tag = g.tag; content = g.content.items }

-- a value, noSuchObject or noSuchInstance
pub record IsReply (v : Variable) : Type 0 where
  pub value : IsValueOf v.tag v.content
  pub not_end : ¬ IsEnded v

-- a value
pub record IsValue (v : Variable) : Type 0 where
  pub reply : IsReply v
  pub not_object : syntax_of v.tag ≢ Some NoSuchObject
  pub not_instance : syntax_of v.tag ≢ Some NoSuchInstance

-- the binding answers a request for this name: of a GetRequest the very name; of a walk a value of a later name, or
-- endOfMibView, whatever name it has
abbrev pub FitsPlace : ReadOperation → List ℕ → Variable → Type 0
FitsPlace Get asked v = (v.name ≡ asked) × IsReply v
FitsPlace GetNext asked v = IsEnded v ⊎ (IsBefore asked v.name × IsValue v)

-- why the binding doesn't
abbrev pub Misfits : ReadOperation → List ℕ → Variable → Misfit → Type 0
Misfits Get asked v OtherName = v.name ≢ asked
Misfits Get asked v NotAfter = ⊥
Misfits Get asked v NotValue = (v.name ≡ asked) × ¬ IsReply v
Misfits Get asked v AfterEnd = ⊥
Misfits GetNext asked v OtherName = ⊥
Misfits GetNext asked v NotAfter = (¬ IsEnded v) × ¬ IsBefore asked v.name
Misfits GetNext asked v NotValue = (¬ IsEnded v) × IsBefore asked v.name × ¬ IsValue v
Misfits GetNext asked v AfterEnd = ⊥
