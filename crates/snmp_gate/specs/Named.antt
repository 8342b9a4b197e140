-- Whether a device can be asked (RFC 3416, section 3; X.690, section 8.19).
--
-- `TaskNamed`: each name that the device is asked can be spelled as an OBJECT IDENTIFIER.
use Rattle.std.specs.Prelude.{⊤, ◌∷◌, [], ℕ, List}
use Rattle.std.proofs.Props.{props}
use Rattle.snmp_ber.specs.Oid.{IsObjectId}
use Rattle.snmp_walk.specs.ObjectIds.{AllNamed, BulkAllNamed, IsNamed}
use Rattle.snmp_walk.specs.declared.column.Progress.{Progress}
use Rattle.snmp_walk.specs.declared.column.Progress.TheVariants as progress
use Rattle.snmp_gate.specs.declared.task.Task.{Task}
use Rattle.snmp_gate.specs.declared.task.Task.TheVariants.{Read, Bulk, Set}

abbrev pub TaskNamed : Task → Type 0
TaskNamed (Read operation d) = AllNamed d
TaskNamed (Bulk by d) = BulkAllNamed d
TaskNamed Set = ⊤

object_id_prop : (arcs : List ℕ) → IsProp (IsObjectId arcs)
object_id_prop [] = Prim.hlevel props
object_id_prop (a ∷ []) = Prim.hlevel props
object_id_prop (a ∷ b ∷ arcs) = Prim.hlevel props

named_prop : (p : Progress) → IsProp (IsNamed p)
named_prop (progress.Wanting from) = object_id_prop from
named_prop (progress.Asked ask) = Prim.hlevel (props, object_id_prop)
named_prop (progress.Given given) = Prim.hlevel props
named_prop progress.Hidden = Prim.hlevel props
named_prop progress.Ended = Prim.hlevel props

-- it holds in one way at most
pub TaskNamed-prop : (t : Task) → IsProp (TaskNamed t)
TaskNamed-prop (Read operation d) = Prim.hlevel (props, named_prop)
TaskNamed-prop (Bulk by d) = Prim.hlevel (props, named_prop)
TaskNamed-prop Set = Prim.hlevel props
