-- What the values of the code say.
use Rattle.std.specs.Prelude.{ℕ, List}
use Rattle.vacm_core.specs.declared.access.ViewType.TheVariants.{Read}
use Rattle.vacm_next.specs.Next.{Sees}
use Rattle.snmp_responder.specs.declared.viewer.Viewer.{Viewer}

-- such messages may see the variable of this name, in the read view
unfoldable pub seen_by : Viewer → List ℕ → Type 0
seen_by viewer = Sees viewer.vacm.now (record {
  model = viewer.model;
  name = viewer.name.now;
  level = viewer.level;
  context = viewer.context.now;
}) Read
