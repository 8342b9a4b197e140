-- How a Set begins.
use Rattle.std.specs.Prelude.{⊤}
use Rattle.vacm_core.specs.Tables.{Tables}
use Rattle.snmp_gate.specs.Question.{Question}
use Rattle.snmp_gate.specs.Said.{IsUnasked, Said}
use Rattle.snmp_gate.specs.Work.{OnwardStands}
use Rattle.snmp_gate.specs.declared.first_work.SetBegins.{SetBegins}
use Rattle.snmp_gate.specs.declared.first_work.SetBegins.TheVariants.{Onward, Unknown}

abbrev pub SetStandsSo : Tables → Question → SetBegins → Type 0
SetStandsSo tables q (Onward onward) = (told : Said) → IsUnasked told → OnwardStands tables q told onward
SetStandsSo tables q Unknown = ⊤
