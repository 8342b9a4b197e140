-- What is reported of the texts that a replay is handed.
use Rattle.std.proofs.Common.{List, inr}
use Rattle.engine_clock.specs.Faults.{IsFaultOf}
use Rattle.engine_clock.specs.declared.saved.ClockFault.{ClockFault}
use Rattle.engine_clock.specs.declared.saved.ClockFault.TheVariants as clock_faults
use Rattle.usm_users.specs.User.{User}
use Rattle.vacm_core.specs.Tables.{Tables}
use Rattle.snmpsec_config.specs.Refusals.{Loads}
use Rattle.snmpsec_output.specs.Merge.{TellsFault}
use Rattle.snmpsec_output.specs.Questions.{Printed}
use Rattle.snmpsec_commands.specs.Replay.{Handed, Refuses}

pub clocks_refused : (h : Handed) (users : List User) (tables : Tables) (fault : ClockFault) (printed : Printed) → Loads h.config users tables → IsFaultOf h.moment h.clocks fault → TellsFault h.name fault printed → Refuses h printed.out
clocks_refused h users tables (clock_faults.Line n) printed loads fault tells = inr (record { users = users; tables = tables; loads = loads; number = n; fault = fault; text = tells.0 })
clocks_refused h users tables clock_faults.OutOfMemory printed loads fault tells = absurd tells
