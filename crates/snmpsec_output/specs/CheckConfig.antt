-- What `snmpsec check-config` makes of a configuration.
--
-- `ChecksConfig config printed`. It stands for rows, and the status is 0; or its refusal is printed, and beside it what
-- is wrong, with status 1. `ChecksHinted`: the same where hints are wanted (`hints_of`). In which words rows are
-- counted, hints are given and the wrong is explained isn't defined.
use Rattle.std.specs.Prelude.{◌≡◌, ◌≢◌, ◌⊎◌, ℕ, List, [], ◌++◌, codes}
use Rattle.usm_users.specs.declared.load.UserRow.{UserRow}
use Rattle.vacm_core.specs.Tables.{Tables}
use Rattle.snmpsec_config.specs.declared.fault.ConfigFault.{ConfigFault}
use Rattle.snmpsec_config.specs.Refusals.{SaysSound, RefusesText, refusal_line}
use Rattle.snmpsec_access.specs.Hints.{hints_of}
use Rattle.snmpsec_output.specs.Questions.{Printed}

-- The configuration stands for rows.
pub record Counts (config : List ℕ) (printed : Printed) : Type 0 where
  pub users : List UserRow
  pub rows : Tables
  pub says : SaysSound config users rows
  pub some : printed.out ≢ []
  pub err : printed.err ≡ []
  pub status : printed.status ≡ 0

-- The refusal of the configuration is printed, and beside it what is wrong and what is wanted.
pub record Explains (config : List ℕ) (printed : Printed) : Type 0 where
  pub fault : ConfigFault
  pub told : RefusesText config fault
  pub out : printed.out ≡ refusal_line fault ++ codes "\n"
  pub why : List ℕ
  pub err : printed.err ≡ codes "snmpsec: " ++ (why ++ codes "\n")
  pub status : printed.status ≡ 1

abbrev pub ChecksConfig : List ℕ → Printed → Type 0
ChecksConfig config printed = Counts config printed ⊎ Explains config printed

-- ---- where hints are wanted

-- The configuration stands for rows, and nothing is printed on standard error if there is no hint of them.
pub record CountsHinted (config : List ℕ) (printed : Printed) : Type 0 where
  pub users : List UserRow
  pub rows : Tables
  pub says : SaysSound config users rows
  pub some : printed.out ≢ []
  pub err : hints_of users rows ≡ [] → printed.err ≡ []
  pub status : printed.status ≡ 0

abbrev pub ChecksHinted : List ℕ → Printed → Type 0
ChecksHinted config printed = CountsHinted config printed ⊎ Explains config printed
