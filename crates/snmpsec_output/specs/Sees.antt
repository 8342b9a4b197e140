-- What `snmpsec sees` makes of a configuration and a name.
--
-- `PrintsSeen config word name printed`. A MODEL out of its form is reported first (`TellsModel`), then a
-- configuration that is refused with what is wrong with it, and else it is listed what the name sees (`ListsSeen`). In
-- which words that is listed isn't defined.
use Rattle.std.specs.Prelude.{◌≡◌, ◌⊎◌, ℕ, if◌then◌else◌, List, [], codes}
use Rattle.usm_users.specs.declared.load.UserRow.{UserRow}
use Rattle.vacm_core.specs.Tables.{Tables}
use Rattle.snmpsec_config.specs.Refusals.{SaysSound}
use Rattle.snmpsec_access.specs.Seen.{AreSeen, Decided, any_includes}
use Rattle.snmpsec_output.specs.CheckConfig.{Explains}
use Rattle.snmpsec_output.specs.Questions.{Printed, IsModelWord, IsNoModel}

-- The word MODEL, which is out of its form, is reported.
pub record TellsModel (word : List ℕ) (printed : Printed) : Type 0 where
  pub wrong : IsNoModel word
  pub out : printed.out ≡ []
  pub err : printed.err ≡ codes "snmpsec: bad word MODEL\n"
  pub status : printed.status ≡ 2

-- What the name sees, over the rows that the configuration stands for; the status is 0 where a row of it includes
-- something.
pub record ListsSeen (config : List ℕ) (model : ℕ) (name : List ℕ) (printed : Printed) : Type 0 where
  pub users : List UserRow
  pub rows : Tables
  pub says : SaysSound config users rows
  pub decisions : List Decided
  pub are : AreSeen rows model name decisions
  pub err : printed.err ≡ []
  pub status : printed.status ≡ (if any_includes decisions then 0 else 1)

-- A word out of its form is reported first, then a configuration that is refused and what is wrong with it, and
-- else what the name sees.
abbrev pub PrintsSeen : List ℕ → List ℕ → List ℕ → Printed → Type 0
PrintsSeen config word name printed =
    TellsModel word printed
    ⊎ ((model : ℕ) × IsModelWord word model × (Explains config printed ⊎ ListsSeen config model name printed))
