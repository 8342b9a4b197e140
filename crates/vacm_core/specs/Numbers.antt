-- The numbers of answers.
use Rattle.std.specs.Prelude.{ℕ}
use Rattle.vacm_core.specs.declared.access.Access.{Access}
use Rattle.vacm_core.specs.declared.access.Access.TheVariants.{NoSuchContext, NoGroupName, NoAccessEntry, NoSuchView}
use Rattle.vacm_core.specs.declared.access.Access.TheVariants.{NotInView, AccessAllowed}

abbrev pub access_number : Access → ℕ
access_number AccessAllowed = 0
access_number NotInView = 1
access_number NoSuchView = 2
access_number NoAccessEntry = 3
access_number NoGroupName = 4
access_number NoSuchContext = 5
