-- Views and answers as words of a line.
use Rattle.std.specs.Prelude.{ℕ, List, codes}
use Rattle.vacm_core.specs.declared.access.ViewType.{ViewType}
use Rattle.vacm_core.specs.declared.access.ViewType.TheVariants.{Read, Write, Notify}
use Rattle.vacm_core.specs.declared.access.Access.{Access}
use Rattle.vacm_core.specs.declared.access.Access.TheVariants.{NoSuchContext, NoGroupName, NoAccessEntry, NoSuchView}
use Rattle.vacm_core.specs.declared.access.Access.TheVariants.{NotInView, AccessAllowed}

abbrev pub view_word : ViewType → List ℕ
view_word Read = codes "read"
view_word Write = codes "write"
view_word Notify = codes "notify"

-- answers (RFC 3415, section 3)
abbrev pub access_word : Access → List ℕ
access_word AccessAllowed = codes "accessAllowed"
access_word NotInView = codes "notInView"
access_word NoSuchView = codes "noSuchView"
access_word NoAccessEntry = codes "noAccessEntry"
access_word NoGroupName = codes "noGroupName"
access_word NoSuchContext = codes "noSuchContext"
