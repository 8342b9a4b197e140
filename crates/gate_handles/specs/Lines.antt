-- A line that is copied for a log. What it says isn't defined: it is for people.
use Rattle.std.specs.Prelude.{◌≡◌, ◌⊎◌, ⊤, ℕ, List, Option, Result, Err}
use Rattle.snmp_message.specs.declared.refusal.Refusal.TheVariants.{OutOfMemory}
use Rattle.snmp_handles.specs.Parts.{CopiesMessage, CopiesNothing}
use Rattle.snmp_handles.specs.declared.fault.CallFault.{CallFault}
use Rattle.snmp_handles.specs.declared.fault.CallFault.TheVariants.{Refused}

-- A text is copied, if there is one; or there is no memory for it.
abbrev pub CopiesLine : List ℕ → List ℕ → ℕ → ℕ → Result ⊤ CallFault → Type 0
CopiesLine out out_new written written_new told =
    ((text : Option (List ℕ)) × CopiesMessage text out out_new written written_new told)
    ⊎ ((told ≡ Err (Refused OutOfMemory)) × CopiesNothing out out_new written written_new)
