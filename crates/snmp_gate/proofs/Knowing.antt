-- What is known of a request that begins: if its Response says what one said before, and of a Set.
use Rattle.std.specs.Prelude.{◌≤◌, ℕ, List, Option}
use Rattle.std.proofs.Common.{ap, arith, refl}
use Rattle.vacm_core.specs.Tables.{Tables}
use Rattle.snmp_gate.specs.Beginning.{IsFirstOnward, IsKnownEnd, IsKnownOnward, IsSet}
use Rattle.snmp_gate.specs.Question.{Question}
use Rattle.snmp_gate.specs.Said.{IsUnasked, Said, said_nothing}
use Rattle.snmp_gate.specs.Work.{AsksNoSet, IsToldFirst, OnwardStands, RepeatsAtMost, TaskStands, most_repetitions}
use Rattle.snmp_gate.specs.declared.onward.Onward.{Onward}
use Rattle.snmp_gate.specs.declared.onward.Onward.TheVariants.{Asks, Ends}
use Rattle.snmp_gate.specs.declared.sets.RememberedSet.{RememberedSet}
use Rattle.snmp_gate.specs.declared.task.Task.{Task}
use Rattle.snmp_gate.specs.declared.work.RequestEnd.{RequestEnd}
use Rattle.snmp_gate.specs.declared.work.RequestEnd.TheVariants as ending
use Rattle.snmp_gate.proofs.SetsGoing.{task_is_set}

first_known : (now : ℕ) (digest : Option (List ℕ)) (sets : List RememberedSet) (e : RequestEnd) → IsToldFirst e → IsKnownEnd now digest sets e
first_known now digest sets (ending.Repeated says) first = absurd first
first_known now digest sets (ending.Own says) first = tt
first_known now digest sets (ending.RoundsUsedUp says) first = tt
first_known now digest sets (ending.Columns whole) first = tt
first_known now digest sets (ending.Front d) first = tt
first_known now digest sets (ending.Unhandled why) first = tt
first_known now digest sets ending.Silent first = tt

pub first_known_onward : (now : ℕ) (digest : Option (List ℕ)) (sets : List RememberedSet) (o : Onward) → IsFirstOnward o → IsKnownOnward now digest sets o
first_known_onward now digest sets (Asks named) first = tt
first_known_onward now digest sets (Ends e) first = first_known now digest sets e first

pub no_set_known : (now : ℕ) (digest : Option (List ℕ)) (sets : List RememberedSet) (o : Onward) → AsksNoSet o → IsKnownOnward now digest sets o
no_set_known now digest sets (Asks named) no_set = tt
no_set_known now digest sets (Ends e) no_set = first_known now digest sets e no_set

-- a Set has none
set_repeats : (tables : Tables) (q : Question) (told : Said) (t : Task) → IsSet q → TaskStands tables q told t → (most : ℕ) → most_repetitions t ≤ most
set_repeats tables q told t set stands most = omega (arith, ap most_repetitions (task_is_set tables q told t stands set))

pub set_onward_repeats : (tables : Tables) (q : Question) (o : Onward) → IsSet q → ((told : Said) → IsUnasked told → OnwardStands tables q told o) → (most : ℕ) → RepeatsAtMost most o
set_onward_repeats tables q (Asks named) set stands most = set_repeats tables q said_nothing named.task set (stands said_nothing refl) most
set_onward_repeats tables q (Ends e) set stands most = tt
