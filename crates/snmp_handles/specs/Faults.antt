-- Why a call of a handle isn't done, and the numbers that tell it.
--
-- `code`, `fault_code`: the number of what a call answers. `unhandled_code`, `IsStatusCode`: those of what it tells.
use Rattle.std.specs.Prelude.{◌≡◌, ◌<◌, ◌⊎◌, ℕ, ℤ, pos, negsuc, Option, Some, None, Result, Ok, Err}
use Rattle.vacm_core.specs.declared.access.Access.{Access}
use Rattle.snmp_agent.specs.Statuses.{IsStatusOf, status_number}
use Rattle.snmp_agent.specs.declared.status.Status.{Status}
use Rattle.snmp_agent.specs.declared.unhandled.Unhandled.{Unhandled}
use Rattle.snmp_message.specs.Numbers.{refusal_number}
use Rattle.snmp_handles.specs.Numbers.{access_of, unhandled_number}
use Rattle.snmp_handles.specs.declared.fault.CallFault.{CallFault}
use Rattle.snmp_handles.specs.declared.fault.CallFault.TheVariants.{Refused, BadArgument, NothingTaken, NotAsked}
use Rattle.snmp_handles.specs.declared.fault.CallFault.TheVariants.{BadBindings, ShortBuffer, BadConfiguration}
use Rattle.snmp_handles.specs.declared.fault.CallFault.TheVariants.{BadClocks, TooManyRequests}

-- a refusal has its own number, and a fault of the call a negative one
abbrev pub fault_code : CallFault → ℤ
fault_code (Refused refusal) = pos (refusal_number refusal)
fault_code BadArgument = negsuc 0
fault_code NothingTaken = negsuc 1
fault_code NotAsked = negsuc 2
fault_code BadBindings = negsuc 3
fault_code ShortBuffer = negsuc 4
fault_code BadConfiguration = negsuc 5
fault_code BadClocks = negsuc 6
fault_code TooManyRequests = negsuc 7

-- 0 where the call was done
abbrev pub code : {V : Type 0} → Result V CallFault → ℤ
code (Ok done) = pos 0
code (Err fault) = fault_code fault

-- why nothing answers what is kept, or 0
abbrev pub unhandled_code : Result (Option Unhandled) CallFault → ℤ
unhandled_code (Ok why) = pos (unhandled_number why)
unhandled_code (Err fault) = fault_code fault

-- The number of what becomes of a variable for which access was answered so, in a request whose PDU has this
-- tag; or that of BadArgument, where no answer has the number or the tag isn't an octet.
abbrev pub IsStatusCode : ℕ → ℕ → ℤ → Type 0
IsStatusCode access tag told =
    ((answer : Access) × (status : Status) × (access_of access ≡ Some answer) × (tag < 256)
    × IsStatusOf answer tag status × (told ≡ pos (status_number status)))
    ⊎ (((access_of access ≡ None) ⊎ (255 < tag)) × (told ≡ fault_code BadArgument))
