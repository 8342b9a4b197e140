-- Why a request has no Response (RFC 3412, section 7.2; RFC 3413, section 3.2; RFC 3415, section 3.2).
--
-- `IsUnhandledBy`: why no application answers what a request asks. `EndsOnlyBy`: the causes for which it may end
-- without a Response. `HasResponse`: it ends with one. `EndsFor`: or no application answers it. `IfOnwardEnds`,
-- `IfSetEnds`, `IfWorkEnds`: if it ends, it does so.
use Rattle.std.specs.Prelude.{◌≡◌, ◌⊎◌, ⊤, ℕ, List}
use Rattle.snmp_msg.specs.PduTypes.{IsResponse}
use Rattle.vacm_core.specs.Allowed.{HasContext}
use Rattle.vacm_core.specs.Tables.{Tables}
use Rattle.snmp_agent.specs.Dispatch.{IsCommand}
use Rattle.snmp_agent.specs.declared.unhandled.Unhandled.{Unhandled}
use Rattle.snmp_agent.specs.declared.unhandled.Unhandled.TheVariants.{NoRequest, UnknownPduHandlers}
use Rattle.snmp_agent.specs.declared.unhandled.Unhandled.TheVariants.{UnavailableContexts, UnknownContexts}
use Rattle.snmp_gate.specs.Devices.{IsUnknownContext}
use Rattle.snmp_gate.specs.Question.{Question}
use Rattle.snmp_gate.specs.declared.devices.Device.{Device}
use Rattle.snmp_gate.specs.declared.first_work.SetBegins.{SetBegins}
use Rattle.snmp_gate.specs.declared.first_work.SetBegins.TheVariants as begins
use Rattle.snmp_gate.specs.declared.onward.Onward.{Onward}
use Rattle.snmp_gate.specs.declared.onward.Onward.TheVariants as onward
use Rattle.snmp_gate.specs.declared.work.RequestEnd.{RequestEnd}
use Rattle.snmp_gate.specs.declared.work.RequestEnd.TheVariants as ending
use Rattle.snmp_gate.specs.declared.work.Work.{Work}
use Rattle.snmp_gate.specs.declared.work.Work.TheVariants as work

-- a command responder is registered for what it asks: in a context of this engine, by a PDU that one answers
abbrev pub IsRegisteredFor : List ℕ → Question → Type 0
IsRegisteredFor engine q = (q.engine ≡ engine) × IsCommand q.tag

-- no row of the contexts has the contextName (noSuchContext), or no device has it
abbrev pub HasNoContext : Tables → List Device → List ℕ → Type 0
HasNoContext tables devices context = (¬ HasContext tables.contexts context) ⊎ IsUnknownContext devices context

-- why no application of this engine answers it; none ever says by itself that a context is unavailable
abbrev pub IsUnhandledBy : List ℕ → Tables → List Device → Question → Unhandled → Type 0
IsUnhandledBy engine tables devices q NoRequest = IsResponse q.tag
IsUnhandledBy engine tables devices q UnknownPduHandlers = ¬ IsRegisteredFor engine q
IsUnhandledBy engine tables devices q UnknownContexts = HasNoContext tables devices q.context
IsUnhandledBy engine tables devices q UnavailableContexts = ⊥

-- it ends without a Response only for a cause of these, and in silence only if this holds
abbrev pub EndsOnlyBy : (Unhandled → Type 0) → Type 0 → RequestEnd → Type 0
EndsOnlyBy Cause InSilence (ending.Unhandled why) = Cause why
EndsOnlyBy Cause InSilence ending.Silent = InSilence
EndsOnlyBy Cause InSilence _ = ⊤

abbrev pub HasResponse : RequestEnd → Type 0
HasResponse e = EndsOnlyBy (λ (why : Unhandled). ⊥) ⊥ e

abbrev pub EndsFor : List ℕ → Tables → List Device → Question → RequestEnd → Type 0
EndsFor engine tables devices q e = EndsOnlyBy (IsUnhandledBy engine tables devices q) ⊥ e

abbrev pub IfOnwardEnds : (RequestEnd → Type 0) → Onward → Type 0
IfOnwardEnds Holds (onward.Asks named) = ⊤
IfOnwardEnds Holds (onward.Ends e) = Holds e

abbrev pub IfSetEnds : (RequestEnd → Type 0) → SetBegins → Type 0
IfSetEnds Holds (begins.Onward o) = IfOnwardEnds Holds o
IfSetEnds Holds begins.Unknown = ⊤

abbrev pub IfWorkEnds : (RequestEnd → Type 0) → Work → Type 0
IfWorkEnds Holds (work.Open o) = ⊤
IfWorkEnds Holds (work.Ends e) = Holds e
