-- The numbers by which calls name levels, views, counters, answers on access and what becomes of messages.
--
-- `counter_of`, `unhandled_of`, `unhandled_number`, `access_of`: counters, what becomes of a message and
-- answers on access by their numbers; `unhandled_code`, `IsStatusCode`: the numbers of what calls tell of
-- them.
use Rattle.std.specs.Prelude.{ℕ, ◌==◌, if◌then◌else◌, Option, Some, None}
use Rattle.snmp_ber.specs.declared.level.Level.{Level}
use Rattle.snmp_ber.specs.declared.level.Level.TheVariants.{NoAuthNoPriv, AuthNoPriv, AuthPriv}
use Rattle.vacm_core.specs.declared.access.ViewType.{ViewType}
use Rattle.vacm_core.specs.declared.access.ViewType.TheVariants.{Read, Write, Notify}
use Rattle.vacm_core.specs.declared.access.Access.{Access}
use Rattle.vacm_core.specs.declared.access.Access.TheVariants.{NoSuchContext, NoGroupName, NoAccessEntry, NoSuchView}
use Rattle.vacm_core.specs.declared.access.Access.TheVariants.{NotInView, AccessAllowed}
use Rattle.snmp_outgoing.specs.declared.counter.Counter.{Counter}
use Rattle.snmp_outgoing.specs.declared.counter.Counter.TheVariants as counters
use Rattle.snmp_agent.specs.declared.unhandled.Unhandled.{Unhandled}
use Rattle.snmp_agent.specs.declared.unhandled.Unhandled.TheVariants.{NoRequest, UnknownPduHandlers}
use Rattle.snmp_agent.specs.declared.unhandled.Unhandled.TheVariants.{UnavailableContexts, UnknownContexts}

-- 1 noAuthNoPriv, 2 authNoPriv, 3 authPriv (SnmpSecurityLevel, RFC 3411, section 5)
abbrev pub level_of : ℕ → Option Level
level_of n = if n == 1 then Some NoAuthNoPriv else if n == 2 then Some AuthNoPriv else if n == 3 then Some
    AuthPriv else None

-- 0 read, 1 write, 2 notify
abbrev pub view_of : ℕ → Option ViewType
view_of n = if n == 0 then Some Read else if n == 1 then Some Write else if n == 2 then Some Notify else None

-- 0 accessAllowed, 1 notInView, 2 noSuchView, 3 noAccessEntry, 4 noGroupName, 5 noSuchContext (RFC 3415, section 3)
abbrev pub access_of : ℕ → Option Access
access_of n =
    if n == 0 then Some AccessAllowed else if n == 1 then Some NotInView else if n == 2 then Some NoSuchView else if n
    == 3 then Some NoAccessEntry else
    if n == 4 then Some NoGroupName else if n == 5 then Some NoSuchContext else None

-- behind usmStats 1 to 6: 7 snmpUnknownPDUHandlers, 8 snmpUnavailableContexts, 9 snmpUnknownContexts, 10
-- snmpInBadVersions, 11 snmpInASNParseErrs, 12 snmpUnknownSecurityModels, 13 snmpInvalidMsgs, 14
-- snmpSilentDrops
abbrev pub counter_of : ℕ → Option Counter
counter_of n =
    if n == 7 then Some counters.UnknownPduHandlers else if n == 8 then Some counters.UnavailableContexts else if n
    == 9 then Some counters.UnknownContexts else
    if n == 10 then Some counters.InBadVersions else if n == 11 then Some counters.InAsnParseErrs else if n == 12
    then Some counters.UnknownSecurityModels else
    if n == 13 then Some counters.InvalidMsgs else if n == 14 then Some counters.SilentDrops else None

-- why nothing answers a message: 1 no request waits for it, or its counter's number
abbrev pub unhandled_of : ℕ → Option Unhandled
unhandled_of n =
    if n == 1 then Some NoRequest else if n == 7 then Some UnknownPduHandlers else if n == 8 then Some
    UnavailableContexts else
    if n == 9 then Some UnknownContexts else None

-- the same the other way round, and 0 where it is to be answered
abbrev pub unhandled_number : Option Unhandled → ℕ
unhandled_number None = 0
unhandled_number (Some NoRequest) = 1
unhandled_number (Some UnknownPduHandlers) = 7
unhandled_number (Some UnavailableContexts) = 8
unhandled_number (Some UnknownContexts) = 9
