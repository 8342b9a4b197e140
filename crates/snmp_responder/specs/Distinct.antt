-- Devices of which no two variables have one name.
use Rattle.std.specs.Prelude.{◌≡◌, Contains}
use Rattle.snmp_msg.specs.Variables.{Variable}
use Rattle.snmp_responder.specs.Instrumentation.{Known}

-- no two variables of the device have one name
abbrev pub HasDistinctNames : Known → Type 0
HasDistinctNames device = (v w : Variable) → Contains device.variables v → Contains device.variables w
    → v.name ≡ w.name → v ≡ w
