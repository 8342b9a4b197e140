-- The security levels (RFC 3411, SnmpSecurityLevel).
use Rattle.std.specs.Prelude.{ℕ}
use Rattle.snmp_ber.specs.declared.level.Level.{Level}
use Rattle.snmp_ber.specs.declared.level.Level.TheVariants.{NoAuthNoPriv, AuthNoPriv, AuthPriv}

-- noAuthNoPriv is below authNoPriv, and this below authPriv
abbrev pub level_number : Level → ℕ
level_number NoAuthNoPriv = 1
level_number AuthNoPriv = 2
level_number AuthPriv = 3
