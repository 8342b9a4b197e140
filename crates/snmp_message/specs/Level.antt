-- The security level that the flags say (RFC 3412, section 6.4).
use Rattle.std.specs.Prelude.{if◌then◌else◌}
use Rattle.snmp_ber.specs.declared.level.Level.{Level}
use Rattle.snmp_ber.specs.declared.level.Level.TheVariants.{NoAuthNoPriv, AuthNoPriv, AuthPriv}
use Rattle.snmp_message.specs.declared.header.Header.{Header}

-- (where priv is set, auth is)
abbrev pub level_of : Header → Level
level_of h = if h.auth then (if h.privacy then AuthPriv else AuthNoPriv) else NoAuthNoPriv
