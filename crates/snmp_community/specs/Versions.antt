-- The numbers of the versions (RFC 1157, section 4; RFC 1901, section 3).
--
-- `version_number`: the number that a version has in a message.
use Rattle.std.specs.Prelude.{ℕ}
use Rattle.snmp_community.specs.declared.version.Version.{Version}
use Rattle.snmp_community.specs.declared.version.Version.TheVariants.{Version1, Version2c}

abbrev pub version_number : Version → ℕ
version_number Version1 = 0
version_number Version2c = 1
