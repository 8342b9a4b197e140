-- The words of a configuration.
use Rattle.std.specs.Prelude.{ℕ, List, codes}
use Rattle.snmp_ber.specs.declared.level.Level.{Level}
use Rattle.snmp_ber.specs.declared.level.Level.TheVariants.{NoAuthNoPriv, AuthNoPriv, AuthPriv}
use Rattle.usm_keys.specs.declared.auth.Auth.{Auth}
use Rattle.usm_keys.specs.declared.auth.Auth.TheVariants.{Md5, Sha1, Sha256}
use Rattle.vacm_core.specs.declared.rows.Matching.{Matching}
use Rattle.vacm_core.specs.declared.rows.Matching.TheVariants.{Exact, Prefix}

-- security levels (RFC 3411, section 3.4.3)
abbrev pub level_word : Level → List ℕ
level_word NoAuthNoPriv = codes "noAuthNoPriv"
level_word AuthNoPriv = codes "authNoPriv"
level_word AuthPriv = codes "authPriv"

abbrev pub auth_word : Auth → List ℕ
auth_word Md5 = codes "md5"
auth_word Sha1 = codes "sha1"
auth_word Sha256 = codes "sha256"

abbrev pub matching_word : Matching → List ℕ
matching_word Exact = codes "exact"
matching_word Prefix = codes "prefix"
