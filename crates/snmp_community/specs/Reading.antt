-- The one reading of a message, from left to right. The version is read as a message of any version is.
use Rattle.std.specs.Prelude.{ℕ, ◌-◌, nat_lt, if◌then◌else◌, List, length, Option, Some, None}
use Rattle.snmp_ber.specs.Reading.{Front, front_of}
use Rattle.snmp_message.specs.Steps.{◌>>=◌}
use Rattle.snmp_message.specs.Reading.{element_in}
use Rattle.snmp_message.specs.declared.field.TheConstants.{OCTET_STRING}
use Rattle.snmp_community.specs.Layout.{Parts}
use Rattle.snmp_community.specs.declared.version.Version.{Version}

abbrev pub with_pdu : Version → ℕ → List ℕ → List ℕ → Front → Option Parts
with_pdu version end community text f =
    if nat_lt 0 (length f.rest) then None
    else Some (record {
      version = version;
      community = community;
      pdu = text;
      pdu_at = end - length text;
    })

-- what follows the version, in a message that ends at this place
unfoldable pub parts_in : Version → ℕ → List ℕ → Option Parts
parts_in version end octets = do
  community ← element_in OCTET_STRING octets
  f ← front_of community.rest
  with_pdu version end community.content community.rest f
