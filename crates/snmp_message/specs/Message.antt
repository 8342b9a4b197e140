-- What the values of the code say.
use Rattle.std.specs.Prelude.{ℕ, List}
use Rattle.snmp_message.specs.Layout.{Parts}
use Rattle.snmp_message.specs.declared.message.Data.{Data}
use Rattle.snmp_message.specs.declared.message.Data.TheVariants.{Plain, Sealed}
use Rattle.snmp_message.specs.declared.message.Message.{Message}

abbrev pub tag_of : Data → ℕ
tag_of (Plain content) = 48
tag_of (Sealed content) = 4

abbrev pub content_of : Data → List ℕ
content_of (Plain content) = content.now
content_of (Sealed content) = content.now

-- a message without where it lies in memory
abbrev pub parts : Message → Parts
parts m = record {
  header = m.header;
  security = m.security.now;
  data_tag = tag_of m.body;
  data_content = content_of m.body;
  security_at = m.security_at;
  data_at = m.data_at;
}
