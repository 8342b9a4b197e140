-- Whether what a device is asked can be spelled (RFC 3416, section 3; X.690, section 8.19).
--
-- `IsNamed`: the names at which a column stands, and for which the device is asked, can be spelled as OBJECT
-- IDENTIFIERs. `AllNamed`, `BulkAllNamed`: so are those of all columns of a dialogue.
use Rattle.std.specs.Prelude.{⊤, All}
use Rattle.snmp_ber.specs.Oid.{IsObjectId}
use Rattle.snmp_walk.specs.declared.column.Column.{Column}
use Rattle.snmp_walk.specs.declared.column.Progress.{Progress}
use Rattle.snmp_walk.specs.declared.column.Progress.TheVariants.{Wanting, Asked}
use Rattle.snmp_walk.specs.declared.dialogue.Dialogue.{Dialogue}
use Rattle.snmp_walk.specs.declared.bulk_column.BulkColumn.{BulkColumn}
use Rattle.snmp_walk.specs.declared.bulk_dialogue.BulkDialogue.{BulkDialogue}

abbrev pub IsNamed : Progress → Type 0
IsNamed (Wanting from) = IsObjectId from
IsNamed (Asked ask) = IsObjectId ask.from × IsObjectId ask.name
IsNamed _ = ⊤

abbrev pub AllNamed : Dialogue → Type 0
AllNamed d = All (λ (c : Column). IsNamed c.progress) d.columns.items

abbrev pub BulkAllNamed : BulkDialogue → Type 0
BulkAllNamed d = All (λ (c : BulkColumn). IsNamed c.progress) d.columns.items
