-- What a device is asked for a GetRequest, a GetNextRequest or a GetBulkRequest (RFC 3416, sections 4.2.1 to 4.2.3).
--
-- `asked_variables`: the bindings of the request for the names that the columns of a dialogue ask, in their order.
-- `bulk_asked_variables`: the same for a GetBulkRequest. `read_type`, `bulk_type`: the type of the request.
-- `non_repeaters_in`, `max_repetitions_in`: its numbers. `read_request`, `bulk_request_by`: the whole request.
use Rattle.std.specs.Prelude.{ℕ, List, [], ◌∷◌, min}
use Rattle.std.specs.List.{flat_map}
use Rattle.snmp_ber.specs.declared.number.TheConstants.{MAX_INTEGER32}
use Rattle.snmp_msg.specs.Variables.{Variable}
use Rattle.snmp_msg.specs.declared.pdu_type.PduType.{PduType}
use Rattle.snmp_msg.specs.declared.pdu_type.PduType.TheVariants.{GetRequest, GetNextRequest, GetBulkRequest}
use Rattle.snmp_walk.specs.declared.operation.ReadOperation.{ReadOperation}
use Rattle.snmp_walk.specs.declared.operation.ReadOperation.TheVariants.{Get, GetNext}
use Rattle.snmp_walk.specs.declared.column.Column.{Column}
use Rattle.snmp_walk.specs.declared.column.Progress.{Progress}
use Rattle.snmp_walk.specs.declared.column.Progress.TheVariants.{Asked}
use Rattle.snmp_walk.specs.declared.dialogue.Dialogue.{Dialogue}
use Rattle.snmp_walk.specs.declared.bulk_ask.BulkAsk.{BulkAsk}
use Rattle.snmp_walk.specs.declared.bulk_ask.BulkAsk.TheVariants as bulk
use Rattle.snmp_walk.specs.declared.bulk_column.BulkColumn.{BulkColumn}
use Rattle.snmp_walk.specs.declared.bulk_dialogue.BulkDialogue.{BulkDialogue}
use Rattle.gateway_laws.specs.Requests.{RequestPdu}
use Rattle.snmp_gate.specs.declared.read_ask.AskedName.{AskedName}
use Rattle.snmp_gate.specs.declared.read_ask.TheConstants.{UNSPECIFIED}

abbrev pub read_type : ReadOperation → PduType
read_type Get = GetRequest
read_type GetNext = GetNextRequest

-- the type by which a dialogue for a GetBulkRequest asks
abbrev pub bulk_type : BulkAsk → PduType
bulk_type bulk.GetNext = GetNextRequest
bulk_type (bulk.GetBulk singles repetitions) = GetBulkRequest

-- non-repeaters and max-repetitions, which are at most 2147483647; a GetNextRequest has 0 in their places
abbrev pub non_repeaters_in : BulkAsk → ℕ
non_repeaters_in bulk.GetNext = 0
non_repeaters_in (bulk.GetBulk singles repetitions) = min singles MAX_INTEGER32

abbrev pub max_repetitions_in : BulkAsk → ℕ
max_repetitions_in bulk.GetNext = 0
max_repetitions_in (bulk.GetBulk singles repetitions) = min repetitions MAX_INTEGER32

-- a binding with this name, and no value
abbrev pub unspecified : List ℕ → Variable
unspecified name = record { name = name; tag = UNSPECIFIED; content = [] }

-- the binding for the name that is asked, if the device is asked
abbrev pub variables_in : Progress → List Variable
variables_in (Asked ask) = unspecified ask.name ∷ []
variables_in _ = []

-- a binding for each column that asks
abbrev pub variables_asked : List Column → List Variable
variables_asked cs = flat_map (λ (c : Column). variables_in c.progress) cs

abbrev pub asked_variables : Dialogue → List Variable
asked_variables d = variables_asked d.columns.items

abbrev pub bulk_variables_asked : List BulkColumn → List Variable
bulk_variables_asked cs = flat_map (λ (c : BulkColumn). variables_in c.progress) cs

abbrev pub bulk_asked_variables : BulkDialogue → List Variable
bulk_asked_variables d = bulk_variables_asked d.columns.items

-- ---- the whole request

-- of these variables, where non-repeaters and max-repetitions have no place
abbrev pub plain_request : PduType → List Variable → RequestPdu
plain_request type vs = record { type = type; non_repeaters = 0; max_repetitions = 0; variables = vs }

abbrev pub read_request : ReadOperation → Dialogue → RequestPdu
read_request operation d = plain_request (read_type operation) (asked_variables d)

abbrev pub bulk_request_by : BulkAsk → BulkDialogue → RequestPdu
bulk_request_by ask d = record {
  type = bulk_type ask;
  non_repeaters = non_repeaters_in ask;
  max_repetitions = max_repetitions_in ask;
  variables = bulk_asked_variables d;
}

-- ---- what the values of the code say

abbrev pub asked_name : AskedName → List ℕ
asked_name asked = asked.name.now

abbrev pub asked_binding : AskedName → Variable
asked_binding asked = unspecified (asked_name asked)
