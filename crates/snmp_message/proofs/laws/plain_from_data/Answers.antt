use Rattle.std.proofs.Common.{arith}
use Rattle.snmp_message.proofs.Plain.{plain_from, size_of}
use Rattle.snmp_message.proofs.laws.plain_from_data.Goals as goal

pub returns-clause-within : goal.returns-clause-within
returns-clause-within c = λ w m o. let size = size_of w m o in omega arith

pub returns-clause-scoped : goal.returns-clause-scoped
returns-clause-scoped c = plain_from
