use Rattle.snmp_ber.proofs.Spellings.{integer32-is}
use Rattle.snmp_ber.proofs.Uniques.{integer32-range, one_integer}
use Rattle.snmp_ber.proofs.Unsigned.{unsigned_spelled, one_unsigned}
use Rattle.snmp_ber.proofs.laws.one_integer.Goals as goal

pub returns-clause-spelled : goal.returns-clause-spelled
returns-clause-spelled c = integer32-is

pub returns-clause-range : goal.returns-clause-range
returns-clause-range c = integer32-range

pub returns-clause-one : goal.returns-clause-one
returns-clause-one c = one_integer

pub returns-clause-unsigned : goal.returns-clause-unsigned
returns-clause-unsigned c = unsigned_spelled

pub returns-clause-one_unsigned : goal.returns-clause-one_unsigned
returns-clause-one_unsigned c = one_unsigned
