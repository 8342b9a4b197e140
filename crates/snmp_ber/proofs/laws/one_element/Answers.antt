use Rattle.snmp_ber.proofs.Elements.{one_element}
use Rattle.snmp_ber.proofs.Spellings.{element-is}
use Rattle.snmp_ber.proofs.Uniques.{element-least}
use Rattle.snmp_ber.proofs.laws.one_element.Goals as goal

pub returns-clause-one : goal.returns-clause-one
returns-clause-one c = one_element

pub returns-clause-canonical : goal.returns-clause-canonical
returns-clause-canonical c = element-is

pub returns-clause-shortest : goal.returns-clause-shortest
returns-clause-shortest c = element-least
