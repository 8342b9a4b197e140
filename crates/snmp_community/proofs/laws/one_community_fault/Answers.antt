use Rattle.snmp_community.proofs.Faults.{no_fault, no_fault_other, one_fault}
use Rattle.snmp_community.proofs.laws.one_community_fault.Goals as goal

pub returns-clause-one : goal.returns-clause-one
returns-clause-one c = one_fault

pub returns-clause-message : goal.returns-clause-message
returns-clause-message c = no_fault

pub returns-clause-version : goal.returns-clause-version
returns-clause-version c = no_fault_other
