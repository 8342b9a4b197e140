use Rattle.snmp_community.proofs.Writes.{community_text-is, read_as_written}
use Rattle.snmp_community.proofs.laws.community_written_again.Goals as goal

pub returns-clause-spelled : goal.returns-clause-spelled
returns-clause-spelled c = community_text-is

pub returns-clause-same : goal.returns-clause-same
returns-clause-same c = read_as_written
