use Rattle.snmp_agent.proofs.UpTos.{never_cut}
use Rattle.snmp_agent.proofs.response_laws.no_text_is_longer.Goals as goal

pub returns : goal.returns
returns c agent now message answer cut = never_cut agent now message answer cut
