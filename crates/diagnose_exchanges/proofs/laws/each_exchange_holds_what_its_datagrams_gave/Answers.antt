use Rattle.diagnose_exchanges.proofs.Made.{made_from_none}
use Rattle.diagnose_exchanges.proofs.laws.each_exchange_holds_what_its_datagrams_gave.Goals as goal

pub returns : goal.returns
returns g c = made_from_none
