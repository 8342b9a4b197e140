use Rattle.diagnose_text.proofs.Accounts.{account}
use Rattle.diagnose_text.proofs.laws.each_exchange_is_of_its_own_datagrams.Goals as goal

pub returns : goal.returns
returns c = account
