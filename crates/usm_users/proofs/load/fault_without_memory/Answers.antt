use Rattle.usm_users.proofs.Loaded.{told}
use Rattle.usm_users.proofs.load.fault_without_memory.Goals as goal

pub returns-in-Some : goal.returns-in-Some
returns-in-Some c = told c.args.rows.now c.in-Some.fault c.in-Some.ensures
