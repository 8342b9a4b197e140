use Rattle.usm_users.proofs.Loaded.{fine_item}
use Rattle.usm_users.proofs.load.users_of.Goals as goal

pub user_of-requires-clause-good : goal.user_of-requires-clause-good
user_of-requires-clause-good c =
    (fine_item c.args.rows.now c.requires c.loop-row.row-index c.row-item.result c.loop-row-test.true c.row-item.is).good

pub user_of-requires-clause-long : goal.user_of-requires-clause-long
user_of-requires-clause-long c =
    (fine_item c.args.rows.now c.requires c.loop-row.row-index c.row-item.result c.loop-row-test.true c.row-item.is).long
