use Rattle.std.proofs.lemmas.Result.{err_from_is_err_and}
use Rattle.toml.specs.View.{table_view}
use Rattle.snmpsec_config.specs.Keys.{table_name}
use Rattle.snmpsec_config.specs.Rows.{IsUserRow, IsGroupRow, IsAccessRow, IsFamilyRow}
use Rattle.snmpsec_config.specs.declared.table.ConfigTable.TheVariants.{User, Group, Access, Family}
use Rattle.snmpsec_gate_config.proofs.Tops.{top_tables}
use Rattle.snmpsec_gate_config.proofs.Refused.{tells_row, before_user, before_group, before_access, before_family}
use Rattle.snmpsec_gate_config.proofs.config.config_rows.Goals as goal

pub read_rows-requires : goal.read_rows-requires
read_rows-requires c = record { tables = top_tables (table_name User) (table_view c.args.document.now) c.requires.top }

pub read_rows-requires-2 : goal.read_rows-requires-2
read_rows-requires-2 c = record { tables = top_tables (table_name Group) (table_view c.args.document.now) c.requires.top }

pub read_rows-requires-3 : goal.read_rows-requires-3
read_rows-requires-3 c = record { tables = top_tables (table_name Access) (table_view c.args.document.now) c.requires.top }

pub read_rows-requires-4 : goal.read_rows-requires-4
read_rows-requires-4 c = record { tables = top_tables (table_name Family) (table_view c.args.document.now) c.requires.top }

pub returns-in_err-users-clause-fault : goal.returns-in_err-users-clause-fault
returns-in_err-users-clause-fault c =
    let d = table_view c.args.document.now in
    let p = err_from_is_err_and c.from_residual.result c.from_residual.ensures.1 in
    rw (p.1, p.2) (tells_row User IsUserRow d _ c.in_err-users.ensures.fault tt (λ position h. h) (before_user d))

pub returns-in_err-groups-clause-fault : goal.returns-in_err-groups-clause-fault
returns-in_err-groups-clause-fault c =
    let d = table_view c.args.document.now in
    let p = err_from_is_err_and c.from_residual-in_err-groups.result c.from_residual-in_err-groups.ensures.1 in
    rw (p.1, p.2) (tells_row Group IsGroupRow d _ c.in_err-groups.ensures.fault tt (λ position h. h) (before_group d (_, c.in_ok-users.ensures.rows)))

pub returns-in_err-access-clause-fault : goal.returns-in_err-access-clause-fault
returns-in_err-access-clause-fault c =
    let d = table_view c.args.document.now in
    let p = err_from_is_err_and c.from_residual-in_err-access.result c.from_residual-in_err-access.ensures.1 in
    rw (p.1, p.2) (tells_row Access IsAccessRow d _ c.in_err-access.ensures.fault tt (λ position h. h) (before_access d (_, c.in_ok-users.ensures.rows) (_, c.in_ok-groups.ensures.rows)))

pub returns-in_err-families-clause-fault : goal.returns-in_err-families-clause-fault
returns-in_err-families-clause-fault c =
    let d = table_view c.args.document.now in
    let p = err_from_is_err_and c.from_residual-in_err-families.result c.from_residual-in_err-families.ensures.1 in
    rw (p.1, p.2) (tells_row Family IsFamilyRow d _ c.in_err-families.ensures.fault tt (λ position h. h) (before_family d (_, c.in_ok-users.ensures.rows) (_, c.in_ok-groups.ensures.rows) (_, c.in_ok-access.ensures.rows)))
