use Rattle.std.proofs.lemmas.Result.{err_from_is_err_and}
use Rattle.toml.specs.View.{table_view}
use Rattle.snmpsec_config.specs.Rows.{IsUserRow, IsContextRow, IsGroupRow, IsAccessRow, IsFamilyRow}
use Rattle.snmpsec_config.specs.declared.table.ConfigTable.TheVariants.{User, Context, Group, Access, Family}
use Rattle.snmpsec_config.proofs.Arrays.{top_tables}
use Rattle.snmpsec_config.proofs.Loading.{before_user, before_context, before_group, before_access, before_family, refuses}
use Rattle.snmpsec_config.proofs.config.all_rows.Goals as goal

pub returns-in_err-users-clause-refuses : goal.returns-in_err-users-clause-refuses
returns-in_err-users-clause-refuses c =
    let p = err_from_is_err_and c.from_residual.result c.from_residual.ensures.1 in
    rw (p.1, p.2) (refuses User IsUserRow (table_view c.args.document.now) _ c.requires.top c.in_err-users.ensures.fault (λ position h. h) (before_user (table_view c.args.document.now)))

pub returns-in_err-contexts-clause-refuses : goal.returns-in_err-contexts-clause-refuses
returns-in_err-contexts-clause-refuses c =
    let p = err_from_is_err_and c.from_residual-in_err-contexts.result c.from_residual-in_err-contexts.ensures.1 in
    rw (p.1, p.2) (refuses Context IsContextRow (table_view c.args.document.now) _ c.requires.top c.in_err-contexts.ensures.fault (λ position h. h) (before_context (table_view c.args.document.now) (_, c.in_ok-users.ensures.rows)))

pub returns-in_err-groups-clause-refuses : goal.returns-in_err-groups-clause-refuses
returns-in_err-groups-clause-refuses c =
    let p = err_from_is_err_and c.from_residual-in_err-groups.result c.from_residual-in_err-groups.ensures.1 in
    rw (p.1, p.2) (refuses Group IsGroupRow (table_view c.args.document.now) _ c.requires.top c.in_err-groups.ensures.fault (λ position h. h) (before_group (table_view c.args.document.now) (_, c.in_ok-users.ensures.rows) (_, c.in_ok-contexts.ensures.rows)))

pub returns-in_err-access-clause-refuses : goal.returns-in_err-access-clause-refuses
returns-in_err-access-clause-refuses c =
    let p = err_from_is_err_and c.from_residual-in_err-access.result c.from_residual-in_err-access.ensures.1 in
    rw (p.1, p.2) (refuses Access IsAccessRow (table_view c.args.document.now) _ c.requires.top c.in_err-access.ensures.fault (λ position h. h) (before_access (table_view c.args.document.now) (_, c.in_ok-users.ensures.rows) (_, c.in_ok-contexts.ensures.rows) (_, c.in_ok-groups.ensures.rows)))

pub returns-in_err-families-clause-refuses : goal.returns-in_err-families-clause-refuses
returns-in_err-families-clause-refuses c =
    let p = err_from_is_err_and c.from_residual-in_err-families.result c.from_residual-in_err-families.ensures.1 in
    rw (p.1, p.2) (refuses Family IsFamilyRow (table_view c.args.document.now) _ c.requires.top c.in_err-families.ensures.fault (λ position h. h) (before_family (table_view c.args.document.now) (_, c.in_ok-users.ensures.rows) (_, c.in_ok-contexts.ensures.rows) (_, c.in_ok-groups.ensures.rows) (_, c.in_ok-access.ensures.rows)))

pub read_rows-requires : goal.read_rows-requires
read_rows-requires c = record { tables = top_tables (table_view c.args.document.now) User c.requires.top }

pub read_rows-requires-2 : goal.read_rows-requires-2
read_rows-requires-2 c = record { tables = top_tables (table_view c.args.document.now) Context c.requires.top }

pub read_rows-requires-3 : goal.read_rows-requires-3
read_rows-requires-3 c = record { tables = top_tables (table_view c.args.document.now) Group c.requires.top }

pub read_rows-requires-4 : goal.read_rows-requires-4
read_rows-requires-4 c = record { tables = top_tables (table_view c.args.document.now) Access c.requires.top }

pub read_rows-requires-5 : goal.read_rows-requires-5
read_rows-requires-5 c = record { tables = top_tables (table_view c.args.document.now) Family c.requires.top }
