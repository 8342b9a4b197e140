-- The questions of a variable that can be answered accessAllowed (RFC 3415, section 3).
--
-- `askers tables views`. The product of views, group rows, levels and context rows, in this order.
use Rattle.std.specs.Prelude.{List, [], ◌∷◌, map}
use Rattle.std.specs.List.{flat_map}
use Rattle.snmp_ber.specs.declared.level.Level.{Level}
use Rattle.snmp_ber.specs.declared.level.Level.TheVariants.{NoAuthNoPriv, AuthNoPriv, AuthPriv}
use Rattle.vacm_core.specs.declared.access.ViewType.{ViewType}
use Rattle.vacm_core.specs.declared.rows.ContextRow.{ContextRow}
use Rattle.vacm_core.specs.declared.rows.GroupRow.{GroupRow}
use Rattle.vacm_core.specs.Allowed.{Requester}
use Rattle.vacm_core.specs.Tables.{Tables}

-- who asks, and for which view
pub record Asker : Type 0 where
  pub message : Requester
  pub view : ViewType

-- the levels, as they rise
abbrev pub levels : List Level
levels = NoAuthNoPriv ∷ AuthNoPriv ∷ AuthPriv ∷ []

-- a name that a group row has, at a level, in a context that there is
abbrev pub asker : ViewType → GroupRow → Level → ContextRow → Asker
asker view group level context = record {
  message = record { model = group.model; name = group.name; level = level; context = context.name };
  view = view;
}

abbrev pub of_group : List ContextRow → ViewType → GroupRow → List Asker
of_group contexts view group = flat_map (λ level. map (asker view group level) contexts) levels

abbrev pub of_view : Tables → ViewType → List Asker
of_view t view = flat_map (of_group t.contexts view) t.groups

-- The product of views, group rows, levels and context rows, in this order, the rows by their positions. Any
-- other name is in no group, and any other context isn't there.
abbrev pub askers : Tables → List ViewType → List Asker
askers t views = flat_map (of_view t) views
