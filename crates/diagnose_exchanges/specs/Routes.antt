-- The ways that datagrams go.
use Rattle.std.specs.Prelude.{Option, Some, None}
use Rattle.capture_files.specs.declared.endpoints.Route.{Route}

-- the way back
abbrev pub back_of : Route → Route
back_of route = record { from = route.to; to = route.from }

-- the way back of one that is known
abbrev pub back_if_known : Option Route → Option Route
back_if_known None = None
back_if_known (Some route) = Some (back_of route)
