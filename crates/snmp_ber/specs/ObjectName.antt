-- The identifier that a content spells.
--
-- `arcs_in content`: the arcs of the identifier whose content this is, and none where it is no
-- identifier's.
use Rattle.std.specs.Prelude.{ℕ, List, [], Option, Some, None}
use Rattle.snmp_ber.specs.Oid.{identifier_in}

abbrev pub found_arcs : Option (List ℕ) → List ℕ
found_arcs None = []
found_arcs (Some arcs) = arcs

-- the arcs, where it is one's
unfoldable pub arcs_in : List ℕ → List ℕ
arcs_in content = found_arcs (identifier_in content)
