-- Columns for which something is missing.
use Rattle.std.specs.Prelude.{List, [], ◌∷◌, ℕ, ◌<◌, All, length}
use Rattle.std.specs.List.{HoldsAt}
use Rattle.std.proofs.Common.{arith}
use Rattle.snmp_walk.specs.Column.{IsOpen}
use Rattle.snmp_walk.specs.Dialogue.{IsFirstOpen, IsWhole}
use Rattle.snmp_walk.specs.declared.column.Column.{Column}
use Rattle.snmp_walk.specs.declared.dialogue.Dialogue.{Dialogue}

one_open : (cs : List Column) (n : ℕ) → n < length cs → HoldsAt (λ (c : Column). IsOpen c.progress) cs n → ¬ All (λ (c : Column). ¬ IsOpen c.progress) cs
one_open [] n within there all = absurd (omega (arith, within))
one_open (c ∷ cs) n within there all = all n c within (there c)

-- Where one is open, not all is there.
pub not_whole : (d : Dialogue) (number : ℕ) → IsFirstOpen d number → ¬ IsWhole d
not_whole d number first = one_open d.columns.items number first.within first.open_there
