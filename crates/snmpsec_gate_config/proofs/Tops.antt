-- The arrays of tables at the top of a gateway's configuration.
use Rattle.std.proofs.Common.{◌≡◌, ℕ, List, Option, Some, None, is_some, option_map, MatchOption, Bor, refl, sym, ap, inl, inr}
use Rattle.std.proofs.lemmas.Bool.{false≢true}
use Rattle.std.proofs.lemmas.Option.{same_Some}
use Rattle.std.proofs.Common.{nat_cmp}
use Rattle.std.specs.Cmp.Lexicographic.{slice_cmp}
use Rattle.toml.specs.Data.{Data, array, table, Members, no_members, member, get_member, as_table}
use Rattle.toml.specs.View.{view}
use Rattle.toml.specs.declared.value.Value.{Value}
use Rattle.snmpsec_config.specs.Documents.{AreTables, values_in}
use Rattle.snmpsec_config.proofs.Arrays.{either_tables}
use Rattle.snmpsec_gate_config.specs.Documents.{IsTop, IsTopMember, members_in}

tables_in : (name : List ℕ) (d : Data) → IsTopMember name d → AreTables (values_in (Some d))
tables_in name (array values) (inl h) = absurd h.1
tables_in name (array values) (inr h) = h.1
tables_in name (table t) h = tt
tables_in name _ h = tt

pub top_tables : (key : List ℕ) (document : Members) → IsTop document → AreTables (values_in (get_member key document))
top_tables key no_members h = tt
top_tables key (member name d others) h = either_tables (slice_cmp nat_cmp key name) d (get_member key others) (top_tables key others h.1) (tables_in name d h.0)

-- ---- the table at a key

members_other : (d : Data) → as_table d ≡ None → members_in (Some d) ≡ no_members
members_other (table t) h = absurd (false≢true (ap is_some (sym h)))
members_other _ h = refl

members_there : (d : Data) (t : Members) → as_table d ≡ Some t → t ≡ members_in (Some d)
members_there (table s) t h = same_Some _ _ (sym h)
members_there _ t h = absurd (false≢true (ap is_some h))

pub table_absent : (r : Option (Bor Value)) (g : Option Data) → option_map (λ x. view x.now) r ≡ g → r ≡ None → members_in g ≡ no_members
table_absent r g e n = rw (← e, n) refl

pub table_of : {A : Type 0} (seen : A → Members) (r : Option (Bor Value)) (g : Option Data) (v : Bor Value) (t : Option A) → option_map (λ x. view x.now) r ≡ g → r ≡ Some v → option_map seen t ≡ as_table (view v.now)
    → MatchOption t (members_in g ≡ no_members) (λ row. seen row ≡ members_in g)
table_of seen r g v None e s h = rw (← e, s) (members_other (view v.now) (sym h))
table_of seen r g v (Some row) e s h = rw (← e, s) (members_there (view v.now) _ (sym h))
