-- A row with the index of one of the rows is that row.
use Rattle.std.proofs.Common.{◌≡◌, ℕ, ◌==◌, ◌&&◌, Bool, true, false, List, Some, Contains, ap, ◌∙◌, refl}
use Rattle.std.specs.List.{slice_get}
use Rattle.std.specs.Str.{bytes_eq}
use Rattle.std.proofs.lemmas.Bool.Decides.{Decides-eqb}
use Rattle.std.proofs.lemmas.Option.{slice_get_within, get_or_from_slice_get}
use Rattle.std.proofs.lemmas.Slice.Eq.{bytes_eq-Decides}
use Rattle.snmp_ber.specs.Level.{level_number}
use Rattle.vacm_core.specs.declared.rows.ContextRow.{ContextRow}
use Rattle.vacm_core.specs.declared.rows.GroupRow.{GroupRow}
use Rattle.vacm_core.specs.declared.rows.AccessRow.{AccessRow}
use Rattle.vacm_core.specs.declared.rows.FamilyRow.{FamilyRow}
use Rattle.vacm_core.specs.Faults.{is_same_context, is_same_group, is_same_access, is_same_family}

-- what stands at a position is in the table
pub contains : {R : Type 0} (rows : List R) (i : ℕ) (x : R) → slice_get rows i ≡ Some x → Contains rows x
contains rows i x at = (i, slice_get_within rows i x at, get_or_from_slice_get rows i x x at)

both_true : (a b : Bool) → (a && b) ≡ true → (a ≡ true) × (b ≡ true)
both_true true b h = (refl, h)
both_true false b h = cc

list_same : (xs ys : List ℕ) → bytes_eq xs ys ≡ true → xs ≡ ys
list_same xs ys h = (bytes_eq-Decides xs ys).0 h

number_same : (m n : ℕ) → (m == n) ≡ true → m ≡ n
number_same m n h = (Decides-eqb m n).0 h

-- a row with this index is found at the position
abbrev pub IsFoundAt : {R : Type 0} → (R → R → Bool) → List R → ℕ → R → Type 0
IsFoundAt {R} is_same rows position row = (found : R) × (slice_get rows position ≡ Some found) × (is_same found row ≡ true)

pub context_name : (rows : List ContextRow) (position : ℕ) (row : ContextRow) (f : IsFoundAt is_same_context rows position row) → f.0.name ≡ row.name
context_name rows position row f = list_same _ _ f.2

pub group_stands : (rows : List GroupRow) → ((x y : GroupRow) → Contains rows x → Contains rows y → x.model ≡ y.model → x.name ≡ y.name → x ≡ y)
    → (position : ℕ) (row : GroupRow) → Contains rows row → IsFoundAt is_same_group rows position row → slice_get rows position ≡ Some row
group_stands rows one position row there (found, at, same) =
    let parts = both_true _ _ same in
    at ∙ ap Some (one found row (contains rows position found at) there (number_same _ _ parts.0) (list_same _ _ parts.1))

pub access_stands : (rows : List AccessRow)
    → ((x y : AccessRow) → Contains rows x → Contains rows y → x.group ≡ y.group → x.prefix ≡ y.prefix → x.model ≡ y.model → level_number x.level ≡ level_number y.level → x ≡ y)
    → (position : ℕ) (row : AccessRow) → Contains rows row → IsFoundAt is_same_access rows position row → slice_get rows position ≡ Some row
access_stands rows one position row there (found, at, same) =
    let level = both_true _ _ same in
    let model = both_true _ _ level.0 in
    let names = both_true _ _ model.0 in
    at ∙ ap Some (one found row (contains rows position found at) there (list_same _ _ names.0) (list_same _ _ names.1) (number_same _ _ model.1) (number_same _ _ level.1))

pub family_stands : (rows : List FamilyRow) → ((x y : FamilyRow) → Contains rows x → Contains rows y → x.view ≡ y.view → x.subtree ≡ y.subtree → x ≡ y)
    → (position : ℕ) (row : FamilyRow) → Contains rows row → IsFoundAt is_same_family rows position row → slice_get rows position ≡ Some row
family_stands rows one position row there (found, at, same) =
    let parts = both_true _ _ same in
    at ∙ ap Some (one found row (contains rows position found at) there (list_same _ _ parts.0) (list_same _ _ parts.1))
