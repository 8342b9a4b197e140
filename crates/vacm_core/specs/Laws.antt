-- The orders of rows are total, and rows of one index are those whose indexes are equal.
use Rattle.std.specs.Prelude.{◌≡◌, ℕ, Bool, true, ◌&&◌, ◌==◌, List, length}
use Rattle.std.proofs.Common.{refl, sym, ap, ◌∙◌, arith}
use Rattle.std.proofs.lemmas.Bool.Decides.{nat_tests}
use Rattle.std.specs.Cmp.{IsTotalOrder}
use Rattle.std.specs.Cmp.Lexicographic.{slice_cmp, lists_total}
use Rattle.std.specs.Ordering.{nat_cmp, is_eq, ordering_then}
use Rattle.std.specs.Str.{bytes_eq}
use Rattle.std.specs.declared.cmp.Ordering.{Ordering}
use Rattle.std.specs.declared.cmp.Ordering.TheVariants.{Less, Equal, Greater}
use Rattle.std.proofs.lemmas.Cmp.{nat_cmp_total, nat_list_cmp_total, on_total, then_total, tied_itself}
use Rattle.std.proofs.lemmas.Cmp.{nat_list_eq_equiv}
use Rattle.std.proofs.lemmas.Map.Text.{is_eq-slice_cmp}
use Rattle.vacm_core.specs.Allowed.{access_order, family_order, specificity}
use Rattle.vacm_core.specs.Wildcard.{compared_arcs, shape_order, wildcard_order}
use Rattle.vacm_core.specs.Faults.{is_same_context, is_same_group, is_same_access, is_same_family}
use Rattle.snmp_ber.specs.Level.{level_number}
use Rattle.vacm_core.specs.declared.rows.ContextRow.{ContextRow}
use Rattle.vacm_core.specs.declared.rows.GroupRow.{GroupRow}
use Rattle.vacm_core.specs.declared.rows.AccessRow.{AccessRow}
use Rattle.vacm_core.specs.declared.rows.FamilyRow.{FamilyRow}

pub access_order-total : IsTotalOrder access_order
access_order-total =
    then_total (on_total specificity nat_cmp_total)
    (then_total (on_total (λ row. length row.prefix) nat_cmp_total)
    (on_total (λ row. level_number row.level) nat_cmp_total))

pub family_order-total : IsTotalOrder family_order
family_order-total =
    then_total (on_total (λ row. length row.subtree) nat_cmp_total)
    (on_total (λ row. row.subtree) (lists_total nat_cmp_total))

pub shape_order-total : IsTotalOrder shape_order
shape_order-total =
    then_total (on_total (λ (row : FamilyRow). length row.subtree) nat_cmp_total)
    (on_total (λ row. row.mask) nat_list_cmp_total)

pub wildcard_order-total : IsTotalOrder wildcard_order
wildcard_order-total =
    then_total shape_order-total
    (then_total (on_total (λ (row : FamilyRow). compared_arcs row.mask row.subtree) nat_list_cmp_total)
    (on_total (λ row. row.subtree) nat_list_cmp_total))

pub equal_total : {R : Type 0} → IsTotalOrder (λ (a b : R). Equal)
equal_total = record { antisymm = λ x y. refl; trans = λ x y z a b. a; congr = λ x y z a. refl }

-- two lists are the same by the test where they are by the order
bytes_order : (xs ys : List ℕ) → bytes_eq xs ys ≡ is_eq (slice_cmp nat_cmp ys xs)
bytes_order xs ys = nat_list_eq_equiv.symm xs ys ∙ sym (is_eq-slice_cmp ys xs)

number_order : (x y : ℕ) → (x == y) ≡ is_eq (nat_cmp y x)
number_order x y = grind (arith, nat_tests)

both : (a b : Bool) (o p : Ordering) → a ≡ is_eq o → b ≡ is_eq p → (a && b) ≡ is_eq (ordering_then o p)
both a b Less p h k = rw h refl
both a b Equal p h k = rw (h, k) refl
both a b Greater p h k = rw h refl

nested : (o p q r : Ordering)
    → is_eq (ordering_then (ordering_then (ordering_then o p) q) r)
    ≡ is_eq (ordering_then o (ordering_then p (ordering_then q r)))
nested Less p q r = refl
nested Greater p q r = refl
nested Equal Less q r = refl
nested Equal Greater q r = refl
nested Equal Equal q r = refl

pub same_context : (row other : ContextRow) → is_same_context row other ≡ is_eq (slice_cmp nat_cmp other.name row.name)
same_context row other = bytes_order row.name other.name

pub same_group : (row other : GroupRow)
    → is_same_group row other
    ≡ is_eq (ordering_then (nat_cmp other.model row.model) (slice_cmp nat_cmp other.name row.name))
same_group row other = both _ _ _ _ (number_order row.model other.model) (bytes_order row.name other.name)

pub same_access : (row other : AccessRow) → is_same_access row other ≡ is_eq
    (ordering_then (slice_cmp nat_cmp other.group row.group) (ordering_then (slice_cmp nat_cmp other.prefix row.prefix)
    (ordering_then (nat_cmp other.model row.model) (nat_cmp (level_number other.level) (level_number row.level)))))
same_access row other =
    both _ _ _ _ (both _ _ _ _
    (both _ _ _ _ (bytes_order row.group other.group) (bytes_order row.prefix other.prefix))
    (number_order row.model other.model)) (number_order (level_number row.level) (level_number other.level))
    ∙ nested (slice_cmp nat_cmp other.group row.group) (slice_cmp nat_cmp other.prefix row.prefix)
    (nat_cmp other.model row.model) (nat_cmp (level_number other.level) (level_number row.level))

pub same_family : (row other : FamilyRow)
    → is_same_family row other
    ≡ is_eq (ordering_then (slice_cmp nat_cmp other.view row.view) (slice_cmp nat_cmp other.subtree row.subtree))
same_family row other = both _ _ _ _ (bytes_order row.view other.view) (bytes_order row.subtree other.subtree)

-- a row has its own index
pub context_itself : (row : ContextRow) → is_same_context row row ≡ true
context_itself row = same_context row row ∙ ap is_eq (tied_itself nat_list_cmp_total row.name)

pub group_itself : (row : GroupRow) → is_same_group row row ≡ true
group_itself row = same_group row row
    ∙ ap is_eq (tied_itself
    (then_total (on_total (λ (r : GroupRow). r.model) nat_cmp_total)
    (on_total (λ r. r.name) nat_list_cmp_total)) row)

pub access_itself : (row : AccessRow) → is_same_access row row ≡ true
access_itself row =
    same_access row row
    ∙ ap is_eq (tied_itself (then_total (on_total (λ (r : AccessRow). r.group) nat_list_cmp_total)
    (then_total (on_total (λ r. r.prefix) nat_list_cmp_total)
    (then_total (on_total (λ r. r.model) nat_cmp_total)
    (on_total (λ r. level_number r.level) nat_cmp_total)))) row)

pub family_itself : (row : FamilyRow) → is_same_family row row ≡ true
family_itself row = same_family row row
    ∙ ap is_eq (tied_itself
    (then_total (on_total (λ (r : FamilyRow). r.view) nat_list_cmp_total)
    (on_total (λ r. r.subtree) nat_list_cmp_total)) row)
