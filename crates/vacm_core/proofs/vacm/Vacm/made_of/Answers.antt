use Rattle.std.proofs.Common.{◌++◌, ◌<◌, ◌^◌, length, subst}
use Rattle.std.specs.List.Sorted.{IsPermutation}
use Rattle.std.proofs.lemmas.List.Sorted.{length_permutation}
use Rattle.vacm_core.specs.Tables.{Tables, tables_of}
use Rattle.vacm_core.proofs.Uniqueness.{one_row_each}
use Rattle.vacm_core.proofs.Parts.{same_set, one_row_each_of_same}
use Rattle.vacm_core.proofs.vacm.Vacm.made_of.Goals as goal

pub returns : goal.returns
returns c =
    let t : Tables = tables_of c.args.rows.now in
    record {
      contexts = same_set t.contexts _ (subst (λ xs. IsPermutation xs c.in_ok-contexts.contexts) c.deref.ensures.value c.in_ok-contexts.ensures);
      groups = same_set t.groups _ (subst (λ xs. IsPermutation xs c.in_ok-groups.groups) c.deref-2.ensures.value c.in_ok-groups.ensures);
      access = same_set t.access _ (subst (λ xs. IsPermutation xs c.in_ok-access.access) c.deref-3.ensures.value c.in_ok-access.ensures);
      families = same_set t.families _ (subst (λ xs. IsPermutation xs (c.in_ok-exact.exact ++ c.in_ok-exact.others)) c.deref-4.ensures.value c.in_ok-exact.ensures.same);
    }

pub invariant_of-result : goal.invariant_of-result
invariant_of-result c = (one_row_each_of_same (tables_of c.args.rows.now) _ (returns c) (one_row_each (tables_of c.args.rows.now) c.requires.sound), c.in_ok-exact.ensures.exact, few)
  where
    few : length (c.in_ok-exact.exact ++ c.in_ok-exact.others) < 2 ^ 32
    few = rw (length_permutation _ _ (subst (λ xs. IsPermutation xs (c.in_ok-exact.exact ++ c.in_ok-exact.others)) c.deref-4.ensures.value c.in_ok-exact.ensures.same)) c.requires.few
