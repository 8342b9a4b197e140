use Rattle.std.proofs.Common.{◌≡◌, ◌++◌, ◌∙◌, ap, map, string_bytes, codes, subst}
use Rattle.std.specs.Prelude.{IsPermutation}
use Rattle.std.specs.List.{join_by}
use Rattle.std.proofs.lemmas.Result.{IfOk-weaker}
use Rattle.std.proofs.lemmas.List.Sorted.{IsPermutation-map}
use Rattle.std.specs.Cmp.Lexicographic.{slice_cmp}
use Rattle.std.specs.Ordering.{nat_cmp}
use Rattle.capture_files.specs.Tally.{passed_parts, counts_of, link_parts}
use Rattle.capture_files.proofs.Parts.{join_mapped, four, sorted_mapped}
use Rattle.capture_files.proofs.tally.Tally.words.Goals as goal

pub returns : goal.returns
returns c =
    let made : map string_bytes c.push_part-3.new.parts.items ≡ passed_parts (counts_of c.args.self.now) =
    four _ _ _ _ _ _ _ _ _ (ap (map string_bytes) c.new-parts.ensures.items) c.in_ok-push_part.ensures
    (c.in_ok-push_links.ensures ∙ ap (λ xs. map string_bytes c.push_part.new.parts.items ++ link_parts 0 xs) c.deref.ensures.value)
    c.in_ok-push_part-2.ensures c.in_ok-push_part-3.ensures
    in
    IfOk-weaker c.join.result _ _ (λ text h. record {
      parts = map string_bytes c.sort.new.self.items;
      same = subst (λ parts. IsPermutation parts (map string_bytes c.sort.new.self.items)) made (IsPermutation-map string_bytes _ _ c.in_ok-sort.ensures.permutation);
      sorted = sorted_mapped string_bytes (slice_cmp nat_cmp) c.sort.new.self.items c.in_ok-sort.ensures.sorted;
      is = h ∙ (ap (join_by string_bytes (codes ", ")) c.deref-2.ensures.value ∙ join_mapped string_bytes (codes ", ") c.sort.new.self.items);
    }) c.join.ensures.ok
