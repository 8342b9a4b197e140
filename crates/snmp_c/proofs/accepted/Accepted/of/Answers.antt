use Rattle.std.proofs.Common.{◌≡◌, ◌∙◌, ℕ, ℤ, pos, List, ap, rules, slice_index_or, SFits, w32}
use Rattle.std.proofs.lemmas.Int.{to_z-of_z}
use Rattle.snmp_c.proofs.accepted.Accepted.of.Goals as goal

-- each number fits, and is the one of its place
pub returns : goal.returns
returns c g are contexts front =
    let told = are contexts front in
    let ns : List ℤ = c.args.numbers.now in
    let f0 : SFits w32 (slice_index_or ns 0 (pos 0)) = search rules in
    let f1 : SFits w32 (slice_index_or ns 1 (pos 0)) = search rules in
    let f2 : SFits w32 (slice_index_or ns 2 (pos 0)) = search rules in
    let f3 : SFits w32 (slice_index_or ns 3 (pos 0)) = search rules in
    let f4 : SFits w32 (slice_index_or ns 4 (pos 0)) = search rules in
    let f5 : SFits w32 (slice_index_or ns 5 (pos 0)) = search rules in
    let is = λ (n : ℕ). ap (λ (xs : List ℤ). slice_index_or xs n (pos 0)) told.2 in
    let e0 = to_z-of_z w32 _ f0 ∙ is 0 in
    let e1 = to_z-of_z w32 _ f1 ∙ is 1 in
    let e2 = to_z-of_z w32 _ f2 ∙ is 2 in
    let e3 = to_z-of_z w32 _ f3 ∙ is 3 in
    let e4 = to_z-of_z w32 _ f4 ∙ is 4 in
    let e5 = to_z-of_z w32 _ f5 ∙ is 5 in
    (told.0, told.1, λ i. record { level = e0 i; tag = e1 i; request_id = e2 i; second = e3 i; third = e4 i; message_id = e5 i })
