use Rattle.std.proofs.Common.{◌≡◌, sym, subst, ◌∙◌, arith, List, ℕ}
use Rattle.std.proofs.lemmas.List.{take_all}
use Rattle.usm_users.specs.User.{User}
use Rattle.usm_users.specs.Index.{IsIndex}
use Rattle.usm_users.proofs.Indexing.{same_entries}
use Rattle.usm_users.proofs.user_table.UserTable.try_clone.Goals as goal

pub invariant_of-result : goal.invariant_of-result
invariant_of-result c =
    let old = c.self.inside.users.items in
    let users : c.loop-user.users.items ≡ old = c.loop-user.invariant ∙ take_all c.loop-user.user-index _ (omega arith) ∙ c.deref-user-items.ensures.value in
    subst (λ (us : List User). IsIndex us c.in_ok-clone.field-0.entries) (sym users)
    (subst (λ (es : List (List ℕ × ℕ)). IsIndex old es) (sym (same_entries c.self.inside.places.entries c.in_ok-clone.field-0.entries c.in_ok-clone.ensures.cases)) c.self.invariant)
