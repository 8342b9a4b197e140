use Rattle.std.proofs.Common.{◌≡◌, ◌≤◌, ◌∙◌, ℕ, List, Some, None, cond, map, take, length, nat_eq, refl, sym, ap, subst, arith}
use Rattle.std.specs.List.{list_any}
use Rattle.std.specs.Map.{lookup}
use Rattle.std.specs.Cmp.Lexicographic.{pointwise}
use Rattle.std.proofs.lemmas.List.{length-map, length-take-le}
use Rattle.std.proofs.lemmas.Option.{slice_get_read}
use Rattle.usm_users.specs.User.{User}
use Rattle.usm_users.specs.Index.{IsIndex}
use Rattle.usm_users.specs.Rows.{user_of, has_name, row_fault}
use Rattle.usm_users.proofs.Loaded.{fine, told, user_of_fine}
use Rattle.usm_users.proofs.Indexing.{none_indexed, more_indexed, is_twice, fault_is, none_below, all_sound, users_more, not_some}
use Rattle.usm_users.proofs.load.places_of.Goals as goal

pub loop-position-init : goal.loop-position-init
loop-position-init c = record { none_before = λ i h. absurd (omega arith); index = none_indexed c.new-places.result.entries c.new-places.ensures.empty }

pub returns-in-Some-clause-told : goal.returns-in-Some-clause-told
returns-in-Some-clause-told c =
    let rows = c.args.rows.now in
    let i = c.loop-position.position in
    let row = c.index-rows-position.result in
    let at = slice_get_read rows (length rows) i row refl (omega arith) c.index-rows-position.is in
    let twice : c.is_known-is_twice.result ≡ list_any (has_name row.name.items) (take i rows) = subst (λ (n : List ℕ). c.is_known-is_twice.result ≡ list_any (has_name n) (take i rows)) c.deref.ensures.value (c.is_known-is_twice.ensures (take i rows) c.loop-position.invariant.index) in
    told rows c.in-Some.fault (record { position = i; there = fault_is rows i row (Some c.in-Some.fault) at (c.in-Some.ensures (take i rows) twice); none_before = c.loop-position.invariant.none_before })

-- a row without fault has a name of at most 32 octets
pub unreachable-requires : goal.unreachable-requires
unreachable-requires c =
    let rows = c.args.rows.now in
    let i = c.loop-position.position in
    let row = c.index-rows-position.result in
    let twice : c.is_known-is_twice.result ≡ list_any (has_name row.name.items) (take i rows) = subst (λ (n : List ℕ). c.is_known-is_twice.result ≡ list_any (has_name n) (take i rows)) c.deref.ensures.value (c.is_known-is_twice.ensures (take i rows) c.loop-position.invariant.index) in
    let none : None ≡ row_fault (take i rows) i row = c.in_default.ensures (take i rows) twice in
    let short = (user_of_fine (take i rows) row (fine (take i rows) i row (sym none))).short in
    let never = c.in_default-of.ensures.fits.1 (subst (λ (n : List ℕ). length n ≤ 32) (sym c.deref-in-loop-position.ensures.value) short) in
    cc

pub loop-position-preserved : goal.loop-position-preserved
loop-position-preserved c =
    let rows = c.args.rows.now in
    let i = c.loop-position.position in
    let row = c.index-rows-position.result in
    let at = slice_get_read rows (length rows) i row refl (omega arith) c.index-rows-position.is in
    let entries = c.loop-position.places.entries in
    let index = c.loop-position.invariant.index in
    let twice : c.is_known-is_twice.result ≡ list_any (has_name row.name.items) (take i rows) = subst (λ (n : List ℕ). c.is_known-is_twice.result ≡ list_any (has_name n) (take i rows)) c.deref.ensures.value (c.is_known-is_twice.ensures (take i rows) index) in
    let none : None ≡ row_fault (take i rows) i row = c.in_default.ensures (take i rows) twice in
    let good = fine (take i rows) i row (sym none) in
    let named : c.in-Some-of.name ≡ row.name.items = c.in-Some-of.ensures.name ∙ c.deref-in-loop-position.ensures.value in
    let short : length row.name.items ≤ 32 = subst (λ (n : List ℕ). length n ≤ 32) c.deref-in-loop-position.ensures.value (c.in-Some-of.ensures.fits.0 refl) in
    let size : length (map user_of (take i rows)) ≡ i = length-map (take i rows) user_of ∙ length-take-le i rows (omega arith) in
    let fresh : lookup (pointwise nat_eq row.name.items) entries ≡ None = not_some _ (is_twice (take i rows) entries row.name.items index ∙ good.fresh) in
    record {
      none_before = none_below rows i c.loop-position.invariant.none_before (fault_is rows i row None at none);
      index = subst (λ (us : List User). IsIndex us c.insert.new.self.entries) (sym (users_more rows i row (omega arith) c.index-rows-position.is))
          (more_indexed (map user_of (take i rows)) entries c.insert.new.self.entries (user_of row) index short fresh
          (λ name. c.in-Ok.ensures.updates.0 name ∙ ap (λ (n : List ℕ). cond (pointwise nat_eq n name) (Some i) (lookup (pointwise nat_eq name) entries)) named ∙ ap (λ (k : ℕ). cond (pointwise nat_eq row.name.items name) (Some k) (lookup (pointwise nat_eq name) entries)) (sym size)));
    }

pub returns-clause-sound : goal.returns-clause-sound
returns-clause-sound c = all_sound c.args.rows.now c.loop-position.position (omega arith) c.loop-position.invariant.none_before
