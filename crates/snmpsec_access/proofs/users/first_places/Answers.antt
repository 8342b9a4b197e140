use Rattle.std.proofs.Common.{◌≡◌, ◌-◌, ◌<◌, length, drop, refl, sym, ap, ◌∙◌, arith}
use Rattle.std.proofs.lemmas.Option.{slice_get_read}
use Rattle.std.specs.Prelude.{find}
use Rattle.usm_users.specs.declared.load.UserRow.{UserRow}
use Rattle.usm_users.specs.Rows.{has_name}
use Rattle.snmpsec_access.proofs.FirstPlaces.{places_none, places_more}
use Rattle.snmpsec_access.proofs.users.first_places.Goals as goal

pub rows-preserved : goal.rows-preserved
rows-preserved c =
    let users = c.args.users.now in
    let at = c.rows.at - 1 in
    let most = c.rows.invariant.most in
    let some = c.rows-test.true in
    let here : at < length users = omega (arith, most, some) in
    let row : UserRow = c.index-users-at.result in
    record {
      first = places_more users c.rows.places c.insert.new.self c.as_slice.result at c.rows.at row here (omega (arith, some)) c.in_ok-insert.ensures.updates.0 (c.as_slice.ensures.value ∙ ap (λ (r : UserRow). r.name.items) (sym c.index-users-at.is))
          (slice_get_read users (length users) at row refl here c.index-users-at.is) (sym c.index-users-at.is)
          c.rows.invariant.first;
      most = omega (arith, most);
    }
