use Rattle.std.proofs.Common.{◌≡◌, ◌∙◌, ℕ, List, Option, Some, Bor, ap, sym, subst}
use Rattle.std.specs.Option.{option_copied, option_map}
use Rattle.usm_keys.specs.AuthKey.{AuthKey}
use Rattle.usm_users.specs.declared.cache.Purpose.TheVariants.{Authentication}
use Rattle.usm_users.specs.Cache.{AreCached, schedule_at}
use Rattle.usm_core.specs.Writing.{sending_of}
use Rattle.usm_users.proofs.Caching.{is_cached}
use Rattle.usm_core.proofs.seal.seal_under.Goals.{in-Some, in-None}
use Rattle.usm_core.proofs.seal.seal_under.Goals as goal

pub returns-in-Some-find-clause-written : goal.returns-in-Some-find-clause-written
returns-in-Some-find-clause-written g c =
    let m = sending_of g.S.ScopedPdu.octets c.args.outgoing.now in
    let privacy = option_copied c.args.privacy in
    let schedule : c.match-privacy.schedule ≡ option_map (schedule_at m.engine) privacy = elim c.match-privacy.branch [
      | in-Some w ↦ w.schedule-is ∙ ap (λ (s : List (List ℕ)). Some s) w.schedule_under.ensures.schedule ∙ sym (ap (λ (o : Option (Bor AuthKey)). option_map (schedule_at m.engine) (option_copied o)) w.in-Some.is)
      | in-None w ↦ w.schedule-is ∙ sym (ap (λ (o : Option (Bor AuthKey)). option_map (schedule_at m.engine) (option_copied o)) w.in-None.is)
    ] in
    c.seal_keyed-written.ensures privacy (c.as_ref.ensures.value ∙ schedule)

pub returns-in-Some-find-clause-cache : goal.returns-in-Some-find-clause-cache
returns-in-Some-find-clause-cache g c =
    let users = c.args.users.now in
    let before : AreCached users c.match-privacy.cache = elim c.match-privacy.branch [
      | in-Some w ↦ subst (AreCached users) (sym w.cache-is) w.schedule_under.ensures.cache
      | in-None w ↦ subst (AreCached users) (sym w.cache-is) c.requires.cache
    ] in
    c.note_use.ensures.cached users before tt

pub returns-clause-written : goal.returns-clause-written
returns-clause-written g c =
    let m = sending_of g.S.ScopedPdu.octets c.args.outgoing.now in
    let privacy = option_copied c.args.privacy in
    let schedule : c.match-privacy.schedule ≡ option_map (schedule_at m.engine) privacy = elim c.match-privacy.branch [
      | in-Some w ↦ w.schedule-is ∙ ap (λ (s : List (List ℕ)). Some s) w.schedule_under.ensures.schedule ∙ sym (ap (λ (o : Option (Bor AuthKey)). option_map (schedule_at m.engine) (option_copied o)) w.in-Some.is)
      | in-None w ↦ w.schedule-is ∙ sym (ap (λ (o : Option (Bor AuthKey)). option_map (schedule_at m.engine) (option_copied o)) w.in-None.is)
    ] in
    c.seal_keyed-written-2.ensures privacy (c.as_ref-2.ensures.value ∙ schedule)

pub returns-clause-cache : goal.returns-clause-cache
returns-clause-cache g c =
    let users = c.args.users.now in
    let m = sending_of g.S.ScopedPdu.octets c.args.outgoing.now in
    let u = c.requires.user in
    let before : AreCached users c.match-privacy.cache = elim c.match-privacy.branch [
      | in-Some w ↦ subst (AreCached users) (sym w.cache-is) w.schedule_under.ensures.cache
      | in-None w ↦ subst (AreCached users) (sym w.cache-is) c.requires.cache
    ] in
    c.note_use-2.ensures.cached users before (is_cached users m.user m.engine Authentication u.0 c.args.key.now _ u.1 u.2 (c.for_authentication-local.ensures ∙ c.localise.ensures.key))
