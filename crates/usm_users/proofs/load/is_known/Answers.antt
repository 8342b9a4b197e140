use Rattle.std.proofs.Common.{◌∙◌, ℕ, List, map, is_some, ap, sym}
use Rattle.std.specs.List.{list_any}
use Rattle.usm_users.specs.Rows.{has_name, user_of}
use Rattle.usm_users.proofs.Indexing.{is_twice, long_name, named_any}
use Rattle.usm_users.proofs.load.is_known.Goals as goal

pub returns-in-Some : goal.returns-in-Some
returns-in-Some c rows index =
    c.contains_key.ensures ∙ is_twice rows c.args.places.now.entries c.in-Some.name index ∙ ap (λ (n : List ℕ). list_any (has_name n) rows) c.in-Some.ensures.name

pub returns-in-None : goal.returns-in-None
returns-in-None c rows index =
    let none = long_name (map user_of rows) c.args.places.now.entries c.args.name.now index (λ short. let never = c.in-None.ensures.fits.1 short in cc) in
    sym (ap is_some none) ∙ named_any rows c.args.name.now
