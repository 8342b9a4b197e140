-- Whoever sees a variable is asked for.
use Rattle.std.proofs.Common.{◌≡◌, ℕ, zero, suc, List, [], ◌∷◌, map, sym, subst, refl, arith}
use Rattle.std.specs.Prelude.{Contains}
use Rattle.std.specs.List.{flat_map}
use Rattle.std.proofs.lemmas.List.Elements.{Contains-append_left, Contains-append_right}
use Rattle.snmp_ber.specs.declared.level.Level.{Level}
use Rattle.snmp_ber.specs.declared.level.Level.TheVariants.{NoAuthNoPriv, AuthNoPriv, AuthPriv}
use Rattle.vacm_core.specs.declared.access.ViewType.{ViewType}
use Rattle.vacm_core.specs.declared.access.Access.TheVariants.{AccessAllowed}
use Rattle.vacm_core.specs.Allowed.{Allowed}
use Rattle.vacm_core.specs.Tables.{Tables}
use Rattle.snmpsec_access.specs.Askers.{Asker, askers, asker, levels, of_group, of_view}

Contains-map : {R A : Type 0} (f : R → A) (rows : List R) (row : R) → Contains rows row → Contains (map f rows) (f row)
Contains-map f [] row (k, within, at) = absurd (omega (arith, within))
Contains-map f (first ∷ rows) row (zero, within, at) = (zero, omega arith, rw at refl)
Contains-map f (first ∷ rows) row (suc k, within, at) =
    let there = Contains-map f rows row (k, omega (arith, within), at) in
    (suc there.0, omega (arith, there.1), there.2)

Contains-flat_map : {R A : Type 0} (f : R → List A) (rows : List R) (row : R) (a : A) → Contains rows row → Contains (f row) a → Contains (flat_map f rows) a
Contains-flat_map f [] row a (k, within, at) c = absurd (omega (arith, within))
Contains-flat_map {R} {A} f (first ∷ rows) row a (zero, within, at) c = Contains-append_left (f first) (flat_map f rows) a (subst (λ (r : R). Contains (f r) a) (sym at) c)
Contains-flat_map f (first ∷ rows) row a (suc k, within, at) c =
    Contains-append_right (f first) (flat_map f rows) a (Contains-flat_map f rows row a (k, omega (arith, within), at) c)

each_level : (level : Level) → Contains levels level
each_level NoAuthNoPriv = (0, omega arith, refl)
each_level AuthNoPriv = (1, omega arith, refl)
each_level AuthPriv = (2, omega arith, refl)

same_asker : (a : Asker) (model : ℕ) (name context : List ℕ) → model ≡ a.message.model → name ≡ a.message.name → context ≡ a.message.context
    → ◌≡◌ {A = Asker} (record { message = record { model = model; name = name; level = a.message.level; context = context }; view = a.view }) a
same_asker a model name context m n c = rw (m, n, c) refl

pub all_asked : (t : Tables) (views : List ViewType) (a : Asker) (variable : List ℕ) → Contains views a.view → Allowed t a.message a.view variable AccessAllowed → Contains (askers t views) a
all_asked t views a variable asked may =
    let (context, there, named) = may.context in
    let (group, listed, is_row, _) = may.in_group in
    let same = same_asker a group.model group.name context.name is_row.same_model is_row.same_name named in
    let mine : Contains (map (asker a.view group a.message.level) t.contexts) a =
    subst (λ (x : Asker). Contains (map (asker a.view group a.message.level) t.contexts) x) same (Contains-map (asker a.view group a.message.level) t.contexts context there) in
    Contains-flat_map (of_view t) views a.view a asked
    (Contains-flat_map (of_group t.contexts a.view) t.groups group a listed
    (Contains-flat_map (λ level. map (asker a.view group level) t.contexts) levels a.message.level a (each_level a.message.level) mine))
