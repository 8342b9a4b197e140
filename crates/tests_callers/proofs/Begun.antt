-- What a caller writes to use the law of replicas.
use Rattle.std.proofs.Common.{◌≡◌, ◌∙◌, ℕ, List, [], ◌∷◌, Some, None, sym, ap, zero, suc}
use Rattle.std.specs.Prelude.{map, slice_get}
use Rattle.engine_clock.specs.Marks.{Marks}
use Rattle.usm_users.specs.User.{User}
use Rattle.snmp_manager.specs.Views.{Held, held_by}
use Rattle.snmp_manager.specs.State.{WorldState}
use Rattle.snmp_manager.specs.Knowledge.{HaveUsers}
use Rattle.tests_callers.specs.Begun.{begun}

abbrev users_of : Held → List User
users_of held = held.users

some_is : (a b : Held) → Some a ≡ Some b → a ≡ b
some_is a b is = cc is

every_manager : (users : List User) (clocks : List Marks) (i : ℕ) (held : Held) → slice_get (map (held_by users) clocks) i ≡ Some held → held.users ≡ users
every_manager users [] i held at = let wrong : None ≡ Some held = at in cc wrong
every_manager users (c ∷ clocks) zero held at = let first : Some (held_by users c) ≡ Some held = at in sym (ap users_of (some_is _ _ first))
every_manager users (c ∷ clocks) (suc i) held at = every_manager users clocks i held at

-- each manager of a world that begins has its users
pub begun_have_users : (users : List User) (clocks : List Marks) → HaveUsers users (begun users clocks)
begun_have_users users clocks = every_manager users clocks

abbrev made : List Held → List (List ℕ) → WorldState
made managers files = record { managers = managers; files = files }

pub is_begun : (users : List User) (clocks : List Marks) (w : WorldState) → w.managers ≡ map (held_by users) clocks → w.files ≡ [] → w ≡ begun users clocks
is_begun users clocks w m f = ap (λ (ms : List Held). made ms w.files) m ∙ ap (λ (fs : List (List ℕ)). made (map (held_by users) clocks) fs) f
