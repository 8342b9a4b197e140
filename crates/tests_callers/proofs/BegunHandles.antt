-- Handles that begin from the same texts.
use Rattle.std.proofs.Common.{◌≡◌, ◌∙◌, ℕ, List, [], ◌∷◌, map, Option, Some, None, refl, sym, ap}
use Rattle.std.specs.Prelude.{Ok}
use Rattle.std.specs.Global.{Vec}
use Rattle.std.specs.Option.{option_map, option_and_then}
use Rattle.usm_keys.specs.declared.auth.Auth.{Auth}
use Rattle.usm_users.specs.Rows.{key_of, user_of}
use Rattle.usm_users.specs.User.{User}
use Rattle.usm_users.specs.declared.load.UserRow.{UserRow}
use Rattle.vacm_core.specs.Tables.{Tables}
use Rattle.engine_clock.specs.Marks.{Marks, pair_at}
use Rattle.engine_clock.specs.Saved.{Saves}
use Rattle.snmp_manager.specs.Views.{BeginAlike}
use Rattle.snmpsec_config.specs.Refusals.{Loads, Says}
use Rattle.snmpsec_config.specs.Rows.{UserValues, user_values}
use Rattle.snmp_handles.specs.Managers.{MakesManager, ManagerHeld}

-- ---- the user that a row says, by what the row says

abbrev of_values : UserValues → User
of_values v = record {
  name = v.name;
  auth = option_map (λ own. key_of own.0 own.1) v.auth;
  privacy = option_and_then (λ own. option_map (λ password. key_of own.0 password) v.privacy) v.auth;
}

auths : (own : Option (Auth × Vec ℕ)) → option_map (λ (o : Auth × Vec ℕ). key_of o.0 o.1.items) own ≡ option_map (λ (o : Auth × List ℕ). key_of o.0 o.1) (option_map (λ (o : Auth × Vec ℕ). (o.0, o.1.items)) own)
auths None = refl
auths (Some own) = refl

privacies : (own : Option (Auth × Vec ℕ)) (password : Option (Vec ℕ)) → option_and_then (λ (o : Auth × Vec ℕ). option_map (λ (p : Vec ℕ). key_of o.0 p.items) password) own
    ≡ option_and_then (λ (o : Auth × List ℕ). option_map (λ (p : List ℕ). key_of o.0 p) (option_map (λ (p : Vec ℕ). p.items) password)) (option_map (λ (o : Auth × Vec ℕ). (o.0, o.1.items)) own)
privacies None password = refl
privacies (Some own) None = refl
privacies (Some own) (Some password) = refl

same_user : (row : UserRow) → user_of row ≡ of_values (user_values row)
same_user row = rw (auths row.auth, privacies row.auth row.privacy) refl

users_of : (rows : List UserRow) → map user_of rows ≡ map of_values (map user_values rows)
users_of [] = refl
users_of (row ∷ rows) = rw (same_user row, users_of rows) refl

-- ---- what a configuration and a text of saved clocks make

module _ (one_users : (text : List ℕ) (users others : List UserRow) (rows more : Tables) → Says text users rows → Says text others more → map user_values users ≡ map user_values others)
    (one_map : (now : ℕ) (text : List ℕ) (a b : Marks) → Saves now text a → Saves now text b → a ≡ b) where
  same_loaded : (text : List ℕ) (users others : List User) (tables more : Tables) → Loads text users tables → Loads text others more → users ≡ others
  same_loaded text users others tables more l m =
      l.same_users ∙ users_of l.users ∙ ap (map of_values) (one_users text l.users m.users l.rows m.rows l.sound.says m.sound.says) ∙ sym (users_of m.users) ∙ sym m.same_users

  pub begin_alike : (config clocks : List ℕ) (now : ℕ) (one other : ManagerHeld) → MakesManager config clocks now (Ok one) → MakesManager config clocks now (Ok other) → BeginAlike one.manager other.manager
  begin_alike config clocks now one other a b =
      let users = ap (λ (h : ManagerHeld). h.manager.users) a.5 ∙ same_loaded config a.0 b.0 a.1 b.1 a.3 b.3 ∙ sym (ap (λ (h : ManagerHeld). h.manager.users) b.5) in
      let marks = ap (λ (h : ManagerHeld). h.manager.clocks) a.5 ∙ one_map now clocks a.2 b.2 a.4 b.4 ∙ sym (ap (λ (h : ManagerHeld). h.manager.clocks) b.5) in
      (users, λ engine. ap (λ (m : Marks). pair_at m engine) marks)
