-- Who may see a variable, or some name at or below it (RFC 3415, section 3): of the questions that can be answered
-- accessAllowed those that are.
--
-- `AreSeeing tables views only users extent variable seeing`. These are those of the questions that see what is asked
-- for, in their order, and no other (`AreThose`). `Sees`: isAccessAllowed answers accessAllowed, of the variable or of
-- some name at or below it (`Extent.SeesWanted`), and where users alone are wanted it is one of theirs: `IsUserAt`, a
-- name of the user-based model that is a user's, who supports the level.
--
-- `AnswerFor tables rows`. What loading gives: tables answer as is answered over the rows, and of each
-- index there is one row. ### What a name sees (`Seen`)
use Rattle.std.specs.Prelude.{◌≡◌, ◌⊎◌, ℕ, Bool, true, List, [], ◌∷◌, ◌++◌, map}
use Rattle.snmp_ber.specs.declared.level.Level.{Level}
use Rattle.usm_users.specs.declared.load.UserRow.{UserRow}
use Rattle.usm_users.specs.Rows.{user_of}
use Rattle.usm_users.specs.Users.{HasUserAt}
use Rattle.vacm_core.specs.declared.access.ViewType.{ViewType}
use Rattle.vacm_core.specs.declared.access.Access.{Access}
use Rattle.vacm_core.specs.Allowed.{Requester, Allowed}
use Rattle.vacm_core.specs.Distinct.{HasOneRowEach}
use Rattle.vacm_core.specs.Tables.{Tables, tables_of, HaveSameRows}
use Rattle.snmpsec_access.specs.declared.who.AllowedAsker.{AllowedAsker}
use Rattle.snmpsec_access.specs.declared.who.WhoSeesQuery.{WhoSeesQuery}
use Rattle.snmpsec_access.specs.declared.extent.Extent.{Extent}
use Rattle.snmpsec_access.specs.declared.extent.Extent.TheVariants.{Below}
use Rattle.snmpsec_access.specs.Extent.{SeesWanted}
use Rattle.snmpsec_access.specs.Askers.{Asker, askers}

-- those of these of which P holds, in their order
abbrev pub AreThose : {A : Type 0} → (A → Type 0) → List A → List A → Type 0
AreThose P [] kept = kept ≡ []
AreThose {A} P (x ∷ xs) kept = (P x × ((rest : List A) × (kept ≡ x ∷ rest) × AreThose P xs rest))
    ⊎ (¬ P x × AreThose P xs kept)

-- ---- which are wanted

-- The name is a user's, of the user-based security model, and that user supports the level (RFC 3414, section 2.1).
pub record IsUserAt (users : List UserRow) (model : ℕ) (name : List ℕ) (level : Level) : Type 0 where
  pub user_based : model ≡ 3
  pub supported : HasUserAt (map user_of users) name level

-- Where only users are wanted, it is one.
abbrev pub IsWanted : Bool → List UserRow → ℕ → List ℕ → Level → Type 0
IsWanted only users model name level = only ≡ true → IsUserAt users model name level

-- It is wanted, and sees what is asked for.
pub record Sees (t : Tables) (only : Bool) (users : List UserRow) (extent : Extent) (variable : List ℕ)
    (a : Asker) : Type 0 where
  pub wanted : IsWanted only users a.message.model a.message.name a.message.level
  pub seen : SeesWanted t extent a.message a.view variable

-- These see what is asked for, and no others.
abbrev pub AreSeeing : Tables → List ViewType → Bool → List UserRow → Extent → List ℕ → List Asker → Type 0
AreSeeing t views only users extent variable seeing =
    AreThose (Sees t only users extent variable) (askers t views) seeing

-- ---- what the values of the code say

-- The tables answer each question as it is answered over the rows, and of each index there is one row.
pub record AnswerFor (tables rows : Tables) : Type 0 where
  pub decides : (message : Requester) (view : ViewType) (variable : List ℕ) (answer : Access)
      → Allowed tables message view variable answer → Allowed rows message view variable answer
  pub one_row_each : HasOneRowEach rows

-- The tables answer as over the rows. Where names at or below the variable are asked for, they have these very rows.
pub record IsReady (w : WhoSeesQuery) : Type 0 where
  pub answers : AnswerFor w.access.now (tables_of w.rows.now)
  pub same_rows : w.extent ≡ Below → HaveSameRows (tables_of w.rows.now) w.access.now

abbrev pub SeesIt : WhoSeesQuery → Asker → Type 0
SeesIt w = Sees (tables_of w.rows.now) w.only_users w.users.now w.extent w.variable.now

abbrev pub asker_of : AllowedAsker → Asker
asker_of a = record {
  message = record { model = a.model; name = a.name.now; level = a.level; context = a.context.now };
  view = a.view;
}

-- The list goes on with each of these of which P holds, and no other.
pub record GoesOn (P : Asker → Type 0) (from before after : List Asker) : Type 0 where
  pub seeing : List Asker
  pub those : AreThose P from seeing
  pub joined : after ≡ before ++ seeing
