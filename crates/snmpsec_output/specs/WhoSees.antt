-- What `snmpsec who-sees` makes of a configuration and words.
--
-- `PrintsWho config words only extent printed`. A word out of its form is reported first (`IsFirstWrong`), then a
-- configuration that is refused with what is wrong with it, and else it is listed who sees the variable (`Lists`), for
-- the view that is asked for or for each (`views_of`). In which words they are listed isn't defined.
use Rattle.std.specs.Prelude.{◌≡◌, ◌⊎◌, ⊤, ℕ, Bool, List, [], ◌∷◌, ◌++◌, codes, Option, Some, None, IsSomeAnd}
use Rattle.snmp_ber.specs.Oid.{AreArcs, dotted}
use Rattle.usm_users.specs.declared.load.UserRow.{UserRow}
use Rattle.vacm_core.specs.Tables.{Tables}
use Rattle.vacm_core.specs.declared.access.ViewType.{ViewType}
use Rattle.vacm_core.specs.declared.access.ViewType.TheVariants.{Read, Write, Notify}
use Rattle.snmpsec_config.specs.Refusals.{SaysSound}
use Rattle.snmpsec_access.specs.Words.{view_word}
use Rattle.snmpsec_access.specs.Askers.{Asker}
use Rattle.snmpsec_access.specs.WhoSees.{AreSeeing}
use Rattle.snmpsec_access.specs.declared.extent.Extent.{Extent}
use Rattle.snmpsec_output.specs.declared.arguments.Argument.{Argument}
use Rattle.snmpsec_output.specs.declared.arguments.Argument.TheVariants.{Model, Level as LevelWord, View, Oid}
use Rattle.snmpsec_output.specs.CheckConfig.{Explains}
use Rattle.snmpsec_output.specs.Questions.{Printed, IsNoOid, IsNoView, argument_name}

-- the words OID and VIEW, which may be left out
pub record WhoWords : Type 0 where
  pub variable : List ℕ
  pub view : Option (List ℕ)

-- the view that the word asks for, where there is one
abbrev pub IsViewWord : Option (List ℕ) → Option ViewType → Type 0
IsViewWord None None = ⊤
IsViewWord None (Some view) = ⊥
IsViewWord (Some word) None = ⊥
IsViewWord (Some word) (Some view) = word ≡ view_word view

-- all views, where none is asked for
abbrev pub views_of : Option ViewType → List ViewType
views_of None = Read ∷ Write ∷ Notify ∷ []
views_of (Some view) = view ∷ []

-- The words ask for this variable, and for this view.
pub record AsksWho (words : WhoWords) (variable : List ℕ) (view : Option ViewType) : Type 0 where
  pub arcs : AreArcs variable
  pub variable_word : words.variable ≡ dotted variable
  pub view_word : IsViewWord words.view view

-- The word of this argument is the first out of its form.
abbrev pub IsFirstWrong : WhoWords → Argument → Type 0
IsFirstWrong words Oid = IsNoOid words.variable
IsFirstWrong words View = ((arcs : List ℕ) × AreArcs arcs × (words.variable ≡ dotted arcs))
    × IsSomeAnd words.view IsNoView
IsFirstWrong words Model = ⊥
IsFirstWrong words LevelWord = ⊥

-- The first word out of its form is reported.
pub record TellsWord (words : WhoWords) (printed : Printed) : Type 0 where
  pub argument : Argument
  pub first : IsFirstWrong words argument
  pub out : printed.out ≡ []
  pub err : printed.err ≡ codes "snmpsec: " ++ ((codes "bad word " ++ argument_name argument) ++ codes "\n")
  pub status : printed.status ≡ 2

-- 0 where someone sees it
abbrev pub seeing_status : List Asker → ℕ
seeing_status [] = 1
seeing_status (asker ∷ askers) = 0

-- Who sees what is asked for, over the rows that the configuration stands for. Where nobody does, nothing is printed.
pub record Lists (config : List ℕ) (only_users : Bool) (extent : Extent) (variable : List ℕ) (view : Option ViewType)
    (printed : Printed) : Type 0 where
  pub users : List UserRow
  pub rows : Tables
  pub says : SaysSound config users rows
  pub seeing : List Asker
  pub are : AreSeeing rows (views_of view) only_users users extent variable seeing
  pub none : seeing ≡ [] → printed.out ≡ []
  pub err : printed.err ≡ []
  pub status : printed.status ≡ seeing_status seeing

-- A word out of its form is reported first, then a configuration that is refused and what is wrong with it, and
-- else who sees what is asked for.
abbrev pub PrintsWho : List ℕ → WhoWords → Bool → Extent → Printed → Type 0
PrintsWho config words only_users extent printed =
    TellsWord words printed
    ⊎ ((variable : List ℕ) × (view : Option ViewType) × AsksWho words variable view
    × (Explains config printed ⊎ Lists config only_users extent variable view printed))
