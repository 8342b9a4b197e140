-- A question of `snmpsec check-access` or `snmpsec explain-access`, and what is printed for it.
--
-- `ChecksAccess config words printed`. What `check-access` prints: the first word out of its form; or the
-- refusal of the configuration; or, for the question that the words ask, the answer that `Allowed` has on
-- the rows that the configuration stands for (`SaysSound`).
--
-- `ExplainsAccess config words printed`. The same, and more after the answer.
use Rattle.std.specs.Prelude.{◌≡◌, ◌≢◌, ◌⊎◌, ℕ, ◌≤◌, List, [], ◌++◌, codes, decimal, slice_index_or}
use Rattle.snmp_ber.specs.Oid.{AreArcs, dotted}
use Rattle.snmp_ber.specs.declared.level.Level.{Level}
use Rattle.snmp_ber.specs.declared.number.TheConstants.{MAX_INTEGER32}
use Rattle.vacm_core.specs.Allowed.{Requester, Allowed}
use Rattle.vacm_core.specs.Tables.{Tables}
use Rattle.vacm_core.specs.declared.access.ViewType.{ViewType}
use Rattle.vacm_core.specs.declared.access.Access.{Access}
use Rattle.snmpsec_output.specs.declared.arguments.Argument.{Argument}
use Rattle.snmpsec_output.specs.declared.arguments.Argument.TheVariants.{Model, Level as LevelWord, View, Oid}
use Rattle.usm_users.specs.declared.load.UserRow.{UserRow}
use Rattle.snmpsec_config.specs.declared.fault.ConfigFault.{ConfigFault}
use Rattle.snmpsec_config.specs.Refusals.{SaysSound, RefusesText, refusal_line}
use Rattle.snmpsec_config.specs.Words.{level_word}
use Rattle.snmpsec_output.specs.declared.check.Question.{Question}
use Rattle.snmpsec_access.specs.Words.{view_word, access_word}
use Rattle.snmpsec_output.specs.Words.{access_status}

-- ---- the words

-- the words MODEL, NAME, LEVEL, VIEW, CONTEXT and OID, from 0
abbrev pub word_at : List (List ℕ) → ℕ → List ℕ
word_at words k = slice_index_or words k []

-- a decimal, without sign or leading zeros, of the number of a security model
pub record IsModelWord (word : List ℕ) (model : ℕ) : Type 0 where
  pub some : 1 ≤ model
  pub most : model ≤ MAX_INTEGER32
  pub text : word ≡ decimal model

-- `@` is the empty name of a context
abbrev pub IsContextWord : List ℕ → List ℕ → Type 0
IsContextWord word context = ((word ≡ codes "@") × (context ≡ [])) ⊎ ((word ≢ codes "@") × (context ≡ word))

-- who asks, for which view and for which variable
pub record Asked : Type 0 where
  pub message : Requester
  pub view : ViewType
  pub arcs : List ℕ

-- The words ask this.
pub record Asks (words : List (List ℕ)) (asked : Asked) : Type 0 where
  pub model : IsModelWord (word_at words 0) asked.message.model
  pub name : word_at words 1 ≡ asked.message.name
  pub level : word_at words 2 ≡ level_word asked.message.level
  pub view : word_at words 3 ≡ view_word asked.view
  pub context : IsContextWord (word_at words 4) asked.message.context
  pub arcs : AreArcs asked.arcs
  pub variable : word_at words 5 ≡ dotted asked.arcs

-- ---- a word out of its form

abbrev pub IsNoModel : List ℕ → Type 0
IsNoModel word = (model : ℕ) → ¬ IsModelWord word model

abbrev pub IsNoLevel : List ℕ → Type 0
IsNoLevel word = (level : Level) → word ≢ level_word level

abbrev pub IsNoView : List ℕ → Type 0
IsNoView word = (view : ViewType) → word ≢ view_word view

abbrev pub IsNoOid : List ℕ → Type 0
IsNoOid word = (arcs : List ℕ) → AreArcs arcs → word ≢ dotted arcs

-- The word of this argument is the first out of its form.
abbrev pub IsFirstWrong : List (List ℕ) → Argument → Type 0
IsFirstWrong words Model = IsNoModel (word_at words 0)
IsFirstWrong words LevelWord = ((model : ℕ) × IsModelWord (word_at words 0) model) × IsNoLevel (word_at words 2)
IsFirstWrong words View =
    ((model : ℕ) × IsModelWord (word_at words 0) model) × ((level : Level) × (word_at words 2 ≡ level_word level))
    × IsNoView (word_at words 3)
IsFirstWrong words Oid =
    ((model : ℕ) × IsModelWord (word_at words 0) model) × ((level : Level) × (word_at words 2 ≡ level_word level))
    × ((view : ViewType) × (word_at words 3 ≡ view_word view)) × IsNoOid (word_at words 5)

abbrev pub argument_name : Argument → List ℕ
argument_name Model = codes "MODEL"
argument_name LevelWord = codes "LEVEL"
argument_name View = codes "VIEW"
argument_name Oid = codes "OID"

-- ---- what is printed

-- what the program writes, and its status
pub record Printed : Type 0 where
  pub out : List ℕ
  pub err : List ℕ
  pub status : ℕ

-- The answer over these rows is printed (RFC 3415, section 3).
pub record Answers (rows : Tables) (asked : Asked) (printed : Printed) : Type 0 where
  pub answer : Access
  pub allowed : Allowed rows asked.message asked.view asked.arcs answer
  pub out : printed.out ≡ access_word answer ++ codes "\n"
  pub err : printed.err ≡ []
  pub status : printed.status ≡ access_status answer

-- The first word out of its form is reported.
pub record TellsWord (words : List (List ℕ)) (printed : Printed) : Type 0 where
  pub argument : Argument
  pub first : IsFirstWrong words argument
  pub out : printed.out ≡ []
  pub err : printed.err ≡ codes "snmpsec: " ++ ((codes "bad word " ++ argument_name argument) ++ codes "\n")
  pub status : printed.status ≡ 2

-- The refusal of the configuration is printed.
pub record TellsRefused (config : List ℕ) (printed : Printed) : Type 0 where
  pub fault : ConfigFault
  pub told : RefusesText config fault
  pub out : printed.out ≡ refusal_line fault ++ codes "\n"
  pub err : printed.err ≡ []
  pub status : printed.status ≡ 1

-- The question is answered over the rows that the configuration stands for. None of them is at fault, so that
-- of each index there is one.
abbrev pub AnswersFrom : (Tables → Asked → Printed → Type 0) → List ℕ → Asked → Printed → Type 0
AnswersFrom Tells config asked printed = (users : List UserRow) × (rows : Tables) × SaysSound config users rows
    × Tells rows asked printed

-- A word out of its form is reported first, then a configuration that is refused, and else the question is answered.
abbrev pub AnswersAs : (Tables → Asked → Printed → Type 0) → List ℕ → List (List ℕ) → Printed → Type 0
AnswersAs Tells config words printed =
    TellsWord words printed
    ⊎ ((asked : Asked) × Asks words asked × (TellsRefused config printed ⊎ AnswersFrom Tells config asked printed))

abbrev pub ChecksAccess : List ℕ → List (List ℕ) → Printed → Type 0
ChecksAccess config words printed = AnswersAs Answers config words printed

-- ---- what decided

-- The answer over these rows is printed, and after it what decided, in words that aren't defined.
pub record Explains (rows : Tables) (asked : Asked) (printed : Printed) : Type 0 where
  pub answer : Access
  pub allowed : Allowed rows asked.message asked.view asked.arcs answer
  pub decided : List ℕ
  pub out : printed.out ≡ (access_word answer ++ codes "\n") ++ decided
  pub err : printed.err ≡ []
  pub status : printed.status ≡ access_status answer

abbrev pub ExplainsAccess : List ℕ → List (List ℕ) → Printed → Type 0
ExplainsAccess config words printed = AnswersAs Explains config words printed

-- ---- what the values of the code say

abbrev pub asked_of : Question → Asked
asked_of q = record {
  message = record { model = q.model; name = q.name.now; level = q.level; context = q.context.now };
  view = q.view;
  arcs = q.variable;
}
