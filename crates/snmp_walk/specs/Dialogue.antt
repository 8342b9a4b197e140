-- One dialogue with a device (RFC 3416, sections 4.2.1 and 4.2.2).
--
-- `requests`: what the columns are for, in the order of the bindings. `asks_of`: what the device is asked. `AllBegin`:
-- how the columns begin. `AllStand`: what is known of them. `IsWhole`: all is there for the Response. `IsFirstOpen`:
-- the first column for which something is missing. `IsShown`: what the Response holds. `Shows`: the law outwards of one
-- binding. `AllGoOn`, `AllTake`: what becomes of the columns. `IsNext`: what becomes of the dialogue next.
-- `AnswersAll`, `IsFault`: whether an answer fits, and why not.
use Rattle.std.specs.Prelude.{◌≡◌, ◌⊎◌, ℕ, ◌+◌, ◌<◌, List, [], ◌∷◌, ◌++◌, All, map, length, slice_index_or}
use Rattle.std.specs.List.{HoldsAt, AllZip, flat_map}
use Rattle.snmp_msg.specs.Variables.{Variable, variable_of}
use Rattle.snmp_msg.specs.declared.binding.Binding.{Binding}
use Rattle.snmp_walk.specs.Bindings.{FitsPlace, Misfits}
use Rattle.snmp_walk.specs.Column.{IsAsked, IsOpen, IsShownBy, MayShow, Stands}
use Rattle.snmp_walk.specs.Steps.{Begins, GoesOn, Takes}
use Rattle.snmp_walk.specs.declared.operation.ReadOperation.{ReadOperation}
use Rattle.snmp_walk.specs.declared.misfit.Misfit.{Misfit}
use Rattle.snmp_walk.specs.declared.column.Column.{Column}
use Rattle.snmp_walk.specs.declared.column.Progress.{Progress}
use Rattle.snmp_walk.specs.declared.column.Progress.TheVariants.{Asked}
use Rattle.snmp_walk.specs.declared.answer.AnswerFault.{AnswerFault}
use Rattle.snmp_walk.specs.declared.answer.AnswerFault.TheVariants.{TooFew, TooMany, AtBinding}
use Rattle.snmp_walk.specs.declared.dialogue.Dialogue.{Dialogue}
use Rattle.snmp_walk.specs.declared.dialogue.Next.{Next}
use Rattle.snmp_walk.specs.declared.dialogue.Next.TheVariants.{Asks, Ends, RoundsUsedUp}

-- what a column is for: the operation, and the name in the request
abbrev pub request : Column → ReadOperation × List ℕ
request c = (c.operation, c.first)

abbrev pub requests : Dialogue → List (ReadOperation × List ℕ)
requests d = map request d.columns.items

-- the operation with the name of each binding
abbrev pub requests_of : ReadOperation → List Variable → List (ReadOperation × List ℕ)
requests_of o vs = map (λ v. (o, v.name)) vs

-- a column begins
abbrev pub ColumnBegins : (List ℕ → Type 0) → Column → Type 0
ColumnBegins Seen c = Begins Seen c.operation c.first c.progress

abbrev pub AllBegin : (List ℕ → Type 0) → Dialogue → Type 0
AllBegin Seen d = All (ColumnBegins Seen) d.columns.items

abbrev pub AllStand : (List ℕ → Type 0) → List Variable → Dialogue → Type 0
AllStand Seen told d = All (Stands Seen told) d.columns.items

-- for no binding the device is to be asked, or to answer
abbrev pub IsWhole : Dialogue → Type 0
IsWhole d = All (λ (c : Column). ¬ IsOpen c.progress) d.columns.items

-- the number of the first column for which it is
pub record IsFirstOpen (d : Dialogue) (number : ℕ) : Type 0 where
  pub within : number < length d.columns.items
  pub open_there : HoldsAt (λ (c : Column). IsOpen c.progress) d.columns.items number
  pub before : (k : ℕ) (e : Column) → k < number → ¬ IsOpen (slice_index_or d.columns.items k e).progress

-- the binding of the Response is one that it may hold
abbrev pub Shows : (List ℕ → Type 0) → List Variable → Column → Binding → Type 0
Shows Seen told c b = MayShow Seen told c.operation c.first (variable_of b)

-- the binding of the Response is what the column has come to
abbrev pub IsShown : Column → Binding → Type 0
IsShown c b = IsShownBy c.first c.progress (variable_of b)

-- a column goes on
pub record ColumnGoesOn (Seen : List ℕ → Type 0) (old new : Column) : Type 0 where
  pub same : request new ≡ request old
  pub goes_on : GoesOn Seen old.operation old.progress new.progress

abbrev pub AllGoOn : (List ℕ → Type 0) → List Column → List Column → Type 0
AllGoOn Seen olds news = AllZip (ColumnGoesOn Seen) olds news

-- the device is asked once more; or all is there; or something is missing, and it may not be asked again
abbrev pub IsNext : Dialogue → Dialogue → Next → Type 0
IsNext old new Asks = (new.rounds + 1 ≡ old.rounds) × ¬ IsWhole new
IsNext old new Ends = (new.rounds ≡ old.rounds) × IsWhole new
IsNext old new (RoundsUsedUp number) = (old.rounds ≡ 0) × (new.rounds ≡ 0) × IsFirstOpen new number

-- what the device is asked for a column, if it is asked
abbrev pub asked_in : ReadOperation → Progress → List (ReadOperation × List ℕ)
asked_in o (Asked ask) = (o, ask.name) ∷ []
asked_in o _ = []

-- the names that the device is asked, in the order of the columns
abbrev pub asks_of : List Column → List (ReadOperation × List ℕ)
asks_of cs = flat_map (λ (c : Column). asked_in c.operation c.progress) cs

-- the variable answers what was asked
abbrev pub Answers : ReadOperation × List ℕ → Variable → Type 0
Answers ask v = FitsPlace ask.0 ask.1 v

-- each of the variables answers what was asked in its place, and there are as many
abbrev pub AnswersAll : List (ReadOperation × List ℕ) → List Variable → Type 0
AnswersAll asks vs = AllZip Answers asks vs

-- the variable of this number, counted from 0, is the first one that doesn't answer what was asked in its place
pub record IsFirstMisfit (asks : List (ReadOperation × List ℕ)) (vs : List Variable) (number : ℕ) (misfit : Misfit)
    : Type 0 where
  pub asks_before : List (ReadOperation × List ℕ)
  pub ask : ReadOperation × List ℕ
  pub asks_after : List (ReadOperation × List ℕ)
  pub asks_are : asks ≡ asks_before ++ ask ∷ asks_after
  pub before : List Variable
  pub variable : Variable
  pub after : List Variable
  pub are : vs ≡ before ++ variable ∷ after
  pub number_is : number ≡ length before
  pub answered : AnswersAll asks_before before
  pub misfits : Misfits ask.0 ask.1 variable misfit

-- why the variables don't answer what was asked
abbrev pub IsFault : List (ReadOperation × List ℕ) → List Variable → AnswerFault → Type 0
IsFault asks vs TooFew = length vs < length asks
IsFault asks vs TooMany = length asks < length vs
IsFault asks vs (AtBinding number misfit) = IsFirstMisfit asks vs number misfit

-- a column that was asked takes the variable
pub record ColumnTakes (Seen : List ℕ → Type 0) (old : Column) (v : Variable) (new : Column) : Type 0 where
  pub asked : IsAsked old.progress
  pub same : request new ≡ request old
  pub takes : Takes Seen old.operation v new.progress

-- each column that was asked takes the next one of the variables, and the others stay as they are
abbrev pub AllTake : (List ℕ → Type 0) → List Column → List Variable → List Column → Type 0
AllTake Seen [] vs news = (vs ≡ []) × (news ≡ [])
AllTake Seen (c ∷ cs) vs [] = ⊥
AllTake Seen (c ∷ cs) vs (new ∷ news) = ((¬ IsAsked c.progress) × (new ≡ c) × AllTake Seen cs vs news)
    ⊎ ((v : Variable) × (rest : List Variable) × (vs ≡ v ∷ rest) × ColumnTakes Seen c v new × AllTake Seen cs rest news)
