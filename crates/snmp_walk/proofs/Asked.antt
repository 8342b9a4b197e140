-- Columns that were asked, and what answers them.
use Rattle.std.specs.Prelude.{◌≡◌, ◌<◌, ◌+◌, List, [], ◌∷◌, ◌++◌, ℕ, length, drop, slice_index_or}
use Rattle.std.proofs.Common.{refl, ap, subst, ◌∙◌, arith}
use Rattle.std.proofs.lemmas.List.{drop_more, length-append}
use Rattle.std.proofs.lemmas.Slice.Zip.{AllZip-long}
use Rattle.snmp_msg.specs.Variables.{Variable}
use Rattle.snmp_walk.specs.Bindings.{FitsPlace}
use Rattle.snmp_walk.specs.Column.{Asks, IsAsked}
use Rattle.snmp_walk.specs.Dialogue.{Answers, AnswersAll, asked_in, asks_of}
use Rattle.snmp_walk.specs.declared.operation.ReadOperation.{ReadOperation}
use Rattle.snmp_walk.specs.declared.column.Column.{Column}
use Rattle.snmp_walk.specs.declared.column.Progress.{Progress}
use Rattle.snmp_walk.specs.declared.column.Progress.TheVariants.{Asked}

-- one that was asked was asked for a name
pub name_asked : (p : Progress) → IsAsked p → (name : List ℕ) × Asks p name
name_asked (Asked ask) is = (ask.name, refl)
name_asked _ is = absurd is

pub asks_none : (o : ReadOperation) (p : Progress) → ¬ IsAsked p → asked_in o p ≡ []
asks_none o (Asked ask) not = absurd (not tt)
asks_none o _ not = refl

pub asks_one : (o : ReadOperation) (p : Progress) (name : List ℕ) → Asks p name → asked_in o p ≡ (o, name) ∷ []
asks_one o (Asked ask) name asks = ap (λ (n : List ℕ). (o, n) ∷ []) asks
asks_one o _ name asks = absurd asks

-- what is asked, with one more column
pub asks_at : (cs : List Column) (i : ℕ) (d : Column) (asks more : List (ReadOperation × List ℕ)) → i < length cs → asks_of cs ≡ asks ++ asks_of (drop i cs)
    → asked_in (slice_index_or cs i d).operation (slice_index_or cs i d).progress ≡ more → asks_of cs ≡ asks ++ (more ++ asks_of (drop (i + 1) cs))
asks_at cs i d asks more within is asked =
    is ∙ ap (λ (rest : List Column). asks ++ asks_of rest) (drop_more cs i d within) ∙ ap (λ (those : List (ReadOperation × List ℕ)). asks ++ (those ++ asks_of (drop (i + 1) cs))) asked

-- the variables that answer a column and others
pub answered_none : (o : ReadOperation) (p : Progress) (asks : List (ReadOperation × List ℕ)) (vs : List Variable) → ¬ IsAsked p → AnswersAll (asked_in o p ++ asks) vs → AnswersAll asks vs
answered_none o p asks vs not all = subst (λ (those : List (ReadOperation × List ℕ)). AnswersAll (those ++ asks) vs) (asks_none o p not) all

pub answered_one : (o : ReadOperation) (p : Progress) (name : List ℕ) (asks : List (ReadOperation × List ℕ)) (v : Variable) (vs : List Variable) → Asks p name → AnswersAll (asked_in o p ++ asks) (v ∷ vs)
    → FitsPlace o name v × AnswersAll asks vs
answered_one o p name asks v vs is all = subst (λ (those : List (ReadOperation × List ℕ)). AnswersAll (those ++ asks) (v ∷ vs)) (asks_one o p name is) all

-- fewer variables than were asked, and more
pub too_few : (those asks more : List (ReadOperation × List ℕ)) (ask : ReadOperation × List ℕ) (vs done : List Variable) → those ≡ asks ++ ask ∷ more → vs ≡ done ++ [] → AnswersAll asks done → length vs < length those
too_few those asks more ask vs done asks_are are answered =
    omega (arith, ap length asks_are ∙ length-append asks (ask ∷ more), ap length are ∙ length-append done [], AllZip-long Answers asks done answered)

pub too_many : (those asks : List (ReadOperation × List ℕ)) (vs done rest : List Variable) (v : Variable) → those ≡ asks ++ [] → vs ≡ done ++ v ∷ rest → AnswersAll asks done → length those < length vs
too_many those asks vs done rest v asks_are are answered =
    omega (arith, ap length asks_are ∙ length-append asks [], ap length are ∙ length-append done (v ∷ rest), AllZip-long Answers asks done answered)

-- what is asked, with a column that is asked for this name
pub asks_next : (cs : List Column) (i : ℕ) (c : Column) (asks : List (ReadOperation × List ℕ)) (name : List ℕ) → i < length cs → c ≡ slice_index_or cs i c → asks_of cs ≡ asks ++ asks_of (drop i cs)
    → Asks c.progress name → asks_of cs ≡ asks ++ (c.operation, name) ∷ asks_of (drop (i + 1) cs)
asks_next cs i c asks name within is asks_are asked =
    asks_at cs i c asks ((c.operation, name) ∷ []) within asks_are
    (subst (λ (x : Column). asked_in x.operation x.progress ≡ (c.operation, name) ∷ []) is (asks_one c.operation c.progress name asked))
