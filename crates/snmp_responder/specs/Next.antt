-- The next variable that a message may see (RFC 3416, section 4.2.2).
--
-- `IsNext`: of the variables that are there and are seen, the one with the least name after this one.
-- `IsNextAnswer`: what a name is answered with in a GetNextRequest: that variable, or the name itself with
-- endOfMibView if there is none.
use Rattle.std.specs.Prelude.{◌⊎◌, ⊤, ℕ, List, [], ◌∷◌, Contains}
use Rattle.vacm_next.specs.Next.{IsBefore, IsUpto}
use Rattle.snmp_msg.specs.Variables.{Variable}
use Rattle.snmp_msg.specs.declared.value.Syntax.TheVariants.{EndOfMibView}
use Rattle.snmp_responder.specs.Instrumentation.{Known, IsException}

-- the variable is there, is seen, and has a name after this one
pub record ComesNext (device : Known) (Seen : List ℕ → Type 0) (after : List ℕ) (v : Variable) : Type 0 where
  pub there : Contains device.variables v
  pub seen : Seen v.name
  pub behind : IsBefore after v.name

-- of these variables, one with the least name
pub record IsNext (device : Known) (Seen : List ℕ → Type 0) (after : List ℕ) (v : Variable) : Type 0 where
  pub comes : ComesNext device Seen after v
  pub least : (other : Variable) → ComesNext device Seen after other → IsUpto v.name other.name

-- there is none of them
abbrev pub NoneNext : Known → (List ℕ → Type 0) → List ℕ → Type 0
NoneNext device Seen after = (v : Variable) → ¬ ComesNext device Seen after v

-- what the name is answered with in a GetNextRequest
abbrev pub IsNextAnswer : Known → (List ℕ → Type 0) → List ℕ → Variable → Type 0
IsNextAnswer device Seen after v = IsNext device Seen after v
    ⊎ (NoneNext device Seen after × IsException EndOfMibView after v)

-- what the names are answered with in a GetNextRequest, in their order
abbrev pub AreNextAnswers : Known → (List ℕ → Type 0) → List (List ℕ) → List Variable → Type 0
AreNextAnswers device Seen [] [] = ⊤
AreNextAnswers device Seen [] (v ∷ vs) = ⊥
AreNextAnswers device Seen (name ∷ names) [] = ⊥
AreNextAnswers device Seen (name ∷ names) (v ∷ vs) = IsNextAnswer device Seen name v
    × AreNextAnswers device Seen names vs
