-- Variable bindings that a caller hands in, or asks for.
--
-- `RefusesBindings`: why octets aren't taken as bindings. `ReadsOne`, `ReadsAt`: a binding of a list with
-- its places; `BeginsNone`: none begins there; `LacksRoom`: one does, and a buffer is too short.
-- `WritesBinding`: one is written; `IsWritable`: what is asked of it.
use Rattle.std.specs.Prelude.{◌≡◌, ◌<◌, ◌≤◌, ◌⊎◌, ◌++◌, ℕ, List, [], ◌∷◌, length, drop, slice_range, Result, Ok, Err}
use Rattle.snmp_ber.specs.Oid.{AreArcs}
use Rattle.snmp_msg.specs.Variables.{Variable, IsBinding, AreBindings, CanBeWritten, variable_text}
use Rattle.snmp_message.specs.declared.refusal.Refusal.TheVariants.{OutOfMemory}
use Rattle.snmp_handles.specs.Parts.{Copies, CopiesNothing}
use Rattle.snmp_handles.specs.declared.fault.CallFault.{CallFault}
use Rattle.snmp_handles.specs.declared.fault.CallFault.TheVariants.{Refused, BadArgument, BadBindings, ShortBuffer}

-- they are no bindings, one after another; or memory ran out
abbrev pub RefusesBindings : List ℕ → CallFault → Type 0
RefusesBindings octets BadBindings = (vs : List Variable) → AreBindings vs octets → ⊥
RefusesBindings octets (Refused fault) = fault ≡ OutOfMemory
RefusesBindings octets _ = ⊥

-- ---- one binding

-- The octets from a place on begin with a binding. Its arcs stand in the front of one buffer; in the front of
-- the other how many they are, the value's tag, the place of its content and its length, and the place after
-- the binding.
pub record ReadsOne (list : List ℕ) (at : ℕ) (arcs arcs_new numbers numbers_new : List ℕ) : Type 0 where
  pub says : Variable
  pub text : List ℕ
  pub is_binding : IsBinding text says
  pub place : ℕ
  pub next : ℕ
  pub parts : slice_range list at (length list) ≡ text ++ slice_range list next (length list)
  pub value : says.content ≡ slice_range list place next
  pub arcs_are : arcs_new ≡ says.name ++ drop (length says.name) arcs
  pub numbers_are : numbers_new
      ≡ (length says.name ∷ says.tag ∷ place ∷ length says.content ∷ next ∷ []) ++ drop 5 numbers

-- The buffers are as they were.
abbrev pub AreLeft : List ℕ → List ℕ → List ℕ → List ℕ → Type 0
AreLeft arcs arcs_new numbers numbers_new = (arcs_new ≡ arcs) × (numbers_new ≡ numbers)

-- no binding begins at the place
abbrev pub BeginsNone : List ℕ → ℕ → Type 0
BeginsNone list at = (v : Variable) (text rest : List ℕ) → IsBinding text v
    → slice_range list at (length list) ≡ text ++ rest → ⊥

-- A binding begins at the place, and a buffer has no room: one for its arcs, or the other for the five numbers.
pub record LacksRoom (list : List ℕ) (at : ℕ) (arcs numbers : List ℕ) : Type 0 where
  pub says : Variable
  pub text : List ℕ
  pub rest : List ℕ
  pub is_binding : IsBinding text says
  pub begins : slice_range list at (length list) ≡ text ++ rest
  pub short : (length arcs < length says.name) ⊎ (length numbers < 5)

abbrev pub ReadsAt : {V : Type 0} → List ℕ → ℕ → List ℕ → List ℕ → List ℕ → List ℕ → Result V CallFault → Type 0
ReadsAt list at arcs arcs_new numbers numbers_new (Ok done) = ReadsOne list at arcs arcs_new numbers numbers_new
ReadsAt list at arcs arcs_new numbers numbers_new (Err BadArgument) = (length list < at)
    × AreLeft arcs arcs_new numbers numbers_new
ReadsAt list at arcs arcs_new numbers numbers_new (Err BadBindings) = (at ≤ length list) × BeginsNone list at
    × AreLeft arcs arcs_new numbers numbers_new
ReadsAt list at arcs arcs_new numbers numbers_new (Err ShortBuffer) =
    LacksRoom list at arcs numbers × AreLeft arcs arcs_new numbers numbers_new
ReadsAt list at arcs arcs_new numbers numbers_new (Err _) = ⊥

-- The arcs and the tag are a binding's, and the content is no longer than a datagram.
abbrev pub IsWritable : List ℕ → ℕ → List ℕ → Type 0
IsWritable arcs tag content = CanBeWritten (record { name = arcs; tag = tag; content = content })
    × (tag ≤ 255) × (length content ≤ 65507)

-- The binding is in the front of the buffer.
abbrev pub WritesBinding : {V : Type 0} → List ℕ → ℕ → List ℕ → List ℕ → List ℕ → ℕ → ℕ → Result V CallFault
    → Type 0
WritesBinding arcs tag content out out_new written written_new (Err BadArgument) =
    (AreArcs arcs → IsWritable arcs tag content → ⊥) × CopiesNothing out out_new written written_new
WritesBinding arcs tag content out out_new written written_new (Err (Refused fault)) = IsWritable arcs tag content
    × (fault ≡ OutOfMemory) × CopiesNothing out out_new written written_new
WritesBinding arcs tag content out out_new written written_new told = IsWritable arcs tag content
    × Copies (variable_text (record { name = arcs; tag = tag; content = content })) out out_new written_new told
