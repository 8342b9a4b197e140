-- What a caller gets of what a handle keeps, into buffers of its own.
--
-- `Copies`: octets go into a buffer, whole or not at all. `CopiesNothing`: neither the buffer nor the number
-- of octets is written. `CopiesPart`, `CopiesMessage`, `IsPartOf`, `AreNumbersOf`: which octets and numbers.
--
-- `TellsMaxSize`: the msgMaxSize of what is kept. `RespondsHeldWithin`: the Response of at most so many
-- octets is left to be sent (`RespondsWithin`, over `UpTo`); `RefusesWithin`: why none is.
-- `RespondsHeldFront`: the Response with the longest front of the bindings that has room is
-- (`RespondsFront`, over `SendsFront`). `RefusesAnswer`: why what is kept isn't answered, the first that
-- applies. `TellsUnhandled`, `IsHandled`: why nothing answers what is kept. `ReportsHeld`, `Reports`: it is
-- counted, and its report left to be sent; `StopsReport`: why not (RFC 3412 sections 4.2.2 and 7.1).
use Rattle.std.specs.Prelude.{◌==◌, if◌then◌else◌, ◌≡◌, ◌<◌, ◌≤◌, ℕ, ℤ, pos, List, [], ◌∷◌, ◌++◌, length, drop}
use Rattle.std.specs.Prelude.{Option, Some, None, Result, Ok, Err}
use Rattle.snmp_ber.specs.Level.{level_number}
use Rattle.snmp_ber.specs.declared.number.TheConstants.{MAX_INTEGER32}
use Rattle.snmp_message.specs.Scoped.{Contexts, ScopedFront}
use Rattle.snmp_msg.specs.Pdu.{PduParts, PduText}
use Rattle.usm_core.specs.Authentic.{HasEngineLength}
use Rattle.snmp_incoming.specs.Outcome.{Given}
use Rattle.snmp_handles.specs.declared.fault.CallFault.{CallFault}
use Rattle.snmp_handles.specs.declared.fault.CallFault.TheVariants.{NothingTaken, ShortBuffer}
use Rattle.snmp_handles.specs.declared.parts.Part.{Part}
use Rattle.snmp_handles.specs.declared.parts.Part.TheVariants.{Bindings, User, ContextEngine, ContextName, Engine}

-- ---- octets

-- The octets stand in the front of the buffer, which is else as it was; or it has no room for them, and is as
-- it was. Either way their number is written.
abbrev pub Copies : {V : Type 0} → List ℕ → List ℕ → List ℕ → ℕ → Result V CallFault → Type 0
Copies octets old new written (Ok done) = (length octets ≤ length old) × (written ≡ length octets)
    × (new ≡ octets ++ drop (length octets) old)
Copies octets old new written (Err ShortBuffer) = (length old < length octets) × (written ≡ length octets) × (new ≡ old)
Copies octets old new written (Err _) = ⊥

-- the octets are this part of what was accepted
abbrev pub IsPartOf : Given → Part → List ℕ → Type 0
IsPartOf g Bindings octets = (c : Contexts) → ScopedFront g.text c
    → (p : PduParts) × PduText c.pdu p × (octets ≡ p.list)
IsPartOf g User octets = (octets ≡ g.user) × (length octets ≤ 32)
IsPartOf g ContextEngine octets = (c : Contexts) → ScopedFront g.text c → octets ≡ c.engine
IsPartOf g ContextName octets = (c : Contexts) → ScopedFront g.text c → octets ≡ c.name
IsPartOf g Engine octets = (octets ≡ g.engine) × HasEngineLength octets

-- the part of a number
abbrev pub part_of : ℕ → Option Part
part_of n =
    if n == 0 then Some Bindings else if n == 1 then Some User else if n == 2 then Some ContextEngine else if n == 3
    then Some ContextName else
    if n == 4 then Some Engine else None

-- Nothing is copied, and no number of octets is written.
abbrev pub CopiesNothing : List ℕ → List ℕ → ℕ → ℕ → Type 0
CopiesNothing old new written written_new = (new ≡ old) × (written_new ≡ written)

-- A part of what is kept is copied.
abbrev pub CopiesPart : {V : Type 0} → Option Given → Part → List ℕ → List ℕ → ℕ → ℕ → Result V CallFault → Type 0
CopiesPart None part old new written written_new (Err NothingTaken) = CopiesNothing old new written written_new
CopiesPart None part old new written written_new _ = ⊥
CopiesPart (Some g) part old new written written_new told = (octets : List ℕ) × IsPartOf g part octets
    × Copies octets old new written_new told

-- The message that is to be sent is copied.
abbrev pub CopiesMessage : {V : Type 0} → Option (List ℕ) → List ℕ → List ℕ → ℕ → ℕ → Result V CallFault → Type 0
CopiesMessage None old new written written_new (Err NothingTaken) = CopiesNothing old new written written_new
CopiesMessage None old new written written_new _ = ⊥
CopiesMessage (Some text) old new written written_new told = Copies text old new written_new told

-- ---- numbers

-- the level, the PDU's tag, request-id, second and third number, and msgID
abbrev pub numbers_of : Given → PduParts → List ℤ
numbers_of g p = pos (level_number g.level) ∷ pos g.tag ∷ p.id ∷ p.second ∷ p.third ∷ pos g.id ∷ []

abbrev pub AreNumbersOf : Given → List ℤ → Type 0
AreNumbersOf g numbers = (c : Contexts) → ScopedFront g.text c
    → (p : PduParts) × PduText c.pdu p × (numbers ≡ numbers_of g p)

-- the sender's msgMaxSize, of what is kept (RFC 3412, section 6.3)
abbrev pub TellsMaxSize : Option Given → Result ℕ CallFault → Type 0
TellsMaxSize last (Ok size) = (g : Given) × (last ≡ Some g) × (size ≡ g.max_size)
    × (484 ≤ size) × (size ≤ MAX_INTEGER32)
TellsMaxSize last (Err NothingTaken) = last ≡ None
TellsMaxSize last (Err _) = ⊥
