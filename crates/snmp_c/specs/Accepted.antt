-- What is reported of a message that was accepted.
--
-- `accepted_of`: the level, the PDU's tag and its three numbers, and msgID. `IsToldOf`: they are reported of a
-- message. `Copied`: what is copied, by its numbers (`copied_of`): a part of what is kept, or the message to be
-- sent (`CopiedBy`).
use Rattle.std.specs.Prelude.{◌≡◌, ◌==◌, if◌then◌else◌, ℕ, ℤ, pos, List, ⊤, Option, Some, None, Result, MatchOption}
use Rattle.std.specs.Prelude.{option_map}
use Rattle.snmp_ber.specs.Level.{level_number}
use Rattle.snmp_message.specs.Scoped.{Contexts, ScopedFront}
use Rattle.snmp_msg.specs.Pdu.{PduParts, PduText}
use Rattle.snmp_incoming.specs.Outcome.{Given}
use Rattle.snmp_handles.specs.declared.fault.CallFault.{CallFault}
use Rattle.snmp_handles.specs.declared.fault.CallFault.TheVariants.{BadArgument}
use Rattle.snmp_handles.specs.Faults.{fault_code}
use Rattle.snmp_handles.specs.Parts.{part_of, CopiesNothing, CopiesPart, CopiesMessage}
use Rattle.snmp_c.specs.declared.accepted.Accepted.{Accepted}
use Rattle.snmp_c.specs.declared.copied.Copied.{Copied}
use Rattle.snmp_c.specs.declared.copied.Copied.TheVariants.{OfKept, Message}
use Rattle.snmp_c.specs.Calls.{Done}

abbrev pub accepted_of : Given → PduParts → Accepted
accepted_of g p = record {
  level = pos (level_number g.level);
  tag = pos g.tag;
  request_id = p.id;
  second = p.second;
  third = p.third;
  message_id = pos g.id;
}

abbrev pub IsToldOf : Given → Accepted → Type 0
IsToldOf g told = (c : Contexts) → ScopedFront g.text c → (p : PduParts) × PduText c.pdu p × (told ≡ accepted_of g p)

-- ---- octets

-- 0 the part of this number of what is kept, 1 the message to be sent
abbrev pub copied_of : ℕ → ℕ → Option Copied
copied_of what part = if what == 0 then option_map OfKept (part_of part) else if what == 1 then Some Message else None

abbrev pub CopiesIt : Copied → Option Given → Option (List ℕ) → List ℕ → List ℕ → ℕ → ℕ → Result ⊤ CallFault → Type 0
CopiesIt (OfKept part) last message = CopiesPart last part
CopiesIt Message last message = CopiesMessage message

-- What has the numbers is in the buffer.
abbrev pub CopiedBy : ℕ → ℕ → Option Given → Option (List ℕ) → List ℕ → List ℕ → ℕ → ℕ → ℤ → Type 0
CopiedBy what part last message out out_new written written_new answer =
    MatchOption (copied_of what part)
    ((answer ≡ fault_code BadArgument) × CopiesNothing out out_new written written_new)
    (λ it. Done (λ told. CopiesIt it last message out out_new written written_new told) answer)
