-- A ScopedPDU that a caller has written (RFC 3412, section 6.8, and RFC 3416, section 3).
--
-- `Saying`: what it says besides its bindings. `said_text`: its text with bindings. `WritesScoped`: it is written
-- into a buffer; `IsTooLong`: it is longer than a datagram.
use Rattle.std.specs.Prelude.{◌≡◌, ◌<◌, ◌≤◌, ◌⊎◌, ℕ, ℤ, List, length, Result, Ok, Err}
use Rattle.std.specs.Global.{Vec}
use Rattle.snmp_message.specs.declared.message.TheConstants.{LARGEST}
use Rattle.snmp_message.specs.declared.refusal.Refusal.{Refusal}
use Rattle.snmp_message.specs.declared.refusal.Refusal.TheVariants.{OutOfMemory, TooLarge}
use Rattle.snmp_message.specs.Scoped.{scoped_text}
use Rattle.snmp_msg.specs.Pdu.{pdu_with, pdu_text}
use Rattle.snmp_msg.specs.PduTypes.{IsPduTag}
use Rattle.snmp_msg.specs.Variables.{Variable, AreBindings}
use Rattle.snmp_handles.specs.Parts.{Copies, CopiesNothing}
use Rattle.snmp_handles.specs.declared.scoped.ScopedOf.{ScopedOf}
use Rattle.snmp_handles.specs.declared.fault.CallFault.{CallFault}
use Rattle.snmp_handles.specs.declared.fault.CallFault.TheVariants.{Refused, BadArgument, BadBindings}

-- What a ScopedPDU says besides its bindings. The three numbers have 32 bits with sign.
pub record Saying : Type 0 where
  pub context_engine : List ℕ
  pub context_name : List ℕ
  pub tag : ℕ
  pub request_id : ℤ
  -- error-status, or non-repeaters
  pub second : ℤ
  -- error-index, or max-repetitions
  pub third : ℤ

abbrev pub saying_of : ScopedOf → Saying
saying_of of = record {
  context_engine = of.context_engine.now;
  context_name = of.context_name.now;
  tag = of.tag;
  request_id = of.request_id;
  second = of.second;
  third = of.third;
}

-- its text with these bindings, in the shortest spelling
abbrev pub said_text : Saying → List Variable → List ℕ
said_text s vs = scoped_text s.context_engine s.context_name
    (pdu_text (pdu_with s.tag s.request_id s.second s.third vs))

-- The octets are bindings, and its text with these is longer than a datagram can be.
abbrev pub IsTooLong : Saying → List ℕ → Type 0
IsTooLong s list = (vs : List Variable) × AreBindings vs list × (LARGEST < length (said_text s vs))

-- it is longer than a datagram, or memory ran out
abbrev pub StopsScoped : Saying → List ℕ → Refusal → Type 0
StopsScoped s list fault = ((fault ≡ TooLarge) × IsTooLong s list) ⊎ (fault ≡ OutOfMemory)

-- Between the functions: its text with the bindings that these octets are, where its tag is a PDU's.
abbrev pub SpellsScoped : Saying → List ℕ → Result (Vec ℕ) CallFault → Type 0
SpellsScoped s list (Ok text) = (vs : List Variable) × AreBindings vs list × (text.items ≡ said_text s vs)
    × (length text.items ≤ LARGEST)
SpellsScoped s list (Err BadBindings) = (vs : List Variable) → AreBindings vs list → ⊥
SpellsScoped s list (Err (Refused fault)) = StopsScoped s list fault
SpellsScoped s list (Err _) = ⊥

-- Its text with the bindings that these octets are is in the front of the buffer.
abbrev pub WritesScoped : {V : Type 0} → Saying → List ℕ → List ℕ → List ℕ → ℕ → ℕ → Result V CallFault → Type 0
WritesScoped s list out out_new written written_new (Err BadArgument) = (IsPduTag s.tag → ⊥)
    × CopiesNothing out out_new written written_new
WritesScoped s list out out_new written written_new (Err BadBindings) = IsPduTag s.tag
    × ((vs : List Variable) → AreBindings vs list → ⊥) × CopiesNothing out out_new written written_new
WritesScoped s list out out_new written written_new (Err (Refused fault)) = IsPduTag s.tag × StopsScoped s list fault
    × CopiesNothing out out_new written written_new
WritesScoped s list out out_new written written_new told = IsPduTag s.tag
    × ((vs : List Variable) × AreBindings vs list × (length (said_text s vs) ≤ LARGEST)
    × Copies (said_text s vs) out out_new written_new told)
