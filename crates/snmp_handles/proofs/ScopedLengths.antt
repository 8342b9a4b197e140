-- A ScopedPDU is at least as long as its data. So it is too long where its PDU is.
use Rattle.std.proofs.Common.{◌≡◌, ◌<◌, ◌≤◌, ◌++◌, inl, inr, ℕ, List, length, arith}
use Rattle.std.proofs.lemmas.List.{length-append}
use Rattle.snmp_ber.specs.Spelling.{element, head_of}
use Rattle.snmp_message.specs.declared.message.TheConstants.{LARGEST}
use Rattle.snmp_message.specs.declared.refusal.Refusal.{Refusal}
use Rattle.snmp_message.specs.declared.refusal.Refusal.TheVariants.{TooLarge}
use Rattle.snmp_message.specs.Refusals.{IsWriteRefusal}
use Rattle.snmp_message.specs.Scoped.{contexts_text, scoped_text}
use Rattle.snmp_msg.specs.Pdu.{pdu_with, pdu_text}
use Rattle.snmp_msg.specs.Variables.{Variable, AreBindings}
use Rattle.snmp_handles.specs.ScopedPdus.{Saying, StopsScoped}

longer_scoped : (engine name pdu : List ℕ) → length pdu ≤ length (scoped_text engine name pdu)
unfolding scoped_text contexts_text
longer_scoped engine name pdu =
    let content = element 4 engine ++ (element 4 name ++ pdu) in
    omega (arith, length-append (head_of 48 (length content)) content, length-append (element 4 engine) (element 4 name ++ pdu), length-append (element 4 name) pdu)

pub stops_by_pdu : (s : Saying) (list : List ℕ) (vs : List Variable) (refusal : Refusal) → AreBindings vs list → IsWriteRefusal refusal
    → (refusal ≡ TooLarge → LARGEST < length (pdu_text (pdu_with s.tag s.request_id s.second s.third vs))) → StopsScoped s list refusal
stops_by_pdu s list vs refusal are (inl same) long =
    let pdu = pdu_text (pdu_with s.tag s.request_id s.second s.third vs) in
    inl (same, (vs, are, omega (arith, long same, longer_scoped s.context_engine s.context_name pdu)))
stops_by_pdu s list vs refusal are (inr same) long = inr same
