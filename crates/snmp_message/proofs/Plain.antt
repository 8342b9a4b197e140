-- msgData of a message in the clear is a ScopedPDU, which stands at its place in the datagram.
use Rattle.std.proofs.Common.{◌≡◌, ℕ, ◌+◌, ◌-◌, List, ◌++◌, length, drop, ap, ◌∙◌, subst, arith}
use Rattle.std.proofs.Math.Seq.{drop-append_seam, drop-append-add}
use Rattle.std.proofs.lemmas.List.{length-append}
use Rattle.snmp_ber.specs.Element.{IsHead}
use Rattle.snmp_message.specs.Layout.{Parts, Outer}
use Rattle.snmp_message.specs.Scoped.{Contexts, ScopedText, HasScoped}

-- the datagram from msgData on is msgData's element
pub data_from : (w : List ℕ) (m : Parts) (o : Outer w m) → drop m.data_at w ≡ o.data_text
data_from w m o =
    let at : m.data_at ≡ length o.head + (length o.version + (length o.global + (length o.security_head + length m.security))) = omega (arith, o.security_place, o.data_place) in
    ap (λ n. drop n w) at
    ∙ ap (drop (length o.head + (length o.version + (length o.global + (length o.security_head + length m.security))))) o.whole
    ∙ drop-append-add o.head o.content (length o.version + (length o.global + (length o.security_head + length m.security)))
    ∙ ap (drop (length o.version + (length o.global + (length o.security_head + length m.security)))) o.joined
    ∙ drop-append-add o.version (o.global ++ (o.security_head ++ (m.security ++ o.data_text))) (length o.global + (length o.security_head + length m.security))
    ∙ drop-append-add o.global (o.security_head ++ (m.security ++ o.data_text)) (length o.security_head + length m.security)
    ∙ drop-append-add o.security_head (m.security ++ o.data_text) (length m.security)
    ∙ drop-append_seam m.security o.data_text

pub size_of : (w : List ℕ) (m : Parts) (o : Outer w m) → length w ≡ m.data_at + length o.data_text
size_of w m o =
    let a = ap length o.whole ∙ length-append o.head o.content in
    let b = ap length o.joined ∙ length-append o.version (o.global ++ (o.security_head ++ (m.security ++ o.data_text))) in
    let c = length-append o.global (o.security_head ++ (m.security ++ o.data_text)) in
    let d = length-append o.security_head (m.security ++ o.data_text) in
    let e = length-append m.security o.data_text in
    omega (arith, o.security_place, o.data_place)

-- the same contexts, their place counted from msgData's first octet
abbrev pub from_data : Parts → Contexts → Contexts
from_data m s = record s { pdu_at = s.pdu_at - m.data_at }

pub plain_from : (w : List ℕ) (m : Parts) (s : Contexts) → Outer w m → HasScoped w m s → ScopedText 0 (drop m.data_at w) (from_data m s)
plain_from w m s o h =
    let piece = o.is_data in
    let sc = h.2 in
    let whole = data_from w m o ∙ piece.2 in
    let size = size_of w m o in
    let parts = ap length piece.2 ∙ length-append piece.0 m.data_content in
    record {
      head = piece.0;
      content = m.data_content;
      is_whole = subst (λ (tag : ℕ). IsHead tag (length m.data_content) piece.0) h.1 piece.1;
      whole = whole;
      says = record {
        engine = sc.engine;
        is_engine = sc.is_engine;
        name = sc.name;
        is_name = sc.is_name;
        pdu_tag = sc.pdu_tag;
        pdu_content = sc.pdu_content;
        is_pdu = sc.is_pdu;
        joined = sc.joined;
        pdu_place = omega (arith, sc.pdu_place);
      };
    }
