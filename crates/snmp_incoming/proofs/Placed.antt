-- A PDU by its places.
use Rattle.std.proofs.Common.{◌≡◌, ℕ, ℤ, ◌+◌, ◌-◌, ◌≤◌, List, ◌++◌, length, drop, Option, Some, None, refl, sym, ap, subst, ◌∙◌, append_assoc, arith}
use Rattle.std.specs.Prelude.{slice_range, option_map, option_and_then}
use Rattle.std.proofs.lemmas.List.{drop_at, length-append}
use Rattle.std.proofs.lemmas.Option.{same_Some}
use Rattle.snmp_ber.proofs.Places.{range_rest}
use Rattle.snmp_message.specs.Scoped.{Contexts, ScopedFront}
use Rattle.snmp_message.proofs.Scopeds.{scoped_front_in-again}
use Rattle.snmp_msg.specs.Pdu.{PduParts, PduText, pdu_in}
use Rattle.snmp_msg.proofs.Pdus.{pdu_in-again}
use Rattle.snmp_msg.proofs.Variables.{Octets, octets_front, octets_back}
use Rattle.snmp_incoming.specs.declared.place.PduPlace.{PduPlace}
use Rattle.snmp_incoming.specs.Texts.{pdu_read, pdu_placed, StandsThere}

-- the PDU that was read
pub read_again : (text : List ℕ) (c : Contexts) (p : PduParts) → ScopedFront text c → PduText c.pdu p → pdu_read text ≡ Some p
read_again text c p front is = ap (option_and_then (λ (s : Contexts). pdu_in s.pdu)) (scoped_front_in-again text c front) ∙ pdu_in-again c.pdu p is

pub read_of : (text : List ℕ) (c : Contexts) (p : PduParts) → ScopedFront text c → pdu_read text ≡ Some p → pdu_in c.pdu ≡ Some p
read_of text c p front read = sym (ap (option_and_then (λ (s : Contexts). pdu_in s.pdu)) (scoped_front_in-again text c front)) ∙ read

parts_of : (o : Option PduParts) (tag : ℕ) (id second third : ℤ) (list : List ℕ) → option_map (λ (q : PduParts). q.tag) o ≡ Some tag → option_map (λ (q : PduParts). q.id) o ≡ Some id
    → option_map (λ (q : PduParts). q.second) o ≡ Some second → option_map (λ (q : PduParts). q.third) o ≡ Some third → option_map (λ (q : PduParts). q.list) o ≡ Some list
    → o ≡ Some (record { tag = tag; id = id; second = second; third = third; list = list })
parts_of None tag id second third list a b c d e = absurd cc
parts_of (Some q) tag id second third list a b c d e =
    rw (← same_Some q.tag tag a, ← same_Some q.id id b, ← same_Some q.second second c, ← same_Some q.third third d, ← same_Some q.list list e) refl

pub stands_read : (text : List ℕ) (tag : ℕ) (p : PduPlace) → StandsThere text tag p → pdu_read text ≡ Some (pdu_placed text tag p)
stands_read text tag p s = parts_of (pdu_read text) tag p.id p.second p.third (slice_range text p.list_at p.end) s.0 s.1 s.2 s.3 s.4

-- ---- its list

-- A PDU ends with the content of its list.
ends_with : (z : List ℕ) (p : PduParts) → PduText z p → (front : List ℕ) × (z ≡ front ++ p.list)
ends_with z p t =
    let head = t.is_whole.0 in
    let s = t.says in
    let h = s.is_list.0 in (
      head ++ (s.id ++ (s.second ++ (s.third ++ h))),
      t.is_whole.2 ∙ rw (s.joined, s.is_list.2, append_assoc head (s.id ++ (s.second ++ (s.third ++ h))) p.list, append_assoc s.id (s.second ++ (s.third ++ h)) p.list, append_assoc s.second (s.third ++ h) p.list, append_assoc s.third h p.list) refl,
    )

pub list_there : (text : List ℕ) (at : ℕ) (z : List ℕ) (p : PduParts) → z ≡ slice_range text at (at + length z) → PduText z p
    → (length p.list ≤ length z) × (slice_range text ((at + length z) - length p.list) (at + length z) ≡ p.list)
list_there text at z p stands t =
    let front = ends_with z p t in
    let k = length front.0 in
    let size : length z ≡ k + length p.list = ap length front.1 ∙ length-append front.0 p.list in
    let place : (at + length z) - length p.list ≡ at + k = omega arith in (
      omega arith,
      rw place (sym (range_rest text at (at + length z) k (omega arith)) ∙ ap (drop k) (sym stands) ∙ ap (drop k) front.1 ∙ drop_at front.0 p.list k refl),
    )

-- what was found there stands there
pub stands_there : (text : List ℕ) (c : Contexts) (p : PduParts) (place : PduPlace) → ScopedFront text c → PduText c.pdu p
    → place.id ≡ p.id → place.second ≡ p.second → place.third ≡ p.third → slice_range text place.list_at place.end ≡ p.list → StandsThere text p.tag place
stands_there text c p place front is id second third list =
    let read = read_again text c p front is in (
      ap (option_map (λ (q : PduParts). q.tag)) read,
      ap (option_map (λ (q : PduParts). q.id)) read ∙ ap (λ (z : ℤ). Some z) (sym id),
      ap (option_map (λ (q : PduParts). q.second)) read ∙ ap (λ (z : ℤ). Some z) (sym second),
      ap (option_map (λ (q : PduParts). q.third)) read ∙ ap (λ (z : ℤ). Some z) (sym third),
      ap (option_map (λ (q : PduParts). q.list)) read ∙ ap (λ (z : List ℕ). Some z) (sym list),
    )

-- the octets of the data
pub octets_within : (text : List ℕ) (s : Contexts) → ScopedFront text s → Octets text → Octets s.pdu
octets_within text s (front, rest, joined, t) bytes =
    let outer : Octets front = octets_front front rest (subst Octets joined bytes) in
    let content : Octets t.content = octets_back t.head t.content (subst Octets t.whole outer) in
    let parts : Octets (t.says.engine ++ (t.says.name ++ s.pdu)) = subst Octets t.says.joined content in
    octets_back t.says.name s.pdu (octets_back t.says.engine (t.says.name ++ s.pdu) parts)
