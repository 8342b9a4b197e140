use Rattle.std.proofs.Common.{◌≡◌, ℤ, pos, List, [], ◌∷◌, refl, subst, rules, w32, SFits, to_z, of_z}
use Rattle.std.proofs.lemmas.Int.{to_z-of_z}
use Rattle.snmp_msg.specs.Pdu.{PduParts, pdu_of}
use Rattle.snmp_incoming.specs.Outcome.{Given}
use Rattle.snmp_incoming.specs.Answers.{given_of}
use Rattle.snmp_handles.specs.Parts.{AreNumbersOf, numbers_of}
use Rattle.snmp_handles.proofs.parts.numbers_of.Goals as goal

pub returns : goal.returns
returns c =
    let g : Given = given_of c.taken-taken.result in
    let p : PduParts = pdu_of c.pdu-pdu.result in
    let level_fits : SFits w32 c.from.result = search rules in
    let tag_fits : SFits w32 c.from-2.result = search rules in
    let id_fits : SFits w32 c.pdu-pdu.result.id = search rules in
    let second_fits : SFits w32 c.pdu-pdu.result.second = search rules in
    let third_fits : SFits w32 c.pdu-pdu.result.third = search rules in
    let message : to_z w32 c.taken-taken.result.id ≡ pos c.taken-taken.result.id = search rules in
    let level : c.from.result ≡ pos c.number.result = c.from.ensures in
    let numbers : List ℤ =
    to_z w32 (of_z w32 c.from.result) ∷ to_z w32 (of_z w32 c.from-2.result) ∷ to_z w32 (of_z w32 c.pdu-pdu.result.id)
    ∷ to_z w32 (of_z w32 c.pdu-pdu.result.second) ∷ to_z w32 (of_z w32 c.pdu-pdu.result.third) ∷ to_z w32 c.taken-taken.result.id ∷ [] in
    let are : numbers ≡ numbers_of g p =
    rw (to_z-of_z w32 c.from.result level_fits, to_z-of_z w32 c.from-2.result tag_fits, to_z-of_z w32 c.pdu-pdu.result.id id_fits, to_z-of_z w32 c.pdu-pdu.result.second second_fits, to_z-of_z w32 c.pdu-pdu.result.third third_fits, message, c.from.ensures, c.from-2.ensures, c.number.ensures) refl in
    subst (λ (h : Given). AreNumbersOf h numbers) c.taken-taken.ensures (λ k f. (p, c.pdu-pdu.ensures.is_pdu k f, are))
