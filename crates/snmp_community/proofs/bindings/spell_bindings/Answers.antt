use Rattle.std.proofs.Common.{◌≡◌, List, [], ◌++◌, ap, sym, ◌∙◌, rules, ℕ, FitsSigned, w32}
use Rattle.std.specs.Prelude.{map}
use Rattle.std.proofs.lemmas.Int.{to_z-of_z}
use Rattle.snmp_ber.specs.Spelling.{head_of}
use Rattle.snmp_msg.specs.Pdu.{pdu_text}
use Rattle.snmp_community.specs.Spelling.{front_text}
use Rattle.snmp_community.specs.Fronts.{pdu_after}
use Rattle.snmp_community.proofs.Writes.{community_text-front}
use Rattle.snmp_community.proofs.bindings.spell_bindings.Goals as goal

pub returns : goal.returns
returns g c =
    let f = c.args.front.now in
    let v = f.version in
    let community = f.community.now in
    let vs = map g.B.Spelled.says c.args.bindings.now in
    let pdu = pdu_text (pdu_after f vs) in
    let size = c.args.content_len in
    let id : FitsSigned w32 f.id = search rules in
    let second : FitsSigned w32 f.second = search rules in
    let third : FitsSigned w32 f.third = search rules in
    let empty : c.in_ok-out.out.items ≡ [] = search rules in
    let front : c.put_front.new.out.items ≡ head_of 48 size ++ front_text v community = c.in_ok-put_front.ensures.ok ∙ ap (λ (t : List ℕ). t ++ (head_of 48 size ++ front_text v community)) empty in
    let all : c.put_pdu_of.new.out.items ≡ c.put_front.new.out.items ++ pdu = rw (to_z-of_z w32 f.id id, to_z-of_z w32 f.second second, to_z-of_z w32 f.third third) at c.in_ok-put_pdu_of.ensures.ok in
    all ∙ ap (λ (t : List ℕ). t ++ pdu) front ∙ sym (community_text-front v community pdu size c.requires.content)
