use Rattle.std.proofs.Common.{◌≡◌, List, [], ◌++◌, ap, sym, ◌∙◌, rules, ℕ}
use Rattle.snmp_ber.specs.Spelling.{head_of}
use Rattle.snmp_community.specs.Spelling.{front_text}
use Rattle.snmp_community.proofs.Writes.{community_text-front}
use Rattle.snmp_community.proofs.writing.spell_message.Goals as goal

pub returns : goal.returns
returns c =
    let v = c.args.version in
    let community = c.args.community.now in
    let pdu = c.args.pdu.now in
    let size = c.args.content_len in
    let empty : c.in_ok-out.out.items ≡ [] = search rules in
    let front : c.put_front.new.out.items ≡ head_of 48 size ++ front_text v community = c.in_ok-put_front.ensures.ok ∙ ap (λ (t : List ℕ). t ++ (head_of 48 size ++ front_text v community)) empty in
    let all : c.extend_from_slice.new.self.items ≡ c.put_front.new.out.items ++ pdu = c.in_ok-extend_from_slice.ensures.items in
    all ∙ ap (λ (t : List ℕ). t ++ pdu) front ∙ sym (community_text-front v community pdu size c.requires.content)
