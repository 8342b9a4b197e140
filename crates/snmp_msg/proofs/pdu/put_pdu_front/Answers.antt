use Rattle.std.proofs.Common.{rules, FitsSigned, w32, ◌≡◌, ◌++◌}
use Rattle.std.proofs.lemmas.Int.{to_z-of_z}
use Rattle.snmp_ber.specs.Spelling.{head_of}
use Rattle.snmp_message.specs.Spelling.{signed}
use Rattle.snmp_msg.specs.Pdu.{pdu_of, pdu_content_size, pdu_front_text}
use Rattle.snmp_message.proofs.Appends.{five_appended}
use Rattle.snmp_msg.proofs.pdu.put_pdu_front.Goals as goal

pub returns : goal.returns
unfolding pdu_front_text
returns c =
    let p = c.args.pdu.now in
    let f1 : FitsSigned w32 p.id = search rules in
    let f2 : FitsSigned w32 p.second = search rules in
    let f3 : FitsSigned w32 p.third = search rules in
    let size : c.pdu_content_len.result ≡ pdu_content_size (pdu_of p) c.args.list_len = c.pdu_content_len.ensures.size in
    let head : c.put_head.new.out.items ≡ c.args.out.now.items ++ head_of p.tag (pdu_content_size (pdu_of p) c.args.list_len) = rw size at c.in_ok-put_head.ensures.ok in
    let first : c.put_int.new.out.items ≡ c.put_head.new.out.items ++ signed p.id = rw (to_z-of_z w32 p.id f1) at c.in_ok-put_int.ensures.ok in
    let second : c.put_int-2.new.out.items ≡ c.put_int.new.out.items ++ signed p.second = rw (to_z-of_z w32 p.second f2) at c.in_ok-put_int-2.ensures.ok in
    let third : c.put_int-3.new.out.items ≡ c.put_int-2.new.out.items ++ signed p.third = rw (to_z-of_z w32 p.third f3) at c.in_ok-put_int-3.ensures.ok in
    record { ok = five_appended c.args.out.now.items c.put_head.new.out.items c.put_int.new.out.items c.put_int-2.new.out.items c.put_int-3.new.out.items c.put_head-2.new.out.items (head_of p.tag (pdu_content_size (pdu_of p) c.args.list_len)) (signed p.id) (signed p.second) (signed p.third) (head_of 48 c.args.list_len) head first second third c.in_ok-put_head-2.ensures.ok }
