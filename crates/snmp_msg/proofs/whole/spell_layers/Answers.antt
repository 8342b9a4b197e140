use Rattle.std.proofs.Common.{arith, ◌≡◌, ℕ, List, [], ◌++◌, length, ap, sym, ◌∙◌, rules}
use Rattle.snmp_ber.specs.Spelling.{element}
use Rattle.snmp_message.specs.Security.{fields_of, security_text}
use Rattle.snmp_message.specs.Spelling.{front_text, content_size}
use Rattle.snmp_msg.specs.Canonical.{message_with, measured_parts, data_tag_of, data_content_of, whole_text}
use Rattle.snmp_message.proofs.Appends.{three_appended}
use Rattle.snmp_message.proofs.Writes.{message_text-front}
use Rattle.snmp_msg.proofs.Canonicals.{whole_text-longer}
use Rattle.snmp_msg.proofs.whole.spell_layers.Goals as goal

pub put_front-requires-clause-security : goal.put_front-requires-clause-security
put_front-requires-clause-security c =
    let longer = whole_text-longer (message_with c.args.header.now (fields_of c.args.security.now) (measured_parts c.args.contents.now)) in
    omega (arith, longer.0, c.security_len-security_len.ensures.size, c.requires.within)

pub put_front-requires-clause-within : goal.put_front-requires-clause-within
put_front-requires-clause-within c =
    let longer = whole_text-longer (message_with c.args.header.now (fields_of c.args.security.now) (measured_parts c.args.contents.now)) in
    omega (arith, longer.1, c.data_len-data_len.ensures.size, c.requires.within)

pub returns : goal.returns
unfolding whole_text
returns c =
    let h = c.args.header.now in
    let security = security_text (fields_of c.args.security.now) in
    let d = measured_parts c.args.contents.now in
    let content = data_content_of d in
    let security_is : c.security_len-security_len.result ≡ length security = c.security_len-security_len.ensures.size in
    let data_is : c.data_len-data_len.result ≡ length content = c.data_len-data_len.ensures.size in
    let front = front_text h (content_size h (length security) (length content)) (length security) in
    let empty : c.in_ok-out.out.items ≡ [] = search rules in
    let first : c.put_front.new.out.items ≡ c.in_ok-out.out.items ++ front = rw (security_is, data_is) at c.in_ok-put_front.ensures.ok in
    let second : c.put_security.new.out.items ≡ c.put_front.new.out.items ++ security = c.in_ok-put_security.ensures.ok in
    let third : c.put_data.new.out.items ≡ c.put_security.new.out.items ++ element (data_tag_of d) content = c.in_ok-put_data.ensures.ok in
    let all = three_appended c.in_ok-out.out.items c.put_front.new.out.items c.put_security.new.out.items c.put_data.new.out.items front security (element (data_tag_of d) content) first second third in
    all ∙ ap (λ (t : List ℕ). t ++ (front ++ (security ++ element (data_tag_of d) content))) empty ∙ sym (message_text-front h security (data_tag_of d) content)
