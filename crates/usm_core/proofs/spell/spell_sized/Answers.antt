use Rattle.std.proofs.Common.{◌≡◌, [], ◌++◌, length, sym, ◌∙◌, rules}
use Rattle.snmp_ber.specs.Spelling.{element}
use Rattle.snmp_message.specs.Security.{fields_of, security_text}
use Rattle.snmp_message.specs.Spelling.{front_text, content_size}
use Rattle.snmp_message.proofs.Appends.{three_appended}
use Rattle.snmp_message.proofs.Writes.{message_text-front}
use Rattle.usm_core.specs.Writing.{data_tag, data_content}
use Rattle.usm_core.proofs.spell.spell_sized.Goals as goal

pub returns : goal.returns
returns g c =
    let h = c.args.header.now in
    let security = security_text (fields_of c.args.security.now) in
    let tag = data_tag c.args.form in
    let content = data_content g.S.ScopedPdu.octets g.S.ScopedPdu.content c.args.form c.args.scoped.now in
    let data_is : c.data_len-data_len.result ≡ length content = c.data_len-data_len.ensures in
    let size_is : c.security_len.result ≡ length security = c.security_len.ensures.size in
    let first : c.put_front.new.out.items ≡ [] ++ front_text h (content_size h (length security) (length content)) (length security) = rw (← data_is, ← size_is) (search rules) in
    let last : c.put_data.new.out.items ≡ c.put_security.new.out.items ++ element tag content = c.in_ok-put_data.ensures.ok in
    let all = three_appended [] c.put_front.new.out.items c.put_security.new.out.items c.put_data.new.out.items (front_text h (content_size h (length security) (length content)) (length security)) security (element tag content) first c.in_ok-put_security.ensures.ok last in
    all ∙ sym (message_text-front h security tag content)
