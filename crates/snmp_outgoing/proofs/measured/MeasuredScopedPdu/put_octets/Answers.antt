use Rattle.std.proofs.Common.{◌≡◌, ◌++◌, ℕ, List, length, ap, ◌∙◌, append_assoc}
use Rattle.std.specs.Prelude.{map}
use Rattle.snmp_ber.specs.Spelling.{head_of}
use Rattle.snmp_message.specs.Scoped.{scoped_text}
use Rattle.snmp_outgoing.specs.Bodies.{contexts_after, scoped_after}
use Rattle.snmp_outgoing.proofs.measured.MeasuredScopedPdu.put_octets.Goals as goal

pub returns : goal.returns
unfolding scoped_text
returns g c =
    let f = c.args.self.now.front in
    let vs = map g.B.Spelled.says c.args.self.now.bindings.now in
    let out = c.args.out.now.items in
    let content = contexts_after f vs in
    let first : c.put_head.new.out.items ≡ out ++ head_of 48 (length content) = ◌∙◌ {A = List ℕ} c.in_ok-put_head.ensures.ok (ap (λ (n : ℕ). out ++ head_of 48 n) c.requires.content) in
    let second : c.put_content.new.out.items ≡ c.put_head.new.out.items ++ content = c.in_ok-put_content.ensures.ok in
    let all : c.put_content.new.out.items ≡ out ++ scoped_after f vs =
    second ∙ ap (λ (t : List ℕ). t ++ content) first ∙ append_assoc out (head_of 48 (length content)) content in
    record { ok = all }
