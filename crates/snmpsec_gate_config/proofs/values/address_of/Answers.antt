use Rattle.std.proofs.Common.{◌≡◌, ◌∙◌, sym, ap, arith, rules}
use Rattle.std.specs.Net.Grammar.{IsSocketText}
use Rattle.std.specs.Net.Socket.{socket_port}
use Rattle.std.proofs.NetLemmas.Theorems.{IsSocketText_unique}
use Rattle.snmpsec_gate_config.proofs.values.address_of.Goals as goal

pub returns-then-port-eq0 : goal.returns-then-port-eq0
returns-then-port-eq0 c = λ address spelled above.
    let own : IsSocketText c.args.text.now c.in_ok-address.address = search rules in
    let same = IsSocketText_unique c.args.text.now address c.in_ok-address.address spelled own in
    let none : socket_port address ≡ 0 = ap socket_port same ∙ (sym c.port.ensures ∙ c.if-port-eq0.true) in
    omega (arith, above, none)
