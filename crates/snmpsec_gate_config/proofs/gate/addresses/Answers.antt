use Rattle.std.proofs.Common.{◌≡◌, ◌<◌, ap, arith, length, List}
use Rattle.std.specs.declared.net.socket_addr.SocketAddr.{SocketAddr}
use Rattle.toml.specs.View.{items_view}
use Rattle.snmpsec_gate_config.specs.Values.{AreAddressesIn}
use Rattle.snmpsec_gate_config.specs.Refusals.{key_fault}
use Rattle.snmpsec_gate_config.proofs.Addresses.{none_empty, no_array}
use Rattle.snmpsec_gate_config.proofs.gate.addresses.Goals as goal
use Rattle.snmpsec_gate_config.proofs.gate.addresses.Goals.{in_default-2-via-in-Some-2+else-not-is_empty, in_default-2-via-in_default-2}

pub returns-in_default-2-clause-fault : goal.returns-in_default-2-clause-fault
returns-in_default-2-clause-fault c =
    let none : (made : List SocketAddr) → AreAddressesIn (items_view c.in-Some.values.now) made → 0 < length made → ⊥ =
    elim c.in_default-2.branch [
      | in_default-2-via-in-Some-2+else-not-is_empty w ↦
          let got = rw w.in-Some-2.is at c.in_ok-addresses.ensures in
          let zero : length w.in-Some-2.addresses.items ≡ 0 = grind (arith, w.if-not-is_empty.ensures) in
          λ made h some. none_empty _ _ made got zero h some
      | in_default-2-via-in_default-2 w ↦
          let got = rw w.in_default-2.is at c.in_ok-addresses.ensures in
          λ made h some. got made h
    ] in
    rw c.from-in_default-2.ensures (ap key_fault c.fault-in_default-2.ensures, no_array _ _ c.in-Some.ensures none)
