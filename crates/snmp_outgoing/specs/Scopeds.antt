-- ScopedPDUs of which all sizes are known.
use Rattle.std.specs.Prelude.{◌≡◌, ◌*◌, ◌≤◌, length, map, All}
use Rattle.snmp_ber.specs.Element.{IsElement}
use Rattle.snmp_message.specs.declared.message.TheConstants.{LARGEST}
use Rattle.snmp_msg.specs.Variables.{Variable, variables_text}
use Rattle.snmp_outgoing.specs.declared.measured.Measured.{Measured}
use Rattle.snmp_outgoing.specs.Bodies.{contexts_after, scoped_after}

-- The sizes are those of its parts, and each part can stand in a datagram.
pub record IsMeasured {B : Type 0} (fits : B → Type 0) (says : B → Variable) (m : Measured B) : Type 0 where
  pub engine : length m.front.context_engine.now ≤ LARGEST
  pub name : length m.front.context_name.now ≤ LARGEST
  pub bindings : All (λ b. fits b) m.bindings.now
  pub list : m.list_len ≡ length (variables_text (map says m.bindings.now))
  pub within : m.list_len ≤ LARGEST
  pub content : m.content_len ≡ length (contexts_after m.front (map says m.bindings.now))
  pub most : m.content_len ≤ 6 * LARGEST
  pub element : IsElement 48 (contexts_after m.front (map says m.bindings.now))
      (scoped_after m.front (map says m.bindings.now))
