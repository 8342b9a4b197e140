-- Messages of which all but the bindings is known, by their sizes.
use Rattle.std.specs.Prelude.{ℕ, ◌≤◌, List, length}
use Rattle.snmp_message.specs.declared.message.TheConstants.{LARGEST}
use Rattle.snmp_message.specs.Spelling.{HeaderFits}
use Rattle.snmp_msg.specs.Variables.{Variable}
use Rattle.usm_core.specs.Sizes.{data_size, whole_size}
use Rattle.snmp_outgoing.specs.declared.count.Outline.{Outline}
use Rattle.snmp_outgoing.specs.Bodies.{contexts_after}

-- Its parts can stand in a datagram.
pub record OutlineFits (o : Outline) : Type 0 where
  pub header : HeaderFits o.header
  pub security : o.security_len ≤ LARGEST
  pub engine : length o.front.now.context_engine.now ≤ LARGEST
  pub name : length o.front.now.context_name.now ≤ LARGEST

-- the content of its ScopedPDU with these bindings
abbrev pub content_size : Outline → List Variable → ℕ
content_size o vs = length (contexts_after o.front.now vs)

-- The content of its msgData can stand in a datagram, and the whole has at most so many octets.
pub record HasAtMost (o : Outline) (limit : ℕ) (vs : List Variable) : Type 0 where
  pub content : data_size o.header.privacy (content_size o vs) ≤ LARGEST
  pub whole : whole_size o.header o.security_len (data_size o.header.privacy (content_size o vs)) ≤ limit
