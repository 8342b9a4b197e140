-- What an Inform is answered (RFC 3413, section 3.4, step 4; RFC 3416, section 4.2.7).
--
-- `Acknowledges`: the answer to sending the Response that has the Inform's own bindings and no error, within what its
-- sender can take. `TellsTooBig`: the alternate Response.
use Rattle.std.specs.Prelude.{ℕ, ℤ, pos, List, [], Option, Result, Ok, IfSome}
use Rattle.std.specs.Global.{Vec}
use Rattle.snmp_message.specs.declared.refusal.Refusal.{Refusal}
use Rattle.snmp_message.specs.Scoped.{Contexts, ScopedFront}
use Rattle.snmp_msg.specs.Pdu.{PduParts, PduText}
use Rattle.snmp_msg.specs.Variables.{Variable, variables_of}
use Rattle.snmp_incoming.specs.Outcome.{Given}
use Rattle.snmp_outgoing.specs.UpTo.{UpTo}
use Rattle.snmp_agent.specs.Agent.{AgentState}
use Rattle.snmp_agent.specs.Responses.{responding}
use Rattle.snmp_agent.specs.Sent.{Sends}
use Rattle.snmp_agent.specs.declared.response.Response.{Response}

-- what a Response says besides its bindings, and the most octets that it has
abbrev pub response_to : Given → ℤ → List ℕ → Response
response_to g status salt = record { status = status; index = pos 0; salt = salt; limit = g.max_size }

-- the answer to sending the Response to what was given that says this, with these bindings
abbrev pub Responds : AgentState → ℕ → Given → Contexts → PduParts → List Variable → Response → Result (List ℕ) Refusal
    → Type 0
Responds agent now g c p vs r answer = UpTo r.limit
    (Sends agent now (λ own. responding agent.engine own g c p r.status r.index vs r.salt)) answer

-- with noError, and its own bindings
pub record Acknowledges (agent : AgentState) (now : ℕ) (g : Given) (salt : List ℕ) (answer : Result (List ℕ) Refusal)
    : Type 0 where
  pub contexts : Contexts
  pub scoped : ScopedFront g.text contexts
  pub pdu : PduParts
  pub is_pdu : PduText contexts.pdu pdu
  pub responds : Responds agent now g contexts pdu (variables_of pdu.list) (response_to g (pos 0) salt) answer

-- with tooBig, and no bindings
pub record RespondsTooBig (agent : AgentState) (now : ℕ) (g : Given) (salt text : List ℕ) : Type 0 where
  pub contexts : Contexts
  pub scoped : ScopedFront g.text contexts
  pub pdu : PduParts
  pub is_pdu : PduText contexts.pdu pdu
  pub responds : Responds agent now g contexts pdu [] (response_to g (pos 1) salt) (Ok text)

abbrev pub TellsTooBig : AgentState → ℕ → Given → List ℕ → Option (Vec ℕ) → Type 0
TellsTooBig agent now g salt answer = IfSome answer (λ text. RespondsTooBig agent now g salt text.items)
