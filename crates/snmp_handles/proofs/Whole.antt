-- A Response within the longest datagram is any Response.
use Rattle.snmp_message.specs.declared.refusal.Refusal.{Refusal}
use Rattle.std.proofs.Common.{inl, inr, pos, ℕ, List, Option, Some, None, Result, Ok, Err}
use Rattle.std.specs.Prelude.{IfSome}
use Rattle.engine_clock.specs.Pairs.{BootsAndTime}
use Rattle.usm_core.specs.Sealed.{Sending}
use Rattle.usm_core.specs.Table.{refusal_answer}
use Rattle.snmp_incoming.specs.Outcome.{Given}
use Rattle.snmp_outgoing.specs.UpTo.{UpTo}
use Rattle.snmp_agent.specs.Agent.{AgentState}
use Rattle.snmp_agent.specs.Responses.{responding}
use Rattle.snmp_agent.specs.Sent.{Sends}
use Rattle.snmp_handles.specs.Agents.{AgentHeld, RefusesAnswer, Responds, RespondsHeld, StopsResponse}
use Rattle.snmp_handles.specs.Dispatch.{RespondsHeldWithin, RespondsWithin, StopsWithin}
use Rattle.snmp_handles.specs.declared.fault.CallFault.{CallFault}
use Rattle.snmp_handles.specs.declared.fault.CallFault.TheVariants.{Refused, BadArgument, NothingTaken, NotAsked, BadBindings, ShortBuffer, BadConfiguration, BadClocks, TooManyRequests}

some_told : {A : Type 0} (o : Option A) (P Q : A → Type 0) → ((a : A) → P a → Q a) → IfSome o P → IfSome o Q
some_told None P Q f h = h
some_told (Some a) P Q f h = f a h

-- the same refusals, each of its own cause
refuses_answer : (held : AgentHeld) (now status index : ℕ) (list : List ℕ) (P Q : Given → Refusal → Type 0) → ((g : Given) (r : Refusal) → P g r → Q g r)
    → (fault : CallFault) → RefusesAnswer held now status index list P fault → RefusesAnswer held now status index list Q fault
refuses_answer held now status index list P Q f (Refused r) (range, (g, asked, says)) = (range, (g, asked, f g r says))
refuses_answer held now status index list P Q f BadArgument h = h
refuses_answer held now status index list P Q f NothingTaken h = h
refuses_answer held now status index list P Q f NotAsked h = h
refuses_answer held now status index list P Q f BadBindings h = h
refuses_answer held now status index list P Q f ShortBuffer h = h
refuses_answer held now status index list P Q f BadConfiguration h = h
refuses_answer held now status index list P Q f BadClocks h = h
refuses_answer held now status index list P Q f TooManyRequests h = h

module _ (whole : (agent : AgentState) (now : ℕ) (message : BootsAndTime → Sending) (answer : Result (List ℕ) Refusal) → UpTo 65507 (Sends agent now message) answer → Sends agent now message answer)
    (now status index : ℕ) (list salt : List ℕ) where
  responds : (agent : AgentState) (g : Given) (answer : Result (List ℕ) Refusal) → RespondsWithin agent now g status index list salt 65507 answer
      → Responds agent now g status index list salt answer
  responds agent g answer (vs, are, says) = (vs, are, λ c p front text. whole agent now (λ (own : BootsAndTime). responding agent.engine own g c p (pos status) (pos index) vs salt) answer (says c p front text))

  stops : (agent : AgentState) (g : Given) (r : Refusal) → StopsWithin agent now g status index list salt 65507 r → StopsResponse agent now g status index list salt r
  stops agent g r (inl sender) = inl sender
  stops agent g r (inr (can, says)) = inr (can, some_told (refusal_answer r) _ _ (responds agent g) says)

  pub responds_held : {V : Type 0} (old : AgentHeld) (told : Result V CallFault) (new : AgentHeld) → RespondsHeldWithin old now status index list salt 65507 told new
      → RespondsHeld old now status index list salt told new
  responds_held old (Ok done) new (range, (g, text, asked, (vs, are, says), leaves)) = (range, (g, text, asked, (vs, are, λ c p front is_pdu. (says c p front is_pdu).0), leaves))
  responds_held old (Err fault) new (refuses, same) =
      (refuses_answer old now status index list (λ g r. StopsWithin old.agent now g status index list salt 65507 r) (λ g r. StopsResponse old.agent now g status index list salt r) (stops old.agent) fault refuses, same)
