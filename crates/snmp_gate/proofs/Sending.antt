-- Responses that were written.
use Rattle.std.specs.Prelude.{◌≡◌, ◌≤◌, ℕ, List, Option, Some, None, Result, Ok, Err, IfOk, IfSome, length}
use Rattle.std.specs.declared.alloc.AllocError.{AllocError}
use Rattle.snmp_message.specs.declared.refusal.Refusal.{Refusal}
use Rattle.snmp_outgoing.specs.UpTo.{UpTo, fits}
use Rattle.snmp_agent.specs.Agent.{AgentState}
use Rattle.snmp_agent.specs.Dispatch.{Refuses, agent_counted}
use Rattle.snmp_agent.specs.declared.unhandled.Unhandled.{Unhandled}
use Rattle.snmp_incoming.specs.Outcome.{Given}
use Rattle.snmp_message.specs.Scoped.{Contexts, ScopedFront}
use Rattle.snmp_msg.specs.Pdu.{PduParts, PduText}
use Rattle.snmp_msg.specs.Variables.{Variable}
use Rattle.engine_clock.specs.Pairs.{BootsAndTime}
use Rattle.usm_core.specs.Sealed.{Sending}
use Rattle.usm_core.specs.Table.{holds}
use Rattle.snmp_outgoing.specs.Fronts.{FrontText}
use Rattle.snmp_agent.specs.Sent.{Sends, SendsFront}
use Rattle.std.proofs.Common.{ap, arith, inl, inr, subst, sym, take, ℤ}
use Rattle.snmp_gate.specs.Counting.{CountsReply, CountsSent, CountsUnhandled}
use Rattle.snmp_gate.specs.Limits.{IsLimit, IsShortFor, IsShortReply, IsShortReplyFor}
use Rattle.snmp_gate.specs.Replies.{Answering, IsSent, SameAgent}
use Rattle.snmp_gate.specs.Sending.{IsSentBy}
use Rattle.snmp_gate.specs.declared.gate.Sent.{Sent}
use Rattle.snmp_gate.specs.declared.limits.GateLimits.{GateLimits}
use Rattle.snmp_gate.specs.declared.reply.Reply.{Reply}
use Rattle.snmp_gate.specs.declared.reply.Reply.TheVariants as reply
use Rattle.snmp_gate.specs.declared.waiting_message.WaitingMessage.{WaitingMessage}
use Rattle.snmp_gate.specs.declared.work.EndedBy.{EndedBy}

-- a text that fits is one of the table
pub within : (limit : ℕ) (table : Result (List ℕ) Refusal → Type 0) (text : List ℕ) → UpTo limit table (Ok text) → table (Ok text)
within limit table text (fits _ is le) = is

-- and has at most so many octets
pub within_limit : (limit : ℕ) (table : Result (List ℕ) Refusal → Type 0) (text : List ℕ) → UpTo limit table (Ok text) → length text ≤ limit
within_limit limit table text (fits _ is le) = le

counted : (a b : AgentState) (why : Unhandled) → b ≡ agent_counted a why → SameAgent a b
counted a b why is = record {
  engine = ap (λ (x : AgentState). x.engine) is;
  boots = ap (λ (x : AgentState). x.boots) is;
  started = ap (λ (x : AgentState). x.started) is;
  users = ap (λ (x : AgentState). x.users) is;
  tables = ap (λ (x : AgentState). x.tables) is;
}

-- what is refused leaves the same agent, but for its counters
pub refused_same : (old new : AgentState) (now : ℕ) (g : Given) (p : PduParts) (why : Unhandled) (salt : List ℕ) (report : Option (List ℕ)) → Refuses old now g p why salt (Ok report) new → SameAgent old new
refused_same old new now g p why salt None is = counted old new why is.1
refused_same old new now g p why salt (Some text) is = counted old new why is.1

-- and counts why
pub refused_counts : (old new : AgentState) (now : ℕ) (g : Given) (p : PduParts) (why : Unhandled) (salt : List ℕ) (report : Option (List ℕ)) → Refuses old now g p why salt (Ok report) new → CountsUnhandled old new
refused_counts old new now g p why salt None is = (why, is.1)
refused_counts old new now g p why salt (Some text) is = (why, is.1)

-- the front that was sent
pub front_sent : (agent : AgentState) (now limit : ℕ) (message : BootsAndTime → List Variable → Sending) (vs : List Variable) (f : FrontText)
    → SendsFront agent now limit message vs (Ok f) → Sends agent now (λ (own : BootsAndTime). message own (take f.count vs)) (Ok f.text)
front_sent agent now limit message vs f (holds runs rows) = holds runs rows.0

pub front_within : (agent : AgentState) (now limit : ℕ) (message : BootsAndTime → List Variable → Sending) (vs : List Variable) (f : FrontText) → SendsFront agent now limit message vs (Ok f) → length f.text ≤ limit
front_within agent now limit message vs f (holds runs rows) = rows.1

-- what a kept message is answered is as short as what the message itself is
pub short_of_message : (r : Result Reply AllocError) (limit : ℕ) (g kept : Given) → g ≡ kept → IfOk r (λ (reply : Reply). (c : Contexts) (p : PduParts) → ScopedFront g.text c → PduText c.pdu p → IsShortReply limit reply)
    → IfOk r (λ (reply : Reply). (c : Contexts) (p : PduParts) → ScopedFront kept.text c → PduText c.pdu p → IsShortReply limit reply)
short_of_message r limit g kept same short =
    subst (λ (x : Given). IfOk r (λ (reply : Reply). (c : Contexts) (p : PduParts) → ScopedFront x.text c → PduText c.pdu p → IsShortReply limit reply)) same short

short_octets : (limits : GateLimits) (m : WaitingMessage) (limit : ℕ) (datagram : List ℕ) → IsLimit limits m.kept.level m.kept.max_size m.size limit → length datagram ≤ limit → IsShortFor limits m datagram
short_octets limits m limit datagram is le = record {
  taken = omega (arith, le, is.taken);
  datagram = omega (arith, le, is.datagram);
  short = λ must. let most = is.short must in omega (arith, le, most);
}

-- an answer within the limit of its message is short
pub short_for : (limits : GateLimits) (m : WaitingMessage) (limit : ℕ) (r : Reply) → IsLimit limits m.kept.level m.kept.max_size m.size limit → IsShortReply limit r → IsShortReplyFor limits m r
short_for limits m limit (reply.Responds says datagram) is le = short_octets limits m limit datagram.items is le
short_for limits m limit (reply.Reports datagram) is le = short_octets limits m limit datagram.items is le
short_for limits m limit reply.Nothing is le = tt
short_for limits m limit reply.SilentDrop is le = tt
short_for limits m limit (reply.Refused why) is le = tt

-- the same with numbers that are equal
pub sent_with : (a : Answering) (g : Given) (status index own_status own_index : ℤ) (vs : List Variable) (datagram : List ℕ) → own_status ≡ status → own_index ≡ index
    → IsSent a g (record { status = own_status; index = own_index; variables = vs }) datagram → IsSent a g (record { status = status; index = index; variables = vs }) datagram
sent_with a g status index own_status own_index vs datagram s i sent =
    subst (λ (n : ℤ). IsSent a g (record { status = n; index = index; variables = vs }) datagram) s
    (subst (λ (n : ℤ). IsSent a g (record { status = own_status; index = n; variables = vs }) datagram) i sent)

pub on_ok : {T E : Type 0} (r : Result T E) (P Q : T → Type 0) → ((x : T) → P x → Q x) → IfOk r P → IfOk r Q
on_ok (Ok x) P Q f p = f x p
on_ok (Err e) P Q f p = tt

pub on_some : {T : Type 0} (o : Option T) (P Q : T → Type 0) → ((x : T) → P x → Q x) → IfSome o P → IfSome o Q
on_some (Some x) P Q f p = f x p
on_some None P Q f p = tt

pub on_both : {T E : Type 0} (r : Result T E) (P Q : T → Type 0) → IfOk r P → IfOk r Q → IfOk r (λ x. P x × Q x)
on_both (Ok x) P Q p q = (p, q)
on_both (Err e) P Q p q = tt

-- what is counted of what goes out is what is counted of what became of the message
pub counts_sent : (old new : AgentState) (number : ℕ) (message : WaitingMessage) (ended : EndedBy) (r : Reply) (sent : Sent) → IsSentBy number message ended r sent → CountsReply old new r → CountsSent old new sent
counts_sent old new number message ended (reply.Responds says datagram) sent is counts = subst (CountsSent old new) (sym is) counts
counts_sent old new number message ended (reply.Reports datagram) sent is counts = subst (CountsSent old new) (sym is) counts
counts_sent old new number message ended reply.Nothing sent is counts = subst (CountsSent old new) (sym is) (elim counts [ inl same ↦ inl same | inr more ↦ inr (inl more) ])
counts_sent old new number message ended reply.SilentDrop sent is counts = subst (CountsSent old new) (sym is) (inr (inr counts))
counts_sent old new number message ended (reply.Refused why) sent is counts = subst (CountsSent old new) (sym is) counts
