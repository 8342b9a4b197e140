-- Responses and Reports that can't be sealed.
use Rattle.std.specs.Prelude.{◌≢◌, ℕ, List, [], None, Result, Err, IfSome}
use Rattle.std.proofs.Common.{refl, inl, inr, subst, sym}
use Rattle.snmp_message.specs.Numbers.{in_table}
use Rattle.snmp_message.specs.declared.refusal.Refusal.{Refusal}
use Rattle.snmp_message.specs.declared.refusal.Refusal.TheVariants.{OutOfMemory, TooLarge}
use Rattle.snmp_msg.specs.Variables.{Variable}
use Rattle.engine_clock.specs.Pairs.{BootsAndTime}
use Rattle.usm_core.specs.Sealed.{Sending}
use Rattle.usm_core.specs.Table.{fails, holds, refusal_answer}
use Rattle.snmp_incoming.specs.Outcome.{Given}
use Rattle.snmp_outgoing.specs.UpTo.{UpTo, longer, refuses}
use Rattle.snmp_agent.specs.Agent.{AgentState}
use Rattle.snmp_agent.specs.Sent.{Sends, SendsFront}
use Rattle.snmp_gate.specs.Replies.{Answering}
use Rattle.snmp_gate.specs.Unanswered.{IsLeftAnswer, IsLeftWithout, IsUnsealed}
use Rattle.snmp_gate.specs.declared.reply.Reply.{Reply}
use Rattle.snmp_gate.specs.declared.reply.Reply.TheVariants as reply

-- a refusal that isn't out of memory is the table's
pub not_memory : {X : Type 0} (P : Result X Refusal → Type 0) (r : Refusal) → in_table r ≢ None → IfSome (refusal_answer r) P → P (Err r)
not_memory P OutOfMemory some is = absurd (some refl)
not_memory P other some is = is

-- a refusal of what has no room is that of its length, or the table's
pub refused_answer : (limit : ℕ) (table : Result (List ℕ) Refusal → Type 0) (r : Refusal) → r ≢ TooLarge → UpTo limit table (Err r) → table (Err r)
refused_answer limit table _ other (longer text is le) = absurd (other refl)
refused_answer limit table _ other (refuses r is) = is

-- the same of a front
pub refused_front : (agent : AgentState) (now limit : ℕ) (message : BootsAndTime → List Variable → Sending) (vs : List Variable) (r : Refusal) → r ≢ TooLarge → SendsFront agent now limit message vs (Err r)
    → Sends agent now (λ (own : BootsAndTime). message own []) (Err r)
refused_front agent now limit message vs r other (holds runs rows) = holds runs (elim rows [ inl is ↦ is | inr long ↦ absurd (other long.0) ])
refused_front agent now limit message vs _ other (fails stopped) = fails stopped

-- what becomes of a message whose Response was refused
pub without_left : (a : Answering) (limit : ℕ) (g : Given) (refusal : Refusal) → (refusal ≢ TooLarge → in_table refusal ≢ None → IsUnsealed a g refusal) → (r : Reply) → IsLeftWithout a limit g refusal r → IsLeftAnswer a limit g r
without_left a limit g refusal is (reply.Refused other) (inl own) = subst (IsUnsealed a g) (sym own.0) (is own.1 own.2)
without_left a limit g refusal is (reply.Refused other) (inr unsealed) = unsealed
without_left a limit g refusal is reply.Nothing left = left
without_left a limit g refusal is reply.SilentDrop left = left
without_left a limit g refusal is (reply.Responds says datagram) left = tt
without_left a limit g refusal is (reply.Reports datagram) left = tt
