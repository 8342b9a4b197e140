-- Fronts of bindings that are sent under the agent's clock.
use Rattle.snmp_message.specs.declared.refusal.Refusal.{Refusal}
use Rattle.std.proofs.Common.{◌≡◌, ℕ, ◌≤◌, ◌-◌, List, take, subst, Result, Ok, Err, Option, Some, None}
use Rattle.std.specs.Prelude.{IfSome, IfOk}
use Rattle.snmp_msg.specs.Variables.{Variable}
use Rattle.usm_users.specs.User.{User}
use Rattle.usm_core.specs.Sealed.{Sending}
use Rattle.usm_core.specs.Table.{holds}
use Rattle.engine_clock.specs.Pairs.{BootsAndTime, pair_max}
use Rattle.snmp_incoming.specs.Outcome.{own_pair}
use Rattle.snmp_message.specs.declared.refused_at.RefusedAt.{RefusedAt}
use Rattle.snmp_outgoing.specs.declared.front.Fronted.{Fronted}
use Rattle.snmp_outgoing.specs.Speaks.{Speech, spoken, SpeechFits}
use Rattle.snmp_outgoing.specs.Fronts.{FrontText, SealsFront, front_answer}
use Rattle.snmp_agent.specs.Agent.{AgentState}
use Rattle.snmp_agent.specs.Sent.{SendsFront, IsAcceptedByManagers}
use Rattle.snmp_agent.proofs.Accepted.{AreAccepted}

some_front : (o : Option (Result FrontText Refusal)) (P Q : Result FrontText Refusal → Type 0) → ((a : Result FrontText Refusal) → P a → Q a) → IfSome o P → IfSome o Q
some_front None P Q f h = h
some_front (Some a) P Q f h = f a h

-- under the agent's clock
pub sends_front : (agent : AgentState) (now limit : ℕ) (message : BootsAndTime → List Variable → Sending) (vs : List Variable) (own : BootsAndTime)
    → now - agent.started ≤ pair_max → own ≡ own_pair agent.boots agent.started now → (o : Option (Result FrontText Refusal))
    → IfSome o (SealsFront agent.users limit (message own) vs) → IfSome o (SendsFront agent now limit message vs)
sends_front agent now limit message vs own runs is o h =
    some_front o _ _ (λ a x. holds runs x) (subst (λ (q : BootsAndTime). IfSome o (SealsFront agent.users limit (message q) vs)) is h)

pub accepted_front : (r : Result Fronted RefusedAt) (users : List User) (limit : ℕ) (of : List Variable → Speech) (vs : List Variable) → ((ws : List Variable) → AreAccepted users (of ws))
    → IfOk r (λ f. SpeechFits (of (take f.count vs))) → IfSome (front_answer r) (SealsFront users limit (λ ws. spoken (of ws)) vs)
    → IfOk r (λ f. IsAcceptedByManagers users (of (take f.count vs)) f.text.items)
accepted_front (Err e) users limit of vs law fits rows = tt
accepted_front (Ok f) users limit of vs law fits rows = λ others held now same. law (take f.count vs) others held now f.text.items fits same rows.0
