-- What is sent under the agent's clock.
use Rattle.snmp_message.specs.declared.refusal.Refusal.{Refusal}
use Rattle.std.proofs.Common.{◌≡◌, ℕ, ◌≤◌, ◌-◌, List, subst}
use Rattle.std.specs.Prelude.{Option, Some, None, Result, IfSome}
use Rattle.engine_clock.specs.Pairs.{BootsAndTime, pair_max}
use Rattle.usm_core.specs.Table.{holds}
use Rattle.usm_core.specs.Sealed.{Sending, Seals, IsSealable}
use Rattle.snmp_incoming.specs.Outcome.{own_pair}
use Rattle.snmp_agent.specs.Agent.{AgentState}
use Rattle.snmp_outgoing.specs.UpTo.{UpTo}
use Rattle.snmp_agent.specs.Sent.{Sends, CanBeSent}
use Rattle.snmp_agent.proofs.UpTos.{up_to_map}

some_map : (o : Option (Result (List ℕ) Refusal)) (P Q : Result (List ℕ) Refusal → Type 0) → ((a : Result (List ℕ) Refusal) → P a → Q a) → IfSome o P → IfSome o Q
some_map None P Q f h = h
some_map (Some a) P Q f h = f a h

module _ (agent : AgentState) (now : ℕ) (message : BootsAndTime → Sending) (own : BootsAndTime) (runs : now - agent.started ≤ pair_max) (is : own ≡ own_pair agent.boots agent.started now) where
  pub sends : (o : Option (Result (List ℕ) Refusal)) → IfSome o (Seals agent.users (message own)) → IfSome o (Sends agent now message)
  sends o h = some_map o _ _ (λ a x. holds runs x) (subst (λ (q : BootsAndTime). IfSome o (Seals agent.users (message q))) is h)

  pub sends_up_to : (limit : ℕ) (o : Option (Result (List ℕ) Refusal)) → IfSome o (UpTo limit (Seals agent.users (message own))) → IfSome o (UpTo limit (Sends agent now message))
  sends_up_to limit o h =
      some_map o _ _ (up_to_map limit _ _ (λ a x. holds runs x)) (subst (λ (q : BootsAndTime). IfSome o (UpTo limit (Seals agent.users (message q)))) is h)

  pub can_be_sent : IsSealable agent.users (message own) → CanBeSent agent now message
  can_be_sent h = record { runs = runs; sealable = subst (λ (q : BootsAndTime). IsSealable agent.users (message q)) is h }
