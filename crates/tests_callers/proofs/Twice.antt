-- What a caller writes to use the law of replays.
use Rattle.std.proofs.Common.{◌≡◌, sym, ℕ, List, subst, ◌∙◌}
use Rattle.std.specs.Prelude.{Result, Ok, ◌≢◌}
use Rattle.snmp_ber.specs.declared.level.Level.{Level}
use Rattle.snmp_ber.specs.declared.level.Level.TheVariants.{NoAuthNoPriv, AuthPriv}
use Rattle.snmp_message.specs.declared.refusal.Refusal.{Refusal}
use Rattle.snmp_agent.specs.Agent.{AgentState, taker_of}
use Rattle.snmp_agent.specs.RefusalCounters.{counters_after}
use Rattle.snmp_agent.specs.Counts.{counts_after}
use Rattle.snmp_incoming.specs.Outcome.{Given, Outcome}

pub again : (old mid : AgentState) (now : ℕ) (w : List ℕ) (a : Result Given Refusal) (g : Given) → mid ≡ record old { counters = counters_after old.counters a; counts = counts_after old.counts a }
    → Outcome (taker_of mid) mid.users now w (Ok g) → Outcome (taker_of old) old.users now w (Ok g)
again old mid now w a g stays o = subst (λ (s : AgentState). Outcome (taker_of s) s.users now w (Ok g)) stays o

pub sealed : (l : Level) → l ≡ AuthPriv → l ≢ NoAuthNoPriv
sealed l is e = let f = sym is ∙ e in cc f
