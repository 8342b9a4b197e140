use Rattle.std.proofs.Common.{Bool, subst}
use Rattle.std.specs.Prelude.{◌≢◌, None}
use Rattle.snmp_message.specs.Numbers.{in_table, MemoryIs}
use Rattle.snmp_agent.proofs.CountedAgents.{answer_some, answer_offered}
use Rattle.snmp_agent.proofs.agent.Agent.take.Goals as goal

pub returns-in-Ok-report-clause-no_memory : goal.returns-in-Ok-report-clause-no_memory
returns-in-Ok-report-clause-no_memory c =
    let told : in_table c.in-Err.why.refusal ≢ None = subst (λ (b : Bool). MemoryIs c.in-Err.why.refusal b) c.if-is_memory.false c.is_memory.ensures in
    λ opened offered. answer_some c.in-Err.why.refusal told

pub returns-in-Err-report-clause-no_memory : goal.returns-in-Err-report-clause-no_memory
returns-in-Err-report-clause-no_memory c =
    rw (← c.self.view_is) (λ opened offered. absurd (offered (c.in-Err.why.refusal, answer_offered c.in-Err.why.refusal _ c.in-Err.ensures.rows c.in-Err-report.ensures.memory, c.in-Err-report.ensures.memory)))
