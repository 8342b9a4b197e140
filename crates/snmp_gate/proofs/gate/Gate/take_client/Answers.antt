use Rattle.snmp_gate.specs.Beginning.{IsNoRefusal}
use Rattle.std.specs.Prelude.{◌≡◌, ◌/◌, ℕ, Bool, List, Ok, Option, Some, None, Result}
use Rattle.std.proofs.Common.{ap, inl, refl, subst, sym, ◌∙◌}
use Rattle.sha2.specs.Sha256.{sha256}
use Rattle.snmp_message.specs.declared.refusal.Refusal.{Refusal}
use Rattle.snmp_message.specs.Numbers.{MemoryIs, in_table}
use Rattle.usm_core.specs.Table.{refusal_answer, refused}
use Rattle.snmp_agent.specs.Agent.{AgentState, AgentTakes, taker_of}
use Rattle.snmp_incoming.specs.Outcome.{Given, Outcome}
use Rattle.snmp_gate.specs.Messages.{question_given}
use Rattle.snmp_gate.specs.Waiting.{IsAsBefore}
use Rattle.snmp_gate.specs.declared.gate.Gate.{Gate}
use Rattle.snmp_gate.proofs.Bounded.{agent_same, stays_counted, stays_on}
use Rattle.snmp_gate.proofs.Coming.{message_happens, no_refusal, same_stands}
use Rattle.snmp_gate.proofs.GroupSteps.{on_err}
use Rattle.snmp_gate.proofs.Keeping.{as_before, as_before_same, if_err, stands_kept}
use Rattle.snmp_gate.proofs.Sending.{on_ok}
use Rattle.snmp_gate.specs.Untaken.{AsksIn, IsGivenIn}
use Rattle.snmp_gate.proofs.Untaken.{cause_of}
use Rattle.snmp_gate.proofs.gate.Gate.take_client.Goals as goal

same_tables : (old new : AgentState) (now : ℕ) (w : List ℕ) (a : Option (Result Given Refusal)) → AgentTakes old now w a new → new.tables ≡ old.tables
same_tables old new now w None is = ap (λ (x : AgentState). x.tables) is
same_tables old new now w (Some answer) is = ap (λ (x : AgentState). x.tables) is.1

same_engine : (old new : AgentState) (now : ℕ) (w : List ℕ) (a : Option (Result Given Refusal)) → AgentTakes old now w a new → new.engine ≡ old.engine
same_engine old new now w None is = ap (λ (x : AgentState). x.engine) is
same_engine old new now w (Some answer) is = ap (λ (x : AgentState). x.engine) is.1

same_agent : (old new : AgentState) (now : ℕ) (w : List ℕ) (why : Refusal) → in_table why ≡ None → AgentTakes old now w (refusal_answer why) new → new ≡ old
same_agent old new now w why memory is = subst (λ (r : Option Refusal). AgentTakes old now w (refused r) new) memory is

pub begin-requires-clause-asks : goal.begin-requires-clause-asks
begin-requires-clause-asks c = c.in_ok-message.ensures.asks

pub begin-requires-clause-digest : goal.begin-requires-clause-digest
begin-requires-clause-digest c = (c.args.datagram.now, c.in_ok-message.ensures.digest)

pub returns-in-Some-clause-happens : goal.returns-in-Some-clause-happens
returns-in-Some-clause-happens c =
    let g = c.args.self.now in
    let mid : Gate = record g { agent = c.take.new.self } in
    let m = c.in_ok-message.message in
    let takes = c.in-Ok.ensures.takes in
    let accepts = subst (λ (x : Given). Outcome (taker_of g.agent) g.agent.users (c.args.now / 1000) c.args.datagram.now (Ok x)) (sym c.in_ok-message.ensures.is.1) takes.0 in
    message_happens g c.join.new.self c.args.now c.args.client.now c.args.datagram.now m mid c.join.result c.in_ok-message.ensures.is.0 accepts c.in_ok-message.ensures.digest
    (same_stands g mid refl takes.1 refl refl refl refl) c.join.ensures.takes

pub returns-in-None-clause-happens : goal.returns-in-None-clause-happens
returns-in-None-clause-happens c =
    let g = c.args.self.now in
    let mid : Gate = record g { agent = c.take.new.self } in
    let m = c.in_ok-message.message in
    let takes = c.in-Ok.ensures.takes in
    let accepts = subst (λ (x : Given). Outcome (taker_of g.agent) g.agent.users (c.args.now / 1000) c.args.datagram.now (Ok x)) (sym c.in_ok-message.ensures.is.1) takes.0 in
    message_happens g c.begin.new.self c.args.now c.args.client.now c.args.datagram.now m mid c.begin.result c.in_ok-message.ensures.is.0 accepts c.in_ok-message.ensures.digest
    (same_stands g mid refl takes.1 refl refl refl refl)
    (on_ok c.begin.result _ _ (λ taken takes_in since before w later digest stood. takes_in since before w later digest
    (λ q asked. c.unhandled_by-unhandled.ensures g.devices.list.items m.client.items q (ap (question_given m.client.items) (sym c.in_ok-message.ensures.is.1) ∙ asked)) stood) c.begin.ensures.takes)

pub returns-in-Some-clause-err : goal.returns-in-Some-clause-err
returns-in-Some-clause-err c =
    let g = c.args.self.now in
    let mid : Gate = record g { agent = c.take.new.self } in
    if_err c.join.result (IsAsBefore c.args.now mid c.join.new.self) (IsAsBefore c.args.now g c.join.new.self)
    (as_before_same c.args.now g mid c.join.new.self c.in-Ok.ensures.takes.1 refl refl refl refl refl) c.join.ensures.err

pub returns-in-None-clause-err : goal.returns-in-None-clause-err
returns-in-None-clause-err c =
    let g = c.args.self.now in
    let mid : Gate = record g { agent = c.take.new.self } in
    if_err c.begin.result (IsAsBefore c.args.now mid c.begin.new.self) (IsAsBefore c.args.now g c.begin.new.self)
    (as_before_same c.args.now g mid c.begin.new.self c.in-Ok.ensures.takes.1 refl refl refl refl refl) c.begin.ensures.err

pub returns-in-Err-clause-err : goal.returns-in-Err-clause-err
returns-in-Err-clause-err c =
    let g = c.args.self.now in
    let memory : in_table c.in-Err.refused.why.refusal ≡ None = subst (λ (b : Bool). MemoryIs c.in-Err.refused.why.refusal b) c.if-is_memory.true c.is_memory.ensures in
    as_before c.args.now g (record g { agent = c.take.new.self }) (same_agent g.agent c.take.new.self (c.args.now / 1000) c.args.datagram.now c.in-Err.refused.why.refusal memory c.in-Err.ensures.takes) refl refl refl refl refl (inl refl)

pub returns-in-Err-2-clause-happens : goal.returns-in-Err-2-clause-happens
returns-in-Err-2-clause-happens c since before later stands =
    let g = c.args.self.now in
    stands_kept c.args.now g (record g { agent = c.take.new.self }) refl (same_engine g.agent c.take.new.self (c.args.now / 1000) c.args.datagram.now (refusal_answer c.in-Err.refused.why.refusal) c.in-Err.ensures.takes) (same_tables g.agent c.take.new.self (c.args.now / 1000) c.args.datagram.now (refusal_answer c.in-Err.refused.why.refusal) c.in-Err.ensures.takes) refl refl refl refl
    (inl refl) since before later stands

pub returns-in_err-message-clause-err : goal.returns-in_err-message-clause-err
returns-in_err-message-clause-err c =
    let g = c.args.self.now in
    on_err c.from_residual.result _ (as_before c.args.now g (record g { agent = c.take.new.self }) c.in-Ok.ensures.takes.1 refl refl refl refl refl (inl refl))

pub returns-in-Some-clause-refused : goal.returns-in-Some-clause-refused
returns-in-Some-clause-refused c = no_refusal c.args.self.now c.join.new.self (c.args.now / 1000) c.args.datagram.now c.join.result c.join.ensures.accepts

pub returns-in-None-clause-refused : goal.returns-in-None-clause-refused
returns-in-None-clause-refused c = no_refusal c.args.self.now c.begin.new.self (c.args.now / 1000) c.args.datagram.now c.begin.result c.begin.ensures.accepts

pub returns-in-Some-clause-untaken : goal.returns-in-Some-clause-untaken
returns-in-Some-clause-untaken c =
    let g = c.args.self.now in
    let mid : Gate = record g { agent = c.take.new.self } in
    on_ok c.join.result _ _ (λ taken is untaken. as_before_same c.args.now g mid c.join.new.self c.in-Ok.ensures.takes.1 refl refl refl refl refl (is untaken)) c.join.ensures.untaken

pub returns-in-None-clause-untaken : goal.returns-in-None-clause-untaken
returns-in-None-clause-untaken c =
    let g = c.args.self.now in
    let mid : Gate = record g { agent = c.take.new.self } in
    on_ok c.begin.result _ _ (λ taken is untaken. as_before_same c.args.now g mid c.begin.new.self c.in-Ok.ensures.takes.1 refl refl refl refl refl (is untaken)) c.begin.ensures.untaken

pub returns-in-Some-clause-cause : goal.returns-in-Some-clause-cause
returns-in-Some-clause-cause c =
    let g = c.args.self.now in
    let mid : Gate = record g { agent = c.take.new.self } in
    let m = c.in_ok-message.message in
    let accepts = subst (λ (x : Given). Outcome (taker_of g.agent) g.agent.users (c.args.now / 1000) c.args.datagram.now (Ok x)) (sym c.in_ok-message.ensures.is.1) c.in-Ok.ensures.takes.0 in
    on_ok c.join.result _ _ (cause_of c.args.now g mid (record { devices = refl; limits = refl; requests = refl; sets = refl }) (AsksIn m) (IsGivenIn g.agent c.args.now c.args.datagram.now) (λ context in_it. (m, accepts, in_it))
    m.digest (sha256 c.args.datagram.now) c.in_ok-message.ensures.digest.own) c.join.ensures.cause

pub returns-in-None-clause-cause : goal.returns-in-None-clause-cause
returns-in-None-clause-cause c =
    let g = c.args.self.now in
    let mid : Gate = record g { agent = c.take.new.self } in
    let m = c.in_ok-message.message in
    let accepts = subst (λ (x : Given). Outcome (taker_of g.agent) g.agent.users (c.args.now / 1000) c.args.datagram.now (Ok x)) (sym c.in_ok-message.ensures.is.1) c.in-Ok.ensures.takes.0 in
    on_ok c.begin.result _ _ (cause_of c.args.now g mid (record { devices = refl; limits = refl; requests = refl; sets = refl }) (AsksIn m) (IsGivenIn g.agent c.args.now c.args.datagram.now) (λ context in_it. (m, accepts, in_it))
    m.digest (sha256 c.args.datagram.now) c.in_ok-message.ensures.digest.own) c.begin.ensures.cause

pub returns-in-Err-2-clause-untaken : goal.returns-in-Err-2-clause-untaken
returns-in-Err-2-clause-untaken c untaken = absurd untaken

pub returns-in-Some-clause-stays : goal.returns-in-Some-clause-stays
returns-in-Some-clause-stays c =
    let g = c.args.self.now in
    let mid : Gate = record g { agent = c.take.new.self } in
    stays_on g mid c.join.new.self (stays_counted g mid (agent_same g.agent mid.agent c.in-Ok.ensures.takes.1) refl refl refl refl) c.join.ensures.stays

pub returns-in-None-clause-stays : goal.returns-in-None-clause-stays
returns-in-None-clause-stays c =
    let g = c.args.self.now in
    let mid : Gate = record g { agent = c.take.new.self } in
    stays_on g mid c.begin.new.self (stays_counted g mid (agent_same g.agent mid.agent c.in-Ok.ensures.takes.1) refl refl refl refl) c.begin.ensures.stays

pub returns-in-Some-clause-counted : goal.returns-in-Some-clause-counted
returns-in-Some-clause-counted c = on_ok c.join.result IsNoRefusal _ (λ taken is no. c.join.ensures.agent ∙ c.in-Ok.ensures.takes.1) c.join.ensures.accepts

pub returns-in-None-clause-counted : goal.returns-in-None-clause-counted
returns-in-None-clause-counted c = on_ok c.begin.result IsNoRefusal _ (λ taken is no. c.begin.ensures.agent ∙ c.in-Ok.ensures.takes.1) c.begin.ensures.accepts
