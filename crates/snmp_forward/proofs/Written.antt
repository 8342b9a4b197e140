-- What is sealed for a receiver.
use Rattle.std.specs.Prelude.{◌≡◌, ◌≢◌, ℕ, pos, false, List, None, Result, Err, IfSome}
use Rattle.std.proofs.Common.{refl, subst}
use Rattle.snmp_ber.specs.declared.level.Level.{Level}
use Rattle.engine_clock.specs.Pairs.{BootsAndTime}
use Rattle.snmp_message.specs.Numbers.{in_table}
use Rattle.snmp_message.specs.declared.refusal.Refusal.{Refusal}
use Rattle.snmp_message.specs.declared.refusal.Refusal.TheVariants.{NotMessage, BadVersion, NotSecurity, NotScoped, NotPdu, UnknownEngine, UnknownUser, UnsupportedLevel, WrongDigest, NotInWindow, DecryptionError, BadScoped, BadPdu, OutOfMemory, ClockExhausted, TooLarge, UnknownModel, InvalidFlags}
use Rattle.snmp_msg.specs.Pdu.{PduParts, pdu_with}
use Rattle.snmp_msg.specs.PduTypes.{pdu_tag}
use Rattle.snmp_msg.specs.Variables.{variables_of}
use Rattle.snmp_msg.specs.declared.pdu_type.PduType.TheVariants.{SNMPv2Trap}
use Rattle.usm_core.specs.Table.{refusal_answer}
use Rattle.snmp_outgoing.specs.Speaks.{Speech, spoken}
use Rattle.snmp_agent.specs.Agent.{AgentState}
use Rattle.snmp_agent.specs.Sent.{Sends}
use Rattle.snmp_forward.specs.Sending.{SealsTrap}
use Rattle.snmp_forward.specs.declared.receivers.Receiver.{Receiver}
use Rattle.snmp_forward.specs.declared.sealing.Sealing.{Sealing}

-- a refusal that isn't out of memory is an answer
pub told_refusal : (r : Refusal) (P : Result (List ℕ) Refusal → Type 0) → in_table r ≢ None → IfSome (refusal_answer r) P → P (Err r)
told_refusal NotMessage P never h = h
told_refusal BadVersion P never h = h
told_refusal NotSecurity P never h = h
told_refusal NotScoped P never h = h
told_refusal NotPdu P never h = h
told_refusal UnknownEngine P never h = h
told_refusal UnknownUser P never h = h
told_refusal UnsupportedLevel P never h = h
told_refusal WrongDigest P never h = h
told_refusal NotInWindow P never h = h
told_refusal DecryptionError P never h = h
told_refusal BadScoped P never h = h
told_refusal BadPdu P never h = h
told_refusal OutOfMemory P never h = absurd (never refl)
told_refusal ClockExhausted P never h = h
told_refusal TooLarge P never h = h
told_refusal UnknownModel P never h = h
told_refusal InvalidFlags P never h = h

-- what is sent to this user, in this context and with this PDU
abbrev trap_with : List ℕ → BootsAndTime → Sealing → Level → List ℕ → List ℕ → List ℕ → PduParts → Speech
trap_with engine own by level user context_engine context pdu = record {
  level = level;
  id = by.id;
  reportable = false;
  engine = engine;
  pair = own;
  user = user;
  salt = by.salt;
  context_engine = context_engine;
  context_name = context;
  pdu = pdu;
}

module _ (agent : AgentState) (by : Sealing) (to : Receiver) (context : List ℕ) (pdu : PduParts) where
  abbrev goes : PduParts
  goes = pdu_with (pdu_tag SNMPv2Trap) pdu.id (pos 0) (pos 0) (variables_of pdu.list)

  pub as_trap : (answer : Result (List ℕ) Refusal) (user context_engine name : List ℕ) (q : PduParts) → user ≡ to.user.items → context_engine ≡ agent.engine → name ≡ context → q ≡ goes
      → Sends agent by.seconds (λ own. spoken (trap_with agent.engine own by to.level user context_engine name q)) answer → SealsTrap agent by to context pdu answer
  as_trap answer user context_engine name q u e n is sends =
      subst (λ (x : List ℕ). Sends agent by.seconds (λ own. spoken (trap_with agent.engine own by to.level x agent.engine context goes)) answer) u
      (subst (λ (x : List ℕ). Sends agent by.seconds (λ own. spoken (trap_with agent.engine own by to.level user x context goes)) answer) e
      (subst (λ (x : List ℕ). Sends agent by.seconds (λ own. spoken (trap_with agent.engine own by to.level user context_engine x goes)) answer) n
      (subst (λ (x : PduParts). Sends agent by.seconds (λ own. spoken (trap_with agent.engine own by to.level user context_engine name x)) answer) is sends)))

  pub as_refused : (r : Refusal) (user context_engine name : List ℕ) (q : PduParts) → user ≡ to.user.items → context_engine ≡ agent.engine → name ≡ context → q ≡ goes → in_table r ≢ None
      → IfSome (refusal_answer r) (Sends agent by.seconds (λ own. spoken (trap_with agent.engine own by to.level user context_engine name q))) → SealsTrap agent by to context pdu (Err r)
  as_refused r user context_engine name q u e n is never answer =
      as_trap (Err r) user context_engine name q u e n is (told_refusal r (Sends agent by.seconds (λ own. spoken (trap_with agent.engine own by to.level user context_engine name q))) never answer)
