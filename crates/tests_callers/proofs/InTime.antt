-- What a caller writes to use the law of requests.
use Rattle.std.proofs.Common.{◌≡◌, ℕ, List, Option, Some, None, refl}
use Rattle.std.specs.Prelude.{◌≢◌, Ok, Err}
use Rattle.usm_users.specs.User.{User}
use Rattle.usm_core.specs.Sealed.{Sending}
use Rattle.snmp_message.specs.Scoped.{Contexts}
use Rattle.snmp_msg.specs.Pdu.{PduParts}
use Rattle.usm_core.specs.Table.{refused}
use Rattle.snmp_message.specs.declared.refusal.Refusal.{Refusal}
use Rattle.snmp_incoming.specs.Outcome.{Given, Taker, as_agent, as_manager, Outcome}
use Rattle.snmp_manager.specs.Views.{Held}
use Rattle.snmp_manager.specs.Takes.{Takes}
use Rattle.snmp_agent.specs.Agent.{AgentState, AgentTakes}
use Rattle.snmp_outgoing.specs.Accepts.{IsInTime, IsTakenInTime}

pub late : (taker : Taker) (users : List User) (now : ℕ) (w : List ℕ) (m : Sending) (c : Contexts) (p : PduParts) (n : Refusal) → IsTakenInTime taker users now w m c p → Outcome taker users now w (Err n) → IsInTime taker now m → ⊥
late taker users now w m c p n t o in_time = let given = (t.only (Err n) o).in_time in_time in let e = given.1 in cc e

pub refused_late : (old new : AgentState) (now : ℕ) (w given engine : List ℕ) (m : Sending) (c : Contexts) (p : PduParts) (o : Option Refusal) → o ≢ None → given ≡ w → old.engine ≡ engine
    → AgentTakes old now given (refused o) new → IsTakenInTime (as_agent engine old.boots old.started) old.users now w m c p → IsInTime (as_agent engine old.boots old.started) now m → ⊥
refused_late old new now w given engine m c p None some same own takes law = absurd (some refl)
refused_late old new now w given engine m c p (Some n) some same own takes law =
    late (as_agent engine old.boots old.started) old.users now w m c p n law (rw (same, own) at takes.0)

pub given_in_time : (old new : AgentState) (now : ℕ) (w given engine : List ℕ) (m : Sending) (c : Contexts) (p : PduParts) (g : Given) → given ≡ w → old.engine ≡ engine
    → AgentTakes old now given (Some (Ok g)) new → IsTakenInTime (as_agent engine old.boots old.started) old.users now w m c p → IsInTime (as_agent engine old.boots old.started) now m
given_in_time old new now w given engine m c p g same own takes law =
    law.accepted_only g (rw (same, own) at takes.0)

-- ---- a manager

pub given_to_manager : (old new : Held) (users : List User) (now : ℕ) (w given : List ℕ) (m : Sending) (c : Contexts) (p : PduParts) (g : Given) → given ≡ w → old.users ≡ users
    → Takes old now given (Some (Ok g)) new → IsTakenInTime (as_manager new.clocks) users now w m c p → IsInTime (as_manager new.clocks) now m
given_to_manager old new users now w given m c p g same own takes law =
    law.accepted_only g (rw (same, own) at takes.2)

pub refused_by_manager : (old new : Held) (users : List User) (now : ℕ) (w given : List ℕ) (m : Sending) (c : Contexts) (p : PduParts) (o : Option Refusal) → o ≢ None → given ≡ w → old.users ≡ users
    → Takes old now given (refused o) new → IsTakenInTime (as_manager new.clocks) users now w m c p → IsInTime (as_manager new.clocks) now m → ⊥
refused_by_manager old new users now w given m c p None some same own takes law = absurd (some refl)
refused_by_manager old new users now w given m c p (Some n) some same own takes law =
    late (as_manager new.clocks) users now w m c p n law (rw (same, own) at takes.2)
