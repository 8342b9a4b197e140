-- What is remembered of a message that was sent.
--
-- `Remembers` and `IsPending`. What is remembered of a message that was sent: msgID, engine, user, level,
-- contexts and request-id. `request_answer`: the text that was written, or the refusal.
use Rattle.snmp_message.specs.declared.refusal.Refusal.{Refusal}
use Rattle.std.specs.Prelude.{◌≡◌, ℕ, ℤ, List, Option, Some, Result, Ok, Err}
use Rattle.std.specs.Global.{Vec}
use Rattle.snmp_ber.specs.declared.level.Level.{Level}
use Rattle.snmp_message.specs.declared.refused_at.RefusedAt.{RefusedAt}
use Rattle.snmp_outgoing.specs.declared.front.Front.{Front}
use Rattle.usm_core.specs.Table.{refusal_answer}
use Rattle.snmp_manager.specs.declared.pending.Pending.{Pending}

pub record Remembers (a : Pending) (id : ℕ) (engine user : List ℕ) (level : Level)
    (context_engine context_name : List ℕ) (request_id : ℤ) : Type 0 where
  pub id_is : a.id ≡ id
  pub engine_is : a.engine.items ≡ engine
  pub user_is : a.user.items ≡ user
  pub level_is : a.level ≡ level
  pub context_engine_is : a.context_engine.items ≡ context_engine
  pub context_name_is : a.context_name.items ≡ context_name
  pub request_id_is : a.request_id ≡ request_id

-- the same of a message with this front
abbrev pub IsPending : Pending → ℕ → List ℕ → List ℕ → Level → Front → Type 0
IsPending a id engine user level front = Remembers a id engine user level front.context_engine.now
    front.context_name.now front.id

-- the text that was written, or the refusal; None if memory ran out
abbrev pub request_answer : Result (Vec ℕ × Pending) RefusedAt → Option (Result (List ℕ) Refusal)
request_answer (Ok sent) = Some (Ok sent.0.items)
request_answer (Err e) = refusal_answer e.refusal
