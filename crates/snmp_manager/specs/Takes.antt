-- What a manager answers to a datagram, and what it leaves.
--
-- `Takes`. What a take leaves and answers: the users as before, `LearnsFrom`, and the table's answer by the
-- window of what is then held; if memory runs out no answer, and all as before. `IsOnceLearned`: a refusal
-- that comes behind the learning. `HoldsAuthentic`, `TakesNoMemory`: it wants no memory, also where what is
-- accepted is to be copied; `kept_answer`: the answer of a call that copies it.
use Rattle.snmp_message.specs.declared.refusal.Refusal.{Refusal}
use Rattle.snmp_message.specs.declared.refusal.Refusal.TheVariants.{NotInWindow, DecryptionError, BadScoped, BadPdu}
use Rattle.std.specs.Prelude.{◌≡◌, ℕ, List, Option, Some, None, Result, Ok, Err, IsSome}
use Rattle.engine_clock.specs.Pairs.{BootsAndTime}
use Rattle.engine_clock.specs.Marks.{mark_at}
use Rattle.usm_core.specs.Authentic.{Authentic}
use Rattle.usm_core.specs.Verified.{manager}
use Rattle.snmp_message.specs.declared.refused_at.RefusedAt.{RefusedAt}
use Rattle.snmp_incoming.specs.Answers.{IsPlain}
use Rattle.usm_core.specs.Table.{refusal_answer}
use Rattle.snmp_incoming.specs.Outcome.{Given, Outcome, as_manager}
use Rattle.snmp_manager.specs.Views.{Held}
use Rattle.snmp_manager.specs.Learning.{LearnsFrom}

-- The answer is the table's, by the window of what is held after learning, and nothing but marks has changed.
-- If memory runs out there is no answer, and all is as before.
abbrev pub Takes : Held → ℕ → List ℕ → Option (Result Given Refusal) → Held → Type 0
Takes old now w None new = new ≡ old
Takes old now w (Some answer) new = (new.users ≡ old.users) × LearnsFrom old.users now w old.clocks new.clocks
    × Outcome (as_manager new.clocks) old.users now w answer

-- The refusal comes once the pair is learned: from the time window, the opening, the ScopedPDU or the PDU.
abbrev pub IsOnceLearned : Refusal → Type 0
IsOnceLearned NotInWindow = Unit {0}
IsOnceLearned DecryptionError = Unit {0}
IsOnceLearned BadScoped = Unit {0}
IsOnceLearned BadPdu = Unit {0}
IsOnceLearned _ = ⊥

-- The engine of the datagram is held, if it is authentic, so that no memory is needed to learn its pair.
abbrev pub HoldsAuthentic : Held → List ℕ → Type 0
HoldsAuthentic held w = (engine : List ℕ) (pair : BootsAndTime) → Authentic held.users w engine pair
    → IsSome (mark_at held.clocks engine)

-- The datagram isn't sealed where it passes its digest, its engine is held where it is authentic, and it is
-- refused: so no memory is wanted to take it and to keep what is accepted.
pub record TakesNoMemory (held : Held) (now : ℕ) (w : List ℕ) : Type 0 where
  pub plain : IsPlain manager held.users w
  pub holds : HoldsAuthentic held w
  pub refused : (g : Given) (new : Held) → Takes held now w (Some (Ok g)) new → ⊥

-- the answer of a call that keeps what is accepted, as the table has it; None if memory ran out
abbrev pub kept_answer : Result Given RefusedAt → Option (Result Given Refusal)
kept_answer (Ok g) = Some (Ok g)
kept_answer (Err e) = refusal_answer e.refusal
