-- Tables of texts that are cut at a limit.
use Rattle.snmp_message.specs.declared.refusal.Refusal.{Refusal}
use Rattle.snmp_message.specs.declared.refusal.Refusal.TheVariants.{ClockExhausted, InvalidFlags, UnknownUser, UnsupportedLevel}
use Rattle.std.proofs.Common.{ℕ, ◌<◌, ◌≤◌, List, Option, Some, None, length, arith}
use Rattle.std.specs.Prelude.{Result, Ok, Err, IfSome}
use Rattle.engine_clock.specs.Pairs.{BootsAndTime}
use Rattle.usm_users.specs.User.{User}
use Rattle.usm_core.specs.Table.{Needs, holds, refused}
use Rattle.usm_core.specs.Sealed.{Sending, Seals}
use Rattle.snmp_outgoing.specs.UpTo.{UpTo, fits, longer, refuses}
use Rattle.snmp_agent.specs.Agent.{AgentState}
use Rattle.snmp_agent.specs.Sent.{Sends}

-- what follows for each answer follows for each that is cut
pub up_to_map : (limit : ℕ) (P Q : Result (List ℕ) Refusal → Type 0) → ((a : Result (List ℕ) Refusal) → P a → Q a) → (a : Result (List ℕ) Refusal) → UpTo limit P a → UpTo limit Q a
up_to_map limit P Q f a (fits text h short) = fits text (f (Ok text) h) short
up_to_map limit P Q f a (longer text h long) = longer text (f (Ok text) h) long
up_to_map limit P Q f a (refuses r h) = refuses r (f (Err r) h)

-- what follows for each refusal follows for an answer that is one, or none
pub some_other : (P : Result (List ℕ) Refusal → Type 0) (Q : Result (Option (List ℕ)) Refusal → Type 0) (o : Option Refusal) → ((r : Refusal) → P (Err r) → Q (Err r))
    → IfSome (refused o) P → IfSome (refused o) Q
some_other P Q None f h = h
some_other P Q (Some n) f h = f n h

-- a row that gives what is below it
passed : {X : Type 0} (P : Type 0) (k : Refusal) (below : P → Result X Refusal → Type 0) (x : X) → Needs P k below (Ok x) → (p : P) × below p (Ok x)
passed P k below x (holds p y) = (p, y)

sealed_short : (users : List User) (m : Sending) (text : List ℕ) → Seals users m (Ok text) → length text ≤ 65507
unfolding Seals
sealed_short users m text rows =
    let flags = passed _ InvalidFlags _ text rows in
    let user = passed _ UnknownUser _ text flags.1 in
    let level = passed _ UnsupportedLevel _ text user.1 in
    level.1.1

module _ (agent : AgentState) (now : ℕ) (message : BootsAndTime → Sending) where
  sent_short : (text : List ℕ) → Sends agent now message (Ok text) → length text ≤ 65507
  sent_short text h = sealed_short _ _ text (passed _ ClockExhausted _ text h).1

  -- no text that is sent is longer than each may be
  pub never_cut : (a : Result (List ℕ) Refusal) → UpTo 65507 (Sends agent now message) a → Sends agent now message a
  never_cut a (fits text h short) = h
  never_cut a (longer text h long) = let short = sent_short text h in absurd (omega (arith, short, long))
  never_cut a (refuses r h) = h

-- where a limit cuts nothing, an answer that is cut is the table's
pub some_whole : (limit : ℕ) (P : Result (List ℕ) Refusal → Type 0) → ((a : Result (List ℕ) Refusal) → UpTo limit P a → P a) → (o : Option (Result (List ℕ) Refusal)) → IfSome o (UpTo limit P) → IfSome o P
some_whole limit P whole None h = h
some_whole limit P whole (Some a) h = whole a h
