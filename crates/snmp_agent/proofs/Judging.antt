-- The rows of the table, for the function that answers them.
use Rattle.snmp_message.specs.declared.refusal.Refusal.TheVariants.{NotMessage, BadVersion, NotSecurity, NotScoped, NotPdu, UnknownEngine, UnknownUser, UnsupportedLevel, WrongDigest, NotInWindow, DecryptionError, BadScoped, BadPdu, OutOfMemory, ClockExhausted, TooLarge, UnknownModel, InvalidFlags}
use Rattle.snmp_message.specs.declared.refusal.Refusal.{Refusal}
use Rattle.std.proofs.Common.{◌≡◌, ℕ, List, Option, Some, None, Bool, true, false, refl, sym, subst, ◌∙◌}
use Rattle.std.specs.Prelude.{◌↔◌, ◌≢◌, Result, Ok, Err, IfSome, IsSomeAnd, IsTrue}
use Rattle.engine_clock.specs.Pairs.{BootsAndTime}
use Rattle.engine_clock.specs.Windows.{InAgentWindow}
use Rattle.usm_users.specs.User.{User}
use Rattle.usm_core.specs.Table.{holds, fails, gives, refuses, refusal_answer}
use Rattle.usm_core.specs.Refusals.{IsOfLayout}
use Rattle.usm_core.specs.Verified.{Verified, ReadsLayout, Verifies}
use Rattle.snmp_incoming.specs.Outcome.{Given, Taker, side_at, ClockRuns, IsFresh, pair_in, ReadsText, Weighs, Outcome}
use Rattle.snmp_incoming.specs.Answers.{IsOpening}
use Rattle.snmp_incoming.proofs.Rows.{same_refused}
use Rattle.snmp_agent.specs.RefusalCounters.{counter_of}

pub not_both : (b : Bool) (P : Type 0) → IsTrue b ↔ P → b ≡ false → P → ⊥
not_both b P h e p = let wrong : true ≡ false = sym (h.1 p) ∙ e in cc wrong

-- the window of the engine's own boots and time
pub inside : (own q : BootsAndTime) (v : Verified) → own ≡ q → (v.parts.header.auth ≡ true → InAgentWindow own (pair_in v)) → v.parts.header.auth ≡ true → InAgentWindow q (pair_in v)
inside own q v same fresh auth = subst (λ (p : BootsAndTime). InAgentWindow p (pair_in v)) same (fresh auth)

-- a refusal of the layout has no counter, and isn't OutOfMemory
pub uncounted : (r : Refusal) → IsOfLayout r → counter_of r ≡ None
uncounted NotMessage of = refl
uncounted BadVersion of = refl
uncounted NotSecurity of = refl
uncounted NotScoped of = refl
uncounted NotPdu of = absurd of
uncounted UnknownEngine of = absurd of
uncounted UnknownUser of = absurd of
uncounted UnsupportedLevel of = absurd of
uncounted WrongDigest of = absurd of
uncounted NotInWindow of = absurd of
uncounted DecryptionError of = absurd of
uncounted BadScoped of = absurd of
uncounted BadPdu of = absurd of
uncounted OutOfMemory of = absurd of
uncounted ClockExhausted of = absurd of
uncounted TooLarge of = absurd of
uncounted UnknownModel of = refl
uncounted InvalidFlags of = refl

pub no_memory : (r : Refusal) → IsOfLayout r → r ≡ OutOfMemory → ⊥
no_memory r of is = subst IsOfLayout is of

module _ (taker : Taker) (users : List User) (now : ℕ) (w : List ℕ) where
  -- the clock has run out
  pub stopped : (ClockRuns taker now → ⊥) → Outcome taker users now w (Err ClockExhausted)
  unfolding Outcome
  stopped never = fails never

  module _ (runs : ClockRuns taker now) where
    -- refused down to the digest
    pub told_refused : (r : Refusal) → r ≢ OutOfMemory → Verifies (side_at taker) users w (Err r) → IfSome (refusal_answer r) (Outcome taker users now w)
    unfolding Outcome
    told_refused r other rows = subst (λ (a : Option (Result Given Refusal)). IfSome a (Outcome taker users now w)) (sym (same_refused r other)) (holds runs (refuses r rows))

    -- refused for its layout
    pub unread_refused : (r : Refusal) → IsOfLayout r → ReadsLayout w (Err r) → IfSome (refusal_answer r) (Outcome taker users now w)
    unfolding Verifies
    unread_refused r of rows = told_refused r (no_memory r of) (refuses r rows)

    module _ (v : Verified) (rows : Verifies (side_at taker) users w (Ok v)) where
      pub late : ((v.parts.header.auth ≡ true → IsFresh taker now v) → ⊥) → Outcome taker users now w (Err NotInWindow)
      unfolding Outcome Weighs
      late outside = holds runs (gives v rows (fails outside))

      module _ (fresh : v.parts.header.auth ≡ true → IsFresh taker now v) where
        pub unopened : IsOpening users w v None → Outcome taker users now w (Err DecryptionError)
        unfolding Outcome Weighs
        unopened opening = holds runs (gives v rows (holds fresh (fails (λ salt. opening.1 (salt opening.0)))))

        pub reads : (text : List ℕ) (a : Option (Result Given Refusal)) → IsOpening users w v (Some text) → IsSomeAnd a (ReadsText v text) → IfSome a (Outcome taker users now w)
        unfolding Outcome Weighs
        reads text None opening read = absurd read
        reads text (Some a) opening read = holds runs (gives v rows (holds fresh (holds opening.0 (text, opening.1, read))))
