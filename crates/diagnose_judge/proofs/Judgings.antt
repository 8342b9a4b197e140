-- What a datagram is judged to be, for the function that judges it.
use Rattle.std.proofs.Common.{◌≡◌, ◌≢◌, ℕ, ◌≤◌, List, Bool, true, false, Option, Some, None, sym, ap, subst, ◌∙◌, inl, inr}
use Rattle.std.specs.Prelude.{◌↔◌, Ok, Err, IsTrue, IsSomeAnd, option_map}
use Rattle.snmp_message.specs.Numbers.{in_table}
use Rattle.snmp_message.specs.declared.refusal.Refusal.{Refusal}
use Rattle.snmp_message.specs.declared.refusal.Refusal.TheVariants.{OutOfMemory, UnknownEngine}
use Rattle.engine_clock.specs.Pairs.{pair_max}
use Rattle.usm_users.specs.User.{User}
use Rattle.usm_core.specs.Table.{holds, fails, refused}
use Rattle.usm_core.specs.Verified.{Verified, Verifies, IsJudged as PassesRows, manager}
use Rattle.snmp_incoming.specs.Outcome.{Given, IsFresh, ReadsText, as_manager}
use Rattle.snmp_incoming.proofs.Rows.{is_in_table}
use Rattle.snmp_msg.specs.PduTypes.{is_confirmed}
use Rattle.snmp_manager.specs.Views.{Held}
use Rattle.snmp_manager.specs.Learning.{LearnsChecked}
use Rattle.snmp_manager.proofs.Takes.{IsExact}
use Rattle.diagnose_judge.specs.Clocks.{IsTold}
use Rattle.diagnose_judge.specs.Judging.{Judgement, unread, IsUnread, IsJudged, IsSentBy, IsSentTo, Opens, Reads}
use Rattle.diagnose_judge.specs.declared.judged.Verdict.{Verdict}
use Rattle.diagnose_judge.proofs.Verdicts.{told, unweighed_at, weighed_at, reads_message, reads_fault, reads_refused, takes_own}

one_state : (a b : Held) → a.users ≡ b.users → a.clocks ≡ b.clocks → a ≡ b
one_state a b users clocks = λ i. record { users = users i; clocks = clocks i }

-- ---- what the rows behind the digest refuse isn't the engine

text_rows : (v : Verified) (text : List ℕ) (r : Refusal) → ReadsText v text (Err r) → r ≡ UnknownEngine → ⊥
unfolding ReadsText
text_rows v text r (holds s (holds p is)) e = cc is
text_rows v text r _ e = cc e

opens_rows : (users : List User) (w : List ℕ) (v : Verified) (r : Refusal) → Opens users w v (Err r) → r ≡ UnknownEngine → ⊥
unfolding Opens
opens_rows users w v r (fails never) e = cc e
opens_rows users w v r (holds s x) e = text_rows v x.0 r x.2 e

-- ---- the judgements

module _ (old new : Held) (users : new.users ≡ old.users) (now : ℕ) (w : List ℕ) where
  -- refused down to the digest
  pub judges_unread : new.clocks ≡ old.clocks → (r : Refusal) → r ≢ OutOfMemory → Verifies manager old.users w (Err r) → (found : Option Judgement) → IsUnread w r found
      → IsSomeAnd found (λ j. IsJudged old now w j new)
  judges_unread clocks r other rows found (inl h) =
      let reads : Reads old.users w (Err UnknownEngine) = subst (λ (x : Refusal). Reads old.users w (Err x)) h.0 (reads_refused old.users w r rows) in
      subst (λ (o : Option Judgement). IsSomeAnd o (λ j. IsJudged old now w j new)) (sym h.2) (one_state new old users clocks, reads, h.1)
  judges_unread clocks r other rows found (inr h) =
      subst (λ (o : Option Judgement). IsSomeAnd o (λ j. IsJudged old now w j new)) (sym (h.1 ∙ ap (option_map unread) (is_in_table r other)))
      (one_state new old users clocks, reads_refused old.users w r rows, h.0)

  module _ (v : Verified) (rows : Verifies manager old.users w (Ok v)) where
    unopened : new.clocks ≡ old.clocks → (o : Option Refusal) → IsSomeAnd (refused o) (Opens old.users w v) → IsSomeAnd (option_map unread o) (λ j. IsJudged old now w j new)
    unopened clocks None opens = absurd opens
    unopened clocks (Some r) opens = (one_state new old users clocks, reads_fault old.users w v r rows opens, λ e d. opens_rows old.users w v r opens e)

    -- it passed the digest, and can't be opened or read
    pub judges_unopened : new.clocks ≡ old.clocks → (r : Refusal) → IsSomeAnd (refused (in_table r)) (Opens old.users w v) → IsSomeAnd (option_map unread (in_table r)) (λ j. IsJudged old now w j new)
    judges_unopened clocks r opens = unopened clocks (in_table r) opens

    module _ (g : Given) (opens : Opens old.users w v (Ok g)) where
      pub judges_sent_to : new.clocks ≡ old.clocks → PassesRows manager old.users w v → v.fields.time ≤ pair_max → is_confirmed g.tag ≡ true
          → (verdict : Verdict) → IsTold old.users old.clocks now v verdict → (new ≡ old) × IsSentTo old now w g verdict
      judges_sent_to clocks passes most class verdict is = (
        one_state new old users clocks,
        record {
          class = class;
          reads = reads_message old.users w v g rows opens;
          message = v;
          verified = rows;
          answers = told old.users old.clocks now w v rows passes most g opens verdict is;
          unweighed = unweighed_at old.users old.clocks now v verdict is;
          weighed = weighed_at old.users old.clocks now v verdict is;
        },
      )

      pub judges_sent_by : IsExact old.users w (Ok v) → LearnsChecked v now old.clocks new.clocks → is_confirmed g.tag ≡ false
          → (inside : Bool) → IsTrue inside ↔ (v.parts.header.auth ≡ true → IsFresh (as_manager new.clocks) now v) → IsSentBy old now w g inside new
      judges_sent_by exact learned class inside h = record {
        class = class;
        reads = reads_message old.users w v g rows opens;
        takes = takes_own old new now w users v exact rows learned g opens inside h;
      }
