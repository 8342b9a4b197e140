-- A datagram that the authoritative engine sent is judged in one way.
use Rattle.std.proofs.Common.{◌≡◌, ℕ, List, Bool, true, false, refl, sym, subst, ◌∙◌, inl, inr}
use Rattle.std.specs.Prelude.{Result, Ok}
use Rattle.snmp_message.specs.declared.refusal.Refusal.{Refusal}
use Rattle.snmp_message.specs.declared.refusal.Refusal.TheVariants.{DecryptionError}
use Rattle.snmp_message.specs.Scoped.{Contexts, ScopedFront}
use Rattle.snmp_msg.specs.Pdu.{PduParts, PduText}
use Rattle.engine_clock.specs.Pairs.{BootsAndTime}
use Rattle.engine_clock.specs.Marks.{Marks, mark_at}
use Rattle.usm_users.specs.User.{User}
use Rattle.usm_core.proofs.Determined.{needs_one, then_one}
use Rattle.usm_core.specs.Verified.{Side, Verified, Verifies, manager}
use Rattle.snmp_incoming.specs.Outcome.{Given, Outcome, as_manager}
use Rattle.snmp_incoming.proofs.Determined.{message_one, outcome_one}
use Rattle.snmp_manager.specs.Views.{Held}
use Rattle.snmp_manager.specs.Learning.{Learns, LearnsFrom}
use Rattle.diagnose_judge.specs.Judging.{sent_by, Opens, Reads, IsSentBy, window_answer}

module _ (same_marks : (a b : Marks) → ((engine : List ℕ) → mark_at a engine ≡ mark_at b engine) → a ≡ b) where
  learned_alike : (e f : List ℕ) (p q : BootsAndTime) (now : ℕ) (old new other : Marks) → f ≡ e → q ≡ p → Learns e p now old new → Learns f q now old other → new ≡ other
  learned_alike e f p q now old new other engine pair l m =
      let n : Learns e p now old other = subst (λ (x : List ℕ). Learns x p now old other) engine (subst (λ (y : BootsAndTime). Learns f y now old other) pair m) in
      same_marks new other (λ at. l.mark at ∙ sym (n.mark at))

  pub learns_one : (users : List User) (now : ℕ) (w : List ℕ) (old new other : Marks) → LearnsFrom users now w old new → LearnsFrom users now w old other → new ≡ other
  learns_one users now w old new other (inl (e, p, a, l)) (inl (f, q, b, m)) = let is = a.only f q b.is in learned_alike e f p q now old new other is.0 is.1 l m
  learns_one users now w old new other (inl (e, p, a, l)) (inr none) = absurd (none.0 e p a.is)
  learns_one users now w old new other (inr none) (inl (f, q, b, m)) = absurd (none.0 f q b.is)
  learns_one users now w old new other (inr none) (inr nor) = none.1 ∙ sym nor.1

  module _ (verified : (side : Side) (users : List User) (w : List ℕ) (a b : Result Verified Refusal) → Verifies side users w a → Verifies side users w b → a ≡ b)
      (front : (z : List ℕ) (s t : Contexts) → ScopedFront z s → ScopedFront z t → s ≡ t) (pdu : (z : List ℕ) (p q : PduParts) → PduText z p → PduText z q → p ≡ q) where
    opens_one : (users : List User) (w : List ℕ) (v : Verified) (a b : Result Given Refusal) → Opens users w v a → Opens users w v b → a ≡ b
    unfolding Opens
    opens_one users w v = needs_one _ DecryptionError _ (λ r s. message_one front pdu users w v)

    reads_one : (users : List User) (w : List ℕ) (a b : Result Given Refusal) → Reads users w a → Reads users w b → a ≡ b
    unfolding Reads
    reads_one users w = then_one _ (Opens users w) (verified manager users w) (opens_one users w)

    one_window : (g h : Given) (a b : Bool) → window_answer g a ≡ window_answer h b → a ≡ b
    one_window g h true true e = refl
    one_window g h true false e = absurd (cc e)
    one_window g h false true e = absurd (cc e)
    one_window g h false false e = refl

    one_state : (a b : Held) → a.users ≡ b.users → a.clocks ≡ b.clocks → a ≡ b
    one_state a b users clocks = λ i. record { users = users i; clocks = clocks i }

    pub step_one : (old new other : Held) (now : ℕ) (w : List ℕ) (g h : Given) (a b : Bool) → IsSentBy old now w g a new → IsSentBy old now w h b other → (new ≡ other) × (sent_by g a ≡ sent_by h b)
    step_one old new other now w g h a b x y =
        let read : ◌≡◌ {A = Result Given Refusal} (Ok g) (Ok h) = reads_one old.users w (Ok g) (Ok h) x.reads y.reads in
        let given : g ≡ h = cc read in
        let state : new ≡ other = one_state new other (x.takes.0 ∙ sym y.takes.0) (learns_one old.users now w old.clocks new.clocks other.clocks x.takes.1 y.takes.1) in
        let there : Outcome (as_manager new.clocks) old.users now w (window_answer h b) = subst (λ (s : Held). Outcome (as_manager s.clocks) old.users now w (window_answer h b)) (sym state) y.takes.2 in
        let window : a ≡ b = one_window g h a b (outcome_one front pdu verified (as_manager new.clocks) old.users now w (window_answer g a) (window_answer h b) x.takes.2 there) in
        (state, λ i. sent_by (given i) (window i))
