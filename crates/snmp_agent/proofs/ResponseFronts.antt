-- Fronts of bindings, of one message told in two ways.
use Rattle.snmp_message.specs.declared.refusal.Refusal.{Refusal}
use Rattle.std.proofs.Common.{◌≡◌, inl, inr, ℕ, ◌+◌, List, [], take, subst, Result, Ok, Err, Option, Some, None}
use Rattle.std.specs.Prelude.{IfSome, IfOk}
use Rattle.snmp_msg.specs.Variables.{Variable}
use Rattle.usm_users.specs.User.{User}
use Rattle.usm_core.specs.Sealed.{Sending, Seals, IsSealable}
use Rattle.snmp_outgoing.specs.Fronts.{FrontText, SealsFront, IsLongestFront, IsWithin, IsBeyond, room}

module _ (users : List User) (limit : ℕ) (vs : List Variable) (after of : List Variable → Sending) (is : (ws : List Variable) → after ws ≡ of ws) where
  same_longest : (count : ℕ) → IsLongestFront users (room limit) after vs count → IsLongestFront users (room limit) of vs count
  same_longest count h = record {
    most = h.most;
    fits = subst (IsWithin users (room limit)) (is (take count vs)) h.fits;
    longest = λ small. subst (IsBeyond users (room limit)) (is (take (count + 1) vs)) (h.longest small);
  }

  pub same_count : (o : Option ℕ) → IfSome o (IsLongestFront users (room limit) after vs) → IfSome o (IsLongestFront users (room limit) of vs)
  same_count None h = h
  same_count (Some count) h = same_longest count h

  same_answer : (answer : Result FrontText Refusal) → SealsFront users limit after vs answer → SealsFront users limit of vs answer
  same_answer (Ok f) h = (subst (λ (m : Sending). Seals users m (Ok f.text)) (is (take f.count vs)) h.0, h.1, same_longest f.count h.2)
  same_answer (Err n) (inl rows) = inl (subst (λ (m : Sending). Seals users m (Err n)) (is []) rows)
  same_answer (Err n) (inr h) = inr (h.0, subst (IsSealable users) (is []) h.1, subst (IsBeyond users (room limit)) (is []) h.2)

  pub same_message : (answer : Option (Result FrontText Refusal)) → IfSome answer (SealsFront users limit after vs) → IfSome answer (SealsFront users limit of vs)
  same_message None h = h
  same_message (Some answer) h = same_answer answer h

pub fits_by : {T E : Type 0} (r : Result T E) (P Q : T → Type 0) → ((x : T) → P x → Q x) → IfOk r P → IfOk r Q
fits_by (Ok x) P Q f h = f x h
fits_by (Err e) P Q f h = tt
