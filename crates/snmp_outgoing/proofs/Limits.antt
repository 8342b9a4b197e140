-- Texts that are cut at a limit, once it is known whether they are within it.
use Rattle.snmp_message.specs.declared.refusal.Refusal.{Refusal}
use Rattle.snmp_message.specs.declared.refusal.Refusal.TheVariants.{TooLarge}
use Rattle.snmp_message.specs.declared.refused_at.RefusedAt.{RefusedAt}
use Rattle.std.proofs.Common.{◌≡◌, ◌<◌, ◌≤◌, ◌⊎◌, inl, inr, ℕ, Bool, true, false, List, length, refl, subst, arith}
use Rattle.std.proofs.lemmas.Bool.Decides.{leb_tells}
use Rattle.std.specs.Prelude.{Result, Ok, Err, Option, Some, None, IfOk, IfSome, IsErrAnd, leb, if◌then◌else◌}
use Rattle.std.specs.Global.{Vec}
use Rattle.usm_users.specs.User.{User}
use Rattle.usm_users.specs.Users.{user_named}
use Rattle.usm_core.specs.Table.{holds, refused}
use Rattle.usm_core.specs.Answers.{seal_answer}
use Rattle.usm_core.specs.Sealed.{Sending, SealedText, Seals, Writes, IsSealable}
use Rattle.snmp_message.specs.Numbers.{in_table}
use Rattle.snmp_outgoing.specs.UpTo.{UpTo, fits, longer, refuses}
use Rattle.snmp_outgoing.specs.Fronts.{IsWithin, IsBeyond, room}
use Rattle.snmp_outgoing.proofs.Fronting.{sealed_text}
use Rattle.snmp_outgoing.proofs.Refusing.{known}

-- a refusal of the table is one of the table that is cut
some_refused : (limit : ℕ) (P : Result (List ℕ) Refusal → Type 0) (o : Option Refusal) → IfSome (refused o) P → IfSome (refused o) (UpTo limit P)
some_refused limit P None h = h
some_refused limit P (Some n) h = refuses n h

-- a refusal that `?` passed on
pub told_cut : (limit : ℕ) (P : Result (List ℕ) Refusal → Type 0) (r : Result (Vec ℕ) RefusedAt) (fault : RefusedAt) → IsErrAnd r (λ e. e ≡ fault) → IfSome (seal_answer r) P → IfSome (seal_answer r) (UpTo limit P)
told_cut limit P (Ok text) fault e h = absurd e
told_cut limit P (Err other) fault e h = some_refused limit P (in_table other.refusal) h

-- what the table says of a text
pub ok_rows : (r : Result (Vec ℕ) RefusedAt) (P : Result (List ℕ) Refusal → Type 0) → IfSome (seal_answer r) P → IfOk r (λ text. P (Ok text.items))
ok_rows (Ok text) P h = h
ok_rows (Err e) P h = tt

-- what is longer than a datagram has room for, and fits one, is longer than the limit
beyond_limit : (limit n : ℕ) → room limit < n → n ≤ 65507 → limit < n
beyond_limit limit n h most = by_room (leb_tells limit 65507)
  where
    by_room : ((leb limit 65507 ≡ true) × (limit ≤ 65507)) ⊎ ((leb limit 65507 ≡ false) × (65507 < limit)) → limit < n
    by_room (inl p) = subst (λ (b : Bool). (if b then limit else 65507) < n) p.0 h
    by_room (inr p) = let far : 65507 < n = subst (λ (b : Bool). (if b then limit else 65507) < n) p.0 h in absurd (omega (arith, far, most))

module _ (users : List User) (m : Sending) (limit : ℕ) where
  -- what is within the limit is answered as it is
  pub cut_within : (o : Option (Result (List ℕ) Refusal)) → IsWithin users (room limit) m → room limit ≤ limit → IfSome o (Seals users m) → IfSome o (UpTo limit (Seals users m))
  cut_within None within least h = h
  cut_within (Some (Ok text)) within least h = let short = within text (sealed_text users m text h) in fits text h (omega (arith, short, least))
  cut_within (Some (Err r)) within least h = refuses r h

  written : IsSealable users m → (answer : Result (List ℕ) Refusal) → Writes users m answer → Seals users m answer
  unfolding Seals
  written ok answer writes = holds ok.flags (holds (λ auth. known (user_named users m.user) _ (ok.user auth)) (holds ok.user writes))

  by_size : ((a b : List ℕ) → SealedText users m a → SealedText users m b → a ≡ b) → (text : List ℕ) → SealedText users m text → IsSealable users m → room limit < length text
      → ((leb (length text) 65507 ≡ true) × (length text ≤ 65507)) ⊎ ((leb (length text) 65507 ≡ false) × (65507 < length text))
      → UpTo limit (Seals users m) (Err TooLarge)
  by_size same text sealed ok long (inl short) = longer text (written ok (Ok text) (sealed, short.1)) (beyond_limit limit (length text) long short.1)
  by_size same text sealed ok long (inr far) =
      refuses TooLarge (written ok (Err TooLarge) (refl, λ other s. subst (λ (t : List ℕ). 65507 < length t) (same text other sealed s) far.1))

  -- what is beyond the limit is answered as TooLarge
  pub cut_beyond : ((a b : List ℕ) → SealedText users m a → SealedText users m b → a ≡ b) → (text : List ℕ) → SealedText users m text → IsSealable users m → IsBeyond users (room limit) m
      → UpTo limit (Seals users m) (Err TooLarge)
  cut_beyond same text sealed ok beyond = by_size same text sealed ok (beyond text sealed) (leb_tells (length text) 65507)
