-- The first moment at which something is due.
use Rattle.std.specs.Prelude.{◌≡◌, ◌++◌, ◌+◌, ◌<◌, ◌≤◌, ℕ, [], ◌∷◌, All, Option, Some, None, MatchOption, length, min, slice_index_or, take}
use Rattle.std.proofs.Common.{sym, ap, subst, ◌∙◌, inl, inr, arith}
use Rattle.std.proofs.lemmas.Bool.Decides.{leb_tells}
use Rattle.std.proofs.lemmas.List.{take_all, take_more}
use Rattle.std.proofs.lemmas.List.Elements.{All-nil, All-push, All-weaker, Contains-append_left, Contains-push}
use Rattle.snmp_gate.specs.Due.{IsFirstDue, due_in}
use Rattle.snmp_gate.specs.Sending.{Requests}
use Rattle.snmp_gate.specs.declared.limits.GateLimits.{GateLimits}
use Rattle.snmp_gate.specs.declared.requests.WaitingRequest.{WaitingRequest}
use Rattle.snmp_gate.specs.declared.waiting_message.WaitingMessage.{WaitingMessage}
use Rattle.snmp_gate.specs.declared.work.Work.{Work}

-- one request more
due_push : (limits : GateLimits) (rs : Requests) (r : WaitingRequest WaitingMessage Work) (due : Option ℕ) (at first : ℕ) → MatchOption due (rs ≡ []) (IsFirstDue limits rs) → at ≡ due_in limits r.work
    → MatchOption due (first ≡ at) (λ other. first ≡ min other at) → IsFirstDue limits (rs ++ r ∷ []) first
due_push limits rs r None at first none is only =
    let P : WaitingRequest WaitingMessage Work → Type 0 = λ x. first ≤ due_in limits x.work in record {
      least = All-push P rs r (subst (All P) (sym none) (All-nil P)) (omega (arith, only, is));
      request = r;
      there = Contains-push rs r;
      at_is = only ∙ is;
    }
due_push limits rs r (Some other) at first known is less =
    let P : WaitingRequest WaitingMessage Work → Type 0 = λ x. first ≤ due_in limits x.work in
    let least = All-push P rs r (All-weaker (λ (x : WaitingRequest WaitingMessage Work). other ≤ due_in limits x.work) P (λ x le. omega (arith, le, less)) rs known.least) (omega (arith, less, is)) in
    elim (leb_tells other at) [
      | inl (test, soon) ↦
          let same : first ≡ other = omega (arith, less, soon) in
          record { least = least; request = known.request; there = Contains-append_left rs (r ∷ []) known.request known.there; at_is = same ∙ known.at_is }
      | inr (test, late) ↦
          let same : first ≡ at = omega (arith, less, late) in
          record { least = least; request = r; there = Contains-push rs r; at_is = same ∙ is }
    ]

pub due_more : (limits : GateLimits) (rs : Requests) (i : ℕ) (r : WaitingRequest WaitingMessage Work) (due : Option ℕ) (at first : ℕ) → i < length rs → r ≡ slice_index_or rs i r → MatchOption due (take i rs ≡ []) (IsFirstDue limits (take i rs))
    → at ≡ due_in limits r.work → MatchOption due (first ≡ at) (λ other. first ≡ min other at) → IsFirstDue limits (take (i + 1) rs) first
due_more limits rs i r due at first within read known is less =
    let front = take i rs in
    subst (λ (xs : Requests). IsFirstDue limits xs first) (sym (take_more rs i r within ∙ ap (λ (x : WaitingRequest WaitingMessage Work). front ++ x ∷ []) (sym read)))
    (due_push limits front r due at first known is less)

pub due_all : (limits : GateLimits) (rs : Requests) (i : ℕ) (due : Option ℕ) → length rs ≤ i → MatchOption due (take i rs ≡ []) (IsFirstDue limits (take i rs)) → MatchOption due (rs ≡ []) (IsFirstDue limits rs)
due_all limits rs i due all known = subst (λ (xs : Requests). MatchOption due (xs ≡ []) (IsFirstDue limits xs)) (take_all i rs all) known
