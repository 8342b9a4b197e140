-- The first moment at which something is to be done for an Inform.
use Rattle.std.specs.Prelude.{◌≡◌, ◌++◌, ◌+◌, ◌<◌, ◌≤◌, ℕ, List, [], ◌∷◌, All, Option, Some, None, MatchOption, length, min, slice_index_or, take}
use Rattle.std.proofs.Common.{sym, ap, subst, ◌∙◌, inl, inr, arith}
use Rattle.std.proofs.lemmas.Bool.Decides.{leb_tells}
use Rattle.std.proofs.lemmas.List.{take_all, take_more}
use Rattle.std.proofs.lemmas.List.Elements.{All-nil, All-push, All-weaker, Contains-append_left, Contains-push}
use Rattle.snmp_forward.specs.WaitingInforms.{IsFirstDue}
use Rattle.snmp_forward.specs.declared.waiting_inform.WaitingInform.{WaitingInform}

-- one Inform more
due_push : (ws : List WaitingInform) (w : WaitingInform) (due : Option ℕ) (first : ℕ) → MatchOption due (ws ≡ []) (IsFirstDue ws)
    → MatchOption due (first ≡ w.exchange.due) (λ other. first ≡ min other w.exchange.due) → IsFirstDue (ws ++ w ∷ []) first
due_push ws w None first none is =
    let P : WaitingInform → Type 0 = λ x. first ≤ x.exchange.due in record {
      first = w;
      there = Contains-push ws w;
      due_is = is;
      least = All-push P ws w (subst (All P) (sym none) (All-nil P)) (omega (arith, is));
    }
due_push ws w (Some other) first known less =
    let P : WaitingInform → Type 0 = λ x. first ≤ x.exchange.due in
    let least = All-push P ws w (All-weaker (λ (x : WaitingInform). other ≤ x.exchange.due) P (λ x le. omega (arith, le, less)) ws known.least) (omega (arith, less)) in
    elim (leb_tells other w.exchange.due) [
      | inl (test, soon) ↦
          let same : first ≡ other = omega (arith, less, soon) in
          record { first = known.first; there = Contains-append_left ws (w ∷ []) known.first known.there; due_is = same ∙ known.due_is; least = least }
      | inr (test, late) ↦
          let same : first ≡ w.exchange.due = omega (arith, less, late) in
          record { first = w; there = Contains-push ws w; due_is = same; least = least }
    ]

pub due_more : (ws : List WaitingInform) (i : ℕ) (w : WaitingInform) (due : Option ℕ) (first : ℕ) → i < length ws → w ≡ slice_index_or ws i w → MatchOption due (take i ws ≡ []) (IsFirstDue (take i ws))
    → MatchOption due (first ≡ w.exchange.due) (λ other. first ≡ min other w.exchange.due) → IsFirstDue (take (i + 1) ws) first
due_more ws i w due first within read known less =
    let front = take i ws in
    subst (λ (xs : List WaitingInform). IsFirstDue xs first) (sym (take_more ws i w within ∙ ap (λ (x : WaitingInform). front ++ x ∷ []) (sym read)))
    (due_push front w due first known less)

pub due_all : (ws : List WaitingInform) (i : ℕ) (due : Option ℕ) → length ws ≤ i → MatchOption due (take i ws ≡ []) (IsFirstDue (take i ws)) → MatchOption due (ws ≡ []) (IsFirstDue ws)
due_all ws i due all known = subst (λ (xs : List WaitingInform). MatchOption due (xs ≡ []) (IsFirstDue xs)) (take_all i ws all) known
