-- What happens for one request tells nothing of another.
use Rattle.std.specs.Prelude.{◌≡◌, ◌≢◌, ◌⊎◌, ◌∷◌, ◌++◌, ◌+◌, ◌<◌, ℕ, Bool, true, false, cond, nat_eq, List, [], All, Contains, Some, None, drop}
use Rattle.std.proofs.Common.{refl, sym, ap, ◌∙◌, inl, inr, arith}
use Rattle.std.proofs.lemmas.Bool.Decides.{eqb_tells}
use Rattle.std.proofs.lemmas.List.Elements.{All-contains, All-head, All-tail, Contains-append_cases, Contains-append_right, Contains-push_cases}
use Rattle.gateway_laws.specs.Requests.{RequestPdu}
use Rattle.snmp_gate.specs.Said.{said_nothing}
use Rattle.snmp_gate.specs.History.{asked_more, Happening, accepted, answered, asked, given_up, more_said, number_of, open_ask, sent, told_in, unanswered, waiting_in}
use Rattle.snmp_gate.specs.Lawful.{WasAsked}
use Rattle.snmp_gate.specs.Limits.{asks_since}
use Rattle.snmp_gate.specs.Messages.{question_in}
use Rattle.snmp_gate.specs.Question.{Question}
use Rattle.snmp_gate.specs.Waiting.{AllAsk}
use Rattle.snmp_gate.specs.declared.waiting_message.WaitingMessage.{WaitingMessage}

pub contains_cons : {X : Type 0} (x : X) (xs : List X) (y : X) → Contains (x ∷ xs) y → (x ≡ y) ⊎ Contains xs y
contains_cons x xs y there = elim (Contains-append_cases (x ∷ []) xs y there) [
  | inl first ↦ elim (Contains-push_cases [] x y first) [ inl none ↦ absurd (omega (arith, none.1)) | inr is ↦ inl is ]
  | inr rest ↦ inr rest
]

pub other_number : (a b : ℕ) → a ≢ b → nat_eq a b ≡ false
other_number a b other = elim (eqb_tells a b) [ inl (test, same) ↦ absurd (other same) | inr (test, not_same) ↦ test ]

pub same_number : (a : ℕ) → nat_eq a a ≡ true
same_number a = elim (eqb_tells a a) [ inl (test, same) ↦ test | inr (test, not_same) ↦ absurd (not_same refl) ]

-- a choice by whether two numbers are the same
chosen_not : {X : Type 0} (a b : ℕ) (x y : X) → a ≢ b → cond (nat_eq a b) x y ≡ y
chosen_not a b x y other = ap (λ (t : Bool). cond t x y) (other_number a b other)

pub chosen : {X : Type 0} (a : ℕ) (x y : X) → cond (nat_eq a a) x y ≡ x
chosen a x y = ap (λ (t : Bool). cond t x y) (same_number a)

pub told_other : (e : Happening) (before : List Happening) (n : ℕ) → n ≢ number_of e → told_in n (e ∷ before) ≡ told_in n before
told_other (accepted k now w m) before n other = refl
told_other (asked k d id what w) before n other = chosen_not n k (asked_more what (told_in n before)) (told_in n before) other
told_other (answered k d p w) before n other = chosen_not n k (more_said (open_ask n before) p (told_in n before)) (told_in n before) other
told_other (sent k m by w) before n other = refl
told_other (unanswered k m by why) before n other = refl
told_other (given_up k d) before n other = refl

pub open_other : (e : Happening) (before : List Happening) (n : ℕ) → n ≢ number_of e → open_ask n (e ∷ before) ≡ open_ask n before
open_other (accepted k now w m) before n other = refl
open_other (asked k d id what w) before n other = chosen_not n k (Some (record { device = d; id = id; request = what })) (open_ask n before) other
open_other (answered k d p w) before n other = chosen_not n k None (open_ask n before) other
open_other (sent k m by w) before n other = refl
open_other (unanswered k m by why) before n other = refl
open_other (given_up k d) before n other = chosen_not n k None (open_ask n before) other

pub wait_other : (e : Happening) (before : List Happening) (n : ℕ) → n ≢ number_of e → waiting_in n (e ∷ before) ≡ waiting_in n before
wait_other (accepted k now w m) before n other = chosen_not n k (waiting_in n before ++ m ∷ []) (waiting_in n before) other
wait_other (asked k d id what w) before n other = refl
wait_other (answered k d p w) before n other = refl
wait_other (sent k m by w) before n other = chosen_not n k (drop 1 (waiting_in n before)) (waiting_in n before) other
wait_other (unanswered k m by why) before n other = chosen_not n k (drop 1 (waiting_in n before)) (waiting_in n before) other
wait_other (given_up k d) before n other = refl

-- a device was asked before, unless it is asked now
pub was_before : (e : Happening) (before : List Happening) (n : ℕ) → ((d id : ℕ) (what : RequestPdu) (w : List ℕ) → e ≢ asked n d id what w) → WasAsked (e ∷ before) n → WasAsked before n
was_before e before n isnt was = elim (contains_cons e before (asked n was.device was.id was.request was.datagram) was.there) [
  | inl now ↦ absurd (isnt was.device was.id was.request was.datagram now)
  | inr there ↦ record { device = was.device; id = was.id; request = was.request; datagram = was.datagram; there = there }
]

pub was_later : (e : Happening) (before : List Happening) (n : ℕ) → WasAsked before n → WasAsked (e ∷ before) n
was_later e before n was = record { device = was.device; id = was.id; request = was.request; datagram = was.datagram; there = Contains-append_right (e ∷ []) before _ was.there }

pub was_other : (e : Happening) (before : List Happening) (n : ℕ) → n ≢ number_of e → WasAsked (e ∷ before) n → WasAsked before n
was_other e before n other was = was_before e before n (λ d id what w is. other (sym (ap number_of is))) was

-- each accepted message asks this, if one that is accepted now does
pub ask_later : (e : Happening) (before : List Happening) (n : ℕ) (q : Question) → ((now : ℕ) (w : List ℕ) (m : WaitingMessage) → e ≡ accepted n now w m → question_in m ≡ Some q) → AllAsk before n q → AllAsk (e ∷ before) n q
ask_later e before n q asks all now w m there = elim (contains_cons e before (accepted n now w m) there) [
  | inl is ↦ asks now w m is
  | inr rest ↦ all now w m rest
]

pub ask_other : (e : Happening) (before : List Happening) (n : ℕ) (q : Question) → n ≢ number_of e → AllAsk before n q → AllAsk (e ∷ before) n q
ask_other e before n q other all = ask_later e before n q (λ now w m is. absurd (other (sym (ap number_of is)))) all

-- a request of which nothing happened
pub none_happened : (before : List Happening) (next : ℕ) (e : Happening) → All (λ (x : Happening). number_of x < next) before → Contains before e → next ≢ number_of e
none_happened before next e past there same =
    let lt = All-contains (λ (x : Happening). number_of x < next) before e past there in omega (arith, lt, same)

pub none_waits : (before : List Happening) (next : ℕ) → All (λ (x : Happening). number_of x < next) before → waiting_in next before ≡ []
none_waits [] next past = refl
none_waits (e ∷ before) next past =
    let first : number_of e < next = All-head (λ (x : Happening). number_of x < next) e before past in
    wait_other e before next (λ same. omega (arith, first, same)) ∙ none_waits before next (All-tail (λ (x : Happening). number_of x < next) e before past)

pub since_other : (e : Happening) (before : List Happening) (n : ℕ) → n ≢ number_of e → asks_since n (e ∷ before) ≡ asks_since n before
since_other (accepted k now w m) before n other = refl
since_other (asked k d id what w) before n other = chosen_not n k (1 + asks_since n before) (asks_since n before) other
since_other (answered k d p w) before n other = chosen_not n k 0 (asks_since n before) other
since_other (sent k m by w) before n other = refl
since_other (unanswered k m by why) before n other = refl
since_other (given_up k d) before n other = refl

pub none_asked : (before : List Happening) (next : ℕ) → All (λ (x : Happening). number_of x < next) before → asks_since next before ≡ 0
none_asked [] next past = refl
none_asked (e ∷ before) next past =
    let first : number_of e < next = All-head (λ (x : Happening). number_of x < next) e before past in
    since_other e before next (λ same. omega (arith, first, same)) ∙ none_asked before next (All-tail (λ (x : Happening). number_of x < next) e before past)

-- of a request of which nothing happened nothing was told
pub none_told : (before : List Happening) (next : ℕ) → All (λ (x : Happening). number_of x < next) before → told_in next before ≡ said_nothing
none_told [] next past = refl
none_told (e ∷ before) next past =
    let first : number_of e < next = All-head (λ (x : Happening). number_of x < next) e before past in
    told_other e before next (λ same. omega (arith, first, same)) ∙ none_told before next (All-tail (λ (x : Happening). number_of x < next) e before past)
