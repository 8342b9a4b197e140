-- Each datagram that steps take is in one exchange, and exchanges are finished in order.
use Rattle.std.proofs.Common.{◌≡◌, ◌+◌, ◌∙◌, ◌++◌, ℕ, List, [], ◌∷◌, Option, Some, None, true, ap, sym, refl, slice_set, map, nat_eq, cond, arith}
use Rattle.std.specs.List.{sum_by}
use Rattle.std.proofs.lemmas.List.{append-nil, append_assoc, map-append, get_or-set_other, length-set}
use Rattle.diagnose_exchanges.proofs.Steps.{apart}
use Rattle.std.proofs.lemmas.List.Sums.{sum_by-cons, sum_by_push, sum_by-set}
use Rattle.std.proofs.Math.Seq.{map-set_same}
use Rattle.diagnose_exchanges.specs.declared.exchange.Ending.{Ending}
use Rattle.diagnose_exchanges.specs.declared.exchange.Ending.TheVariants.{Waits, Alone, Answered, SentAgain, NoAnswer, NotFollowed}
use Rattle.diagnose_exchanges.specs.declared.exchange.Exchange.{Exchange}
use Rattle.diagnose_exchanges.specs.Exchanges.{Ends, HandsOver, HasRun, GetsClaim, Step, begins, answers, claims, ends, hands_over, finishes, answers_in, begun, begun_by, counted, counted_by, counting, datagrams_of, ended, claimed, claims_in, is_waiting, place_after, resent, taken_by, times, times_in}
use Rattle.diagnose_exchanges.specs.declared.exchange.Claim.{Claim}

module _ {K A : Type 0} where
  -- nothing answers it yet
  unanswered : (ending : Ending K A) → is_waiting ending ≡ true → answers_in ending ≡ []
  unanswered (Waits asked) h = refl
  unanswered Alone h = refl
  unanswered (Answered by answer) h = cc h
  unanswered (SentAgain number) h = refl
  unanswered NoAnswer h = refl
  unanswered NotFollowed h = refl

module _ {A : Type 0} where
  -- the datagrams of an exchange are its first, the one that may be forged, and the one that ends it
  times_split : (n number : ℕ) (claim : Option (Claim A)) (ns : List ℕ) → times n (number ∷ (claims_in claim ++ ns)) ≡ times n (number ∷ []) + (times n (claims_in claim) + times n ns)
  times_split n number None ns =
      let whole = sum_by-cons (λ m. cond (nat_eq n m) 1 0) number ns in
      let one = sum_by-cons (λ m. cond (nat_eq n m) 1 0) number [] in
      omega (arith, whole, one)
  times_split n number (Some claim) ns =
      let whole = sum_by-cons (λ m. cond (nat_eq n m) 1 0) number (claim.by ∷ ns) in
      let one = sum_by-cons (λ m. cond (nat_eq n m) 1 0) number [] in
      let rest = sum_by-cons (λ m. cond (nat_eq n m) 1 0) claim.by ns in
      let other = sum_by-cons (λ m. cond (nat_eq n m) 1 0) claim.by [] in
      omega (arith, whole, one, rest, other)

module _ {K Q A : Type 0} where
  -- an ending adds the datagram that makes it
  times_ended : (n gone : ℕ) (old new : List (Exchange K Q A)) (place : ℕ) (ending : Ending K A) → Ends gone old new place ending → times_in n new ≡ times_in n old + times n (answers_in ending)
  times_ended n gone old new place ending e =
      let x = e.waited.exchange in
      let f = λ (y : Exchange K Q A). times n (datagrams_of y) in
      let is = ap (times_in n) e.new_is in
      let set = sum_by-set f old e.index (ended ending x) x e.waited.within in
      let read = ap f (sym e.waited.exchange_is) in
      let none = ap (times n) (unanswered x.ending e.waited.waiting) in
      let before = times_split n x.number x.claim (answers_in x.ending) in
      let after = times_split n x.number x.claim (answers_in ending) in
      omega (arith, is, set, read, none, before, after)

  -- a datagram that may be forged is added
  times_claimed : (n gone : ℕ) (old new : List (Exchange K Q A)) (place by : ℕ) (answer : A) → GetsClaim gone old new place by answer → times_in n new ≡ times_in n old + times n (by ∷ [])
  times_claimed n gone old new place by answer e =
      let x = e.waited.exchange in
      let f = λ (y : Exchange K Q A). times n (datagrams_of y) in
      let is = ap (times_in n) e.new_is in
      let set = sum_by-set f old e.index (claimed by answer x) x e.waited.within in
      let read = ap f (sym e.waited.exchange_is) in
      let none = ap (λ claim. times n (claims_in claim)) e.first in
      let before = times_split n x.number x.claim (answers_in x.ending) in
      let after = times_split n x.number (Some (record { by = by; answer = answer })) (answers_in x.ending) in
      omega (arith, is, set, read, none, before, after)

  -- an exchange of which something is said stays where it is, and counts as before
  numbers_claimed : (gone : ℕ) (old new : List (Exchange K Q A)) (place by : ℕ) (answer : A) → GetsClaim gone old new place by answer → map (λ e. e.number) new ≡ map (λ e. e.number) old
  numbers_claimed gone old new place by answer e =
      ap (map (λ x. x.number)) e.new_is ∙ map-set_same (λ x. x.number) old e.index (claimed by answer e.waited.exchange) e.waited.exchange (ap (λ x. x.number) e.waited.exchange_is)

  counted_claimed : (gone : ℕ) (old new : List (Exchange K Q A)) (place by : ℕ) (answer : A) → GetsClaim gone old new place by answer → counted new ≡ counted old
  counted_claimed gone old new place by answer e =
      let f = λ (y : Exchange K Q A). cond y.counts 1 0 in
      let x = e.waited.exchange in
      let is = ap counted e.new_is in
      let set = sum_by-set f old e.index (claimed by answer x) x e.waited.within in
      let read = ap f (sym e.waited.exchange_is) in
      omega (arith, is, set, read)

  -- an exchange that ends stays where it is
  numbers_ended : (gone : ℕ) (old new : List (Exchange K Q A)) (place : ℕ) (ending : Ending K A) → Ends gone old new place ending → map (λ e. e.number) new ≡ map (λ e. e.number) old
  numbers_ended gone old new place ending e =
      ap (map (λ x. x.number)) e.new_is ∙ map-set_same (λ x. x.number) old e.index (ended ending e.waited.exchange) e.waited.exchange (ap (λ x. x.number) e.waited.exchange_is)

  -- what f makes of the exchanges, where one hands over to another
  sum_handed : (f : Exchange K Q A → ℕ) (gone : ℕ) (old new : List (Exchange K Q A)) (first place : ℕ) (h : HandsOver gone old new first place) → sum_by f new + (f h.waited.exchange + f h.again.exchange) ≡ sum_by f old + (f (resent h.again.exchange.number h.waited.exchange) + f (counting h.waited.exchange.counts h.again.exchange))
  sum_handed f gone old new first place h =
      let x = h.waited.exchange in
      let y = h.again.exchange in
      let mid = slice_set old h.index (resent y.number x) in
      let differ = apart gone old first place h.index h.other h.waited h.again in
      let is = ap (sum_by f) h.new_is in
      let one = sum_by-set f old h.index (resent y.number x) x h.waited.within in
      let two = sum_by-set f mid h.other (counting x.counts y) y (rw (length-set old h.index (resent y.number x)) h.again.within) in
      let read_one = ap f (sym h.waited.exchange_is) in
      let read_two = ap f (get_or-set_other old h.index h.other (resent y.number x) y differ ∙ sym h.again.exchange_is) in
      omega (arith, is, one, two, read_one, read_two)

  -- no datagram is in more exchanges than before
  times_handed : (n gone : ℕ) (old new : List (Exchange K Q A)) (first place : ℕ) → HandsOver gone old new first place → times_in n new ≡ times_in n old
  times_handed n gone old new first place h =
      let none = ap (λ ns. times n (h.waited.exchange.number ∷ (claims_in h.waited.exchange.claim ++ ns))) (unanswered h.waited.exchange.ending h.waited.waiting) in
      let sum = sum_handed (λ y. times n (datagrams_of y)) gone old new first place h in
      omega (arith, none, sum)

  -- as many count as before
  counted_handed : (gone : ℕ) (old new : List (Exchange K Q A)) (first place : ℕ) → HandsOver gone old new first place → counted new ≡ counted old
  counted_handed gone old new first place h =
      let none = ap {B = ℕ} (λ b. cond b 1 0) h.again.uncounted in
      let sum = sum_handed (λ y. cond y.counts 1 0) gone old new first place h in
      omega (arith, none, sum)

  -- one that ends counts as before
  counted_ended : (gone : ℕ) (old new : List (Exchange K Q A)) (place : ℕ) (ending : Ending K A) → Ends gone old new place ending → counted new ≡ counted old
  counted_ended gone old new place ending e =
      let f = λ (y : Exchange K Q A). cond y.counts 1 0 in
      let x = e.waited.exchange in
      let is = ap counted e.new_is in
      let set = sum_by-set f old e.index (ended ending x) x e.waited.within in
      let read = ap f (sym e.waited.exchange_is) in
      omega (arith, is, set, read)

  -- exchanges stay where they are
  numbers_handed : (gone : ℕ) (old new : List (Exchange K Q A)) (first place : ℕ) → HandsOver gone old new first place → map (λ e. e.number) new ≡ map (λ e. e.number) old
  numbers_handed gone old new first place h =
      let x = h.waited.exchange in
      let y = h.again.exchange in
      let mid = slice_set old h.index (resent y.number x) in
      let differ = apart gone old first place h.index h.other h.waited h.again in
      ap (map (λ e. e.number)) h.new_is
      ∙ map-set_same (λ e. e.number) mid h.other (counting x.counts y) y (ap (λ e. e.number) (sym (get_or-set_other old h.index h.other (resent y.number x) y differ ∙ sym h.again.exchange_is)))
      ∙ map-set_same (λ e. e.number) old h.index (resent y.number x) x (ap (λ e. e.number) h.waited.exchange_is)

  pub each_once : (n gone : ℕ) (old : List (Exchange K Q A)) (steps : List (Step K Q A)) (finished new : List (Exchange K Q A)) → HasRun gone old steps finished new → times_in n finished + times_in n new ≡ times_in n old + times n (taken_by steps)
  each_once n gone old [] finished new h =
      let none = ap (times_in n) h.0 in
      let same = ap (times_in n) h.1 in
      omega (arith, none, same)
  each_once n gone old (begins number first counts ending ∷ steps) finished new h =
      let rest = each_once n gone (old ++ begun number first counts ending ∷ []) steps finished new h.1 in
      let push = sum_by_push (λ (y : Exchange K Q A). times n (datagrams_of y)) old (begun number first counts ending) in
      let none = ap (λ ns. times n (number ∷ ns)) h.0 in
      let one = sum_by-cons (λ m. cond (nat_eq n m) 1 0) number [] in
      let more = sum_by-cons (λ m. cond (nat_eq n m) 1 0) number (taken_by steps) in
      omega (arith, rest, push, none, one, more)
  each_once n gone old (answers place by asked answer ∷ steps) finished new h =
      let rest = each_once n gone h.0 steps finished new h.3 in
      let step = times_ended n gone old h.0 place (Answered by answer) h.1 in
      let one = sum_by-cons (λ m. cond (nat_eq n m) 1 0) by [] in
      let more = sum_by-cons (λ m. cond (nat_eq n m) 1 0) by (taken_by steps) in
      omega (arith, rest, step, one, more)
  each_once n gone old (claims place by asked answer ∷ steps) finished new h =
      let rest = each_once n gone h.0 steps finished new h.3 in
      let step = times_claimed n gone old h.0 place by answer h.1 in
      let one = sum_by-cons (λ m. cond (nat_eq n m) 1 0) by [] in
      let more = sum_by-cons (λ m. cond (nat_eq n m) 1 0) by (taken_by steps) in
      omega (arith, rest, step, one, more)
  each_once n gone old (ends place ending ∷ steps) finished new h =
      let rest = each_once n gone h.0 steps finished new h.3 in
      let step = times_ended n gone old h.0 place ending h.2 in
      let none = ap (times n) h.1.0 in
      omega (arith, rest, step, none)
  each_once n gone old (hands_over first place ∷ steps) finished new h =
      let rest = each_once n gone h.0 steps finished new h.2 in
      let step = times_handed n gone old h.0 first place h.1 in
      omega (arith, rest, step)
  each_once n gone old (finishes ∷ steps) finished new h =
      let rest = each_once n (place_after gone 1) h.1 steps h.2 new h.6 in
      let f = λ (y : Exchange K Q A). times n (datagrams_of y) in
      let before = ap (times_in n) h.3 in
      let out = ap (times_in n) h.4 in
      let one = sum_by-cons f h.0 h.1 in
      let more = sum_by-cons f h.0 h.2 in
      omega (arith, rest, before, out, one, more)

  pub in_order : (gone : ℕ) (old : List (Exchange K Q A)) (steps : List (Step K Q A)) (finished new : List (Exchange K Q A)) → HasRun gone old steps finished new → map (λ e. e.number) (finished ++ new) ≡ map (λ e. e.number) old ++ begun_by steps
  in_order gone old [] finished new h =
      ap (λ xs. map (λ e. e.number) (xs ++ new)) h.0 ∙ ap (map (λ e. e.number)) h.1 ∙ sym (append-nil _)
  in_order gone old (begins number first counts ending ∷ steps) finished new h =
      in_order gone (old ++ begun number first counts ending ∷ []) steps finished new h.1
      ∙ ap (λ ns. ns ++ begun_by steps) (map-append (λ (e : Exchange K Q A). e.number) old (begun number first counts ending ∷ []))
      ∙ append_assoc (map (λ e. e.number) old) (number ∷ []) (begun_by steps)
  in_order gone old (answers place by asked answer ∷ steps) finished new h =
      in_order gone h.0 steps finished new h.3 ∙ ap (λ ns. ns ++ begun_by steps) (numbers_ended gone old h.0 place (Answered by answer) h.1)
  in_order gone old (claims place by asked answer ∷ steps) finished new h =
      in_order gone h.0 steps finished new h.3 ∙ ap (λ ns. ns ++ begun_by steps) (numbers_claimed gone old h.0 place by answer h.1)
  in_order gone old (ends place ending ∷ steps) finished new h =
      in_order gone h.0 steps finished new h.3 ∙ ap (λ ns. ns ++ begun_by steps) (numbers_ended gone old h.0 place ending h.2)
  in_order gone old (hands_over first place ∷ steps) finished new h =
      in_order gone h.0 steps finished new h.2 ∙ ap (λ ns. ns ++ begun_by steps) (numbers_handed gone old h.0 first place h.1)
  in_order gone old (finishes ∷ steps) finished new h =
      ap (λ xs. map (λ e. e.number) (xs ++ new)) h.4
      ∙ ap (λ ns. h.0.number ∷ ns) (in_order (place_after gone 1) h.1 steps h.2 new h.6)
      ∙ ap (λ xs. map (λ e. e.number) xs ++ begun_by steps) (sym h.3)

  pub counted_once : (gone : ℕ) (old : List (Exchange K Q A)) (steps : List (Step K Q A)) (finished new : List (Exchange K Q A)) → HasRun gone old steps finished new → counted finished + counted new ≡ counted old + counted_by steps
  counted_once gone old [] finished new h =
      let none = ap counted h.0 in
      let same = ap counted h.1 in
      omega (arith, none, same)
  counted_once gone old (begins number first counts ending ∷ steps) finished new h =
      let rest = counted_once gone (old ++ begun number first counts ending ∷ []) steps finished new h.1 in
      let push = sum_by_push (λ (y : Exchange K Q A). cond y.counts 1 0) old (begun number first counts ending) in
      omega (arith, rest, push)
  counted_once gone old (answers place by asked answer ∷ steps) finished new h =
      let rest = counted_once gone h.0 steps finished new h.3 in
      let step = counted_ended gone old h.0 place (Answered by answer) h.1 in
      omega (arith, rest, step)
  counted_once gone old (claims place by asked answer ∷ steps) finished new h =
      let rest = counted_once gone h.0 steps finished new h.3 in
      let step = counted_claimed gone old h.0 place by answer h.1 in
      omega (arith, rest, step)
  counted_once gone old (ends place ending ∷ steps) finished new h =
      let rest = counted_once gone h.0 steps finished new h.3 in
      let step = counted_ended gone old h.0 place ending h.2 in
      omega (arith, rest, step)
  counted_once gone old (hands_over first place ∷ steps) finished new h =
      let rest = counted_once gone h.0 steps finished new h.2 in
      let step = counted_handed gone old h.0 first place h.1 in
      omega (arith, rest, step)
  counted_once gone old (finishes ∷ steps) finished new h =
      let rest = counted_once (place_after gone 1) h.1 steps h.2 new h.6 in
      let f = λ (y : Exchange K Q A). cond y.counts 1 0 in
      let before = ap counted h.3 in
      let out = ap counted h.4 in
      let one = sum_by-cons f h.0 h.1 in
      let more = sum_by-cons f h.0 h.2 in
      omega (arith, rest, before, out, one, more)
