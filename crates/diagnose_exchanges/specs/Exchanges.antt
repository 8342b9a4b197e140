-- Exchanges in the order of their first datagrams, and the steps by which a capture makes them.
--
-- `begun`: an exchange as a datagram begins it. `IsWaiting`, `WaitsAt`: at a place an exchange waits. `Ends`: it
-- ends, by an answer or without one. `GetsClaim`: a datagram that may be forged says how it ended, and it waits on.
-- `HandsOver`: a request that was sent again counts instead of the first.
-- `Step`, `HasRun`: the steps, and runs of them. `Takes`, `TakesBy`: a run that takes exactly these datagrams, or that
-- begins with this step. `IsMadeBy`: what an exchange holds is what the steps gave to it.
use Rattle.std.specs.Prelude.{◌≡◌, ◌≢◌, ◌⊎◌, Option, Some, None, ◌+◌, ◌++◌, ℕ, List, [], ◌∷◌, Bool, true, false, length}
use Rattle.std.specs.Prelude.{◌^◌, ◌-◌, ◌<◌, slice_index_or, slice_set, cond, min, nat_eq}
use Rattle.std.specs.List.{Contains, count_by, sum_by}
use Rattle.std.specs.HashMap.{HashMap, IsUnchanged, Updates, get}
use Rattle.diagnose_exchanges.specs.declared.exchange.Ending.{Ending}
use Rattle.diagnose_exchanges.specs.declared.exchange.Ending.TheVariants.{Waits, Alone, Answered, SentAgain}
use Rattle.diagnose_exchanges.specs.declared.exchange.Ending.TheVariants.{NoAnswer, NotFollowed}
use Rattle.diagnose_exchanges.specs.declared.exchange.Exchange.{Exchange}
use Rattle.diagnose_exchanges.specs.declared.exchange.Claim.{Claim}

-- how many exchanges are held at once
abbrev pub exchanges_limit : ℕ
exchanges_limit = 65536

module _ {K A : Type 0} where
  -- an ending that is none yet
  abbrev pub is_waiting : Ending K A → Bool
  is_waiting (Waits asked) = true
  is_waiting Alone = false
  is_waiting (Answered by answer) = false
  is_waiting (SentAgain number) = false
  is_waiting NoAnswer = false
  is_waiting NotFollowed = false

module _ {K A : Type 0} where
  -- an ending that is none yet, and for which an answer to this is wanted
  abbrev pub asks : (K → K → Bool) → K → Ending K A → Bool
  asks eq asked (Waits held) = eq held asked
  asks eq asked Alone = false
  asks eq asked (Answered by answer) = false
  asks eq asked (SentAgain number) = false
  asks eq asked NoAnswer = false
  asks eq asked NotFollowed = false

module _ {K Q A : Type 0} where
  -- its answer isn't there yet
  abbrev pub waits : Exchange K Q A → Bool
  waits e = is_waiting e.ending

  -- the exchange with another ending
  abbrev pub ended : Ending K A → Exchange K Q A → Exchange K Q A
  ended ending e = record {
    number = e.number;
    first = e.first;
    counts = e.counts;
    claim = e.claim;
    ending = ending;
  }

  -- the exchange, of which the datagram with this number says this
  abbrev pub claimed : ℕ → A → Exchange K Q A → Exchange K Q A
  claimed by answer e = record {
    number = e.number;
    first = e.first;
    counts = e.counts;
    claim = Some (record { by = by; answer = answer });
    ending = e.ending;
  }

  -- an exchange as it begins
  abbrev pub begun : ℕ → Q → Bool → Ending K A → Exchange K Q A
  begun number first counts ending = record {
    number = number;
    first = first;
    counts = counts;
    claim = None;
    ending = ending;
  }

  -- the exchange, whose request was sent again with the datagram of this number, and which doesn't count any more
  abbrev pub resent : ℕ → Exchange K Q A → Exchange K Q A
  resent number e = record {
    number = e.number;
    first = e.first;
    counts = false;
    claim = e.claim;
    ending = SentAgain number;
  }

  -- the exchange, which counts or doesn't
  abbrev pub counting : Bool → Exchange K Q A → Exchange K Q A
  counting counts e = record {
    number = e.number;
    first = e.first;
    counts = counts;
    claim = e.claim;
    ending = e.ending;
  }

  -- at this index of the list, and at this place behind so many that are gone, an exchange waits
  pub record IsWaiting (gone : ℕ) (list : List (Exchange K Q A)) (place index : ℕ) : Type 0 where
    pub place_is : place ≡ gone + index
    pub within : index < length list
    pub exchange : Exchange K Q A
    pub exchange_is : exchange ≡ slice_index_or list index exchange
    pub waiting : waits exchange ≡ true

  -- the exchange at this place waits
  abbrev pub WaitsAt : ℕ → List (Exchange K Q A) → ℕ → Type 0
  WaitsAt gone list place = (index : ℕ) × IsWaiting gone list place index

  -- at this index of the list, and at this place, an exchange waits for an answer to this
  pub record IsAsking (eq : K → K → Bool) (gone : ℕ) (list : List (Exchange K Q A)) (place : ℕ) (asked : K) (index : ℕ)
      : Type 0 where
    pub place_is : place ≡ gone + index
    pub within : index < length list
    pub exchange : Exchange K Q A
    pub exchange_is : exchange ≡ slice_index_or list index exchange
    pub asking : asks eq asked exchange.ending ≡ true

  -- the exchange at this place waits for an answer to this
  abbrev pub AsksAt : (K → K → Bool) → ℕ → List (Exchange K Q A) → ℕ → K → Type 0
  AsksAt eq gone list place asked = (index : ℕ) × IsAsking eq gone list place asked index

  -- and nothing that may be forged says yet how it ended
  abbrev pub AsksUnclaimedAt : (K → K → Bool) → ℕ → List (Exchange K Q A) → ℕ → K → Type 0
  AsksUnclaimedAt eq gone list place asked =
      (index : ℕ) × (asks : IsAsking eq gone list place asked index) × (asks.exchange.claim ≡ None)

  -- The exchange at this place waited, and has this ending now. All others are as before.
  pub record Ends (gone : ℕ) (old new : List (Exchange K Q A)) (place : ℕ) (ending : Ending K A) : Type 0 where
    pub index : ℕ
    pub waited : IsWaiting gone old place index
    pub new_is : new ≡ slice_set old index (ended ending waited.exchange)

  -- Of the exchange at this place, which waits on, this datagram says this, and none did before. All others are as
  -- before.
  pub record GetsClaim (gone : ℕ) (old new : List (Exchange K Q A)) (place by : ℕ) (answer : A) : Type 0 where
    pub index : ℕ
    pub waited : IsWaiting gone old place index
    pub first : waited.exchange.claim ≡ None
    pub new_is : new ≡ slice_set old index (claimed by answer waited.exchange)

module _ {K Q A : Type 0} where
  -- at this index of the list, and at this place after so many that are gone, an exchange is finished and doesn't
  -- count
  pub record IsUncounted (gone : ℕ) (list : List (Exchange K Q A)) (place index : ℕ) : Type 0 where
    pub place_is : place ≡ gone + index
    pub within : index < length list
    pub exchange : Exchange K Q A
    pub exchange_is : exchange ≡ slice_index_or list index exchange
    pub finished : waits exchange ≡ false
    pub uncounted : exchange.counts ≡ false

  -- The exchange at `first` waited. Its request was sent again as that at `place`, which is finished and didn't
  -- count. Now the first one is finished too, and the other one counts in its place. All others are as before.
  pub record HandsOver (gone : ℕ) (old new : List (Exchange K Q A)) (first place : ℕ) : Type 0 where
    pub index : ℕ
    pub other : ℕ
    pub waited : IsWaiting gone old first index
    pub again : IsUncounted gone old place other
    pub new_is : new ≡ slice_set (slice_set old index (resent again.exchange.number waited.exchange)) other
        (counting waited.exchange.counts again.exchange)

module _ {K S : Type 0} where
  -- what was held for this place may be gone, and nothing else
  abbrev pub Forgets : (K → K → Bool) → HashMap K ℕ S → HashMap K ℕ S → ℕ → Type 0
  Forgets eq old new place = IsUnchanged old new
      ⊎ ((asked : K) × (get eq old asked ≡ Some place) × Updates eq old new asked None)

-- so many places after a place; the last place that there is isn't passed
abbrev pub place_after : ℕ → ℕ → ℕ
place_after place n = min (place + n) (2 ^ 64 - 1)

-- ---- runs of steps

-- how often a number stands among those of datagrams
abbrev pub times : ℕ → List ℕ → ℕ
times n numbers = count_by (nat_eq n) numbers

module _ {K A : Type 0} where
  -- the datagram that answers
  abbrev pub answers_in : Ending K A → List ℕ
  answers_in (Waits asked) = []
  answers_in Alone = []
  answers_in (Answered by answer) = by ∷ []
  answers_in (SentAgain number) = []
  answers_in NoAnswer = []
  answers_in NotFollowed = []

  -- an ending that no datagram makes
  abbrev pub IsUnanswered : Ending K A → Type 0
  IsUnanswered ending = answers_in ending ≡ []

  -- an ending that no datagram makes, after which nothing waits
  abbrev pub IsGivenUp : Ending K A → Type 0
  IsGivenUp ending = IsUnanswered ending × (is_waiting ending ≡ false)

module _ {A : Type 0} where
  -- the datagram that may be forged
  abbrev pub claims_in : Option (Claim A) → List ℕ
  claims_in None = []
  claims_in (Some claim) = claim.by ∷ []

module _ {K Q A : Type 0} where
  -- the numbers of the datagrams of an exchange
  abbrev pub datagrams_of : Exchange K Q A → List ℕ
  datagrams_of e = e.number ∷ (claims_in e.claim ++ answers_in e.ending)

  -- how many exchanges count
  abbrev pub counted : List (Exchange K Q A) → ℕ
  counted list = count_by (λ e. e.counts) list

  -- how often a datagram is in the exchanges
  abbrev pub times_in : ℕ → List (Exchange K Q A) → ℕ
  times_in n list = sum_by (λ e. times n (datagrams_of e)) list

-- What becomes of exchanges. `begins`: a datagram is the first of a new one. `answers`: a datagram answers the one at
-- this place, which waits for an answer to this. `claims`: one that may be forged says how that one ended. `ends`: the
-- one at this place ends without an answer. `hands_over`: the one at `first` was sent again as that at this place,
-- which counts instead. `finishes`: the first is taken out.
pub data Step (K Q A : Type 0) : Type 0 where
  begins : (number : ℕ) (first : Q) (counts : Bool) (ending : Ending K A) → Step K Q A
  answers : (place by : ℕ) (asked : K) (answer : A) → Step K Q A
  claims : (place by : ℕ) (asked : K) (answer : A) → Step K Q A
  ends : (place : ℕ) (ending : Ending K A) → Step K Q A
  hands_over : (first place : ℕ) → Step K Q A
  finishes : Step K Q A

module _ {K Q A : Type 0} where
  -- the datagrams that the steps take, in order
  abbrev pub taken_by : List (Step K Q A) → List ℕ
  taken_by [] = []
  taken_by (begins number first counts ending ∷ steps) = number ∷ taken_by steps
  taken_by (answers place by asked answer ∷ steps) = by ∷ taken_by steps
  taken_by (claims place by asked answer ∷ steps) = by ∷ taken_by steps
  taken_by (ends place ending ∷ steps) = taken_by steps
  taken_by (hands_over first place ∷ steps) = taken_by steps
  taken_by (finishes ∷ steps) = taken_by steps

  -- the first datagrams of the exchanges that the steps begin, in order
  abbrev pub begun_by : List (Step K Q A) → List ℕ
  begun_by [] = []
  begun_by (begins number first counts ending ∷ steps) = number ∷ begun_by steps
  begun_by (answers place by asked answer ∷ steps) = begun_by steps
  begun_by (claims place by asked answer ∷ steps) = begun_by steps
  begun_by (ends place ending ∷ steps) = begun_by steps
  begun_by (hands_over first place ∷ steps) = begun_by steps
  begun_by (finishes ∷ steps) = begun_by steps

  -- how many of the exchanges that the steps begin count
  abbrev pub counted_by : List (Step K Q A) → ℕ
  counted_by [] = 0
  counted_by (begins number first counts ending ∷ steps) = cond counts 1 0 + counted_by steps
  counted_by (answers place by asked answer ∷ steps) = counted_by steps
  counted_by (claims place by asked answer ∷ steps) = counted_by steps
  counted_by (ends place ending ∷ steps) = counted_by steps
  counted_by (hands_over first place ∷ steps) = counted_by steps
  counted_by (finishes ∷ steps) = counted_by steps

  -- `HasRun gone old steps finished new`: by these steps the exchanges in `finished` are taken out, in this order
  abbrev pub HasRun : ℕ → List (Exchange K Q A) → List (Step K Q A) → List (Exchange K Q A)
      → List (Exchange K Q A) → Type 0
  HasRun gone old [] finished new = (finished ≡ []) × (new ≡ old)
  HasRun gone old (begins number first counts ending ∷ steps) finished new =
      IsUnanswered ending × HasRun gone (old ++ begun number first counts ending ∷ []) steps finished new
  HasRun gone old (answers place by asked answer ∷ steps) finished new =
      (mid : List (Exchange K Q A)) × (ends : Ends gone old mid place (Answered by answer))
      × (ends.waited.exchange.ending ≡ Waits asked) × HasRun gone mid steps finished new
  HasRun gone old (claims place by asked answer ∷ steps) finished new =
      (mid : List (Exchange K Q A)) × (claim : GetsClaim gone old mid place by answer)
      × (claim.waited.exchange.ending ≡ Waits asked) × HasRun gone mid steps finished new
  HasRun gone old (ends place ending ∷ steps) finished new =
      (mid : List (Exchange K Q A)) × IsGivenUp ending × Ends gone old mid place ending
      × HasRun gone mid steps finished new
  HasRun gone old (hands_over first place ∷ steps) finished new =
      (mid : List (Exchange K Q A)) × HandsOver gone old mid first place × HasRun gone mid steps finished new
  HasRun gone old (finishes ∷ steps) finished new =
      (e : Exchange K Q A) × (mid rest : List (Exchange K Q A)) × (old ≡ e ∷ mid) × (finished ≡ e ∷ rest)
      × (waits e ≡ false) × HasRun (place_after gone 1) mid steps rest new

module _ {K Q A : Type 0} where
  -- by this step, and then by some that take no datagram; none of them takes an exchange out
  abbrev pub TakesBy : Step K Q A → ℕ → List (Exchange K Q A) → List (Exchange K Q A) → Type 0
  TakesBy step gone old new =
      (steps : List (Step K Q A)) × (taken_by steps ≡ []) × HasRun gone old (step ∷ steps) [] new

  -- An answer to what was asked: the exchange that waited at this place asked the same.
  abbrev pub AnswersAt : (K → K → Bool) → ℕ → List (Exchange K Q A) → List (Exchange K Q A) → K → ℕ → A → ℕ → Type 0
  AnswersAt eq gone old new asked by answer place =
      (held : K) × (eq held asked ≡ true) × TakesBy (answers place by held answer) gone old new

  -- What may be forged is said of what was asked: the exchange that waits at this place asked the same.
  abbrev pub ClaimsAt : (K → K → Bool) → ℕ → List (Exchange K Q A) → List (Exchange K Q A) → K → ℕ → A → ℕ → Type 0
  ClaimsAt eq gone old new asked by answer place =
      (held : K) × (eq held asked ≡ true) × TakesBy (claims place by held answer) gone old new

module _ {K Q A : Type 0} where
  -- by some steps, of which none takes an exchange out, exactly these datagrams are taken
  abbrev pub Takes : List ℕ → ℕ → List (Exchange K Q A) → List (Exchange K Q A) → Type 0
  Takes numbers gone old new = (steps : List (Step K Q A)) × (taken_by steps ≡ numbers) × HasRun gone old steps [] new

module _ {K Q A : Type 0} where
  -- Where an earlier request waits that asked the same, at this place, it ends without an answer. It waits on where it
  -- is the one that is kept.
  abbrev pub LeavesEarlier : ℕ → List (Exchange K Q A) → List (Exchange K Q A) → Option ℕ → Option ℕ → Type 0
  LeavesEarlier gone old new None kept = new ≡ old
  LeavesEarlier gone old new (Some place) kept =
      ((kept ≡ Some place) × (new ≡ old))
      ⊎ ((kept ≢ Some place) × (Ends gone old new place NoAnswer
      ⊎ ((new ≡ old) × (WaitsAt gone old place → ⊥))))

-- ---- what exchanges are made of

module _ {K Q A : Type 0} where
  -- What became of an exchange that began with this ending. One that waits has waited since. One that is answered
  -- waited for an answer to this, and one of the steps answered it.
  abbrev pub Became : List (Step K Q A) → Ending K A → Ending K A → Type 0
  Became steps ending (Waits asked) = ending ≡ Waits asked
  Became steps ending (Answered by answer) =
      (place : ℕ) × (asked : K) × (ending ≡ Waits asked) × Contains steps (answers place by asked answer)
  Became steps ending Alone = Unit {0}
  Became steps ending (SentAgain number) = Unit {0}
  Became steps ending NoAnswer = Unit {0}
  Became steps ending NotFollowed = Unit {0}

  -- what may be forged was said by one of the steps of the exchange, which began with this ending
  abbrev pub IsSaidBy : List (Step K Q A) → Ending K A → Option (Claim A) → Type 0
  IsSaidBy steps ending None = Unit {0}
  IsSaidBy steps ending (Some claim) =
      (place : ℕ) × (asked : K) × (ending ≡ Waits asked) × Contains steps (claims place claim.by asked claim.answer)

  -- One of these steps began the exchange, by its number and with what it holds of its first datagram.
  pub record IsMadeBy (steps : List (Step K Q A)) (e : Exchange K Q A) : Type 0 where
    pub counts : Bool
    pub ending : Ending K A
    pub began : Contains steps (begins e.number e.first counts ending)
    pub said : IsSaidBy steps ending e.claim
    pub became : Became steps ending e.ending
