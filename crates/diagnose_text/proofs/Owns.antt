-- The steps that datagrams make, one after another.
use Rattle.std.proofs.Common.{◌≡◌, ◌∙◌, ◌++◌, ℕ, List, [], ◌∷◌, Option, Some, None, ap, inl, inr, lit<, refl}
use Rattle.std.specs.List.{All}
use Rattle.std.proofs.lemmas.List.Elements.{All-append, All-cons, All-contains, All-nil, All-weaker, Contains-append_left, Contains-append_right}
use Rattle.diagnose_exchanges.specs.declared.asked.Asked.{Asked}
use Rattle.diagnose_exchanges.specs.declared.exchange.Ending.{Ending}
use Rattle.diagnose_exchanges.specs.declared.exchange.Ending.TheVariants.{Waits, Alone, Answered, SentAgain, NoAnswer, NotFollowed}
use Rattle.diagnose_exchanges.specs.declared.exchange.Exchange.{Exchange}
use Rattle.diagnose_exchanges.specs.declared.exchange.Claim.{Claim}
use Rattle.diagnose_exchanges.specs.Exchanges.{Became, IsMadeBy, IsSaidBy, Step, begins, answers, claims, ends, hands_over, finishes, taken_by}
use Rattle.diagnose_judge.specs.Judging.{Judgement, unread, discovery, sent_by, sent_to}
use Rattle.diagnose_text.specs.Datagrams.{Answers, Asks, Claims, HoldsItsOwn, IsAnsweredBy, IsClaimedBy, IsOwn, IsStepOf, Seen, StandsAlone, seen_as}
use Rattle.diagnose_text.specs.declared.facts.Answer.{Answer}
use Rattle.diagnose_text.specs.declared.facts.First.{First}
use Rattle.diagnose_text.specs.declared.line.Line.{Line}

-- the step takes this datagram
abbrev IsWith : ℕ → Step Asked First Answer → Type 0
IsWith n (begins number first counts ending) = number ≡ n
IsWith n (answers place by asked answer) = by ≡ n
IsWith n (claims place by asked answer) = by ≡ n
IsWith n (ends place ending) = ⊥
IsWith n (hands_over first place) = ⊥
IsWith n finishes = ⊥

alone_number : (line : Line) (P : First → Type 0) (step : Step Asked First Answer) → StandsAlone line P step → IsWith line.number step
alone_number line P (begins number first counts ending) h = h.0
alone_number line P (answers place by asked answer) h = absurd h
alone_number line P (claims place by asked answer) h = absurd h
alone_number line P (ends place ending) h = h
alone_number line P (hands_over first place) h = h
alone_number line P finishes h = h

asks_number : (line : Line) (id : ℕ) (P : First → Type 0) (step : Step Asked First Answer) → Asks line id P step → IsWith line.number step
asks_number line id P (begins number first counts ending) h = h.0
asks_number line id P (answers place by asked answer) h = absurd h
asks_number line id P (claims place by asked answer) h = absurd h
asks_number line id P (ends place ending) h = h
asks_number line id P (hands_over first place) h = h
asks_number line id P finishes h = h

answers_number : (line : Line) (id : ℕ) (P : Answer → Type 0) (step : Step Asked First Answer) → Answers line id P step → IsWith line.number step
answers_number line id P (begins number first counts ending) h = absurd h
answers_number line id P (answers place by asked answer) h = h.0
answers_number line id P (claims place by asked answer) h = absurd h
answers_number line id P (ends place ending) h = h
answers_number line id P (hands_over first place) h = h
answers_number line id P finishes h = h

claims_number : (line : Line) (id : ℕ) (P : Answer → Type 0) (step : Step Asked First Answer) → Claims line id P step → IsWith line.number step
claims_number line id P (begins number first counts ending) h = absurd h
claims_number line id P (answers place by asked answer) h = absurd h
claims_number line id P (claims place by asked answer) h = h.0
claims_number line id P (ends place ending) h = h
claims_number line id P (hands_over first place) h = h
claims_number line id P finishes h = h

pub step_number : (line : Line) (w : List ℕ) (judgement : Option Judgement) (step : Step Asked First Answer) → IsStepOf line w judgement step → IsWith line.number step
step_number line w None step h = alone_number line _ step h
step_number line w (Some (unread refusal)) step h = elim h [
  | inl a ↦ alone_number line _ step a
  | inr a ↦ elim (a.2) [
    | inl b ↦ asks_number line a.0 _ step b
    | inr b ↦ elim b [
      | inl d ↦ alone_number line _ step d
      | inr d ↦ elim d [ inl e ↦ answers_number line a.0 _ step e | inr e ↦ claims_number line a.0 _ step e ]
    ]
  ]
]
step_number line w (Some discovery) step h = asks_number line h.0 _ step h.2
step_number line w (Some (sent_by given in_window)) step h = elim h [
  | inl a ↦ alone_number line _ step a
  | inr a ↦ elim a [ inl b ↦ answers_number line given.id _ step b.1 | inr b ↦ claims_number line given.id _ step b.1 ]
]
step_number line w (Some (sent_to given verdict)) step h = asks_number line given.id _ step h

pub one_taken : (line : Line) (step : Step Asked First Answer) (more : List (Step Asked First Answer)) → IsWith line.number step → taken_by more ≡ [] → taken_by (step ∷ more) ≡ line.number ∷ []
one_taken line (begins number first counts ending) more h none = ap (λ n. n ∷ taken_by more) h ∙ ap (λ ns. line.number ∷ ns) none
one_taken line (answers place by asked answer) more h none = ap (λ n. n ∷ taken_by more) h ∙ ap (λ ns. line.number ∷ ns) none
one_taken line (claims place by asked answer) more h none = ap (λ n. n ∷ taken_by more) h ∙ ap (λ ns. line.number ∷ ns) none
one_taken line (ends place ending) more h none = absurd h
one_taken line (hands_over first place) more h none = absurd h
one_taken line finishes more h none = absurd h

pub step_own : (line : Line) (w : List ℕ) (judgement : Option Judgement) (step : Step Asked First Answer) → IsStepOf line w judgement step → IsOwn (seen_as line w judgement ∷ []) step
step_own line w judgement (begins number first counts ending) h = (seen_as line w judgement, (0, lit< tt, refl), h)
step_own line w judgement (answers place by asked answer) h = (seen_as line w judgement, (0, lit< tt, refl), h)
step_own line w judgement (claims place by asked answer) h = (seen_as line w judgement, (0, lit< tt, refl), h)
step_own line w judgement (ends place ending) h = tt
step_own line w judgement (hands_over first place) h = tt
step_own line w judgement finishes h = tt

-- steps that take no datagram
pub none_own : (seen : List Seen) (steps : List (Step Asked First Answer)) → taken_by steps ≡ [] → All (IsOwn seen) steps
none_own seen [] none = All-nil (IsOwn seen)
none_own seen (begins number first counts ending ∷ steps) none = cc none
none_own seen (answers place by asked answer ∷ steps) none = cc none
none_own seen (claims place by asked answer ∷ steps) none = cc none
none_own seen (ends place ending ∷ steps) none = All-cons (IsOwn seen) (ends place ending) steps tt (none_own seen steps none)
none_own seen (hands_over first place ∷ steps) none = All-cons (IsOwn seen) (hands_over first place) steps tt (none_own seen steps none)
none_own seen (finishes ∷ steps) none = All-cons (IsOwn seen) finishes steps tt (none_own seen steps none)

own_left : (seen more : List Seen) (step : Step Asked First Answer) → IsOwn seen step → IsOwn (seen ++ more) step
own_left seen more (begins number first counts ending) h = (h.0, Contains-append_left seen more h.0 h.1, h.2)
own_left seen more (answers place by asked answer) h = (h.0, Contains-append_left seen more h.0 h.1, h.2)
own_left seen more (claims place by asked answer) h = (h.0, Contains-append_left seen more h.0 h.1, h.2)
own_left seen more (ends place ending) h = tt
own_left seen more (hands_over first place) h = tt
own_left seen more finishes h = tt

own_right : (seen more : List Seen) (step : Step Asked First Answer) → IsOwn more step → IsOwn (seen ++ more) step
own_right seen more (begins number first counts ending) h = (h.0, Contains-append_right seen more h.0 h.1, h.2)
own_right seen more (answers place by asked answer) h = (h.0, Contains-append_right seen more h.0 h.1, h.2)
own_right seen more (claims place by asked answer) h = (h.0, Contains-append_right seen more h.0 h.1, h.2)
own_right seen more (ends place ending) h = tt
own_right seen more (hands_over first place) h = tt
own_right seen more finishes h = tt

pub both_own : (seen more : List Seen) (steps others : List (Step Asked First Answer)) → All (IsOwn seen) steps → All (IsOwn more) others → All (IsOwn (seen ++ more)) (steps ++ others)
both_own seen more steps others h k =
    All-append (IsOwn (seen ++ more)) steps others (All-weaker (IsOwn seen) (IsOwn (seen ++ more)) (own_left seen more) steps h) (All-weaker (IsOwn more) (IsOwn (seen ++ more)) (own_right seen more) others k)

answered : (seen : List Seen) (steps : List (Step Asked First Answer)) (began ending : Ending Asked Answer) → All (IsOwn seen) steps → Became steps began ending → IsAnsweredBy seen began ending
answered seen steps began (Answered by answer) own h = (h.0, h.1, h.2, All-contains (IsOwn seen) steps (answers h.0 by h.1 answer) own h.3)
answered seen steps began (Waits asked) own h = tt
answered seen steps began Alone own h = tt
answered seen steps began (SentAgain number) own h = tt
answered seen steps began NoAnswer own h = tt
answered seen steps began NotFollowed own h = tt

said : (seen : List Seen) (steps : List (Step Asked First Answer)) (began : Ending Asked Answer) (claim : Option (Claim Answer)) → All (IsOwn seen) steps → IsSaidBy steps began claim → IsClaimedBy seen began claim
said seen steps began None own h = tt
said seen steps began (Some claim) own h = (h.0, h.1, h.2, All-contains (IsOwn seen) steps (claims h.0 claim.by h.1 claim.answer) own h.3)

-- an exchange that these steps made
pub holds : (seen : List Seen) (steps : List (Step Asked First Answer)) (e : Exchange Asked First Answer) → All (IsOwn seen) steps → IsMadeBy steps e → HoldsItsOwn seen e
holds seen steps e own made = record {
  counts = made.counts;
  ending = made.ending;
  first = All-contains (IsOwn seen) steps (begins e.number e.first made.counts made.ending) own made.began;
  claim = said seen steps made.ending e.claim own made.said;
  answer = answered seen steps made.ending e.ending own made.became;
}
