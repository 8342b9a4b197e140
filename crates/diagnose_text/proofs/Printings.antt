-- What is printed by steps, one after another.
use Rattle.std.proofs.Common.{◌≡◌, ◌∙◌, ◌++◌, ◌||◌, ℕ, Bool, true, false, List, [], ◌∷◌, Option, ap, map, refl, sym, subst}
use Rattle.std.specs.List.{list_any}
use Rattle.std.proofs.lemmas.List.{append_assoc, append-nil, map-append}
use Rattle.std.proofs.lemmas.List.Elements.{All-cons, All-nil}
use Rattle.diagnose_exchanges.specs.declared.exchange.Exchange.{Exchange}
use Rattle.diagnose_exchanges.specs.declared.asked.Asked.{Asked}
use Rattle.diagnose_judge.specs.Judging.{Judgement}
use Rattle.diagnose_exchanges.specs.Exchanges.{HasRun, Step, Takes, begins, answers, claims, ends, hands_over, finishes, place_after, taken_by, waits}
use Rattle.diagnose_text.proofs.Owns.{both_own, none_own, one_taken, step_number, step_own}
use Rattle.diagnose_text.specs.Datagrams.{IsOwn, Seen, number_seen, seen_as}
use Rattle.diagnose_text.specs.Following.{Sees}
use Rattle.diagnose_text.specs.declared.follower.Follower.{Follower}
use Rattle.diagnose_text.specs.declared.line.Line.{Line}
use Rattle.diagnose_text.specs.Printing.{ArePrinted, IsPrinted, Prints, counts_as_failed, gone_after, some_failed}
use Rattle.diagnose_text.specs.declared.facts.Answer.{Answer}
use Rattle.diagnose_text.specs.declared.facts.First.{First}
use Rattle.diagnose_text.specs.declared.options.DiagnoseOptions.{DiagnoseOptions}

or_false : (b : Bool) → b ≡ (b || false)
or_false true = refl
or_false false = refl

or_assoc : (a b c : Bool) → ((a || b) || c) ≡ (a || (b || c))
or_assoc true b c = refl
or_assoc false b c = refl

any_append : {X : Type 0} → (test : X → Bool) (xs ys : List X) → list_any test (xs ++ ys) ≡ (list_any test xs || list_any test ys)
any_append test [] ys = refl
any_append test (x ∷ xs) ys = ap (λ b. test x || b) (any_append test xs ys) ∙ sym (or_assoc (test x) (list_any test xs) (list_any test ys))

module _ {K : Type 0} where
  -- a run that takes no exchange out leaves the place of the first
  gone_stays : (gone : ℕ) (old new : List (Exchange K First Answer)) (steps : List (Step K First Answer)) → HasRun gone old steps [] new → gone ≡ gone_after gone steps
  gone_stays gone old new [] h = refl
  gone_stays gone old new (begins number first counts ending ∷ steps) h = gone_stays gone _ new steps h.1
  gone_stays gone old new (answers place by asked answer ∷ steps) h = gone_stays gone h.0 new steps h.3
  gone_stays gone old new (claims place by asked answer ∷ steps) h = gone_stays gone h.0 new steps h.3
  gone_stays gone old new (ends place ending ∷ steps) h = gone_stays gone h.0 new steps h.3
  gone_stays gone old new (hands_over first place ∷ steps) h = gone_stays gone h.0 new steps h.2
  gone_stays gone old new (finishes ∷ steps) h = cc (h.4)

  gone_append : (gone : ℕ) (steps more : List (Step K First Answer)) → gone_after (gone_after gone steps) more ≡ gone_after gone (steps ++ more)
  gone_append gone [] more = refl
  gone_append gone (begins number first counts ending ∷ steps) more = gone_append gone steps more
  gone_append gone (answers place by asked answer ∷ steps) more = gone_append gone steps more
  gone_append gone (claims place by asked answer ∷ steps) more = gone_append gone steps more
  gone_append gone (ends place ending ∷ steps) more = gone_append gone steps more
  gone_append gone (hands_over first place ∷ steps) more = gone_append gone steps more
  gone_append gone (finishes ∷ steps) more = gone_append (place_after gone 1) steps more

  taken_append : (steps more : List (Step K First Answer)) → taken_by (steps ++ more) ≡ taken_by steps ++ taken_by more
  taken_append [] more = refl
  taken_append (begins number first counts ending ∷ steps) more = ap (λ ns. number ∷ ns) (taken_append steps more)
  taken_append (answers place by asked answer ∷ steps) more = ap (λ ns. by ∷ ns) (taken_append steps more)
  taken_append (claims place by asked answer ∷ steps) more = ap (λ ns. by ∷ ns) (taken_append steps more)
  taken_append (ends place ending ∷ steps) more = taken_append steps more
  taken_append (hands_over first place ∷ steps) more = taken_append steps more
  taken_append (finishes ∷ steps) more = taken_append steps more

  run_append : (gone : ℕ) (old mid new : List (Exchange K First Answer)) (steps more : List (Step K First Answer)) (some others : List (Exchange K First Answer))
      → HasRun gone old steps some mid → HasRun (gone_after gone steps) mid more others new → HasRun gone old (steps ++ more) (some ++ others) new
  run_append gone old mid new [] more some others h k = subst (λ xs. HasRun gone old more (xs ++ others) new) (sym h.0) (subst (λ xs. HasRun gone xs more others new) h.1 k)
  run_append gone old mid new (begins number first counts ending ∷ steps) more some others h k = (h.0, run_append gone _ mid new steps more some others h.1 k)
  run_append gone old mid new (answers place by asked answer ∷ steps) more some others h k = (h.0, h.1, h.2, run_append gone h.0 mid new steps more some others h.3 k)
  run_append gone old mid new (claims place by asked answer ∷ steps) more some others h k = (h.0, h.1, h.2, run_append gone h.0 mid new steps more some others h.3 k)
  run_append gone old mid new (ends place ending ∷ steps) more some others h k = (h.0, h.1, h.2, run_append gone h.0 mid new steps more some others h.3 k)
  run_append gone old mid new (hands_over first place ∷ steps) more some others h k = (h.0, h.1, run_append gone h.0 mid new steps more some others h.2 k)
  run_append gone old mid new (finishes ∷ steps) more some others h k =
      (h.0, h.1, h.2 ++ others, h.3, ap (λ xs. xs ++ others) h.4, h.5, run_append (place_after gone 1) h.1 mid new steps more h.2 others h.6 k)

  texts_append : (options : DiagnoseOptions) (some others : List (Exchange K First Answer)) (text more : List ℕ) → ArePrinted options some text → ArePrinted options others more → ArePrinted options (some ++ others) (text ++ more)
  texts_append options [] others text more h k = subst (λ t. ArePrinted options others (t ++ more)) (sym h) k
  texts_append options (e ∷ some) others text more h k =
      (h.0, h.1 ++ more, ap (λ t. t ++ more) h.2 ∙ append_assoc h.0 h.1 more, h.3, texts_append options some others h.1 more h.4 k)

-- one after the other
pub then_prints : (options : DiagnoseOptions) (before : Bool) (gone : ℕ) (old : List (Exchange Asked First Answer)) (seen : List Seen) (text : List ℕ) (mid_failed : Bool) (mid_gone : ℕ) (mid : List (Exchange Asked First Answer)) (more_seen : List Seen) (more : List ℕ) (failed : Bool) (later : ℕ) (new : List (Exchange Asked First Answer))
    → Prints options before gone old seen text mid_failed mid_gone mid → Prints options mid_failed mid_gone mid more_seen more failed later new
    → Prints options before gone old (seen ++ more_seen) (text ++ more) failed later new
then_prints options before gone old seen text mid_failed mid_gone mid more_seen more failed later new p q = record {
  steps = p.steps ++ q.steps;
  taken = taken_append p.steps q.steps ∙ ap (λ ns. ns ++ taken_by q.steps) p.taken ∙ ap (λ ns. map number_seen seen ++ ns) q.taken ∙ sym (map-append number_seen seen more_seen);
  own = both_own seen more_seen p.steps q.steps p.own q.own;
  finished = p.finished ++ q.finished;
  run = run_append gone old mid new p.steps q.steps p.finished q.finished p.run (subst (λ g. HasRun g mid q.steps q.finished new) p.place q.run);
  place = q.place ∙ ap (λ g. gone_after g q.steps) p.place ∙ gone_append gone p.steps q.steps;
  texts = texts_append options p.finished q.finished text more p.texts q.texts;
  failure = q.failure ∙ ap (λ b. b || some_failed options q.finished) p.failure ∙ or_assoc before (some_failed options p.finished) (some_failed options q.finished)
      ∙ ap (λ b. before || b) (sym (any_append (counts_as_failed options) p.finished q.finished));
}

-- a datagram is taken, and nothing is printed
pub seeing_prints : (options : DiagnoseOptions) (before : Bool) (line : Line) (w : List ℕ) (judgement : Option Judgement) (old new : Follower) → Sees line w judgement old new
    → Prints options before old.exchanges.gone old.exchanges.list.items (seen_as line w judgement ∷ []) [] before new.exchanges.gone new.exchanges.list.items
seeing_prints options before line w judgement old new sees =
    let f = sees.follows in
    let t = f.takes in
    record {
      steps = f.step ∷ t.0;
      taken = one_taken line f.step t.0 (step_number line w judgement f.step f.made) t.1;
      own = All-cons (IsOwn (seen_as line w judgement ∷ [])) f.step t.0 (step_own line w judgement f.step f.made) (none_own (seen_as line w judgement ∷ []) t.0 t.1);
      finished = [];
      run = t.2;
      place = f.place ∙ gone_stays old.exchanges.gone old.exchanges.list.items new.exchanges.list.items (f.step ∷ t.0) t.2;
      texts = refl;
      failure = or_false before;
    }

-- no datagram is taken, and nothing is printed
pub taking_prints : (options : DiagnoseOptions) (before : Bool) (gone : ℕ) (old : List (Exchange Asked First Answer)) (later : ℕ) (new : List (Exchange Asked First Answer)) → later ≡ gone → Takes [] gone old new
    → Prints options before gone old [] [] before later new
taking_prints options before gone old later new is takes = record {
  steps = takes.0;
  taken = takes.1;
  own = none_own [] takes.0 takes.1;
  finished = [];
  run = takes.2;
  place = is ∙ gone_stays gone old new takes.0 takes.2;
  texts = refl;
  failure = or_false before;
}

-- nothing happens
pub nothing_prints : (options : DiagnoseOptions) (before : Bool) (gone : ℕ) (old : List (Exchange Asked First Answer)) (later : ℕ) (new : List (Exchange Asked First Answer)) → later ≡ gone → new ≡ old
    → Prints options before gone old [] [] before later new
nothing_prints options before gone old later new is same = record {
  steps = [];
  taken = refl;
  own = All-nil (IsOwn []);
  finished = [];
  run = (refl, same);
  place = is;
  texts = refl;
  failure = or_false before;
}

-- the first exchange is taken out, and printed
pub first_prints : (options : DiagnoseOptions) (before : Bool) (gone : ℕ) (old : List (Exchange Asked First Answer)) (text : List ℕ) (failed : Bool) (later : ℕ) (new : List (Exchange Asked First Answer)) (e : Exchange Asked First Answer)
    → old ≡ e ∷ new → waits e ≡ false → later ≡ place_after gone 1 → IsPrinted options e text → failed ≡ (before || counts_as_failed options e)
    → Prints options before gone old [] text failed later new
first_prints options before gone old text failed later new e is finished place printed failure = record {
  steps = finishes ∷ [];
  taken = refl;
  own = none_own [] (finishes ∷ []) refl;
  finished = e ∷ [];
  run = (e, new, [], is, refl, finished, (refl, refl));
  place = place;
  texts = (text, [], sym (append-nil text), printed, refl);
  failure = failure ∙ ap (λ b. before || b) (or_false (counts_as_failed options e));
}
