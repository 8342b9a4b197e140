-- Which messages ask one request, over runs of steps.
use Rattle.std.specs.Prelude.{◌≡◌, ℕ, suc, ◌<◌, ◌≤◌, List, [], ◌∷◌, ◌++◌, All, length, slice_index_or, slice_set}
use Rattle.std.proofs.Common.{refl, sym, ap, subst, ◌∙◌, arith}
use Rattle.std.proofs.lemmas.List.{get_or_default, length-set, length_push}
use Rattle.std.proofs.lemmas.List.Edits.{length-remove}
use Rattle.std.proofs.lemmas.List.Elements.{All-cons, All-get_or, All-nil, All-push, All-set, All-tail, All-weaker}
use Rattle.std.proofs.lemmas.List.Quantifiers.{all_pairs_push, all_pairs_remove}
use Rattle.snmp_gate.specs.Groups.{Group, IsAnswered, IsAt, IsJoined, IsLeft, IsWorked, begun, with_messages, with_work}
use Rattle.snmp_gate.specs.GroupRuns.{AskDifferent, AskOwn, Asks, AsksAt, AsksNot, AsksOne, AsksOneThing, GroupStep, HaveOwnNumbers, IsFew, IsGroupRun, answers, begins, joins, works}
use Rattle.snmp_gate.specs.declared.requests.Joined.{Joined}
use Rattle.snmp_gate.specs.declared.requests.Joined.TheVariants as joined
use Rattle.snmp_gate.proofs.Pairs.{all_removed, pairs_set}

module _ {M W : Type 0} where
  -- what holds of all groups holds of the one at a place
  pub at_place : (P : Group M W → Type 0) (old : List (Group M W)) (place : ℕ) (g : Group M W) → IsAt old place g → All P old → P g
  at_place P old place g at all = subst P (sym at.group_is) (All-get_or P old place g at.within all)

  -- and of all groups after a step, if it holds of the one that changed
  pub all_joined : (P : Group M W → Type 0) (most : ℕ) (old new : List (Group M W)) (place : ℕ) (message : M) (becomes : Joined) → IsJoined most old place message new becomes
      → ((g : Group M W) → IsAt old place g → length g.messages < most → P g → P (with_messages g (g.messages ++ message ∷ []))) → All P old → All P new
  all_joined P most old new place message joined.Joined j keeps all =
      subst (All P) (sym j.3) (All-set P old place (with_messages j.0 (j.0.messages ++ message ∷ [])) (keeps j.0 j.1 j.2 (at_place P old place j.0 j.1 all)) all)
  all_joined P most old new place message joined.NoRoom j keeps all = subst (All P) (sym j.3) all

  pub all_worked : (P : Group M W → Type 0) (old new : List (Group M W)) (place : ℕ) (before after : W) → IsWorked old place before after new
      → ((g : Group M W) → P g → P (with_work g after)) → All P old → All P new
  all_worked P old new place before after w keeps all =
      subst (All P) (sym w.new_is) (All-set P old place (with_work w.group after) (keeps w.group (at_place P old place w.group w.at all)) all)

  all_left : (P : Group M W → Type 0) (old new : List (Group M W)) (place : ℕ) (g : Group M W) (message : M) (others : List M) → g.messages ≡ message ∷ others → IsLeft old place g others new
      → ((next : M) (rest : List M) → g.messages ≡ message ∷ next ∷ rest → P (with_messages g (next ∷ rest))) → All P old → All P new
  all_left P old new place g message [] were left keeps all = subst (All P) (sym left) (all_removed P old place all)
  all_left P old new place g message (next ∷ rest) were left keeps all = subst (All P) (sym left) (All-set P old place (with_messages g (next ∷ rest)) (keeps next rest were) all)

  pub all_answered : (P : Group M W → Type 0) (old new : List (Group M W)) (place : ℕ) (message : M) → IsAnswered old place message new
      → ((g : Group M W) (next : M) (rest : List M) → g.messages ≡ message ∷ next ∷ rest → P g → P (with_messages g (next ∷ rest))) → All P old → All P new
  all_answered P old new place message a keeps all =
      all_left P old new place a.group message a.others a.messages_are a.left (λ next rest were. keeps a.group next rest were (at_place P old place a.group a.at all)) all

  -- how many requests there are
  pub long_joined : (most : ℕ) (old new : List (Group M W)) (place : ℕ) (message : M) (becomes : Joined) → IsJoined most old place message new becomes → length new ≡ length old
  long_joined most old new place message joined.Joined j = ap (λ (gs : List (Group M W)). length gs) j.3 ∙ length-set old place (with_messages j.0 (j.0.messages ++ message ∷ []))
  long_joined most old new place message joined.NoRoom j = ap (λ (gs : List (Group M W)). length gs) j.3

  pub long_left : (old new : List (Group M W)) (place : ℕ) (g : Group M W) (others : List M) → place < length old → IsLeft old place g others new → length new ≤ length old
  long_left old new place g [] within left = omega (arith, ap (λ (gs : List (Group M W)). length gs) left, length-remove old place within)
  long_left old new place g (next ∷ rest) within left = omega (arith, ap (λ (gs : List (Group M W)). length gs) left, length-set old place (with_messages g (next ∷ rest)))

module _ {M W Q : Type 0} (question : M → Q) (most most_messages : ℕ) where
  pub run_few : (next : ℕ) (first : List (Group M W)) (steps : List (GroupStep M W)) (last : List (Group M W)) → length first ≤ most → IsGroupRun question most most_messages next first steps last → length last ≤ most
  run_few next first [] last few run = omega (arith, ap (λ (gs : List (Group M W)). length gs) run)
  run_few next first (begins message work ∷ steps) last few run = run_few (suc next) (first ++ begun next message work ∷ []) steps last (omega (arith, length_push first (begun next message work), run.0)) run.2
  run_few next first (joins place message becomes ∷ steps) last few run = run_few next run.0 steps last (omega (arith, long_joined most_messages first run.0 place message becomes run.2)) run.3
  run_few next first (works place before after ∷ steps) last few run =
      run_few next run.0 steps last (omega (arith, ap (λ (gs : List (Group M W)). length gs) run.1.new_is, length-set first place (with_work run.1.group after))) run.2
  run_few next first (answers place message ∷ steps) last few run =
      run_few next run.0 steps last (omega (arith, long_left first run.0 place run.1.group run.1.others run.1.at.within run.1.left)) run.2

  -- a group with few messages
  pub few_begun : (next : ℕ) (message : M) (work : W) → IsFew most_messages (begun next message work)
  few_begun next message work = record { some = omega arith; few = λ more. absurd (omega (arith, more)) }

  pub few_more : (message : M) (g : Group M W) → length g.messages < most_messages → IsFew most_messages g → IsFew most_messages (with_messages g (g.messages ++ message ∷ []))
  few_more message g room few =
      let long = length_push g.messages message in record {
        some = omega (arith, long);
        few = λ more. omega (arith, long, room);
      }

  pub few_less : (message : M) (g : Group M W) (next : M) (rest : List M) → g.messages ≡ message ∷ next ∷ rest → IsFew most_messages g → IsFew most_messages (with_messages g (next ∷ rest))
  few_less message g next rest were few =
      let long = ap (λ (ms : List M). length ms) were in record {
        some = omega arith;
        few = λ more. omega (arith, long, few.few (omega (arith, long)));
      }

  pub few_worked : (after : W) (g : Group M W) → IsFew most_messages g → IsFew most_messages (with_work g after)
  few_worked after g few = record { some = few.some; few = few.few }

  pub run_few_messages : (next : ℕ) (first : List (Group M W)) (steps : List (GroupStep M W)) (last : List (Group M W)) → All (IsFew most_messages) first → IsGroupRun question most most_messages next first steps last
      → All (IsFew most_messages) last
  run_few_messages next first [] last few run = subst (All (IsFew most_messages)) (sym run) few
  run_few_messages next first (begins message work ∷ steps) last few run =
      run_few_messages (suc next) (first ++ begun next message work ∷ []) steps last (All-push (IsFew most_messages) first (begun next message work) few (few_begun next message work)) run.2
  run_few_messages next first (joins place message becomes ∷ steps) last few run =
      run_few_messages next run.0 steps last (all_joined (IsFew most_messages) most_messages first run.0 place message becomes run.2 (λ g at room f. few_more message g room f) few) run.3
  run_few_messages next first (works place before after ∷ steps) last few run =
      run_few_messages next run.0 steps last (all_worked (IsFew most_messages) first run.0 place before after run.1 (few_worked after) few) run.2
  run_few_messages next first (answers place message ∷ steps) last few run =
      run_few_messages next run.0 steps last (all_answered (IsFew most_messages) first run.0 place message run.1 (few_less message) few) run.2

  -- the numbers of the requests rise, and are all below the next one
  pub record IsNumbered (next : ℕ) (gs : List (Group M W)) : Type 0 where
    pub below : All (λ (g : Group M W). g.number < next) gs
    pub rise : HaveOwnNumbers gs

  pub numbered_set : (next place : ℕ) (old new : List (Group M W)) (g h : Group M W) → IsAt old place g → new ≡ slice_set old place h → h.number ≡ g.number → IsNumbered next old → IsNumbered next new
  numbered_set next place old new g h at is same numbered = subst (IsNumbered next) (sym is) (record {
    below = All-set (λ (x : Group M W). x.number < next) old place h (omega (arith, same, at_place (λ (x : Group M W). x.number < next) old place g at numbered.below)) numbered.below;
    rise = pairs_set (λ (a b : Group M W). a.number < b.number) old place g h at.within at.group_is
        (λ x before. omega (arith, before, same)) (λ x after. omega (arith, after, same)) numbered.rise;
  })

  pub numbered_left : (next place : ℕ) (old new : List (Group M W)) (g : Group M W) (others : List M) → IsAt old place g → IsLeft old place g others new → IsNumbered next old → IsNumbered next new
  numbered_left next place old new g [] at left numbered = subst (IsNumbered next) (sym left) (record {
    below = all_removed (λ (x : Group M W). x.number < next) old place numbered.below;
    rise = all_pairs_remove (λ (a b : Group M W). a.number < b.number) old place at.within numbered.rise;
  })
  numbered_left next place old new g (m ∷ ms) at left numbered = numbered_set next place old new g (with_messages g (m ∷ ms)) at left refl numbered

  pub numbered_joined : (next most : ℕ) (old new : List (Group M W)) (place : ℕ) (message : M) (becomes : Joined) → IsJoined most old place message new becomes → IsNumbered next old → IsNumbered next new
  numbered_joined next most old new place message joined.Joined j numbered = numbered_set next place old new j.0 (with_messages j.0 (j.0.messages ++ message ∷ [])) j.1 j.3 refl numbered
  numbered_joined next most old new place message joined.NoRoom j numbered = subst (IsNumbered next) (sym j.3) numbered

  pub numbered_begun : (next : ℕ) (old : List (Group M W)) (message : M) (work : W) → IsNumbered next old → IsNumbered (suc next) (old ++ begun next message work ∷ [])
  numbered_begun next old message work numbered = record {
    below = All-push (λ (g : Group M W). g.number < suc next) old (begun next message work)
        (All-weaker (λ (g : Group M W). g.number < next) (λ (g : Group M W). g.number < suc next) (λ g less. omega (arith, less)) old numbered.below)
        (omega arith);
    rise = all_pairs_push (λ (a b : Group M W). a.number < b.number) old (begun next message work) numbered.rise
        (λ k d within. All-get_or (λ (g : Group M W). g.number < next) old k d within numbered.below);
  }

  run_numbers : (next : ℕ) (first : List (Group M W)) (steps : List (GroupStep M W)) (last : List (Group M W)) → IsNumbered next first → IsGroupRun question most most_messages next first steps last → HaveOwnNumbers last
  run_numbers next first [] last numbered run = subst HaveOwnNumbers (sym run) numbered.rise
  run_numbers next first (begins message work ∷ steps) last numbered run = run_numbers (suc next) (first ++ begun next message work ∷ []) steps last (numbered_begun next first message work numbered) run.2
  run_numbers next first (joins place message becomes ∷ steps) last numbered run = run_numbers next run.0 steps last (numbered_joined next most_messages first run.0 place message becomes run.2 numbered) run.3
  run_numbers next first (works place before after ∷ steps) last numbered run =
      run_numbers next run.0 steps last (numbered_set next place first run.0 run.1.group (with_work run.1.group after) run.1.at run.1.new_is refl numbered) run.2
  run_numbers next first (answers place message ∷ steps) last numbered run =
      run_numbers next run.0 steps last (numbered_left next place first run.0 run.1.group run.1.others run.1.at run.1.left numbered) run.2

  pub own_numbers : (steps : List (GroupStep M W)) (last : List (Group M W)) → IsGroupRun question most most_messages 0 [] steps last → HaveOwnNumbers last
  own_numbers steps last run = run_numbers 0 [] steps last (record { below = All-nil (λ (g : Group M W). g.number < 0); rise = λ i j d below within. absurd (omega arith) }) run

  -- all messages of a group ask one thing
  one_joined : (old : List (Group M W)) (place : ℕ) (message : M) → AsksAt question old place (question message) → (g : Group M W) → IsAt old place g → AsksOne question (question message) g
  one_joined old place message asks g at =
      let same : asks.group ≡ g = asks.at.group_is ∙ get_or_default old place asks.group g at.within ∙ sym at.group_is in
      subst (AsksOne question (question message)) same asks.asks

  pub run_one : (next : ℕ) (first : List (Group M W)) (steps : List (GroupStep M W)) (last : List (Group M W)) → All (AsksOneThing question) first → IsGroupRun question most most_messages next first steps last
      → All (AsksOneThing question) last
  run_one next first [] last one run = subst (All (AsksOneThing question)) (sym run) one
  run_one next first (begins message work ∷ steps) last one run =
      run_one (suc next) (first ++ begun next message work ∷ []) steps last
      (All-push (AsksOneThing question) first (begun next message work) one (question message, All-cons (Asks question (question message)) message [] refl (All-nil (Asks question (question message))))) run.2
  run_one next first (joins place message becomes ∷ steps) last one run =
      run_one next run.0 steps last
      (all_joined (AsksOneThing question) most_messages first run.0 place message becomes run.2
      (λ g at room before. (question message, All-push (Asks question (question message)) g.messages message (one_joined first place message run.1 g at) refl)) one) run.3
  run_one next first (works place before after ∷ steps) last one run =
      run_one next run.0 steps last (all_worked (AsksOneThing question) first run.0 place before after run.1 (λ g asks. (asks.0, asks.1)) one) run.2
  run_one next first (answers place message ∷ steps) last one run =
      run_one next run.0 steps last
      (all_answered (AsksOneThing question) first run.0 place message run.1
      (λ g m rest were asks. (asks.0, All-tail (Asks question asks.0) message (m ∷ rest) (subst (All (Asks question asks.0)) were asks.1))) one) run.2

  -- a message that asks what a group asks is one more that others don't ask
  different_more_before : (message : M) (g x : Group M W) → 0 < length g.messages → AsksOne question (question message) g → AskDifferent question g x → AskDifferent question (with_messages g (g.messages ++ message ∷ [])) x
  different_more_before message g x some asks differ =
      let same = All-get_or (Asks question (question message)) g.messages 0 message some asks in
      All-push (λ (m : M). AsksNot question (question m) x) g.messages message differ
      (subst (λ (q : Q). AsksNot question q x) same (All-get_or (λ (m : M). AsksNot question (question m) x) g.messages 0 message some differ))

  different_more_after : (message : M) (g x : Group M W) → 0 < length g.messages → AsksOne question (question message) g → AskDifferent question x g → AskDifferent question x (with_messages g (g.messages ++ message ∷ []))
  different_more_after message g x some asks differ =
      let same = All-get_or (Asks question (question message)) g.messages 0 message some asks in
      All-weaker (λ (m : M). AsksNot question (question m) g) (λ (m : M). AsksNot question (question m) (with_messages g (g.messages ++ message ∷ [])))
      (λ m none. All-push (λ (n : M). ¬ Asks question (question m) n) g.messages message none
      (λ is. All-get_or (λ (n : M). ¬ Asks question (question m) n) g.messages 0 message some none (same ∙ is))) x.messages differ

  different_less_before : (message : M) (g x : Group M W) (m : M) (rest : List M) → g.messages ≡ message ∷ m ∷ rest → AskDifferent question g x → AskDifferent question (with_messages g (m ∷ rest)) x
  different_less_before message g x m rest were differ =
      let P : M → Type 0 = λ n. AsksNot question (question n) x in
      All-tail P message (m ∷ rest) (subst (All P) were differ)

  different_less_after : (message : M) (g x : Group M W) (m : M) (rest : List M) → g.messages ≡ message ∷ m ∷ rest → AskDifferent question x g → AskDifferent question x (with_messages g (m ∷ rest))
  different_less_after message g x m rest were differ =
      All-weaker (λ (n : M). AsksNot question (question n) g) (λ (n : M). AsksNot question (question n) (with_messages g (m ∷ rest)))
      (λ n none. All-tail (λ (o : M). ¬ Asks question (question n) o) message (m ∷ rest) (subst (λ (ms : List M). All (λ (o : M). ¬ Asks question (question n) o) ms) were none)) x.messages differ

  own_begun : (next : ℕ) (old : List (Group M W)) (message : M) (work : W) → All (AsksNot question (question message)) old → AskOwn question old → AskOwn question (old ++ begun next message work ∷ [])
  own_begun next old message work none own =
      all_pairs_push (AskDifferent question) old (begun next message work) own
      (λ k d within. All-weaker (λ (m : M). ¬ Asks question (question message) m) (λ (m : M). AsksNot question (question m) (begun next message work))
      (λ m isnt. All-cons (λ (n : M). ¬ Asks question (question m) n) message [] (λ is. isnt (sym is)) (All-nil (λ (n : M). ¬ Asks question (question m) n)))
      (slice_index_or old k d).messages (All-get_or (AsksNot question (question message)) old k d within none))

  own_joined : (old new : List (Group M W)) (place : ℕ) (message : M) (becomes : Joined) → IsJoined most_messages old place message new becomes → AsksAt question old place (question message) → All (IsFew most_messages) old
      → AskOwn question old → AskOwn question new
  own_joined old new place message joined.Joined j asks few own =
      let g = j.0 in
      let one = one_joined old place message asks g j.1 in
      let some = (at_place (IsFew most_messages) old place g j.1 few).some in
      subst (AskOwn question) (sym j.3) (pairs_set (AskDifferent question) old place g (with_messages g (g.messages ++ message ∷ [])) j.1.within j.1.group_is
      (λ x. different_more_before message g x some one) (λ x. different_more_after message g x some one) own)
  own_joined old new place message joined.NoRoom j asks few own = subst (AskOwn question) (sym j.3) own

  own_worked : (old new : List (Group M W)) (place : ℕ) (before after : W) → IsWorked old place before after new → AskOwn question old → AskOwn question new
  own_worked old new place before after w own =
      subst (AskOwn question) (sym w.new_is) (pairs_set (AskDifferent question) old place w.group (with_work w.group after) w.at.within w.at.group_is (λ x differ. differ) (λ x differ. differ) own)

  own_left : (old new : List (Group M W)) (place : ℕ) (g : Group M W) (message : M) (others : List M) → IsAt old place g → g.messages ≡ message ∷ others → IsLeft old place g others new → AskOwn question old → AskOwn question new
  own_left old new place g message [] at were left own = subst (AskOwn question) (sym left) (all_pairs_remove (AskDifferent question) old place at.within own)
  own_left old new place g message (m ∷ rest) at were left own =
      subst (AskOwn question) (sym left) (pairs_set (AskDifferent question) old place g (with_messages g (m ∷ rest)) at.within at.group_is
      (λ x. different_less_before message g x m rest were) (λ x. different_less_after message g x m rest were) own)

  pub run_own : (next : ℕ) (first : List (Group M W)) (steps : List (GroupStep M W)) (last : List (Group M W)) → All (IsFew most_messages) first → AskOwn question first → IsGroupRun question most most_messages next first steps last
      → AskOwn question last
  run_own next first [] last few own run = subst (AskOwn question) (sym run) own
  run_own next first (begins message work ∷ steps) last few own run =
      run_own (suc next) (first ++ begun next message work ∷ []) steps last (All-push (IsFew most_messages) first (begun next message work) few (few_begun next message work)) (own_begun next first message work run.1 own) run.2
  run_own next first (joins place message becomes ∷ steps) last few own run =
      run_own next run.0 steps last (all_joined (IsFew most_messages) most_messages first run.0 place message becomes run.2 (λ g at room f. few_more message g room f) few)
      (own_joined first run.0 place message becomes run.2 run.1 few own) run.3
  run_own next first (works place before after ∷ steps) last few own run =
      run_own next run.0 steps last (all_worked (IsFew most_messages) first run.0 place before after run.1 (few_worked after) few) (own_worked first run.0 place before after run.1 own) run.2
  run_own next first (answers place message ∷ steps) last few own run =
      run_own next run.0 steps last (all_answered (IsFew most_messages) first run.0 place message run.1 (few_less message) few)
      (own_left first run.0 place run.1.group message run.1.others run.1.at run.1.messages_are run.1.left own) run.2
