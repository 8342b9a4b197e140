-- Requests and the messages that ask them, over runs of steps.
use Rattle.std.specs.Prelude.{◌≡◌, ℕ, suc, ◌+◌, Bool, List, [], ◌∷◌, ◌++◌, cond, count_by, slice_set}
use Rattle.std.proofs.Common.{ap, arith}
use Rattle.std.proofs.lemmas.List.Sums.{sum_by-cons, sum_by-remove, sum_by-set, sum_by_push}
use Rattle.snmp_gate.specs.Groups.{Group, IsAnswered, IsAt, IsJoined, IsLeft, IsWorked, begun, with_messages, with_work}
use Rattle.snmp_gate.specs.GroupRuns.{GroupStep, IsGroupRun, answered_by, answers, begins, joins, taken_by, times_held, works}
use Rattle.snmp_gate.specs.declared.requests.Joined.TheVariants as joined

module _ {M W : Type 0} where
  -- how many messages of a group pass a test
  abbrev pub held : (M → Bool) → Group M W → ℕ
  held test g = count_by test g.messages

  -- a group was put into the place of another one
  held_set : (test : M → Bool) (old new : List (Group M W)) (place : ℕ) (g h : Group M W) → IsAt old place g → new ≡ slice_set old place h → times_held test new + held test g ≡ times_held test old + held test h
  held_set test old new place g h at is =
      let all = ap (times_held test) is in
      let set = sum_by-set (held test) old place h g at.within in
      let read = ap (held test) at.group_is in
      omega (arith, all, set, read)

  held_left : (test : M → Bool) (old new : List (Group M W)) (place : ℕ) (g : Group M W) (others : List M) → IsAt old place g → IsLeft old place g others new → times_held test new + held test g ≡ times_held test old + count_by test others
  held_left test old new place g [] at left =
      let all = ap (times_held test) left in
      let out = sum_by-remove (held test) old place g at.within in
      let read = ap (held test) at.group_is in
      omega (arith, all, out, read)
  held_left test old new place g (next ∷ others) at left = held_set test old new place g (with_messages g (next ∷ others)) at left

  held_answered : (test : M → Bool) (old new : List (Group M W)) (place : ℕ) (message : M) → IsAnswered old place message new → times_held test new + count_by test (message ∷ []) ≡ times_held test old
  held_answered test old new place message a =
      let left = held_left test old new place a.group a.others a.at a.left in
      let were = ap (count_by test) a.messages_are in
      let one = sum_by-cons (λ (m : M). cond (test m) 1 0) message [] in
      let more = sum_by-cons (λ (m : M). cond (test m) 1 0) message a.others in
      omega (arith, left, were, one, more)

  held_worked : (test : M → Bool) (old new : List (Group M W)) (place : ℕ) (before after : W) → IsWorked old place before after new → times_held test new ≡ times_held test old
  held_worked test old new place before after w =
      let set = held_set test old new place w.group (with_work w.group after) w.at w.new_is in
      omega (arith, set)

  held_joined : (test : M → Bool) (most : ℕ) (old new : List (Group M W)) (place : ℕ) (message : M) → IsJoined most old place message new joined.Joined → times_held test new ≡ times_held test old + count_by test (message ∷ [])
  held_joined test most old new place message j =
      let g = j.0 in
      let set = held_set test old new place g (with_messages g (g.messages ++ message ∷ [])) j.1 j.3 in
      let push = sum_by_push (λ (m : M). cond (test m) 1 0) g.messages message in
      let one = sum_by-cons (λ (m : M). cond (test m) 1 0) message [] in
      omega (arith, set, push, one)

module _ {M W Q : Type 0} (question : M → Q) (most most_messages : ℕ) where
  pub run_held : (test : M → Bool) (next : ℕ) (first : List (Group M W)) (steps : List (GroupStep M W)) (last : List (Group M W)) → IsGroupRun question most most_messages next first steps last
      → count_by test (answered_by steps) + times_held test last ≡ times_held test first + count_by test (taken_by steps)
  run_held test next first [] last run = omega (arith, ap (times_held test) run)
  run_held test next first (begins message work ∷ steps) last run =
      let rest = run_held test (suc next) (first ++ begun next message work ∷ []) steps last run.2 in
      let push = sum_by_push (held test) first (begun next message work) in
      let one = sum_by-cons (λ (m : M). cond (test m) 1 0) message [] in
      let more = sum_by-cons (λ (m : M). cond (test m) 1 0) message (taken_by steps) in
      omega (arith, rest, push, one, more)
  run_held test next first (joins place message joined.Joined ∷ steps) last run =
      let rest = run_held test next run.0 steps last run.3 in
      let step = held_joined test most_messages first run.0 place message run.2 in
      let one = sum_by-cons (λ (m : M). cond (test m) 1 0) message [] in
      let more = sum_by-cons (λ (m : M). cond (test m) 1 0) message (taken_by steps) in
      omega (arith, rest, step, one, more)
  run_held test next first (joins place message joined.NoRoom ∷ steps) last run =
      let rest = run_held test next run.0 steps last run.3 in
      omega (arith, rest, ap (times_held test) run.2.3)
  run_held test next first (works place before after ∷ steps) last run =
      let rest = run_held test next run.0 steps last run.2 in
      omega (arith, rest, held_worked test first run.0 place before after run.1)
  run_held test next first (answers place message ∷ steps) last run =
      let rest = run_held test next run.0 steps last run.2 in
      let step = held_answered test first run.0 place message run.1 in
      let one = sum_by-cons (λ (m : M). cond (test m) 1 0) message [] in
      let more = sum_by-cons (λ (m : M). cond (test m) 1 0) message (answered_by steps) in
      omega (arith, rest, step, one, more)
