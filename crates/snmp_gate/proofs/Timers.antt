-- Requests in time.
use Rattle.std.specs.Prelude.{◌≡◌, ◌⊎◌, ℕ, ◌+◌, ◌*◌, ◌<◌, ◌≤◌, List, [], ◌∷◌, ◌^◌, length, max}
use Rattle.std.proofs.Common.{refl, sym, ap, subst, ◌∙◌, inl, inr, arith}
use Rattle.std.proofs.Math.Nat.{mul-le-mul_right}
use Rattle.std.proofs.lemmas.Bool.Decides.{leb_tells}
use Rattle.snmp_gate.specs.Time.{AreAsks, IsAnswered, IsAsked, IsAskTurn, IsDue, IsTimed, TimerStep, answers, asks, once_more, times_asked, turn_ends}
use Rattle.snmp_gate.specs.declared.retries.Retries.{Retries}
use Rattle.snmp_gate.specs.declared.timer.Due.TheVariants.{GiveUp}
use Rattle.snmp_gate.specs.declared.timer.Timer.{Timer}
use Rattle.snmp_gate.specs.declared.timer.Turn.{Turn}
use Rattle.snmp_gate.specs.declared.timer.Turn.TheVariants.{Asked, ToAsk}

-- what is known of whose turn it is, since the request came
abbrev pub TurnStands : Retries → ℕ → Turn → Type 0
TurnStands r began ToAsk = Unit {0}
TurnStands r began (Asked at times) = (at < began + r.last) × (began + times * r.again ≤ at + r.again)

abbrev pub Stands : Retries → ℕ → Timer → Type 0
Stands r began t = (t.began ≡ began) × TurnStands r began t.turn

-- one try more
tried : (r : Retries) (times : ℕ) → once_more times * r.again ≤ times * r.again + r.again
tried r times =
    let most : once_more times ≤ times + 1 = omega arith in
    omega (arith, mul-le-mul_right r.again most)

asked_turn : (r : Retries) (t : Timer) (now began : ℕ) (turn : Turn) → t.began ≡ began → began ≤ now → t.turn ≡ turn → IsAskTurn r t now turn → TurnStands r began turn
    → TurnStands r began (Asked now (once_more (times_asked turn)))
asked_turn r t now began ToAsk is later turn_is may stands =
    let due : now < t.began + r.last = subst (λ (u : Turn). now < turn_ends r t.began u) turn_is may in
    (omega (arith, due, is), omega (arith, tried r 0, later))
asked_turn r t now began (Asked at times) is later turn_is may stands =
    let due : at + r.again ≤ now = subst (λ (u : Turn). turn_ends r t.began u ≤ now) turn_is may.0 in
    (omega (arith, may.1.early, is), omega (arith, tried r times, due, stands.1))

after_asking : (r : Retries) (began : ℕ) (old new : Timer) (now : ℕ) → IsAsked r old now new → Stands r began old → Stands r began new
after_asking r began old new now asked stands = (
  asked.began ∙ stands.0,
  subst (λ (u : Turn). TurnStands r began u) (sym asked.turn)
      (asked_turn r old now began old.turn stands.0 (omega (arith, asked.later, stands.0)) refl asked.may stands.1),
)

after_answering : (r : Retries) (began : ℕ) (old new : Timer) → IsAnswered old new → Stands r began old → Stands r began new
after_answering r began old new answered stands = (
  answered.began ∙ stands.0,
  subst (λ (u : Turn). TurnStands r began u) (sym answered.turn) tt,
)

run_stands : (r : Retries) (began : ℕ) (steps : List TimerStep) (first last : Timer) → Stands r began first → IsTimed r first steps last → Stands r began last
run_stands r began [] first last stands run = subst (Stands r began) (sym run) stands
run_stands r began (asks now ∷ steps) first last stands run = run_stands r began steps run.0 last (after_asking r began first run.0 now run.1 stands) run.2
run_stands r began (answers ∷ steps) first last stands run = run_stands r began steps run.0 last (after_answering r began first run.0 run.1 stands) run.2

-- a request that has just come
comes : (r : Retries) (first : Timer) → first.turn ≡ ToAsk → Stands r first.began first
comes r first is = (refl, subst (λ (u : Turn). TurnStands r first.began u) (sym is) tt)

late_turn : (r : Retries) (began now : ℕ) (turn : Turn) → TurnStands r began turn → began + r.last + r.again ≤ now → turn_ends r began turn ≤ now
late_turn r began now ToAsk stands late = omega arith
late_turn r began now (Asked at times) stands late = omega (arith, stands.0)

pub ends_in_time : (r : Retries) (steps : List TimerStep) (first last : Timer) (now : ℕ) → first.turn ≡ ToAsk → IsTimed r first steps last → first.began + r.last + r.again ≤ now → IsDue r last now GiveUp
ends_in_time r steps first last now is run late =
    let stands = run_stands r first.began steps first last (comes r first is) run in (
      subst (λ (b : ℕ). turn_ends r b last.turn ≤ now) (sym stands.0) (late_turn r first.began now last.turn stands.1 late),
      λ may. omega (arith, may.early, stands.0, late),
    )

given_up_turn : (r : Retries) (t : Timer) (began now : ℕ) (turn : Turn) → t.began ≡ began → t.turn ≡ turn → TurnStands r began turn → IsDue r t now GiveUp
    → (began + r.last ≤ now) ⊎ (began + r.tries * r.again ≤ now)
given_up_turn r t began now ToAsk is turn_is stands due =
    let ends : t.began + r.last ≤ now = subst (λ (u : Turn). turn_ends r t.began u ≤ now) turn_is due.0 in
    inl (omega (arith, ends, is))
given_up_turn r t began now (Asked at times) is turn_is stands due =
    let ends : at + r.again ≤ now = subst (λ (u : Turn). turn_ends r t.began u ≤ now) turn_is due.0 in
    elim (leb_tells (began + r.last) now) [
      | inl late ↦ inl late.1
      | inr soon ↦ elim (leb_tells r.tries times) [
        | inl all ↦ inr (omega (arith, mul-le-mul_right r.again all.1, ends, stands.1))
        | inr left ↦ absurd (due.1 (record { tries = omega (arith, left.1, ap times_asked turn_is); early = omega (arith, soon.1, is) }))
      ]
    ]

pub ends_not_before : (r : Retries) (steps : List TimerStep) (first last : Timer) (now : ℕ) → first.turn ≡ ToAsk → IsTimed r first steps last → IsDue r last now GiveUp
    → (first.began + r.last ≤ now) ⊎ (first.began + r.tries * r.again ≤ now)
ends_not_before r steps first last now is run due =
    let stands = run_stands r first.began steps first last (comes r first is) run in
    given_up_turn r last first.began now last.turn stands.0 refl stands.1 due

-- one try more is counted, and is one that may be
asked_more : (r : Retries) (t : Timer) (now : ℕ) (turn : Turn) → r.tries < 2 ^ 32 → t.turn ≡ turn → IsAskTurn r t now turn → (once_more (times_asked turn) ≡ times_asked turn + 1) × (times_asked turn + 1 ≤ max 1 r.tries)
asked_more r t now ToAsk small turn_is may = (omega arith, omega arith)
asked_more r t now (Asked at times) small turn_is may =
    let tries : times < r.tries = omega (arith, may.1.tries, ap times_asked turn_is) in
    (omega (arith, tries, small), omega (arith, tries))

run_tries : (r : Retries) (steps : List TimerStep) (first last : Timer) → r.tries < 2 ^ 32 → times_asked first.turn ≤ max 1 r.tries → AreAsks steps → IsTimed r first steps last → times_asked first.turn + length steps ≤ max 1 r.tries
run_tries r [] first last small few are run = omega (arith, few)
run_tries r (asks now ∷ steps) first last small few are run =
    let more = asked_more r first now first.turn small refl run.1.may in
    let is = ap times_asked run.1.turn in
    let rest = run_tries r steps run.0 last small (omega (arith, is, more)) are run.2 in
    omega (arith, rest, is, more)
run_tries r (answers ∷ steps) first last small few are run = absurd are

pub tries_at_most : (r : Retries) (steps : List TimerStep) (first last : Timer) → r.tries < 2 ^ 32 → first.turn ≡ ToAsk → AreAsks steps → IsTimed r first steps last → length steps ≤ max 1 r.tries
tries_at_most r steps first last small is are run =
    let none : times_asked first.turn ≡ 0 = ap times_asked is in
    omega (arith, run_tries r steps first last small (omega (arith, none)) are run, none)
