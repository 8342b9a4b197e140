-- What a device is asked, over runs of steps.
use Rattle.std.specs.Prelude.{◌≡◌, ◌≢◌, ℕ, ◌+◌, ◌≤◌, List, [], ◌∷◌, ◌++◌, length, cond, slice_index_or}
use Rattle.std.proofs.Common.{sym, ap, subst, arith}
use Rattle.std.proofs.lemmas.List.{length_push}
use Rattle.std.proofs.lemmas.List.Edits.{length-remove}
use Rattle.std.proofs.lemmas.List.Elements.{Contains-get_or}
use Rattle.std.proofs.lemmas.List.Quantifiers.{all_pairs_push, all_pairs_remove}
use Rattle.std.proofs.lemmas.List.Sums.{sum_by-remove, sum_by_push}
use Rattle.snmp_gate.specs.AskRuns.{AskStep, HaveOwnIds, IsAskRun, asks, ends, is_ask, times_asked, times_ended, times_waiting}
use Rattle.snmp_gate.specs.Asks.{Ends, IsNextFree, ask_of}
use Rattle.snmp_gate.specs.declared.asks.DeviceAsk.{DeviceAsk}

-- a free request-id is no ask's
pub own_asked : (all : List DeviceAsk) (id request free : ℕ) → IsNextFree all id free → HaveOwnIds all → HaveOwnIds (all ++ ask_of free request ∷ [])
own_asked all id request free is own =
    all_pairs_push (λ (a b : DeviceAsk). a.id ≢ b.id) all (ask_of free request) own
    (λ k d within same. is.is_free (record { ask = slice_index_or all k d; there = Contains-get_or all k d within; id_is = same }))

pub own_ended : (first second : List DeviceAsk) (ask : DeviceAsk) → Ends first ask second → HaveOwnIds first → HaveOwnIds second
own_ended first second ask ended own = subst HaveOwnIds (sym ended.new_is) (all_pairs_remove (λ (a b : DeviceAsk). a.id ≢ b.id) first ended.place ended.within own)

pub run_own : (at_once : ℕ) (steps : List AskStep) (first last : List DeviceAsk) → HaveOwnIds first → IsAskRun at_once first steps last → HaveOwnIds last
run_own at_once [] first last own run = subst HaveOwnIds (sym run) own
run_own at_once (asks id request free ∷ steps) first last own run = run_own at_once steps (first ++ ask_of free request ∷ []) last (own_asked first id request free run.1 own) run.2
run_own at_once (ends id request ∷ steps) first last own run = run_own at_once steps run.0 last (own_ended first run.0 (ask_of id request) run.1 own) run.2

pub run_few : (at_once : ℕ) (steps : List AskStep) (first last : List DeviceAsk) → length first ≤ at_once → IsAskRun at_once first steps last → length last ≤ at_once
run_few at_once [] first last few run = omega (arith, ap (λ (all : List DeviceAsk). length all) run)
run_few at_once (asks id request free ∷ steps) first last few run = run_few at_once steps (first ++ ask_of free request ∷ []) last (omega (arith, length_push first (ask_of free request), run.0)) run.2
run_few at_once (ends id request ∷ steps) first last few run =
    run_few at_once steps run.0 last (omega (arith, ap (λ (all : List DeviceAsk). length all) run.1.new_is, length-remove first run.1.place run.1.within)) run.2

-- 1 for such an ask
abbrev waiting_one : ℕ → ℕ → DeviceAsk → ℕ
waiting_one id request ask = cond (is_ask id request ask) 1 0

-- the ask that ends waited
ended_waited : (id request : ℕ) (first second : List DeviceAsk) (ask : DeviceAsk) → Ends first ask second → times_waiting id request second + waiting_one id request ask ≡ times_waiting id request first
ended_waited id request first second ask ended =
    let one = waiting_one id request in
    let out = sum_by-remove one first ended.place ask ended.within in
    let rest = ap (times_waiting id request) ended.new_is in
    let is = ap one ended.ask_is in
    omega (arith, out, rest, is)

pub run_once : (at_once id request : ℕ) (steps : List AskStep) (first last : List DeviceAsk) → IsAskRun at_once first steps last
    → times_ended id request steps + times_waiting id request last ≡ times_waiting id request first + times_asked id request steps
run_once at_once id request [] first last run = omega (arith, ap (times_waiting id request) run)
run_once at_once id request (asks from other free ∷ steps) first last run =
    let rest = run_once at_once id request steps (first ++ ask_of free other ∷ []) last run.2 in
    let push = sum_by_push (waiting_one id request) first (ask_of free other) in
    omega (arith, rest, push)
run_once at_once id request (ends free other ∷ steps) first last run =
    let rest = run_once at_once id request steps run.0 last run.2 in
    omega (arith, rest, ended_waited id request first run.0 (ask_of free other) run.1)
