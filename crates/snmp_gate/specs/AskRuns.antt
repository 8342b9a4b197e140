-- What a device is asked, over any run of steps.
--
-- `IsAskRun`: the steps lead from some asks to others. `times_asked`, `times_ended`: how often the device was asked
-- with a request-id for a request, and how often that was answered or given up. `times_waiting`: how often it waits.
use Rattle.std.specs.Prelude.{◌≡◌, ◌≢◌, ℕ, ◌+◌, ◌<◌, nat_eq, Bool, ◌&&◌, cond, List, [], ◌∷◌, ◌++◌, length}
use Rattle.std.specs.Prelude.{AllPairs, count_by}
use Rattle.snmp_gate.specs.Asks.{Ends, IsNextFree, ask_of}
use Rattle.snmp_gate.specs.declared.asks.DeviceAsk.{DeviceAsk}

-- the device is asked with a request-id for a request, `id` or the next free one; or such an ask ends
pub data AskStep : Type 0 where
  asks : (id request free : ℕ) → AskStep
  ends : (id request : ℕ) → AskStep

abbrev pub IsAskRun : ℕ → List DeviceAsk → List AskStep → List DeviceAsk → Type 0
IsAskRun at_once first [] last = last ≡ first
IsAskRun at_once first (asks id request free ∷ steps) last = (length first < at_once) × IsNextFree first id free
    × IsAskRun at_once (first ++ ask_of free request ∷ []) steps last
IsAskRun at_once first (ends id request ∷ steps) last = (second : List DeviceAsk)
    × Ends first (ask_of id request) second × IsAskRun at_once second steps last

-- no two asks have one request-id
abbrev pub HaveOwnIds : List DeviceAsk → Type 0
HaveOwnIds all = AllPairs (λ (a b : DeviceAsk). a.id ≢ b.id) all

-- it has this request-id, and is for this request
abbrev pub is_ask : ℕ → ℕ → DeviceAsk → Bool
is_ask id request ask = nat_eq ask.id id && nat_eq ask.request request

abbrev pub times_waiting : ℕ → ℕ → List DeviceAsk → ℕ
times_waiting id request all = count_by (is_ask id request) all

abbrev pub times_asked : ℕ → ℕ → List AskStep → ℕ
times_asked id request [] = 0
times_asked id request (asks from other free ∷ steps) = cond (is_ask id request (ask_of free other)) 1 0
    + times_asked id request steps
times_asked id request (ends free other ∷ steps) = times_asked id request steps

abbrev pub times_ended : ℕ → ℕ → List AskStep → ℕ
times_ended id request [] = 0
times_ended id request (asks from other free ∷ steps) = times_ended id request steps
times_ended id request (ends free other ∷ steps) = cond (is_ask id request (ask_of free other)) 1 0
    + times_ended id request steps
