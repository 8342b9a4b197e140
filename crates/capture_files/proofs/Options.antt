-- One option more.
use Rattle.std.proofs.Common.{◌≡◌, ℕ, suc, true, List, subst}
use Rattle.capture_files.specs.Pcapng.{Say, SayAll, behind_option, has_option, with_option}
use Rattle.capture_files.specs.declared.field.Order.{Order}
use Rattle.capture_files.specs.declared.interface.Interface.{Interface}

pub next_option : (order : Order) (octets rest next : List ℕ) (plain i k : Interface)
    → ((n : ℕ) (j : Interface) → Say n order rest i j → SayAll order octets plain j) → has_option order rest ≡ true → next ≡ behind_option order rest
    → k ≡ with_option order rest i → (n : ℕ) (j : Interface) → Say n order next k j → SayAll order octets plain j
next_option order octets rest next plain i k up has on with' = λ n j says.
    up (suc n) j (has, subst (λ o. Say n order o (with_option order rest i) j) on (subst (λ x. Say n order next x j) with' says))
