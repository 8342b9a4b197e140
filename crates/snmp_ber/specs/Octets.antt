-- Octets are numbers below 256.
--
-- `Octets`: each number of a list is below 256. `Reading` and `Tlv`: the reading functions on lists, for
-- private contracts and the clause `exact`.
use Rattle.std.specs.Prelude.{ℕ, ◌<◌, List}
use Rattle.std.proofs.Common.{get_or}

-- Each number of the list is an octet.
abbrev pub AreOctets : List ℕ → Type 0
AreOctets octets = (i : ℕ) → get_or octets i 0 < 256
