-- What a manager may know of an engine's pair from the datagrams that it took.
--
-- `Known` and `IsLatest`. The set of an engine's pairs for which some datagram of a list is authentic, and
-- the pair that was held at the beginning: it has neither order nor moment. The latest is its greatest.
-- `KnownMark` and `IsLatestMark` are the same with moments.
use Rattle.std.specs.Prelude.{◌≡◌, ◌⊎◌, ◌↔◌, ℕ, List, map, Contains, Option, Some}
use Rattle.std.specs.Global.{Vec}
use Rattle.engine_clock.specs.Pairs.{BootsAndTime, IsGreatestOf}
use Rattle.engine_clock.specs.Marks.{SeenPair, IsGreatestMarkOf}
use Rattle.usm_users.specs.User.{User}
use Rattle.usm_core.specs.Authentic.{Authentic}

-- the same of a list as contracts see it
abbrev pub octets_of : List (ℕ × List ℕ) → List (List ℕ)
octets_of taken = map (λ t. t.1) taken

-- the datagrams of a list that has the moment of each
abbrev pub datagrams_of : List (ℕ × Vec ℕ) → List (List ℕ)
datagrams_of taken = map (λ t. t.1.items) taken

-- The pairs of the engine for which some datagram of the list is authentic, and the pair that was held at the
-- beginning. It is a set: it has neither an order nor a moment.
abbrev pub Known : List User → Option BootsAndTime → List (List ℕ) → List ℕ → BootsAndTime → Type 0
Known users begin datagrams engine pair = (begin ≡ Some pair)
    ⊎ ((w : List ℕ) × Contains datagrams w × Authentic users w engine pair)

-- the pair is the greatest that is known, or None where none is
abbrev pub IsLatest : List User → Option BootsAndTime → List (List ℕ) → List ℕ → Option BootsAndTime → Type 0
IsLatest users begin datagrams engine found = IsGreatestOf (Known users begin datagrams engine) found

-- The same with moments: the marks of the engine are the one that was held at the beginning, and the pair of
-- each authentic datagram of the list, seen at the datagram's moment.
abbrev pub KnownMark : List User → Option SeenPair → List (ℕ × List ℕ) → List ℕ → SeenPair → Type 0
KnownMark users begin taken engine mark = (begin ≡ Some mark)
    ⊎ ((w : List ℕ) × Contains taken (mark.seen, w) × Authentic users w engine mark.pair)

-- the mark is the greatest that is known, or None where none is: the greatest pair, seen at the earliest of its moments
abbrev pub IsLatestMark : List User → Option SeenPair → List (ℕ × List ℕ) → List ℕ → Option SeenPair → Type 0
IsLatestMark users begin taken engine found = IsGreatestMarkOf (KnownMark users begin taken engine) found

-- two lists have the same authentic datagrams
abbrev pub HaveSameAuthentic : List User → List (List ℕ) → List (List ℕ) → Type 0
HaveSameAuthentic users xs ys = (w engine : List ℕ) (pair : BootsAndTime) → Authentic users w engine pair
    → (Contains xs w ↔ Contains ys w)
