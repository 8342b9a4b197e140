-- How many datagrams are printed, and how many packets are passed over, by reason, and what is said of these.
--
-- `IsPassedWords counts words`. The reasons that there were, each with how often, in the order of their
-- octets; the links' types each by itself.
use Rattle.std.specs.Prelude.{◌≡◌, ℕ, ◌+◌, ◌<◌, ◌==◌, ◌||◌, Bool, false, if◌then◌else◌, List, [], ◌∷◌, ◌++◌, length}
use Rattle.std.specs.Prelude.{replicate, slice_index, slice_set, codes, decimal, IsPermutation, IsSorted}
use Rattle.std.specs.Cmp.Lexicographic.{slice_cmp}
use Rattle.std.specs.Ordering.{nat_cmp}
use Rattle.std.specs.List.{join_by}
use Rattle.capture_files.specs.declared.tally.Reason.{Reason}
use Rattle.capture_files.specs.declared.tally.Reason.TheVariants as reason
use Rattle.capture_files.specs.declared.tally.Tally.{Tally}

-- How many datagrams there are, and whether what was printed of one tells a refusal; and how many records are
-- passed over, those of links by the link's type.
pub record Counts : Type 0 where
  pub datagrams : ℕ
  pub refused : Bool
  pub another_port : ℕ
  pub other_links : List ℕ
  pub not_ip : ℕ
  pub not_udp : ℕ

abbrev pub counts_of : Tally → Counts
counts_of p = record {
  datagrams = p.datagrams;
  refused = p.refused;
  another_port = p.another_port;
  other_links = p.other_links.items;
  not_ip = p.not_ip;
  not_udp = p.not_udp;
}

-- so many counts of nothing
unfoldable pub zeros : ℕ → List ℕ
zeros n = replicate n 0

abbrev pub none_passed : Counts
none_passed = record {
  datagrams = 0;
  refused = false;
  another_port = 0;
  other_links = zeros 65536;
  not_ip = 0;
  not_udp = 0;
}

-- one datagram more, of which what was printed tells a refusal or doesn't
abbrev pub one_printed : Counts → Bool → Counts
one_printed c refused = record c { datagrams = c.datagrams + 1; refused = c.refused || refused }

-- one more for a reason
abbrev pub one_more : Counts → Reason → Counts
one_more c reason.AnotherPort = record c { another_port = c.another_port + 1 }
one_more c (reason.OtherLink link) = record c
    { other_links = slice_set c.other_links link (slice_index c.other_links link + 1) }
one_more c reason.NotIp = record c { not_ip = c.not_ip + 1 }
one_more c reason.NotUdp = record c { not_udp = c.not_udp + 1 }

-- each count is below n
pub record IsBelow (c : Counts) (n : ℕ) : Type 0 where
  pub datagrams : c.datagrams < n
  pub another_port : c.another_port < n
  pub other_links : (link : ℕ) → slice_index c.other_links link < n
  pub links : length c.other_links ≡ 65536
  pub not_ip : c.not_ip < n
  pub not_udp : c.not_udp < n

-- ---- the words

abbrev pub link_word : ℕ → List ℕ
link_word link = codes "link type " ++ decimal link

-- a reason and how often it was met; nothing where it wasn't
abbrev pub count_part : List ℕ → ℕ → List (List ℕ)
count_part word count = if count == 0 then [] else (word ++ (codes " " ++ decimal count)) ∷ []

-- the links from this type on
abbrev pub link_parts : ℕ → List ℕ → List (List ℕ)
link_parts link [] = []
link_parts link (count ∷ counts) = count_part (link_word link) count ++ link_parts (link + 1) counts

abbrev pub passed_parts : Counts → List (List ℕ)
passed_parts c =
    count_part (codes "another port") c.another_port
    ++ (link_parts 0 c.other_links ++ (count_part (codes "not IP") c.not_ip ++ count_part (codes "not UDP") c.not_udp))

-- The reasons that there were, in the order of their octets, with a comma and a blank between each two.
pub record IsPassedWords (c : Counts) (words : List ℕ) : Type 0 where
  pub parts : List (List ℕ)
  pub same : IsPermutation (passed_parts c) parts
  pub sorted : IsSorted (slice_cmp nat_cmp) parts
  pub is : words ≡ join_by (λ part. part) (codes ", ") parts
