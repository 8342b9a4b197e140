-- The counts of what is passed over, one more.
use Rattle.std.proofs.Common.{◌≡◌, ◌⊎◌, ℕ, ◌+◌, ◌<◌, ◌≤◌, Bool, List, length, Option, Some, None, slice_index, slice_set, replicate, sym, ap, ◌∙◌, arith, subst, inl, inr}
use Rattle.std.proofs.lemmas.Bool.{cases_eq, cases_lt}
use Rattle.std.proofs.lemmas.List.{get_or-set_same, get_or-set_other, get_or_past, get_or-replicate, set_past, length-set, length-replicate}
use Rattle.capture_files.specs.Tally.{Counts, IsBelow, none_passed, zeros}
use Rattle.capture_files.specs.Items.{Record}
use Rattle.capture_files.specs.Datagrams.{Printing, WritesItem, count_of}
use Rattle.capture_files.specs.declared.datagrams.Sorted.{Sorted}
use Rattle.capture_files.specs.declared.datagrams.Sorted.TheVariants.{Logged, Told, Counted}
use Rattle.capture_files.specs.declared.tally.Reason.TheVariants as reason

below_on : (c : Counts) (n : ℕ) → IsBelow c n → IsBelow c (n + 1)
below_on c n b =
    let d = b.datagrams in let a = b.another_port in let i = b.not_ip in let u = b.not_udp in
    record {
      datagrams = omega (arith, d);
      another_port = omega (arith, a);
      other_links = λ link. let l = b.other_links link in omega (arith, l);
      links = b.links;
      not_ip = omega (arith, i);
      not_udp = omega (arith, u);
    }

set_within : (xs : List ℕ) (at n k : ℕ) → ((link : ℕ) → slice_index xs link < n) → at < length xs → (k ≡ at) ⊎ (k ≡ at → ⊥)
    → slice_index (slice_set xs at (slice_index xs at + 1)) k < n + 1
set_within xs at n k below within (inl e) =
    let same : slice_index (slice_set xs at (slice_index xs at + 1)) k ≡ slice_index xs at + 1 =
    ap (slice_index (slice_set xs at (slice_index xs at + 1))) e ∙ get_or-set_same xs at (slice_index xs at + 1) 0 within in
    let b = below at in omega (arith, same, b)
set_within xs at n k below within (inr d) =
    let same : slice_index (slice_set xs at (slice_index xs at + 1)) k ≡ slice_index xs k = get_or-set_other xs at k (slice_index xs at + 1) 0 d in
    let b = below k in omega (arith, same, b)

set_below : (xs : List ℕ) (at n k : ℕ) → ((link : ℕ) → slice_index xs link < n) → (at < length xs) ⊎ (length xs ≤ at)
    → slice_index (slice_set xs at (slice_index xs at + 1)) k < n + 1
set_below xs at n k below (inl within) = set_within xs at n k below within (cases_eq k at)
set_below xs at n k below (inr past) =
    let same : slice_index (slice_set xs at (slice_index xs at + 1)) k ≡ slice_index xs k = ap (λ ys. slice_index ys k) (set_past xs at (slice_index xs at + 1) past) in
    let b = below k in omega (arith, same, b)

below_more : (c : Counts) (n : ℕ) (s : Sorted) (refused : Bool) → IsBelow c n → IsBelow (count_of s refused c) (n + 1)
below_more c n (Logged moment datagram) refused b =
    let on = below_on c n b in let d = b.datagrams in
    record { datagrams = omega (arith, d); another_port = on.another_port; other_links = on.other_links; links = on.links; not_ip = on.not_ip; not_udp = on.not_udp }
below_more c n (Told why) refused b = below_on c n b
below_more c n (Counted reason.AnotherPort) refused b =
    let on = below_on c n b in let a = b.another_port in
    record { datagrams = on.datagrams; another_port = omega (arith, a); other_links = on.other_links; links = on.links; not_ip = on.not_ip; not_udp = on.not_udp }
below_more c n (Counted (reason.OtherLink link)) refused b =
    let on = below_on c n b in
    record {
      datagrams = on.datagrams;
      another_port = on.another_port;
      other_links = λ k. set_below c.other_links link n k b.other_links (cases_lt link (length c.other_links));
      links = length-set c.other_links link (slice_index c.other_links link + 1) ∙ b.links;
      not_ip = on.not_ip;
      not_udp = on.not_udp;
    }
below_more c n (Counted reason.NotIp) refused b =
    let on = below_on c n b in let i = b.not_ip in
    record { datagrams = on.datagrams; another_port = on.another_port; other_links = on.other_links; links = on.links; not_ip = omega (arith, i); not_udp = on.not_udp }
below_more c n (Counted reason.NotUdp) refused b =
    let on = below_on c n b in let u = b.not_udp in
    record { datagrams = on.datagrams; another_port = on.another_port; other_links = on.other_links; links = on.links; not_ip = on.not_ip; not_udp = omega (arith, u) }

-- what is below the number of the next record stays below that
pub below_next : (P : Printing) (ports : List ℕ) (x : Option Record) (n next : ℕ) (before after : Counts) (held written untold told : Option (List ℕ))
    → WritesItem P ports x n next before after held written untold told → IsBelow before n → IsBelow after next
below_next P ports None n next before after held written untold told (number, same, kept, quiet) b = subst (λ c. IsBelow c next) (sym same) (subst (IsBelow before) (sym number) b)
below_next P ports (Some r) n next before after held written untold told (number, wr) b =
    subst (λ c. IsBelow c next) (sym wr.counts) (subst (IsBelow (count_of wr.sorted wr.refused before)) (sym number) (below_more before n wr.sorted wr.refused b))

pub below_most : (c : Counts) (n m : ℕ) → IsBelow c n → n ≤ m → IsBelow c m
below_most c n m b h =
    let d = b.datagrams in let a = b.another_port in let i = b.not_ip in let u = b.not_udp in
    record {
      datagrams = omega (arith, d, h);
      another_port = omega (arith, a, h);
      other_links = λ link. let l = b.other_links link in omega (arith, l, h);
      links = b.links;
      not_ip = omega (arith, i, h);
      not_udp = omega (arith, u, h);
    }

none_at : (n k : ℕ) → (k < n) ⊎ (n ≤ k) → slice_index (replicate n 0) k ≡ 0
none_at n k (inl within) = get_or-replicate n k 0 0 within
none_at n k (inr past) =
    let long : length (replicate {A = ℕ} n 0) ≡ n = length-replicate n 0 in get_or_past (replicate n 0) k 0 (omega (arith, long, past))

zero_at : (n k : ℕ) → slice_index (zeros n) k ≡ 0
unfolding zeros
zero_at n k = none_at n k (cases_lt k n)

zeros_long : (n : ℕ) → length (zeros n) ≡ n
unfolding zeros
zeros_long n = length-replicate {A = ℕ} n 0

pub starts_below : (c : Counts) → c ≡ none_passed → IsBelow c 1
starts_below c none =
    subst (λ d. IsBelow d 1) (sym none) (record {
      datagrams = omega arith;
      another_port = omega arith;
      other_links = λ link. let z = zero_at 65536 link in omega (arith, z);
      links = zeros_long 65536;
      not_ip = omega arith;
      not_udp = omega arith;
    })
