-- Packets are records, one by one.
use Rattle.std.proofs.Common.{◌≡◌, ℕ, ◌+◌, ◌<◌, ◌≤◌, List, [], ◌∷◌, ◌++◌, length, map, take, get_or, nat_le, Option, Some, sym, ap, ◌∙◌, subst, arith}
use Rattle.std.proofs.lemmas.Bool.{le-leb}
use Rattle.std.proofs.lemmas.List.{take_more, map-append, length-map, length-take-le}
use Rattle.capture_files.specs.Items.{Record}
use Rattle.capture_files.specs.Tally.{Counts, none_passed}
use Rattle.capture_files.specs.Packet.{IsFound}
use Rattle.capture_files.specs.Packets.{packet_record}
use Rattle.capture_files.specs.Datagrams.{Printing, Sorts, WritesRecord, note_of}
use Rattle.capture_files.proofs.Logs.{sorts_more}

-- the record, where so many octets of the packet were captured
abbrev of_size : ℕ → List ℕ → ℕ → Record
of_size moment packet size = record { link = 101; moment = Some moment; packet = packet; original = size }

-- a packet is whole, however its length is reported, where that is at most its octets
pub as_packet : (P : Printing) (ports : List ℕ) (moment number size : ℕ) (packet : List ℕ) (before after : Counts) (held written untold told : Option (List ℕ)) → size ≤ length packet
    → WritesRecord P ports (of_size moment packet size) number before after held written untold told → WritesRecord P ports (packet_record moment packet) number before after held written untold told
as_packet P ports moment number size packet before after held written untold told within w =
    let whole : nat_le size (length packet) ≡ nat_le (length packet) (length packet) = le-leb size (length packet) within ∙ sym (le-leb (length packet) (length packet) (omega arith)) in
    let sorts = w.sorts in
    record {
      sorted = w.sorted;
      text = w.text;
      refused = w.refused;
      sorts = (sorts.0, subst (λ b. IsFound 101 packet b sorts.0) whole sorts.1, sorts.2);
      prints = w.prints;
      counts = w.counts;
      wrote = w.wrote;
      tells = w.tells;
    }

-- the packet at this place is written behind those before it
pub next_packet : {X : Type 0} (f : X → List ℕ) (P : Printing) (ports : List ℕ) (moment : ℕ) (packets : List X) (place : ℕ) (x : X) (log notes new_log new_notes : List ℕ) (before after : Counts)
    → place < length packets → x ≡ get_or packets place x → Sorts P ports 1 (map (packet_record moment) (map f (take place packets))) none_passed log notes before
    → WritesRecord P ports (packet_record moment (f x)) (place + 1) before after (Some log) (Some new_log) (Some notes) (Some new_notes)
    → Sorts P ports 1 (map (packet_record moment) (map f (take (place + 1) packets))) none_passed new_log new_notes after
next_packet {X} f P ports moment packets place x log notes new_log new_notes before after within at h w =
    let first = map (packet_record moment) (map f (take place packets)) in
    let mapped = length-map (map f (take place packets)) (packet_record moment) in
    let octets = length-map (take place packets) f in
    let taken = length-take-le place packets (omega (arith, within)) in
    let number : 1 + length first ≡ place + 1 = omega (arith, mapped, octets, taken) in
    let lists : map (packet_record moment) (map f (take (place + 1) packets)) ≡ first ++ packet_record moment (f x) ∷ [] =
    ap (λ (xs : List X). map (packet_record moment) (map f xs)) (take_more packets place x within ∙ ap (λ (y : X). take place packets ++ y ∷ []) (sym at))
    ∙ (ap (map (packet_record moment)) (map-append f (take place packets) (x ∷ [])) ∙ map-append (packet_record moment) (map f (take place packets)) (f x ∷ [])) in
    let wrote : new_log ≡ log ++ w.text = w.wrote in
    let tells : new_notes ≡ notes ++ note_of (place + 1) w.sorted = w.tells in
    let next = sorts_more P ports 1 first none_passed log notes before (packet_record moment (f x)) w.sorted w.text w.refused after h w.sorts w.prints w.counts in
    subst (λ rs. Sorts P ports 1 rs none_passed new_log new_notes after) (sym lists)
    (subst (λ t. Sorts P ports 1 (first ++ packet_record moment (f x) ∷ []) none_passed t new_notes after) (sym wrote)
    (subst (λ t. Sorts P ports 1 (first ++ packet_record moment (f x) ∷ []) none_passed (log ++ w.text) t after) (ap (λ k. notes ++ note_of k w.sorted) number ∙ sym tells) next))
