-- What a capture is read as: records, and what the code says of them.
use Rattle.std.specs.Prelude.{ℕ, List, Option, take, drop}
use Rattle.capture_files.specs.declared.item.Head.{Head}

-- A packet, the type of the link on which it was captured, the second of that, if it is known, and how many
-- octets it had then.
pub record Record : Type 0 where
  pub link : ℕ
  pub moment : Option ℕ
  pub packet : List ℕ
  pub original : ℕ

-- the record that a head tells, where the packet stands in these octets
abbrev pub record_of : Head → List ℕ → Record
record_of h room = record {
  link = h.link;
  moment = h.moment;
  packet = take h.size (drop h.at room);
  original = h.original;
}
