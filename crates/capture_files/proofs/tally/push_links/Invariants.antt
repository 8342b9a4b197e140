use Rattle.std.proofs.Common.{◌≡◌, ◌++◌, map, string_bytes, take}
use Rattle.capture_files.specs.Tally.{link_parts}
use Rattle.capture_files.proofs.tally.push_links.Given as goal

abbrev pub invariant-loop-link : goal.invariant-loop-link
invariant-loop-link l = map string_bytes l.parts.items ≡ map string_bytes l.fn.parts.items ++ link_parts 0 (take l.link l.counts)
