use Rattle.std.proofs.Common.{◌≡◌, ◌<◌, ◌^◌, decimal, map, take}
use Rattle.std.specs.List.{All}
use Rattle.capture_datagrams.proofs.datagrams.ports_of.Given as goal

abbrev pub invariant-loop-word : goal.invariant-loop-word
invariant-loop-word l = record {
  texts : map decimal l.ports.items ≡ map (λ word. word.now) (take l.word-index l.words);
  fit : All (λ port. port < 2 ^ 16) l.ports.items;
}
