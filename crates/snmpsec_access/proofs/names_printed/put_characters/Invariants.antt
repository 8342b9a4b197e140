use Rattle.std.proofs.Common.{◌≡◌, ◌++◌, length, drop}
use Rattle.std.specs.List.{flat_map}
use Rattle.std.specs.Str.{chars}
use Rattle.snmpsec_access.specs.NameText.{escaped}
use Rattle.snmpsec_access.proofs.names_printed.put_characters.Given as goal

abbrev pub invariant-loop-character : goal.invariant-loop-character
invariant-loop-character l =
    l.out.items ++ flat_map escaped (drop (length l.yielded) (chars l.text)) ≡ l.fn.out.items ++ flat_map escaped (chars l.text)
