use Rattle.std.proofs.Common.{◌≡◌, ◌++◌, length, drop, codes, string_bytes}
use Rattle.std.specs.List.{flat_map}
use Rattle.std.specs.Str.{chars}
use Rattle.snmpsec_config.specs.Shown.{quoted_char}
use Rattle.snmpsec_config.proofs.shown.quoted_key.Given as goal

abbrev pub invariant-loop-character : goal.invariant-loop-character
invariant-loop-character l =
    string_bytes l.text ++ flat_map quoted_char (drop (length l.yielded) (chars l.key)) ≡ codes "\"" ++ flat_map quoted_char (chars l.key)
