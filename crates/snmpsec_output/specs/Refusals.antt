-- Refusals, as the program prints them.
use Rattle.std.specs.Prelude.{ℕ, List, ◌++◌, codes, decimal, Option, Some, None}
use Rattle.snmp_message.specs.Numbers.{refusal_number, refusal_name}
use Rattle.snmp_message.specs.declared.refused_at.RefusedAt.{RefusedAt}

-- " at PLACE", where there is one
abbrev pub place_text : Option ℕ → List ℕ
place_text (Some at) = codes " at " ++ decimal at
place_text None = codes ""

-- the line of a refusal, without its line feed: its number and name, and its place where it has one
abbrev pub refused_text : RefusedAt → List ℕ
refused_text r = codes "refused "
    ++ (decimal (refusal_number r.refusal) ++ (codes " " ++ (refusal_name r.refusal ++ place_text r.at)))

abbrev pub refused_line : RefusedAt → List ℕ
refused_line r = refused_text r ++ codes "\n"
