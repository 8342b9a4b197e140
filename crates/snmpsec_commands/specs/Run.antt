-- What the program prints beside the output of a command.
--
-- `why_line why`. The line that explains a refusal, or nothing. `Finishes`: what is written of a command's output, and
-- the status of the program.
use Rattle.std.specs.Prelude.{◌≡◌, ◌⊎◌, ℕ, List, [], ◌++◌, codes, Option, Some, None, String, string_bytes}
use Rattle.std.specs.Io.KnownBytes.{Appends}
use Rattle.snmpsec_output.specs.declared.output.Output.{Output}

-- the line that explains a refusal, where something does
abbrev pub why_line : {Z : Type 0} → Option (String Z) → List ℕ
why_line (Some why) = codes "snmpsec: " ++ (string_bytes why ++ codes "\n")
why_line None = []

-- the output is written whole on standard output and standard error, which held these octets before and after, and the
-- status is its own; or a write failed, and the status is 2
abbrev pub Finishes : (out out_after err err_after : Option (List ℕ)) → Output → ℕ → Type 0
Finishes out out_after err err_after output status =
    (Appends out out_after output.out.items × Appends err err_after output.err.items × (status ≡ output.status))
    ⊎ (status ≡ 2)
