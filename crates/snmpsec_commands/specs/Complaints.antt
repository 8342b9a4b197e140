-- Why a command stops, and what is printed of it.
--
-- `Tells`: the complaint is this line, with the words that explain it. `TellsLine`: it is this line.
-- `IsComplaint`: what is printed for a complaint.
use Rattle.std.specs.Prelude.{◌≡◌, ⊤, ℕ, List, [], ◌++◌, codes, Option, string_bytes}
use Rattle.std.specs.Prelude.{option_map}
use Rattle.snmpsec_output.specs.declared.output.Output.{Output}
use Rattle.snmpsec_commands.specs.declared.complaint.Complaint.{Complaint}
use Rattle.snmpsec_commands.specs.declared.complaint.Complaint.TheVariants.{Told, OutOfMemory}

-- the complaint is this line and these words that explain it, or memory ran out for them
abbrev pub Tells : List ℕ → Option (List ℕ) → Complaint → Type 0
Tells line why (Told told explained) = (string_bytes told ≡ line) × (option_map (λ w. string_bytes w) explained ≡ why)
Tells line why OutOfMemory = ⊤

-- the complaint is this line, or memory ran out for it
abbrev pub TellsLine : List ℕ → Complaint → Type 0
TellsLine line (Told told explained) = string_bytes told ≡ line
TellsLine line OutOfMemory = ⊤

-- what is printed for a complaint: its line on standard error, with status 2, and what explains it
abbrev pub IsComplaint : Complaint → Output → Type 0
IsComplaint (Told told explained) output = (output.out.items ≡ [])
    × (output.err.items ≡ codes "snmpsec: " ++ (string_bytes told ++ codes "\n"))
    × (output.status ≡ 2) × (output.why ≡ explained)
IsComplaint OutOfMemory output = ⊥
