-- Texts that have at most so many octets.
use Rattle.std.proofs.Common.{◌≤◌, ℕ, List, length, Result, Ok}
use Rattle.snmp_message.specs.declared.refusal.Refusal.{Refusal}
use Rattle.snmp_outgoing.specs.UpTo.{UpTo, fits}

pub text_fits : (limit : ℕ) (table : Result (List ℕ) Refusal → Type 0) (text : List ℕ) → UpTo limit table (Ok text) → table (Ok text) × (length text ≤ limit)
text_fits limit table text (fits _ is short) = (is, short)
