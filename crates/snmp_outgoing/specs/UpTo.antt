-- Texts that have to fit: a local constraint, or the maximum message size of the originator (RFC 3416, section 4.2).
--
-- `UpTo`. A table of texts cut at a limit: its text, where that has at most so many octets, and else
-- TooLarge; its refusals as they are.
use Rattle.snmp_message.specs.declared.refusal.Refusal.TheVariants.{TooLarge}
use Rattle.snmp_message.specs.declared.refusal.Refusal.{Refusal}
use Rattle.std.specs.Prelude.{ℕ, ◌<◌, ◌≤◌, List, length, Result, Ok, Err}

-- A table that answers with texts, cut at a limit: where its text has more octets, the answer is TooLarge,
-- and else the table's.
pub data UpTo (limit : ℕ) (table : Result (List ℕ) Refusal → Type 0) : Result (List ℕ) Refusal → Type 0 where
  fits : (text : List ℕ) → table (Ok text) → length text ≤ limit → UpTo limit table (Ok text)
  longer : (text : List ℕ) → table (Ok text) → limit < length text → UpTo limit table (Err TooLarge)
  refuses : (refusal : Refusal) → table (Err refusal) → UpTo limit table (Err refusal)
