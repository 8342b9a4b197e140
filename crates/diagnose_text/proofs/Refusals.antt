-- What the refusal of a datagram says that wasn't read.
use Rattle.std.proofs.Common.{IsSomeAnd, option_map}
use Rattle.snmp_message.specs.Numbers.{in_table}
use Rattle.snmp_message.specs.declared.refusal.Refusal.{Refusal}
use Rattle.snmp_message.specs.declared.refusal.Refusal.TheVariants.{OutOfMemory}
use Rattle.diagnose_judge.specs.Judging.{Judgement, unread}

-- it is the judgement
pub judged_unread : (refusal : Refusal) (P : Judgement → Type 0) → IsSomeAnd (option_map unread (in_table refusal)) P → P (unread refusal)
judged_unread OutOfMemory P h = absurd h
judged_unread refusal P h = h
