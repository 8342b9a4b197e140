-- The values of counters.
use Rattle.std.proofs.Common.{◌≡◌, ℕ, Option, Some, None, refl}
use Rattle.snmp_ber.specs.Number.{IsUnsigned}
use Rattle.snmp_msg.specs.Variables.{Variable}
use Rattle.snmp_manager.specs.Replies.{IsCount}

pub count_is : (v : Variable) (read : Option ℕ) → v.tag ≡ 65 → ((n : ℕ) → (read ≡ Some n → IsUnsigned 4 n v.content) × (IsUnsigned 4 n v.content → read ≡ Some n)) → IsCount v read
count_is v None tag exact = λ t n u. absurd (cc ((exact n).1 u))
count_is v (Some n) tag exact = (tag, (exact n).0 refl)
