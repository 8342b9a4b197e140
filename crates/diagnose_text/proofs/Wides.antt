-- Numbers of 64 bits without sign.
use Rattle.std.proofs.Common.{◌≡◌, ◌∙◌, ◌+◌, ◌*◌, ◌^◌, ◌<◌, ◌≤◌, ℕ, zero, suc, List, [], ◌∷◌, length, take, get_or, fold, Option, Some, None, MatchOption, ap, sym, subst, arith}
use Rattle.snmp_ber.specs.Number.{IsUnsigned, number}
use Rattle.snmp_ber.specs.Octets.{AreOctets}
use Rattle.snmp_ber.proofs.Unsigned.{unsigned_only}

grows : (start : ℕ) (octets : List ℕ) → start ≤ fold (λ high octet. 256 * high + octet) start octets
grows start [] = omega arith
grows start (octet ∷ octets) = omega (arith, grows (256 * start + octet) octets)

at_least_from : (start : ℕ) (octets : List ℕ) (i : ℕ) → i < length octets
    → 256 * fold (λ high octet. 256 * high + octet) start (take i octets) + get_or octets i 0 ≤ fold (λ high octet. 256 * high + octet) start octets
at_least_from start [] i within = absurd (omega (arith, within))
at_least_from start (octet ∷ octets) zero within = grows (256 * start + octet) octets
at_least_from start (octet ∷ octets) (suc i) within = at_least_from (256 * start + octet) octets i (omega (arith, within))

-- a number is at least that of the first of its digits, and of the next one
pub at_least : (octets : List ℕ) (i : ℕ) → i < length octets → 256 * number (take i octets) + get_or octets i 0 ≤ number octets
at_least octets i within = at_least_from 0 octets i within

-- what is read of octets that spell a number is this number
pub wide_reads : (r : Option ℕ) (content : List ℕ) → AreOctets content → MatchOption r (2 ^ 64 ≤ number content) (λ n. number content ≡ n) → (m : ℕ) × IsUnsigned 8 m content
    → (n : ℕ) → (r ≡ Some n → IsUnsigned 8 n content) × (IsUnsigned 8 n content → r ≡ Some n)
wide_reads None content octets h held n = (λ is. absurd (cc is), λ spells. absurd (omega (arith, h, spells.below, (unsigned_only 8 n content octets spells).3)))
wide_reads (Some k) content octets h held n = (
  λ is. subst (λ x. IsUnsigned 8 x content) (sym (unsigned_only 8 held.0 content octets held.1).3 ∙ h ∙ cc is) held.1,
  λ spells. ap Some (sym h ∙ (unsigned_only 8 n content octets spells).3),
)

-- the digits so far are of a number above all of 64 bits with the next digit
pub too_large : (r : Option ℕ) (content : List ℕ) (i high : ℕ) → r ≡ None → i < length content → high ≡ number (take i content) → 2 ^ 64 ≤ 256 * high + get_or content i 0
    → MatchOption r (2 ^ 64 ≤ number content) (λ n. number content ≡ n)
too_large r content i high none within so_far large =
    subst (λ r. MatchOption r (2 ^ 64 ≤ number content) (λ n. number content ≡ n)) (sym none) (omega (arith, large, at_least content i within, ap (λ n. 256 * n) so_far))
