-- Where the first line of a text ends.
use Rattle.std.specs.Prelude.{◌≡◌, ◌≤◌, ℕ, List, length}
use Rattle.std.proofs.Common.{sym, subst, ◌∙◌, inl, inr}
use Rattle.snmp_ber.specs.Splits.{IsSplit, Lacks}
use Rattle.snmp_ber.proofs.Cuts.{cut_is, no_cut}
use Rattle.capture_datagrams.specs.Logs.{AreHexDigits, BeginsLog, IsFirstLine, IsMoment}

-- A text has one first line.
pub one_first_line : (text a b : List ℕ) → IsFirstLine text a → IsFirstLine text b → a ≡ b
one_first_line text a b x y = elim x [
  | inl s ↦ elim y [
    | inl r ↦ (cut_is 10 text a s.0 b r.0 s.1 r.1.parts r.1.first).0
    | inr r ↦ absurd (no_cut 10 text a s.0 r.0 s.1.parts)
  ]
  | inr s ↦ elim y [
    | inl r ↦ absurd (no_cut 10 text b r.0 s.0 r.1.parts)
    | inr r ↦ s.1 ∙ sym r.1
  ]
]

-- A file that begins as a log begins with a moment, up to its first blank.
pub log_moment : (front moment rest : List ℕ) → IsSplit 32 front moment rest → BeginsLog front → IsMoment moment
log_moment front moment rest cut log =
    let same = cut_is 32 front moment rest log.moment log.rest cut log.split.parts log.split.first in
    subst IsMoment (sym same.0) log.is_moment

-- Behind the blank its first line is pairs of hex digits.
pub log_pairs : (front moment rest digits : List ℕ) → IsSplit 32 front moment rest → IsFirstLine rest digits → BeginsLog front
    → (2 ≤ length digits) × AreHexDigits digits
log_pairs front moment rest digits cut line log =
    let same = cut_is 32 front moment rest log.moment log.rest cut log.split.parts log.split.first in
    let one = one_first_line rest digits log.digits line (subst (λ (r : List ℕ). IsFirstLine r log.digits) (sym same.1) log.line) in (
      subst (λ (d : List ℕ). 2 ≤ length d) (sym one) log.pair,
      subst AreHexDigits (sym one) log.are_digits,
    )

-- A text without a blank begins no log.
pub no_log : (front : List ℕ) → Lacks 32 front → BeginsLog front → ⊥
no_log front lacks log = no_cut 32 front log.moment log.rest lacks log.split.parts
