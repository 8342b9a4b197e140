-- What was read of a datagram down to its security parameters.
--
-- `IsLayoutOf`. The layout is the datagram's: the rows on the layout pass it, its ScopedPDU, where that isn't
-- sealed, stands at the datagram's end, and its msgAuthenticationParameters stand in the datagram.
use Rattle.std.specs.Prelude.{◌≡◌, ◌+◌, ◌≤◌, ℕ, List, take, drop, length, slice_range, IfSome, MatchOption, Ok}
use Rattle.snmp_message.specs.Message.{parts}
use Rattle.snmp_message.specs.Security.{IsCut, fields_of}
use Rattle.snmp_message.specs.Scoped.{HasScoped, HasSealed, contexts_of}
use Rattle.snmp_message.specs.Level.{level_of}
use Rattle.usm_core.specs.declared.layout.Layout.{Layout}
use Rattle.usm_core.specs.Verified.{ReadsLayout, IsReadAs}
use Rattle.usm_core.specs.Answers.{read_of}

-- The layout is what was read of this datagram.
pub record IsLayoutOf (w : List ℕ) (l : Layout) : Type 0 where
  pub rows : ReadsLayout w (Ok (read_of l))
  pub read : IsReadAs w (read_of l)
  pub level : l.level ≡ level_of l.message.header
  pub scoped : MatchOption l.scoped (HasSealed (parts l.message))
      (λ s. HasScoped w (parts l.message) (contexts_of s))
  pub place : IfSome l.scoped (λ s. s.pdu.now ≡ slice_range w s.data_at (length w))
  pub ends : IfSome l.scoped (λ s. s.data_at + length s.pdu.now ≡ length w)
  pub cut : IsCut w (parts l.message) (fields_of l.security) (take l.security.auth_at w)
      (drop (l.security.auth_at + length l.security.auth.now) w)
  pub within : l.security.auth_at + length l.security.auth.now ≤ length w
