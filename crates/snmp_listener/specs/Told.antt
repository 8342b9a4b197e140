-- Notifications that were told, so that none is reported twice while it can be accepted.
--
-- `lasting`: those that can be accepted again at a moment, by the clocks of their senders. `IsNoted`: what a
-- notification is that comes, and what is remembered then. A notification is known by the digest of its datagram.
-- Moments are seconds.
use Rattle.std.specs.Prelude.{◌≡◌, ℕ, ◌+◌, ◌<◌, ◌≤◌, nat_le, nat_eq, Bool, true, not, ◌&&◌, ◌||◌, List, [], ◌∷◌, ◌++◌}
use Rattle.std.specs.Prelude.{length, min, Contains, Option, Some, None, filter}
use Rattle.std.specs.Option.{option_map}
use Rattle.snmp_ber.specs.declared.level.Level.{Level}
use Rattle.snmp_ber.specs.declared.level.Level.TheVariants.{NoAuthNoPriv, AuthNoPriv, AuthPriv}
use Rattle.engine_clock.specs.Pairs.{BootsAndTime, pair_max}
use Rattle.engine_clock.specs.Marks.{Marks, pair_at}
use Rattle.engine_clock.specs.Windows.{time_window}
use Rattle.snmp_incoming.specs.Outcome.{Given}
use Rattle.snmp_listener.specs.declared.told.ToldNote.{ToldNote}
use Rattle.snmp_listener.specs.declared.told.ToldNote.TheVariants.{New, Copy, NoRoom}
use Rattle.snmp_listener.specs.declared.told.ToldNotification.{ToldNotification}
use Rattle.snmp_listener.specs.declared.told.ToldSender.{ToldSender}
use Rattle.snmp_listener.specs.declared.told.TheConstants.{REMEMBERED}

-- the least that the notion of an engine's time can be of which this pair is held: that at the moment when it was seen
-- (RFC 3414, section 2.3)
abbrev pub least_notion : BootsAndTime → ℕ
least_notion held = min held.time pair_max

-- A message that says no later pair than `then` can be in the window of a manager that holds `held` (RFC 3414, section
-- 3.2, step 7): of an earlier boot of the sender, or of the same and not behind the window.
abbrev pub may_come : BootsAndTime → BootsAndTime → Bool
may_come then held = not (nat_le then.boots held.boots)
    || (nat_eq held.boots then.boots && nat_le (least_notion held) (then.time + time_window))

abbrev pub comes_by : BootsAndTime → Option BootsAndTime → Bool
comes_by then None = true
comes_by then (Some held) = may_come then held

abbrev pub lasts_by : ℕ → Marks → ℕ → Option ToldSender → Bool
lasts_by now clocks came None = nat_le now (came + REMEMBERED)
lasts_by now clocks came (Some sender) = comes_by sender.pair (pair_at clocks sender.engine)

-- it can be accepted again: by the clock of its sender, or if there is none, it came at most 301 seconds ago
abbrev pub lasts : ℕ → Marks → ToldNotification → Bool
lasts now clocks told = lasts_by now clocks told.came told.sender

abbrev pub lasting : ℕ → Marks → List ToldNotification → List ToldNotification
lasting now clocks told = filter (lasts now clocks) told

-- ---- a notification that comes

-- one of those that were told has this digest
abbrev pub HasDigest : List ℕ → List ToldNotification → Type 0
HasDigest digest told = (one : ToldNotification) × Contains told one × (one.digest ≡ digest)

abbrev pub told_now : ℕ → List ℕ → Option ToldSender → ToldNotification
told_now now digest sender = record { digest = digest; came = now; sender = sender }

abbrev pub told_sender : List ℕ → BootsAndTime → ToldSender
told_sender engine pair = record { engine = engine; pair = pair }

-- the sender of a message that a manager accepted, with the pair that is held of it, if the message has authentication
abbrev pub sender_at : Level → List ℕ → Marks → Option ToldSender
sender_at NoAuthNoPriv engine clocks = None
sender_at AuthNoPriv engine clocks = option_map (told_sender engine) (pair_at clocks engine)
sender_at AuthPriv engine clocks = option_map (told_sender engine) (pair_at clocks engine)

abbrev pub sender_of : Given → Marks → Option ToldSender
sender_of g clocks = sender_at g.level g.engine clocks

-- what a notification is that comes, by what was told and can come again, and what is remembered then
abbrev pub IsNotedOf : ℕ → ToldNotification → List ToldNotification → List ToldNotification → ToldNote → Type 0
IsNotedOf most one kept new New = ¬ HasDigest one.digest kept × (length kept < most) × (new ≡ kept ++ one ∷ [])
IsNotedOf most one kept new Copy = HasDigest one.digest kept × (new ≡ kept)
IsNotedOf most one kept new NoRoom = ¬ HasDigest one.digest kept × (most ≤ length kept) × (new ≡ kept)

abbrev pub IsNoted : ℕ → Marks → ℕ → ToldNotification → List ToldNotification → List ToldNotification → ToldNote
    → Type 0
IsNoted now clocks most one old new note = IsNotedOf most one (lasting now clocks old) new note
