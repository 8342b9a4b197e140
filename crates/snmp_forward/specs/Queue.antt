-- Notifications that wait to be sent, in the order in which they came.
--
-- `Waiting`: one of them, with the receivers to which it is still to be sent. `after_first`: those that wait once the
-- first of them is dealt with for the first of its receivers. `IsFull`: no other may wait.
use Rattle.std.specs.Prelude.{◌≡◌, ◌⊎◌, ◌-◌, ◌^◌, ◌≤◌, ℕ, List, [], ◌∷◌, drop, length, map}
use Rattle.snmp_forward.specs.declared.queue.WaitingNotification.{WaitingNotification}
use Rattle.snmp_forward.specs.declared.queue.WaitingNotifications.{WaitingNotifications}

pub record Waiting : Type 0 where
  pub number : ℕ
  -- the number of the device from which it came
  pub device : ℕ
  -- the device's datagram
  pub datagram : List ℕ
  -- the numbers of the receivers to which it is still to be sent, in this order
  pub left : List ℕ

abbrev pub waiting : ℕ → ℕ → List ℕ → List ℕ → Waiting
waiting number device datagram left = record { number = number; device = device; datagram = datagram; left = left }

abbrev pub waiting_of : WaitingNotification → Waiting
waiting_of w = waiting w.number w.device w.datagram.items (w.receiver ∷ w.others.items)

abbrev pub waitings_of : List WaitingNotification → List Waiting
waitings_of ws = map waiting_of ws

-- a notification that is to be sent to these receivers yet, before others; it is gone where there is none
abbrev pub with_left : Waiting → List ℕ → List Waiting → List Waiting
with_left w [] ws = ws
with_left w (n ∷ ns) ws = waiting w.number w.device w.datagram (n ∷ ns) ∷ ws

abbrev pub after_first : List Waiting → List Waiting
after_first [] = []
after_first (w ∷ ws) = with_left w (drop 1 w.left) ws

-- as many wait as may, or no number is left
abbrev pub IsFull : WaitingNotifications → Type 0
IsFull q = (q.most ≤ length q.list.items) ⊎ (q.next ≡ 2 ^ 64 - 1)
