-- Requests that are asked, many at once.
use Rattle.std.proofs.Common.{◌≡◌, ℕ, ◌≤◌, List, Err, inl, inr, ap, arith}
use Rattle.snmp_ber.specs.declared.number.TheConstants.{MAX_INTEGER32}
use Rattle.snmp_requests.specs.Outstanding.{message_id_of}
use Rattle.snmp_handles.specs.Managers.{Asking, IsOutOfRange, ManagerHeld}
use Rattle.snmp_handles.specs.Asked.{asking_of}
use Rattle.snmp_handles.specs.ManyRequests.{HasRoom, RefusesAsk, WritesAsk, with_id}
use Rattle.snmp_handles.specs.declared.manager.AskedOf.{AskedOf}
use Rattle.snmp_handles.specs.declared.fault.CallFault.{CallFault}
use Rattle.snmp_handles.specs.declared.fault.CallFault.TheVariants.{Refused, BadArgument, NothingTaken, NotAsked, BadBindings, ShortBuffer, BadConfiguration, BadClocks, TooManyRequests}

-- what is asked with the msgID of a token
pub asking_with : (of : AskedOf) (id token : ℕ) → id ≡ message_id_of token → asking_of (record of { id = id }) ≡ with_id (asking_of of) token
asking_with of id token is = ap (λ n. asking_of (record of { id = n })) is

-- the numbers are in their ranges with any msgID
pub in_range : (ask : Asking) (token : ℕ) → (IsOutOfRange ask → ⊥) → message_id_of token ≤ MAX_INTEGER32 → IsOutOfRange (with_id ask token) → ⊥
in_range ask token fits small (inl h) = fits (inl h)
in_range ask token fits small (inr (inl h)) = fits (inr (inl h))
in_range ask token fits small (inr (inr (inl h))) = fits (inr (inr (inl h)))
in_range ask token fits small (inr (inr (inr (inl h)))) = fits (inr (inr (inr (inl h))))
in_range ask token fits small (inr (inr (inr (inr (inl h))))) = omega (arith, h, small)
in_range ask token fits small (inr (inr (inr (inr (inr h))))) = fits (inr (inr (inr (inr (inr h)))))

-- a msgID is in its range
small_id : (token : ℕ) → message_id_of token ≤ MAX_INTEGER32
small_id token = omega arith

-- why it isn't written is why it isn't asked
pub refuses : (held : ManagerHeld) (now : ℕ) (ask : Asking) (token : ℕ) (list salt : List ℕ) (fault : CallFault)
    → (IsOutOfRange ask → ⊥) → HasRoom held.requests ask.id token → WritesAsk held.manager now ask token list salt (Err fault) → RefusesAsk held now ask list salt fault
refuses held now ask token list salt (Refused fault) fits room h = (fits, (token, room, inl (in_range ask token fits (small_id token), (h.0, h.1, h.2))))
refuses held now ask token list salt BadBindings fits room h = (fits, (token, room, (in_range ask token fits (small_id token), (h.0, h.1, h.2.0, h.2.1))))
refuses held now ask token list salt BadArgument fits room h = absurd h.2
refuses held now ask token list salt NothingTaken fits room h = absurd h.2
refuses held now ask token list salt NotAsked fits room h = absurd h.2
refuses held now ask token list salt ShortBuffer fits room h = absurd h.2
refuses held now ask token list salt BadConfiguration fits room h = absurd h.2
refuses held now ask token list salt BadClocks fits room h = absurd h.2
refuses held now ask token list salt TooManyRequests fits room h = absurd h.2
