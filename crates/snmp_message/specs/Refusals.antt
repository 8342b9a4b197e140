-- Why octets are refused: for each call the refusals that it answers, each with its cause.
--
-- For each reading call, which refusal comes when. Each case says the refusal's cause, and the refusals that
-- the call doesn't answer are impossible.
use Rattle.std.specs.Prelude.{◌≡◌, ◌⊎◌, ℕ, List, Result, Ok, Err}
use Rattle.snmp_message.specs.declared.refusal.Refusal.{Refusal}
use Rattle.snmp_message.specs.declared.refusal.Refusal.TheVariants.{NotMessage, BadVersion, NotSecurity, NotScoped}
use Rattle.snmp_message.specs.declared.refusal.Refusal.TheVariants.{OutOfMemory, TooLarge}
use Rattle.snmp_message.specs.declared.refused_at.RefusedAt.{RefusedAt}
use Rattle.snmp_message.specs.Layout.{Parts, Outer, WrongVersion}
use Rattle.snmp_message.specs.Security.{Fields, SecText}
use Rattle.snmp_message.specs.Scoped.{Contexts, HasScoped, HasSealed, ScopedFront}

-- The result is this refusal, at whatever place.
abbrev pub IsRefused : {T : Type 0} → Result T RefusedAt → Refusal → Type 0
IsRefused (Ok x) refusal = ⊥
IsRefused (Err e) refusal = e.refusal ≡ refusal

-- A call that writes answers no other refusals than these.
abbrev pub IsWriteRefusal : Refusal → Type 0
IsWriteRefusal refusal = (refusal ≡ TooLarge) ⊎ (refusal ≡ OutOfMemory)

-- The refusal is why the text has no outer layout.
abbrev pub RefusesOuter : List ℕ → Refusal → Type 0
RefusesOuter w BadVersion = WrongVersion w
RefusesOuter w NotMessage = (WrongVersion w → ⊥) × ((m : Parts) → Outer w m → ⊥)
RefusesOuter w _ = ⊥

-- The refusal is why the message has no UsmSecurityParameters.
abbrev pub RefusesSecurity : Parts → Refusal → Type 0
RefusesSecurity m NotSecurity = (s : Fields) → SecText m.security_at m.security s → ⊥
RefusesSecurity m _ = ⊥

-- The refusal is why msgData is neither sealed octets nor a ScopedPDU, as the priv flag says.
abbrev pub RefusesScoped : List ℕ → Parts → Refusal → Type 0
RefusesScoped w m NotScoped = (HasSealed m → ⊥) × ((s : Contexts) → HasScoped w m s → ⊥)
RefusesScoped w m _ = ⊥

-- The refusal is why the octets don't begin with a ScopedPDU.
abbrev pub RefusesFront : List ℕ → Refusal → Type 0
RefusesFront z NotScoped = (s : Contexts) → ScopedFront z s → ⊥
RefusesFront z _ = ⊥

-- msgData is what the priv flag says
abbrev pub AgreesWithPriv : List ℕ → Parts → Type 0
AgreesWithPriv w m = HasSealed m ⊎ ((s : Contexts) × HasScoped w m s)
