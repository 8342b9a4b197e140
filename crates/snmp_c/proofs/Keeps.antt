-- The calls that answer leave what the agent accepted last, so that they answer what is kept instead.
use Rattle.std.proofs.Common.{◌≡◌, ◌∙◌, ℕ, ℤ, List, Option, Result, Ok, Err, ap, subst, sym, w64}
use Rattle.std.specs.Prelude.{⊤}
use Rattle.std.specs.Int.{to_be_bytes}
use Rattle.snmp_incoming.specs.Outcome.{Given}
use Rattle.snmp_handles.specs.Agents.{AgentHeld, RespondsHeld}
use Rattle.snmp_handles.specs.Dispatch.{RespondsHeldWithin, RespondsHeldFront}
use Rattle.snmp_handles.specs.Kept.{WithKept, holding}
use Rattle.snmp_handles.specs.declared.fault.CallFault.{CallFault}
use Rattle.snmp_c.specs.declared.agent_asked.AgentAsked.{AgentAsked}
use Rattle.snmp_c.specs.declared.agent_asked.AgentSaid.{AgentSaid}
use Rattle.snmp_c.specs.AgentCalls.{RespondsTo, RespondsToWithin, RespondsToFront}

responds : (old new : AgentHeld) (now status index : ℕ) (list salt : List ℕ) (told : Result ⊤ CallFault)
    → RespondsHeld old now status index list salt told new → new.last ≡ old.last
responds old new now status index list salt (Ok done) (range, (g, text, asked, says, leaves)) = ap (λ (held : AgentHeld). held.last) leaves
responds old new now status index list salt (Err fault) says = ap (λ (held : AgentHeld). held.last) says.1

responds_within : (old new : AgentHeld) (now status index : ℕ) (list salt : List ℕ) (limit : ℕ) (told : Result ⊤ CallFault)
    → RespondsHeldWithin old now status index list salt limit told new → new.last ≡ old.last
responds_within old new now status index list salt limit (Ok done) (range, (g, text, asked, says, leaves)) = ap (λ (held : AgentHeld). held.last) leaves
responds_within old new now status index list salt limit (Err fault) says = ap (λ (held : AgentHeld). held.last) says.1

responds_front : (old new : AgentHeld) (now status index : ℕ) (list salt : List ℕ) (limit : ℕ) (told : Result ℕ CallFault)
    → RespondsHeldFront old now status index list salt limit told new → new.last ≡ old.last
responds_front old new now status index list salt limit (Ok count) (range, (g, text, asked, says, leaves)) = ap (λ (held : AgentHeld). held.last) leaves
responds_front old new now status index list salt limit (Err fault) says = ap (λ (held : AgentHeld). held.last) says.1

-- Between two exchanges a call does for what is kept what it does for what was accepted last, which stays.
pub with_kept : (Does : AgentHeld → AgentHeld → Type 0) → ((before after : AgentHeld) → Does before after → after.last ≡ before.last)
    → (old first second new : AgentHeld) (kept between kept_new : Option Given)
    → first ≡ holding kept old → between ≡ old.last → Does first second → new ≡ holding between second → kept_new ≡ second.last
    → WithKept Does old kept new kept_new
with_kept Does stays old first second new kept between kept_new first_is between_is does new_is kept_is =
    let of_kept : Does (holding kept old) second = subst (λ (before : AgentHeld). Does before second) first_is does in
    let same : second.last ≡ kept = stays (holding kept old) second of_kept in
    let back : new ≡ holding old.last second = subst (λ (last : Option Given). new ≡ holding last second) between_is new_is in
    let done : Does (holding kept old) (holding kept second) = subst (λ (last : Option Given). Does (holding kept old) (holding last second)) same of_kept in
    let at_new : Does (holding kept old) (holding kept new) = subst (λ (after : AgentHeld). Does (holding kept old) (holding kept after)) (sym back) done in
    (at_new, ap (λ (held : AgentHeld). held.last) back, kept_is ∙ same)

pub answers_stay : (asked : AgentAsked) (answer : ℤ) (before after : AgentHeld) → RespondsTo asked before after answer → after.last ≡ before.last
answers_stay asked answer before after (told, is, says) =
    responds before after asked.moment asked.status asked.index asked.octets.now (to_be_bytes w64 asked.salt) told says

pub answers_within_stay : (asked : AgentAsked) (answer : ℤ) (before after : AgentHeld) → RespondsToWithin asked before after answer → after.last ≡ before.last
answers_within_stay asked answer before after (told, is, says) =
    responds_within before after asked.moment asked.status asked.index asked.octets.now (to_be_bytes w64 asked.salt) asked.limit told says

pub answers_front_stay : (asked : AgentAsked) (said said_new : AgentSaid) (answer : ℤ) (before after : AgentHeld)
    → RespondsToFront asked said said_new before after answer → after.last ≡ before.last
answers_front_stay asked said said_new answer before after (told, is, says, tells) =
    responds_front before after asked.moment asked.status asked.index asked.octets.now (to_be_bytes w64 asked.salt) asked.limit told says
