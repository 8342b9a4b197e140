-- What can be read of a message that wasn't opened.
use Rattle.std.proofs.Common.{◌≡◌, ℕ, List, sym, subst, refl, not, is_some, is_none, Bool, true, false, ◌↔◌, Option, Some, None, Result, Ok, Err, OnErr, IfNone, IfSome, IsSome, MatchOption}
use Rattle.std.specs.Result.{result_ok}
use Rattle.snmp_message.specs.Layout.{Outer, Parts}
use Rattle.snmp_message.specs.Scoped.{Contexts, HasScoped, HasSealed}
use Rattle.snmp_msg.specs.Pdu.{PduParts, PduText}
use Rattle.usm_core.specs.Authentic.{HasEngineLength}
use Rattle.diagnose_text.specs.Datagrams.{IsPlainPdu}

-- that it is sealed, or out of its form
pub none_scoped : (w : List ℕ) (m : Parts) → ((v : List ℕ) (a b : Parts) → Outer v a → Outer v b → a ≡ b) → Outer w m → ((c : Contexts) → HasScoped w m c → ⊥) → (pdu : PduParts) → IsPlainPdu w pdu → ⊥
none_scoped w m one outer none pdu p = none p.contexts (subst (λ a. HasScoped w a p.contexts) (one w p.message m p.outer outer) p.scoped)

pub none_sealed : (w : List ℕ) (m : Parts) → ((v : List ℕ) (a b : Parts) → Outer v a → Outer v b → a ≡ b) → ((v : List ℕ) (a : Parts) (s : Contexts) → HasSealed a → HasScoped v a s → ⊥) → Outer w m → HasSealed m
    → (pdu : PduParts) → IsPlainPdu w pdu → ⊥
none_sealed w m one kind outer sealed pdu p = kind w m p.contexts sealed (subst (λ a. HasScoped w a p.contexts) (one w p.message m p.outer outer) p.scoped)

-- that its data is no PDU
pub none_pdu : (w : List ℕ) (m : Parts) (c : Contexts) (z : List ℕ) → ((v : List ℕ) (a b : Parts) → Outer v a → Outer v b → a ≡ b) → ((v : List ℕ) (a : Parts) (s t : Contexts) → HasScoped v a s → HasScoped v a t → s ≡ t) → Outer w m
    → HasScoped w m c → c.pdu ≡ z → ((p : PduParts) → PduText z p → ⊥) → (pdu : PduParts) → IsPlainPdu w pdu → ⊥
none_pdu w m c z one scoped outer has place none pdu p =
    let same : p.contexts ≡ c = scoped w m p.contexts c (subst (λ a. HasScoped w a p.contexts) (one w p.message m p.outer outer) p.scoped) has in
    none pdu (subst (λ text. PduText text pdu) place (subst (λ s. PduText s.pdu pdu) same p.is))

pub none_read : {T E : Type 0} (r : Result T E) (found : Option T) (P Q : Type 0) → found ≡ result_ok r → (P → Q) → OnErr r P → IfNone found Q
none_read (Ok x) found P Q is weaker h = subst (λ o. IfNone o Q) (sym is) h
none_read (Err e) found P Q is weaker h = subst (λ o. IfNone o Q) (sym is) (weaker h)

pub none_given : {T : Type 0} (found : Option T) (P : Type 0) → P → IfNone found P
none_given None P h = h
none_given (Some x) P h = tt

pub some_weaker : {T : Type 0} (found : Option T) (P Q : T → Type 0) → ((x : T) → P x → Q x) → IfSome found P → IfSome found Q
some_weaker None P Q weaker h = tt
some_weaker (Some x) P Q weaker h = weaker x h

-- an engine ID, if it is one
pub engine_read : (found : Option (List ℕ)) (octets : List ℕ) → IsSome found ↔ HasEngineLength octets → IfSome found (λ engine. engine ≡ octets) → MatchOption found (¬ HasEngineLength octets) (λ engine. engine ≡ octets)
engine_read None octets some value = λ h. cc (some.1 h)
engine_read (Some x) octets some value = value

pub is_none_of : {T : Type 0} (o : Option T) (b : Bool) → is_some o ≡ not b → b ≡ is_none o
is_none_of None true h = refl
is_none_of None false h = cc h
is_none_of (Some x) true h = cc h
is_none_of (Some x) false h = refl
