-- Which refusal of `show` comes of which fault of the codec.
use Rattle.std.proofs.Common.{◌≡◌, ℕ, List, ◌<◌, length, ◌⊎◌, refl, sym, subst, inl, inr}
use Rattle.snmp_message.specs.declared.refusal.Refusal.TheVariants.{NotMessage, BadVersion, NotSecurity, NotScoped, NotPdu, OutOfMemory, TooLarge}
use Rattle.snmp_message.specs.declared.refusal.Refusal.{Refusal}
use Rattle.snmp_msg.specs.Canonical.{Whole, Says, whole_text}
use Rattle.snmp_msg.specs.Refusals.{RefusesWhole}
use Rattle.snmpsec_output.specs.Show.{RefusesShow}

pub whole_refused : (w : List ℕ) (r : Refusal) → RefusesWhole w r → RefusesShow w r
whole_refused w NotMessage none = none
whole_refused w BadVersion none = none
whole_refused w NotSecurity none = none
whole_refused w NotScoped none = none
whole_refused w NotPdu none = none
whole_refused w _ none = absurd none

pub write_refused : (w : List ℕ) (m : Whole) (r : Refusal) → Says w m → (r ≡ TooLarge) ⊎ (r ≡ OutOfMemory) → (r ≡ TooLarge → 65507 < length (whole_text m)) → RefusesShow w r
write_refused w m r says (inl is) large = subst (RefusesShow w) (sym is) (whole_text m, record { message = m; says = says; spelled = refl }, large is)
write_refused w m r says (inr is) large = subst (RefusesShow w) (sym is) tt
