use Rattle.std.proofs.Common.{◌≡◌, ℕ, ◌-◌, List, ◌++◌, length, take, drop, refl, sym, subst, ◌∙◌, arith}
use borrow.Rule.Slice.PartMut.{put_mid}
use Rattle.usm_aes.specs.Aes.{enciphered}
use Rattle.usm_aes.specs.Feedback.{IsSealed}
use Rattle.usm_core.proofs.Ends.{end_at, end_put}
use Rattle.usm_core.proofs.privacy.seal_end.Goals as goal

pub returns-clause-sealed : goal.returns-clause-sealed
returns-clause-sealed g c = λ front octets is sealed.
    let encipher = enciphered c.args.schedule.now in
    let scoped = g.S.ScopedPdu.octets c.args.outgoing.now.scoped.now in
    let text = c.args.text.now.items in
    let now = c.deref_mut.result.now in
    let is_now : now ≡ front ++ scoped = c.deref_mut.ensures.value ∙ is in
    let at = c.len.result - c.octets_len.result in
    let n = length now - at in
    let here : at ≡ length now - length scoped = omega (arith, c.len.ensures, c.deref_mut.ensures.len, c.octets_len.ensures) in
    let cut = end_at front scoped now at n is_now here refl in
    let there : IsSealed encipher c.iv-iv.result scoped octets = subst (λ (v : List ℕ). IsSealed encipher v scoped octets) (sym c.iv-iv.ensures) sealed in
    let same : octets ≡ c.cfb_seal.new.text = c.cfb_seal.ensures.only octets (subst (λ (x : List ℕ). IsSealed encipher c.iv-iv.result x octets) (sym cut) there) in
    subst (λ (x : List ℕ). take c.args.text.now.len (put_mid at n now x ++ drop (length (put_mid at n now x)) text) ≡ front ++ octets) same
    (end_put front scoped octets now (drop (length (put_mid at n now octets)) text) at n c.args.text.now.len is_now here refl sealed.same_length (sym c.deref_mut.ensures.len))
