use Rattle.std.proofs.Common.{◌≡◌, refl, sym, subst, ap, ◌∙◌, List, ℕ, ◌+◌, ◌-◌, length, rules, w32, SFits}
use Rattle.std.specs.Prelude.{slice_range}
use Rattle.std.proofs.lemmas.Int.{to_z-of_z}
use Rattle.snmp_message.specs.Scoped.{contexts_there}
use Rattle.snmp_message.proofs.Scopeds.{scoped_front_in-again}
use Rattle.snmp_msg.specs.Pdu.{pdu_of, PduText}
use Rattle.snmp_incoming.proofs.Placed.{list_there, stands_there}
use Rattle.snmp_incoming.proofs.reading.read_place.Goals as goal

pub returns-in-Err-clause-fault : goal.returns-in-Err-clause-fault
returns-in-Err-clause-fault c = λ s. c.in-Err.ensures.none s.contexts s.is

pub returns-in-Err-read_pdu-clause-fault : goal.returns-in-Err-read_pdu-clause-fault
returns-in-Err-read_pdu-clause-fault c =
    let there = contexts_there c.args.text.now c.in-Ok.contexts in
    let lent = c.lent-scoped.result.pdu.now in (
      record { contexts = there; is = c.in-Ok.ensures.exact },
      λ p. c.in-Err-read_pdu.ensures.none p.pdu (subst (λ (t : List ℕ). PduText t p.pdu) (sym (c.lent-scoped.ensures.pdu) ∙ sym (c.whole_slice.ensures lent)) p.is),
    )

pub returns-clause-tag : goal.returns-clause-tag
returns-clause-tag c =
    let there = contexts_there c.args.text.now c.in-Ok.contexts in
    let lent = c.lent-scoped.result.pdu.now in (
      record { contexts = there; is = c.in-Ok.ensures.exact },
      record { pdu = pdu_of c.in-Ok-read_pdu.pdu; is = subst (λ (t : List ℕ). PduText t (pdu_of c.in-Ok-read_pdu.pdu)) (c.whole_slice.ensures lent ∙ c.lent-scoped.ensures.pdu) c.in-Ok-read_pdu.ensures.exact },
      refl,
    )

pub returns-clause-contexts : goal.returns-clause-contexts
returns-clause-contexts c = (
  scoped_front_in-again c.args.text.now (contexts_there c.args.text.now c.in-Ok.contexts) c.in-Ok.ensures.exact,
  c.in-Ok.ensures.stands,
)

pub returns-clause-stands : goal.returns-clause-stands
returns-clause-stands c =
    let text = c.args.text.now in
    let contexts = c.in-Ok.contexts in
    let lent = c.lent-scoped.result.pdu.now in
    let pdu = c.in-Ok-read_pdu.pdu in
    let is_lent : PduText lent (pdu_of pdu) = subst (λ (t : List ℕ). PduText t (pdu_of pdu)) (c.whole_slice.ensures lent) c.in-Ok-read_pdu.ensures.exact in
    let is : PduText (contexts_there text contexts).pdu (pdu_of pdu) = subst (λ (t : List ℕ). PduText t (pdu_of pdu)) c.lent-scoped.ensures.pdu is_lent in
    let ends : contexts.data_at + length lent ≡ contexts.end = ap (λ (n : ℕ). n + length lent) (sym c.lent-scoped.ensures.data_at) ∙ c.lent-scoped.ensures.ends in
    let stands : lent ≡ slice_range text contexts.data_at (contexts.data_at + length lent) = c.lent-scoped.ensures.pdu ∙ ap (slice_range text contexts.data_at) (sym ends) in
    let there = list_there text contexts.data_at lent (pdu_of pdu) stands is_lent in
    let list : slice_range text (contexts.end - length pdu.list.now) contexts.end ≡ pdu.list.now = subst (λ (n : ℕ). slice_range text (n - length pdu.list.now) n ≡ pdu.list.now) ends there.1 in
    let id : SFits w32 pdu.id = search rules in
    let second : SFits w32 pdu.second = search rules in
    let third : SFits w32 pdu.third = search rules in
    rw (to_z-of_z w32 pdu.id id, to_z-of_z w32 pdu.second second, to_z-of_z w32 pdu.third third)
    (stands_there text (contexts_there text contexts) (pdu_of pdu) (record { id = pdu.id; second = pdu.second; third = pdu.third; list_at = contexts.end - length pdu.list.now; end = contexts.end })
    c.in-Ok.ensures.exact is refl refl refl list)
