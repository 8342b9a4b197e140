-- What is known of a column at each step.
use Rattle.std.specs.Prelude.{List, ℕ, Contains}
use Rattle.std.proofs.Common.{subst, sym, ap, ◌∙◌, inl, inr}
use Rattle.snmp_msg.specs.Variables.{Variable}
use Rattle.vacm_next.specs.Next.{IsBefore, IsUpto}
use Rattle.vacm_next.specs.Walk.{PassesNothing}
use Rattle.vacm_next.proofs.Names.{upto_itself}
use Rattle.vacm_next.proofs.Walks.{passes}
use Rattle.snmp_walk.specs.Bindings.{FitsPlace, IsReply, IsValue}
use Rattle.snmp_walk.specs.Column.{Asks, StandsAt, StandsIn}
use Rattle.snmp_walk.specs.Steps.{Begins, GoesOn, GoesOnFrom, Takes}
use Rattle.snmp_walk.specs.declared.operation.ReadOperation.{ReadOperation}
use Rattle.snmp_walk.specs.declared.operation.ReadOperation.TheVariants.{Get, GetNext}
use Rattle.snmp_walk.specs.declared.column.Progress.{Progress}
use Rattle.snmp_walk.specs.declared.column.Progress.TheVariants.{Wanting, Asked, Given, Hidden, Ended}
use Rattle.snmp_walk.proofs.Places.{after_first, goes_on_at}

module _ (Seen : List ℕ → Type 0) (told : List Variable) where
  pub begun_stands : (o : ReadOperation) (first : List ℕ) (p : Progress) → Begins Seen o first p → StandsIn Seen told o first p
  begun_stands Get first (Wanting from) b = b
  begun_stands Get first (Asked ask) b = absurd b
  begun_stands Get first (Given g) b = absurd b
  begun_stands Get first Hidden b = b
  begun_stands Get first Ended b = absurd b
  begun_stands GetNext first (Wanting from) b = record { place = inl b; upto = subst (λ (name : List ℕ). IsUpto first name) (sym b) (upto_itself first) }
  begun_stands GetNext first _ b = absurd b

  went_on : (o : ReadOperation) (first from : List ℕ) (p : Progress) → GoesOnFrom Seen o from p → StandsIn Seen told o first (Wanting from) → StandsIn Seen told o first p
  went_on Get first from (Asked ask) g stands = (g.1 ∙ stands.0, stands.1)
  went_on Get first from _ g stands = absurd g
  went_on GetNext first from (Asked ask) g stands =
      (subst (λ (f : List ℕ). StandsAt first told f) (sym g.0) stands, subst (λ (f : List ℕ). PassesNothing Seen f ask.name) (sym g.0) (passes Seen from ask.name g.1))
  went_on GetNext first from Ended g stands = inl (from, stands, g)
  went_on GetNext first from _ g stands = absurd g

  pub goes_on_stands : (o : ReadOperation) (first : List ℕ) (old new : Progress) → GoesOn Seen o old new → StandsIn Seen told o first old → StandsIn Seen told o first new
  goes_on_stands o first (Wanting from) new g stands = went_on o first from new g stands
  goes_on_stands o first _ new g stands = subst (StandsIn Seen told o first) (sym g) stands

  -- after a variable that fits what was asked, and was told
  took : (o : ReadOperation) (first from asked : List ℕ) (v : Variable) (p : Progress) → FitsPlace o asked v → Contains told v → Takes Seen o v p
      → StandsIn Seen told o first (Asked (record { from = from; name = asked })) → StandsIn Seen told o first p
  took Get first from asked v (Given g) fits there t stands =
      (stands.1, ap (λ (w : Variable). w.name) t ∙ (fits.0 ∙ stands.0), subst IsReply (sym t) fits.1, subst (Contains told) (sym t) there)
  took Get first from asked v _ fits there t stands = absurd t
  took GetNext first from asked v (Wanting name) fits there t stands = elim fits [
    | inl end ↦ absurd (t.0 end)
    | inr later ↦ subst (λ (n : List ℕ). StandsAt first told n) (sym t.2) (goes_on_at first from asked told v stands.0.upto stands.1.upto later.0 there)
  ]
  took GetNext first from asked v (Given g) fits there t stands = elim fits [
    | inl end ↦ absurd (t.0 end)
    | inr later ↦ subst (λ (w : Variable). Seen w.name × IsBefore first w.name × IsValue w × Contains told w) (sym t.2) (t.1, after_first first from asked v.name stands.0.upto stands.1.upto later.0, later.1, there)
  ]
  took GetNext first from asked v Ended fits there t stands = inr (v, there, t)
  took GetNext first from asked v _ fits there t stands = absurd t

  -- a column of which the device was asked this name
  pub takes_stands : (o : ReadOperation) (first asked : List ℕ) (v : Variable) (old new : Progress) → Asks old asked → FitsPlace o asked v → Contains told v → Takes Seen o v new
      → StandsIn Seen told o first old → StandsIn Seen told o first new
  takes_stands o first asked v (Asked ask) new asks fits there t stands =
      took o first ask.from ask.name v new (subst (λ (name : List ℕ). FitsPlace o name v) (sym asks) fits) there t stands
  takes_stands o first asked v _ new asks fits there t stands = absurd asks
