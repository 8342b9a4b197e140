-- How far a column has come over the variables of a device.
use Rattle.std.specs.Prelude.{ℕ, List}
use Rattle.std.proofs.Common.{sym, subst, ◌∙◌, inl, inr}
use Rattle.snmp_msg.specs.Variables.{Variable}
use Rattle.vacm_next.specs.Next.{IsBefore, IsUpto}
use Rattle.vacm_next.proofs.Names.{upto_itself}
use Rattle.vacm_next.proofs.Order.{before_is_upto, before_or_from, upto_trans}
use Rattle.vacm_next.proofs.Walks.{passes}
use Rattle.snmp_responder.specs.Instrumentation.{IsGot, Known}
use Rattle.snmp_responder.specs.Next.{ComesNext, IsNext, NoneNext}
use Rattle.snmp_responder.proofs.OneAnswer.{same_name}
use Rattle.snmp_walk.specs.Column.{Asks, IsShownBy}
use Rattle.snmp_walk.specs.Steps.{Begins, GoesOn, GoesOnFrom, Takes}
use Rattle.snmp_walk.specs.declared.operation.ReadOperation.{ReadOperation}
use Rattle.snmp_walk.specs.declared.operation.ReadOperation.TheVariants.{Get, GetNext}
use Rattle.snmp_walk.specs.declared.column.Progress.{Progress}
use Rattle.snmp_walk.specs.declared.column.Progress.TheVariants.{Wanting, Asked, Given, Hidden, Ended}
use Rattle.snmp_walk.proofs.Places.{after_first}
use Rattle.gateway_laws.specs.Device.{AllSeen, IsAnswered, IsDevice}
use Rattle.gateway_laws.specs.Tracks.{HasNoneUpto, NoneUpto, Tracks}

module _ (device : Known) (Seen : List ℕ → Type 0) where
  pub begun_tracks : (o : ReadOperation) (first : List ℕ) (p : Progress) → Begins Seen o first p → Tracks device Seen o first p
  begun_tracks Get first (Wanting from) b = b
  begun_tracks Get first (Asked ask) b = absurd b
  begun_tracks Get first (Given g) b = absurd b
  begun_tracks Get first Hidden b = b
  begun_tracks Get first Ended b = absurd b
  begun_tracks GetNext first (Wanting from) b = (subst (λ (name : List ℕ). IsUpto first name) (sym b) (upto_itself first), λ v comes. subst (λ (name : List ℕ). IsBefore name v.name) (sym b) comes.behind)
  begun_tracks GetNext first _ b = absurd b

  -- what is got of a device that hides nothing, for a name that is seen
  restricted : (name : List ℕ) (v : Variable) → Seen name → IsGot device AllSeen name v → IsGot device Seen name v
  restricted name v seen (inl a) = inl (record { there = a.there; named = a.named; seen = seen })
  restricted name v seen (inr (inl a)) = inr (inl (
    record {
      none = λ w b. a.0.none w (record { there = b.there; named = b.named; seen = tt });
      seen = seen;
      object = a.0.object;
    },
    a.1,
  ))
  restricted name v seen (inr (inr a)) = inr (inr (
    record {
      none = λ w b. a.0.none w (record { there = b.there; named = b.named; seen = tt });
      no_object = λ _. a.0.no_object tt;
    },
    a.1,
  ))

  -- what the Response holds of a column
  pub shown_answers : (o : ReadOperation) (first : List ℕ) (p : Progress) (v : Variable) → Tracks device Seen o first p → IsShownBy first p v → IsAnswered device Seen o first v
  shown_answers Get first (Given g) v t shown = subst (IsGot device Seen first) (sym shown) t
  shown_answers Get first Hidden v t shown = inr (inr (record { none = λ w b. t b.seen; no_object = λ seen. absurd (t seen) }, shown))
  shown_answers Get first Ended v t shown = absurd t
  shown_answers Get first _ v t shown = absurd shown
  shown_answers GetNext first (Given g) v t shown = inl (subst (IsNext device Seen first) (sym shown) t)
  shown_answers GetNext first Hidden v t shown = absurd t
  shown_answers GetNext first Ended v t shown = inr (t, shown)
  shown_answers GetNext first _ v t shown = absurd shown

  module _ (is : IsDevice device) where
    went_on : (o : ReadOperation) (first from : List ℕ) (p : Progress) → GoesOnFrom Seen o from p → Tracks device Seen o first (Wanting from) → Tracks device Seen o first p
    went_on Get first from (Asked ask) g t = (g.1 ∙ t.0, t.1)
    went_on Get first from _ g t = absurd g
    went_on GetNext first from (Asked ask) g t =
        let passed = passes Seen from ask.name g.1 in (
          subst (HasNoneUpto device Seen first) (sym g.0) t,
          (
            upto_trans first from ask.name t.0 passed.upto,
            λ v comes. elim (before_or_from ask.name v.name) [
              | inl before ↦ before
              | inr upto ↦ absurd (passed.none v.name (is.arcs v comes.there, is.spelled v comes.there, t.1 v comes, comes.seen) upto)
            ],
          ),
        )
    went_on GetNext first from Ended g t = λ v comes. g v.name (is.arcs v comes.there, is.spelled v comes.there, t.1 v comes, comes.seen)
    went_on GetNext first from _ g t = absurd g

    pub goes_on_tracks : (o : ReadOperation) (first : List ℕ) (old new : Progress) → GoesOn Seen o old new → Tracks device Seen o first old → Tracks device Seen o first new
    goes_on_tracks o first (Wanting from) new g t = went_on o first from new g t
    goes_on_tracks o first _ new g t = subst (Tracks device Seen o first) (sym g) t

    -- no variable that is seen after the first name is before the next one that the device has after the name asked
    least_seen : (first asked : List ℕ) (v : Variable) → NoneUpto device Seen first asked → IsNext device AllSeen asked v → (w : Variable) → ComesNext device Seen first w → IsUpto v.name w.name
    least_seen first asked v none next w comes = next.least w (record { there = comes.there; seen = tt; behind = none w comes })

    pub behind_first : (first asked : List ℕ) (v : Variable) → IsUpto first asked → IsNext device AllSeen asked v → IsBefore first v.name
    behind_first first asked v upto next = after_first first first asked v.name (upto_itself first) upto next.comes.behind

    pub hidden_goes_on : (first asked : List ℕ) (v : Variable) → HasNoneUpto device Seen first asked → IsNext device AllSeen asked v → ¬ Seen v.name
        → HasNoneUpto device Seen first v.name
    hidden_goes_on first asked v t next hidden = (
      before_is_upto first v.name (behind_first first asked v t.0 next),
      λ w comes. elim (before_or_from v.name w.name) [
        | inl before ↦ before
        | inr upto ↦ absurd (hidden (subst Seen (same_name w.name v.name upto (least_seen first asked v t.1 next w comes)) comes.seen))
      ],
    )

    pub seen_is_next : (first asked : List ℕ) (v : Variable) → HasNoneUpto device Seen first asked → IsNext device AllSeen asked v → Seen v.name → IsNext device Seen first v
    seen_is_next first asked v t next seen = record {
      comes = record { there = next.comes.there; seen = seen; behind = behind_first first asked v t.0 next };
      least = least_seen first asked v t.1 next;
    }

    pub ended_is_end : (first asked : List ℕ) → HasNoneUpto device Seen first asked → NoneNext device AllSeen asked → NoneNext device Seen first
    ended_is_end first asked t none w comes = none w (record { there = comes.there; seen = tt; behind = t.1 w comes })

    took : (o : ReadOperation) (first from asked : List ℕ) (v : Variable) (p : Progress) → IsAnswered device AllSeen o asked v → Takes Seen o v p
        → Tracks device Seen o first (Asked (record { from = from; name = asked })) → Tracks device Seen o first p
    took Get first from asked v (Given g) answer t old = subst (IsGot device Seen first) (sym t) (restricted first v old.1 (subst (λ (name : List ℕ). IsGot device AllSeen name v) old.0 answer))
    took Get first from asked v _ answer t old = absurd t
    took GetNext first from asked v (Wanting name) answer t old = elim answer [
      | inl next ↦ subst (HasNoneUpto device Seen first) (sym t.2) (hidden_goes_on first asked v old.1 next t.1)
      | inr none ↦ absurd (t.0 none.1.syntax_is)
    ]
    took GetNext first from asked v (Given g) answer t old = elim answer [
      | inl next ↦ subst (IsNext device Seen first) (sym t.2) (seen_is_next first asked v old.1 next t.1)
      | inr none ↦ absurd (t.0 none.1.syntax_is)
    ]
    took GetNext first from asked v Ended answer t old = elim answer [
      | inl next ↦ absurd ((is.values v next.comes.there).reply.not_end t)
      | inr none ↦ ended_is_end first asked old.1 none.0
    ]
    took GetNext first from asked v _ answer t old = absurd t

    -- a column of which the device was asked this name
    pub takes_tracks : (o : ReadOperation) (first asked : List ℕ) (v : Variable) (old new : Progress) → Asks old asked → IsAnswered device AllSeen o asked v → Takes Seen o v new
        → Tracks device Seen o first old → Tracks device Seen o first new
    takes_tracks o first asked v (Asked ask) new asks answer t tracks =
        took o first ask.from ask.name v new (subst (λ (name : List ℕ). IsAnswered device AllSeen o name v) (sym asks) answer) t tracks
    takes_tracks o first asked v _ new asks answer t tracks = absurd asks
