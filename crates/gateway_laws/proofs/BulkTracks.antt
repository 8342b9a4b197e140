-- How far a column of a GetBulkRequest has come over the variables of a device.
use Rattle.std.specs.Prelude.{◌≡◌, ◌⊎◌, ◌<◌, ◌≤◌, ◌++◌, ⊤, ℕ, List, [], ◌∷◌, Option, Some, None, MatchOption, length, map}
use Rattle.std.proofs.Common.{ap, arith, inl, inr, refl, subst, sym, ◌∙◌}
use Rattle.snmp_msg.specs.Variables.{Variable}
use Rattle.vacm_next.proofs.Names.{upto_itself}
use Rattle.vacm_next.proofs.Order.{which}
use Rattle.snmp_responder.specs.Instrumentation.{Known}
use Rattle.snmp_responder.specs.Next.{IsNext, IsNextAnswer}
use Rattle.snmp_walk.specs.Bindings.{given_says}
use Rattle.snmp_walk.specs.BulkColumn.{IsNew, bulk_request, given_in, last_name}
use Rattle.snmp_walk.specs.BulkSteps.{BulkGoesOn, BulkTakes, ColumnReads, ColumnWaits, FitsIn, IsBegun, IsSettled, SaysSame, Settles, TakesValue, Waits, asked_after, turn_of}
use Rattle.snmp_walk.specs.Column.{Asks}
use Rattle.snmp_walk.specs.Steps.{GoesOn}
use Rattle.snmp_walk.specs.declared.operation.ReadOperation.TheVariants.{GetNext}
use Rattle.snmp_walk.specs.declared.given.GivenVariable.{GivenVariable}
use Rattle.snmp_walk.specs.declared.column.Progress.{Progress}
use Rattle.snmp_walk.specs.declared.column.Progress.TheVariants.{Wanting, Asked, Given, Hidden, Ended}
use Rattle.snmp_walk.specs.declared.bulk_column.BulkColumn.{BulkColumn}
use Rattle.gateway_laws.specs.BulkTracks.{AreNexts, BulkColumnTracks, IsWalking, TracksBulk}
use Rattle.gateway_laws.specs.Device.{AllSeen, IsDevice}
use Rattle.gateway_laws.specs.Tracks.{HasNoneUpto, TracksWalk}
use Rattle.gateway_laws.proofs.Tracks.{ended_is_end, goes_on_tracks, hidden_goes_on, seen_is_next}

-- a walk that goes on stays one
goes_walking : (Seen : List ℕ → Type 0) (old new : Progress) → GoesOn Seen GetNext old new → IsWalking old → IsWalking new
goes_walking Seen (Wanting from) (Wanting other) goes walking = absurd goes
goes_walking Seen (Wanting from) (Asked ask) goes walking = tt
goes_walking Seen (Wanting from) (Given g) goes walking = absurd goes
goes_walking Seen (Wanting from) Hidden goes walking = absurd goes
goes_walking Seen (Wanting from) Ended goes walking = tt
goes_walking Seen (Given g) new goes walking = absurd walking
goes_walking Seen Hidden new goes walking = absurd walking
goes_walking Seen _ new goes walking = subst IsWalking (sym goes) walking

module _ (device : Known) (Seen : List ℕ → Type 0) where
  pub nexts_more : (first : List ℕ) (vs : List Variable) (v : Variable) → AreNexts device Seen first vs → IsNext device Seen (last_name first vs) v → AreNexts device Seen first (vs ++ v ∷ [])
  nexts_more first [] v are is = (is, tt)
  nexts_more first (w ∷ ws) v are is = (are.0, nexts_more w.name ws v are.1 is)

  pub last_more : (first : List ℕ) (vs : List Variable) (v : Variable) → last_name first (vs ++ v ∷ []) ≡ v.name
  last_more first [] v = λ _. v.name
  last_more first (w ∷ ws) v = last_more w.name ws v

  -- where a walk is while an answer is read of which it has this name
  abbrev pub IsTurnFrom : List ℕ → Progress → Type 0
  IsTurnFrom name (Asked ask) = name ≡ ask.name
  IsTurnFrom name Ended = ⊤
  IsTurnFrom name _ = ⊥

  -- while an answer is read
  abbrev pub TracksTurn : List ℕ → BulkColumn → Progress → Type 0
  TracksTurn name c turn = TracksBulk device Seen c.first (given_in c) turn × IsTurnFrom name turn

  abbrev pub TracksReading : BulkColumn → List ℕ → Type 0
  TracksReading c name = MatchOption c.reading (BulkColumnTracks device Seen c) (TracksTurn name c)

  same_tracks : (old new : BulkColumn) (p : Progress) → bulk_request new ≡ bulk_request old → new.got.items ≡ old.got.items → TracksBulk device Seen old.first (given_in old) p → TracksBulk device Seen new.first (given_in new) p
  same_tracks old new p same given t =
      subst (λ (request : List ℕ × ℕ). TracksBulk device Seen request.0 (given_in new) p) (sym same)
      (subst (λ (gs : List GivenVariable). TracksBulk device Seen old.first (map given_says gs) p) (sym given) t)

  waiting_tracks : (first : List ℕ) (given : List Variable) (old new : Progress) → Waits old new → TracksBulk device Seen first given old → TracksBulk device Seen first given new
  waiting_tracks first given (Asked ask) new w t = subst (TracksBulk device Seen first given) (sym w) (record { nexts = t.nexts; walking = tt; walk = t.walk.0 })
  waiting_tracks first given _ new w t = subst (TracksBulk device Seen first given) (sym w) t

  pub new_tracks : (c : BulkColumn) → IsNew c → BulkColumnTracks device Seen c
  new_tracks c is =
      subst (λ (p : Progress). TracksBulk device Seen c.first (given_in c) p) (sym is.wanting)
      (subst (λ (gs : List GivenVariable). TracksBulk device Seen c.first (map given_says gs) (Wanting c.first)) (sym is.given)
      (record { nexts = tt; walking = tt; walk = (upto_itself c.first, λ v comes. comes.behind) }))

  pub waits_tracks : (old new : BulkColumn) → ColumnWaits old new → BulkColumnTracks device Seen old → BulkColumnTracks device Seen new
  waits_tracks old new w t = same_tracks old new new.progress w.same w.given (waiting_tracks old.first (given_in old) old.progress new.progress w.waits t)

  pub said_tracks : (old new : BulkColumn) → SaysSame old new → BulkColumnTracks device Seen old → BulkColumnTracks device Seen new
  said_tracks old new s t = same_tracks old new new.progress s.same s.given (subst (TracksBulk device Seen old.first (given_in old)) (sym s.progress) t)

  -- an answer begins, and ends
  pub begun_reading : (old new : BulkColumn) (name : List ℕ) → IsBegun old new → ((asked : List ℕ) → Asks old.progress asked → name ≡ asked) → BulkColumnTracks device Seen old → TracksReading new name
  begun_reading old new name b asked t =
      let says = b.says_same in
      let tracks = same_tracks old new old.progress says.same says.given t in
      subst (λ (reading : Option Progress). MatchOption reading (BulkColumnTracks device Seen new) (TracksTurn name new)) (sym b.turn)
      (by old.progress tracks (subst (TracksBulk device Seen new.first (given_in new)) (sym says.progress) tracks) asked)
    where
      by : (p : Progress) → TracksBulk device Seen new.first (given_in new) p → BulkColumnTracks device Seen new → ((asked : List ℕ) → Asks p asked → name ≡ asked) → MatchOption (turn_of p) (BulkColumnTracks device Seen new) (TracksTurn name new)
      by (Wanting from) t u asked = u
      by (Asked ask) t u asked = (t, asked ask.name refl)
      by (Given g) t u asked = u
      by Hidden t u asked = u
      by Ended t u asked = u

  pub settled_tracks : (old new : BulkColumn) (name : List ℕ) → IsSettled old new → TracksReading old name → BulkColumnTracks device Seen new
  settled_tracks old new name s t = by old.reading t s.settles
    where
      by : (reading : Option Progress) → MatchOption reading (BulkColumnTracks device Seen old) (TracksTurn name old) → Settles reading old.progress new.progress → BulkColumnTracks device Seen new
      by None t same = same_tracks old new new.progress s.same s.given (subst (TracksBulk device Seen old.first (given_in old)) (sym same) t)
      by (Some turn) t w = same_tracks old new new.progress s.same s.given (waiting_tracks old.first (given_in old) turn new.progress w t.0)

  module _ (is : IsDevice device) where
    pub goes_on_bulk : (old new : BulkColumn) → BulkGoesOn Seen old new → BulkColumnTracks device Seen old → BulkColumnTracks device Seen new
    goes_on_bulk old new g t = same_tracks old new new.progress g.same g.given (elim (which (length old.got.items) old.most) [
      | inl few ↦ record { nexts = t.nexts; walking = goes_walking Seen old.progress new.progress (g.goes_on few) t.walking; walk = goes_on_tracks device Seen is GetNext (last_name old.first (given_in old)) old.progress new.progress (g.goes_on few) t.walk }
      | inr more ↦ subst (TracksBulk device Seen old.first (given_in old)) (sym (g.has_all (at_least more))) t
    ])
      where
        at_least : (length old.got.items ≡ old.most) ⊎ (old.most < length old.got.items) → old.most ≤ length old.got.items
        at_least (inl same) = omega (arith, same)
        at_least (inr more) = omega (arith, more)

    -- a value that was read, after the name that was asked
    value_read : (first name : List ℕ) (given more : List Variable) (v : Variable) (after : Progress) → AreNexts device Seen first given → HasNoneUpto device Seen (last_name first given) name → IsNext device AllSeen name v
        → TakesValue Seen given v more after → TracksBulk device Seen first more after × IsTurnFrom v.name after
    value_read first name given more v after nexts walk next (is_after, inl (seen, are)) =
        let found = seen_is_next device Seen is (last_name first given) name v walk next seen in
        let all = subst (AreNexts device Seen first) (sym are) (nexts_more first given v nexts found) in
        let here : HasNoneUpto device Seen v.name v.name = (upto_itself v.name, λ w comes. comes.behind) in
        let last : last_name first more ≡ v.name = ap (last_name first) are ∙ last_more first given v in (
          subst (TracksBulk device Seen first more) (sym is_after) (record { nexts = all; walking = tt; walk = subst (λ (n : List ℕ). TracksWalk device Seen n (asked_after v.name)) (sym last) (here, here) }),
          subst (IsTurnFrom v.name) (sym is_after) refl,
        )
    value_read first name given more v after nexts walk next (is_after, inr (hidden, are)) =
        let on = hidden_goes_on device Seen is (last_name first given) name v walk next hidden in (
          subst (TracksBulk device Seen first more) (sym is_after) (subst (λ (vs : List Variable). TracksBulk device Seen first vs (asked_after v.name)) (sym are) (record { nexts = nexts; walking = tt; walk = (on, on) })),
          subst (IsTurnFrom v.name) (sym is_after) refl,
        )

    taken : (first name : List ℕ) (given more : List Variable) (v : Variable) (before after : Progress) → TracksBulk device Seen first given before → IsTurnFrom name before → FitsIn before v
        → IsNextAnswer device AllSeen name v → BulkTakes Seen given v more after → TracksBulk device Seen first more after × IsTurnFrom v.name after
    taken first name given more v (Wanting from) after t turn fits answer takes = absurd turn
    taken first name given more v (Asked ask) after t turn fits answer (inl (end, are, is_after)) = elim answer [
      | inl next ↦ absurd ((is.values v next.comes.there).reply.not_end end)
      | inr none ↦
          let over = ended_is_end device Seen is (last_name first given) name (subst (HasNoneUpto device Seen (last_name first given)) (sym turn) t.walk.1) none.0 in (
            subst (TracksBulk device Seen first more) (sym is_after) (subst (λ (vs : List Variable). TracksBulk device Seen first vs Ended) (sym are) (record { nexts = t.nexts; walking = tt; walk = over })),
            subst (IsTurnFrom v.name) (sym is_after) tt,
          )
    ]
    taken first name given more v (Asked ask) after t turn fits answer (inr (not_end, takes)) = elim answer [
      | inl next ↦ value_read first name given more v after t.nexts (subst (HasNoneUpto device Seen (last_name first given)) (sym turn) t.walk.1) next takes
      | inr none ↦ absurd (not_end none.1.syntax_is)
    ]
    taken first name given more v Ended after t turn fits answer (inl (end, are, is_after)) = (
      subst (TracksBulk device Seen first more) (sym is_after) (subst (λ (vs : List Variable). TracksBulk device Seen first vs Ended) (sym are) t),
      subst (IsTurnFrom v.name) (sym is_after) tt,
    )
    taken first name given more v Ended after t turn fits answer (inr (not_end, takes)) = absurd (not_end fits)
    taken first name given more v _ after t turn fits answer takes = absurd turn

    -- the answer has this variable for the column
    pub one_read : (old new : BulkColumn) (name : List ℕ) (v : Variable) → ColumnReads Seen old v new → IsNextAnswer device AllSeen name v → TracksReading old name → TracksReading new v.name
    one_read old new name v r answer t =
        let turn = subst (λ (reading : Option Progress). MatchOption reading (BulkColumnTracks device Seen old) (TracksTurn name old)) r.before_is t in
        let now = taken old.first name (given_in old) (given_in new) v r.before r.after turn.0 turn.1 r.fits answer r.takes in
        let first : old.first ≡ new.first = sym (ap (λ (request : List ℕ × ℕ). request.0) r.grows.same) in
        subst (λ (reading : Option Progress). MatchOption reading (BulkColumnTracks device Seen new) (TracksTurn v.name new)) (sym r.after_is)
        (subst (λ (f : List ℕ). TracksBulk device Seen f (given_in new) r.after) first now.0, now.1)
