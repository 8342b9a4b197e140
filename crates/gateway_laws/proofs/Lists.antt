-- The columns of a dialogue, and what the device answers for each.
use Rattle.std.specs.Prelude.{◌++◌, ℕ, List, [], ◌∷◌, All, map}
use Rattle.std.specs.List.{AllZip}
use Rattle.std.proofs.Common.{inl, inr, subst, sym}
use Rattle.std.proofs.lemmas.List.Elements.{All-cons, All-head, All-nil, All-tail}
use Rattle.snmp_msg.specs.Variables.{Variable, variable_of}
use Rattle.snmp_msg.specs.declared.binding.Binding.{Binding}
use Rattle.snmp_responder.specs.Instrumentation.{Known}
use Rattle.snmp_walk.specs.Column.{Asks, IsAsked}
use Rattle.snmp_walk.specs.Dialogue.{AllGoOn, AllTake, ColumnBegins, IsShown, asked_in, asks_of, request}
use Rattle.snmp_walk.specs.declared.operation.ReadOperation.{ReadOperation}
use Rattle.snmp_walk.specs.declared.column.Column.{Column}
use Rattle.snmp_walk.specs.declared.column.Progress.{Progress}
use Rattle.snmp_walk.proofs.Asked.{asks_none, asks_one, name_asked}
use Rattle.gateway_laws.specs.Device.{AllSeen, AreAnswered, IsAnswered, IsDevice}
use Rattle.gateway_laws.specs.Tracks.{AllTrack, ColumnTracks, Tracks}
use Rattle.gateway_laws.proofs.Tracks.{begun_tracks, goes_on_tracks, shown_answers, takes_tracks}

module _ (device : Known) (Seen : List ℕ → Type 0) where
  pub all_begin : (cs : List Column) → All (ColumnBegins Seen) cs → AllTrack device Seen cs
  all_begin [] all = All-nil (ColumnTracks device Seen)
  all_begin (c ∷ cs) all =
      All-cons (ColumnTracks device Seen) c cs (begun_tracks device Seen c.operation c.first c.progress (All-head (ColumnBegins Seen) c cs all)) (all_begin cs (All-tail (ColumnBegins Seen) c cs all))

  pub all_shown : (cs : List Column) (bs : List Binding) → AllTrack device Seen cs → AllZip IsShown cs bs → AreAnswered device Seen (map request cs) (map variable_of bs)
  all_shown [] [] tracks shown = tt
  all_shown [] (b ∷ bs) tracks shown = absurd shown
  all_shown (c ∷ cs) [] tracks shown = absurd shown
  all_shown (c ∷ cs) (b ∷ bs) tracks shown = (
    shown_answers device Seen c.operation c.first c.progress (variable_of b) (All-head (ColumnTracks device Seen) c cs tracks) shown.0,
    all_shown cs bs (All-tail (ColumnTracks device Seen) c cs tracks) shown.1,
  )

  module _ (is : IsDevice device) where
    pub all_go_on : (olds news : List Column) → AllGoOn Seen olds news → AllTrack device Seen olds → AllTrack device Seen news
    all_go_on [] [] all tracks = tracks
    all_go_on [] (new ∷ news) all tracks = absurd all
    all_go_on (old ∷ olds) [] all tracks = absurd all
    all_go_on (old ∷ olds) (new ∷ news) all tracks =
        All-cons (ColumnTracks device Seen) new news
        (subst (λ (ask : ReadOperation × List ℕ). Tracks device Seen ask.0 ask.1 new.progress) (sym all.0.same)
        (goes_on_tracks device Seen is old.operation old.first old.progress new.progress all.0.goes_on (All-head (ColumnTracks device Seen) old olds tracks)))
        (all_go_on olds news all.1 (All-tail (ColumnTracks device Seen) old olds tracks))

    -- what answers the others, where a column wasn't asked; and a column that was, and the others
    answered_others : (o : ReadOperation) (p : Progress) (asks : List (ReadOperation × List ℕ)) (vs : List Variable) → ¬ IsAsked p → AreAnswered device AllSeen (asked_in o p ++ asks) vs → AreAnswered device AllSeen asks vs
    answered_others o p asks vs not all = subst (λ (those : List (ReadOperation × List ℕ)). AreAnswered device AllSeen (those ++ asks) vs) (asks_none o p not) all

    answered_one : (o : ReadOperation) (p : Progress) (name : List ℕ) (asks : List (ReadOperation × List ℕ)) (v : Variable) (vs : List Variable) → Asks p name
        → AreAnswered device AllSeen (asked_in o p ++ asks) (v ∷ vs) → IsAnswered device AllSeen o name v × AreAnswered device AllSeen asks vs
    answered_one o p name asks v vs is all = subst (λ (those : List (ReadOperation × List ℕ)). AreAnswered device AllSeen (those ++ asks) (v ∷ vs)) (asks_one o p name is) all

    pub all_take : (olds : List Column) (vs : List Variable) (news : List Column) → AreAnswered device AllSeen (asks_of olds) vs → AllTake Seen olds vs news → AllTrack device Seen olds → AllTrack device Seen news
    all_take [] vs news answered all tracks = subst (AllTrack device Seen) (sym all.1) tracks
    all_take (old ∷ olds) vs [] answered all tracks = absurd all
    all_take (old ∷ olds) vs (new ∷ news) answered all tracks = elim all [
      | inl stays ↦ All-cons (ColumnTracks device Seen) new news (subst (ColumnTracks device Seen) (sym stays.1) (All-head (ColumnTracks device Seen) old olds tracks))
          (all_take olds vs news (answered_others old.operation old.progress (asks_of olds) vs stays.0 answered) stays.2 (All-tail (ColumnTracks device Seen) old olds tracks))
      | inr takes ↦
          let v = takes.0 in
          let rest = takes.1 in
          let name = name_asked old.progress takes.3.asked in
          let both = answered_one old.operation old.progress name.0 (asks_of olds) v rest name.1 (subst (AreAnswered device AllSeen (asks_of (old ∷ olds))) takes.2 answered) in
          All-cons (ColumnTracks device Seen) new news
          (subst (λ (ask : ReadOperation × List ℕ). Tracks device Seen ask.0 ask.1 new.progress) (sym takes.3.same)
          (takes_tracks device Seen is old.operation old.first name.0 v old.progress new.progress name.1 both.0 takes.3.takes (All-head (ColumnTracks device Seen) old olds tracks)))
          (all_take olds rest news both.1 takes.4 (All-tail (ColumnTracks device Seen) old olds tracks))
    ]
