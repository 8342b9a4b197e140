-- What becomes of the columns of a dialogue.
use Rattle.std.specs.Prelude.{◌≡◌, ◌<◌, ◌≤◌, ◌+◌, ◌-◌, List, [], ◌∷◌, ◌++◌, ℕ, All, Contains, length, map, take, drop, set, slice_index_or}
use Rattle.std.proofs.Common.{refl, sym, ap, subst, ◌∙◌, inl, inr, append_assoc}
use Rattle.std.proofs.lemmas.List.{length_push, drop_more, take_more, set_at}
use Rattle.std.proofs.lemmas.List.Elements.{All-cons, All-head, All-tail}
use Rattle.snmp_msg.specs.Variables.{Variable}
use Rattle.snmp_walk.specs.Column.{IsAsked, Stands, StandsIn}
use Rattle.snmp_walk.specs.Dialogue.{AllGoOn, AllTake, AnswersAll, ColumnTakes, asked_in, asks_of, request}
use Rattle.snmp_walk.specs.declared.operation.ReadOperation.{ReadOperation}
use Rattle.snmp_walk.specs.declared.column.Column.{Column}
use Rattle.snmp_walk.proofs.Steps.{goes_on_stands, takes_stands}
use Rattle.snmp_walk.proofs.Changed.{left_at}
use Rattle.snmp_walk.proofs.Asked.{name_asked, answered_none, answered_one}

module _ (Seen : List ℕ → Type 0) where
  pub same_after_going : (olds news : List Column) → AllGoOn Seen olds news → map request news ≡ map request olds
  same_after_going [] [] all = refl
  same_after_going [] (new ∷ news) all = absurd all
  same_after_going (old ∷ olds) [] all = absurd all
  same_after_going (old ∷ olds) (new ∷ news) all = λ i. all.0.same i ∷ same_after_going olds news all.1 i

  pub stand_after_going : (told : List Variable) (olds news : List Column) → AllGoOn Seen olds news → All (Stands Seen told) olds → All (Stands Seen told) news
  stand_after_going told [] [] all stand = stand
  stand_after_going told [] (new ∷ news) all stand = absurd all
  stand_after_going told (old ∷ olds) [] all stand = absurd all
  stand_after_going told (old ∷ olds) (new ∷ news) all stand =
      All-cons (Stands Seen told) new news
      (subst (λ (r : ReadOperation × List ℕ). StandsIn Seen told r.0 r.1 new.progress) (sym all.0.same)
      (goes_on_stands Seen told old.operation old.first old.progress new.progress all.0.goes_on (All-head (Stands Seen told) old olds stand)))
      (stand_after_going told olds news all.1 (All-tail (Stands Seen told) old olds stand))

  pub same_after_taking : (olds : List Column) (vs : List Variable) (news : List Column) → AllTake Seen olds vs news → map request news ≡ map request olds
  same_after_taking [] vs news all = ap (λ (cs : List Column). map request cs) all.1
  same_after_taking (old ∷ olds) vs [] all = absurd all
  same_after_taking (old ∷ olds) vs (new ∷ news) all = elim all [
    | inl stays ↦ λ i. request (stays.1 i) ∷ same_after_taking olds vs news stays.2 i
    | inr takes ↦ λ i. takes.3.same i ∷ same_after_taking olds takes.1 news takes.4 i
  ]

  pub stand_after_taking : (told : List Variable) (olds : List Column) (vs : List Variable) (news : List Column) → All (Contains told) vs → AnswersAll (asks_of olds) vs → AllTake Seen olds vs news
      → All (Stands Seen told) olds → All (Stands Seen told) news
  stand_after_taking told [] vs news there fit all stand = subst (λ (cs : List Column). All (Stands Seen told) cs) (sym all.1) stand
  stand_after_taking told (old ∷ olds) vs [] there fit all stand = absurd all
  stand_after_taking told (old ∷ olds) vs (new ∷ news) there fit all stand = elim all [
    | inl stays ↦ All-cons (Stands Seen told) new news (subst (Stands Seen told) (sym stays.1) (All-head (Stands Seen told) old olds stand))
        (stand_after_taking told olds vs news there (answered_none old.operation old.progress (asks_of olds) vs stays.0 fit) stays.2 (All-tail (Stands Seen told) old olds stand))
    | inr takes ↦
        let v = takes.0 in
        let rest = takes.1 in
        let name = name_asked old.progress takes.3.asked in
        let fits = answered_one old.operation old.progress name.0 (asks_of olds) v rest name.1 (subst (AnswersAll (asks_of (old ∷ olds))) takes.2 fit) in
        let told_all = subst (All (Contains told)) takes.2 there in
        All-cons (Stands Seen told) new news
        (subst (λ (r : ReadOperation × List ℕ). StandsIn Seen told r.0 r.1 new.progress) (sym takes.3.same)
        (takes_stands Seen told old.operation old.first name.0 v old.progress new.progress name.1 fits.0 (All-head (Contains told) v rest told_all) takes.3.takes (All-head (Stands Seen told) old olds stand)))
        (stand_after_taking told olds rest news (All-tail (Contains told) v rest told_all) fits.1 takes.4 (All-tail (Stands Seen told) old olds stand))
  ]

  stays_more : (olds : List Column) (vs : List Variable) (news : List Column) (c : Column) → AllTake Seen olds vs news → ¬ IsAsked c.progress → AllTake Seen (olds ++ c ∷ []) vs (news ++ c ∷ [])
  stays_more [] vs news c all not = subst (λ (cs : List Column). AllTake Seen (c ∷ []) vs (cs ++ c ∷ [])) (sym all.1) (inl (not, refl, (all.0, refl)))
  stays_more (old ∷ olds) vs [] c all not = absurd all
  stays_more (old ∷ olds) vs (new ∷ news) c all not = elim all [
    | inl stays ↦ inl (stays.0, stays.1, stays_more olds vs news c stays.2 not)
    | inr takes ↦ inr (takes.0, takes.1, takes.2, takes.3, stays_more olds takes.1 news c takes.4 not)
  ]

  takes_more : (olds : List Column) (vs : List Variable) (news : List Column) (c : Column) (v : Variable) (new : Column) → AllTake Seen olds vs news → ColumnTakes Seen c v new
      → AllTake Seen (olds ++ c ∷ []) (vs ++ v ∷ []) (news ++ new ∷ [])
  takes_more [] vs news c v new all takes =
      subst (λ (cs : List Column). AllTake Seen (c ∷ []) (vs ++ v ∷ []) (cs ++ new ∷ [])) (sym all.1) (inr (v, [], ap (λ (ws : List Variable). ws ++ v ∷ []) all.0, takes, (refl, refl)))
  takes_more (old ∷ olds) vs [] c v new all takes = absurd all
  takes_more (old ∷ olds) vs (first ∷ news) c v new all takes = elim all [
    | inl stays ↦ inl (stays.0, stays.1, takes_more olds vs news c v new stays.2 takes)
    | inr taken ↦ inr (taken.0, taken.1 ++ v ∷ [], ap (λ (ws : List Variable). ws ++ v ∷ []) taken.2, taken.3, takes_more olds taken.1 news c v new taken.4 takes)
  ]

  -- the first columns have had their variables, and these are left
  abbrev pub TakenUpTo : List Column → ℕ → List Column → List Variable → List Variable → Type 0
  TakenUpTo olds i now all left = (done : List Column) × (length done ≡ i) × (now ≡ done ++ drop i olds)
      × (vs : List Variable) × (all ≡ vs ++ left) × AllTake Seen (take i olds) vs done × AnswersAll (asks_of (drop i olds)) left

  -- what answers the column at this place and those after it
  pub answers_at : (olds : List Column) (i : ℕ) (now : List Column) (all left : List Variable) (d : Column) → i < length now → TakenUpTo olds i now all left
      → AnswersAll (asked_in (slice_index_or now i d).operation (slice_index_or now i d).progress ++ asks_of (drop (i + 1) olds)) left
  answers_at olds i now all left d within taken =
      let at = left_at olds taken.0 now i d within taken.1 taken.2 in
      subst (λ (c : Column). AnswersAll (asked_in c.operation c.progress ++ asks_of (drop (i + 1) olds)) left) (sym at.2)
      (subst (λ (cs : List Column). AnswersAll (asks_of cs) left) (drop_more olds i d at.0) taken.6)

  pub one_stays : (olds : List Column) (i : ℕ) (now : List Column) (all left : List Variable) (d : Column) → i < length now → TakenUpTo olds i now all left
      → ¬ IsAsked (slice_index_or now i d).progress → TakenUpTo olds (i + 1) now all left
  one_stays olds i now all left d within taken not =
      let done = taken.0 in
      let c = slice_index_or now i d in
      let at = left_at olds done now i d within taken.1 taken.2 in (
        done ++ c ∷ [],
        length_push done c ∙ ap (λ n. n + 1) taken.1,
        at.1 ∙ sym (append_assoc done (c ∷ []) (drop (i + 1) olds)),
        taken.3,
        taken.4,
        subst (λ (cs : List Column). AllTake Seen cs taken.3 (done ++ c ∷ [])) (sym (take_more olds i d at.0 ∙ ap (λ (x : Column). take i olds ++ x ∷ []) (sym at.2)))
            (stays_more (take i olds) taken.3 done c taken.5 not),
        answered_none c.operation c.progress (asks_of (drop (i + 1) olds)) left not (answers_at olds i now all left d within taken),
      )

  pub one_taken : (olds : List Column) (i : ℕ) (now : List Column) (all : List Variable) (v : Variable) (left : List Variable) (d new : Column) → i < length now
      → TakenUpTo olds i now all (v ∷ left) → ColumnTakes Seen (slice_index_or now i d) v new → TakenUpTo olds (i + 1) (set now i new) all left
  one_taken olds i now all v left d new within taken takes =
      let done = taken.0 in
      let c = slice_index_or now i d in
      let at = left_at olds done now i d within taken.1 taken.2 in
      let name = name_asked c.progress takes.asked in (
        done ++ new ∷ [],
        length_push done new ∙ ap (λ n. n + 1) taken.1,
        ap (λ (cs : List Column). set cs i new) at.1 ∙ set_at done c (drop (i + 1) olds) new i taken.1 ∙ sym (append_assoc done (new ∷ []) (drop (i + 1) olds)),
        taken.3 ++ v ∷ [],
        taken.4 ∙ sym (append_assoc taken.3 (v ∷ []) left),
        subst (λ (cs : List Column). AllTake Seen cs (taken.3 ++ v ∷ []) (done ++ new ∷ [])) (sym (take_more olds i d at.0 ∙ ap (λ (x : Column). take i olds ++ x ∷ []) (sym at.2)))
            (takes_more (take i olds) taken.3 done c v new taken.5 takes),
        (answered_one c.operation c.progress name.0 (asks_of (drop (i + 1) olds)) v left name.1 (answers_at olds i now all (v ∷ left) d within taken)).1,
      )
