-- What is known of a column of a GetBulkRequest.
use Rattle.std.specs.Prelude.{◌≡◌, ◌<◌, ◌+◌, ◌-◌, ℕ, zero, suc, List, [], ◌∷◌, ◌++◌, Contains, length, map, take, slice_index_or}
use Rattle.std.specs.List.{HoldsAt}
use Rattle.std.proofs.Common.{refl, sym, ap, subst, ◌∙◌, inl, inr, arith}
use Rattle.std.proofs.lemmas.List.{take_all, take_more, get_or-map, length-map}
use Rattle.std.proofs.lemmas.List.Elements.{All-push}
use Rattle.snmp_msg.specs.Variables.{Variable}
use Rattle.vacm_next.specs.Next.{IsBefore, IsUpto}
use Rattle.vacm_next.proofs.Names.{upto_itself}
use Rattle.vacm_next.proofs.Order.{not_both}
use Rattle.snmp_responder.specs.Bulk.{IsEnded}
use Rattle.snmp_walk.specs.Bindings.{IsValue, given_says}
use Rattle.snmp_walk.specs.Column.{MayShow, StandsAt, StandsInWalk}
use Rattle.snmp_walk.specs.BulkColumn.{Ascends, BulkStands, IsAt, IsGiven, StandsInBulk, given_in, last_name, name_before, shown}
use Rattle.snmp_walk.specs.BulkSteps.{BulkTakes, FitsIn, TakesValue, Waits, asked_after}
use Rattle.snmp_walk.specs.Steps.{GoesOn}
use Rattle.snmp_walk.specs.declared.operation.ReadOperation.TheVariants.{GetNext}
use Rattle.snmp_walk.specs.declared.given.GivenVariable.{GivenVariable}
use Rattle.snmp_walk.specs.declared.bulk_column.BulkColumn.{BulkColumn}
use Rattle.snmp_walk.specs.declared.column.Progress.{Progress}
use Rattle.snmp_walk.specs.declared.column.Progress.TheVariants.{Wanting, Asked, Given, Hidden, Ended}
use Rattle.snmp_walk.proofs.Pushed.{map_push}
use Rattle.snmp_walk.proofs.Places.{after_first, goes_on_at}
use Rattle.snmp_walk.proofs.Steps.{goes_on_stands}

-- the last name of variables with one more
pub last_pushed : (first : List ℕ) (vs : List Variable) (v : Variable) → last_name first (vs ++ v ∷ []) ≡ v.name
last_pushed first [] v = refl
last_pushed first (w ∷ vs) v = last_pushed w.name vs v

pub ascends_more : (first : List ℕ) (vs : List Variable) (v : Variable) → Ascends first vs → IsBefore (last_name first vs) v.name → Ascends first (vs ++ v ∷ [])
ascends_more first [] v ascends before = (before, tt)
ascends_more first (w ∷ vs) v ascends before = (ascends.0, ascends_more w.name vs v ascends.1 before)

module _ (Seen : List ℕ → Type 0) (told : List Variable) where
  pub bulk_begins : (first : List ℕ) → StandsInBulk Seen told first [] (Wanting first)
  bulk_begins first = record {
    ascends = tt;
    are_given = λ k d below. absurd (omega (arith, below));
    walk = record { place = inl refl; upto = upto_itself first };
  }

  pub bulk_goes_on : (first : List ℕ) (given : List Variable) (old new : Progress) → GoesOn Seen GetNext old new → StandsInBulk Seen told first given old → StandsInBulk Seen told first given new
  bulk_goes_on first given old new goes stands = record {
    ascends = stands.ascends;
    are_given = stands.are_given;
    walk = goes_on_stands Seen told GetNext (last_name first given) old new goes stands.walk;
  }

  waits_walk : (first : List ℕ) (old new : Progress) → Waits old new → StandsInWalk Seen told first old → StandsInWalk Seen told first new
  waits_walk first (Asked ask) new w stands = subst (StandsInWalk Seen told first) (sym w) stands.0
  waits_walk first _ new w stands = subst (StandsInWalk Seen told first) (sym w) stands

  pub bulk_waits : (first : List ℕ) (given : List Variable) (old new : Progress) → Waits old new → StandsInBulk Seen told first given old → StandsInBulk Seen told first given new
  bulk_waits first given old new w stands = record {
    ascends = stands.ascends;
    are_given = stands.are_given;
    walk = waits_walk (last_name first given) old new w stands.walk;
  }

  -- asked for what comes after a name that it was given
  asked_at : (first from : List ℕ) → StandsAt first told from → StandsInWalk Seen told first (asked_after from)
  asked_at first from stands = (stands, record { upto = upto_itself from; none = λ name seen upto. not_both name from upto seen.2 })

  -- a value that was told, of a name after the one that was asked
  takes_value : (first : List ℕ) (given more : List Variable) (from asked : List ℕ) (new : Progress) (v : Variable) → IsBefore asked v.name → IsValue v → Contains told v → TakesValue Seen given v more new
      → StandsInBulk Seen told first given (Asked (record { from = from; name = asked })) → StandsInBulk Seen told first more new
  takes_value first given more from asked new v before value there takes stands =
      let last = last_name first given in
      let later : IsBefore last v.name = after_first last from asked v.name stands.walk.0.upto stands.walk.1.upto before in
      subst (λ (p : Progress). StandsInBulk Seen told first more p) (sym takes.0) (elim takes.1 [
        | inl seen ↦ subst (λ (vs : List Variable). StandsInBulk Seen told first vs (asked_after v.name)) (sym seen.1) (record {
          ascends = ascends_more first given v stands.ascends later;
          are_given = All-push (IsGiven Seen told) given v stands.are_given (record { seen = seen.0; value = value; there = there });
          walk = asked_at (last_name first (given ++ v ∷ [])) v.name (record {
            place = inl (sym (last_pushed first given v));
            upto = subst (λ (name : List ℕ). IsUpto name v.name) (sym (last_pushed first given v)) (upto_itself v.name);
          });
        })
        | inr hidden ↦ subst (λ (vs : List Variable). StandsInBulk Seen told first vs (asked_after v.name)) (sym hidden.1) (record {
          ascends = stands.ascends;
          are_given = stands.are_given;
          walk = asked_at last v.name (goes_on_at last from asked told v stands.walk.0.upto stands.walk.1.upto before there);
        })
      ])

  -- endOfMibView that was told
  takes_end : (first : List ℕ) (given more : List Variable) (old new : Progress) (v : Variable) → IsEnded v → Contains told v → more ≡ given → new ≡ Ended
      → StandsInBulk Seen told first given old → StandsInBulk Seen told first more new
  takes_end first given more old new v ended there same end stands =
      subst (λ (p : Progress). StandsInBulk Seen told first more p) (sym end) (subst (λ (vs : List Variable). StandsInBulk Seen told first vs Ended) (sym same) (record {
        ascends = stands.ascends;
        are_given = stands.are_given;
        walk = inr (v, there, ended);
      }))

  -- behind endOfMibView
  behind : (first : List ℕ) (given more : List Variable) (old new : Progress) (v : Variable) → IsEnded v → Contains told v → BulkTakes Seen given v more new
      → StandsInBulk Seen told first given old → StandsInBulk Seen told first more new
  behind first given more old new v ended there takes stands = elim takes [
    | inl end ↦ takes_end first given more old new v ended there end.1 end.2 stands
    | inr value ↦ absurd (value.0 ended)
  ]

  pub bulk_takes : (first : List ℕ) (given more : List Variable) (old new : Progress) (v : Variable) → FitsIn old v → Contains told v → BulkTakes Seen given v more new
      → StandsInBulk Seen told first given old → StandsInBulk Seen told first more new
  bulk_takes first given more (Asked ask) new v fits there takes stands = elim takes [
    | inl end ↦ takes_end first given more (Asked ask) new v end.0 there end.1 end.2 stands
    | inr value ↦ elim fits [
      | inl end ↦ absurd (value.0 end)
      | inr later ↦ takes_value first given more ask.from ask.name new v later.0 later.1 there value.1 stands
    ]
  ]
  bulk_takes first given more (Wanting from) new v fits there takes stands = behind first given more (Wanting from) new v fits there takes stands
  bulk_takes first given more (Given g) new v fits there takes stands = behind first given more (Given g) new v fits there takes stands
  bulk_takes first given more Hidden new v fits there takes stands = behind first given more Hidden new v fits there takes stands
  bulk_takes first given more Ended new v fits there takes stands = behind first given more Ended new v fits there takes stands

-- each name is greater than the one before it
ascends_at : (first : List ℕ) (vs : List Variable) (k : ℕ) (d : Variable) → k < length vs → Ascends first vs → IsBefore (last_name first (take k vs)) (slice_index_or vs k d).name
ascends_at first [] k d within ascends = absurd (omega (arith, within))
ascends_at first (v ∷ vs) zero d within ascends = ascends.0
ascends_at first (v ∷ vs) (suc k) d within ascends = ascends_at v.name vs k d (omega (arith, within)) ascends.1

-- the last name of variables that a device gave
pub last_given : (first : List ℕ) (gs : List GivenVariable) (g : GivenVariable) → 0 < length gs → HoldsAt (λ (x : GivenVariable). g ≡ x) gs (length gs - 1) → g.name ≡ last_name first (map given_says gs)
last_given first gs g some at =
    let last = slice_index_or gs (length gs - 1) g in
    let all : gs ≡ take (length gs - 1) gs ++ last ∷ [] =
    sym (take_all (length gs - 1 + 1) gs (omega (arith, some))) ∙ take_more gs (length gs - 1) g (omega (arith, some)) in
    let said = ap (map given_says) all ∙ map_push given_says (take (length gs - 1) gs) last in
    ap (λ (x : GivenVariable). x.name) (at g) ∙ sym (ap (last_name first) said ∙ last_pushed first (map given_says (take (length gs - 1) gs)) (given_says last))

-- what a column has in a repetition may be shown
pub at_shows : (Seen : List ℕ → Type 0) (told : List Variable) (c : BulkColumn) (k : ℕ) (v : Variable) → BulkStands Seen told c → IsAt c k v → MayShow Seen told GetNext (name_before c k) v
at_shows Seen told c k v stands at = elim at [
  | inl there ↦
      let given = given_in c in
      let is = there.1 v in
      let one : IsGiven Seen told (slice_index_or given k v) = stands.are_given k v there.0 in
      subst (λ (w : Variable). MayShow Seen told GetNext (name_before c k) w) (sym is)
      (inl (one.seen, ascends_at c.first given k v there.0 stands.ascends, one.value, one.there))
  | inr ended ↦
      subst (λ (vs : List Variable). MayShow Seen told GetNext (last_name c.first vs) v) (sym (take_all k (given_in c) ended.0))
      (inr (subst (StandsInWalk Seen told (shown c)) ended.1 stands.walk, ended.2))
]

-- the variable that was given in this place
pub given_at : (gs : List GivenVariable) (k : ℕ) (g : GivenVariable) (v : Variable) → k < length gs → HoldsAt (λ (x : GivenVariable). g ≡ x) gs k → v ≡ given_says g
    → (k < length (map given_says gs)) × HoldsAt (λ (w : Variable). v ≡ w) (map given_says gs) k
given_at gs k g v within at is = (
  subst (λ n. k < n) (sym (length-map gs given_says)) within,
  λ w. is ∙ ap given_says (at g) ∙ sym (get_or-map given_says gs k g w within),
)
