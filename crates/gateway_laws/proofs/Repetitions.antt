-- A front that has a whole repetition.
use Rattle.std.specs.Prelude.{◌≡◌, ◌<◌, ◌≤◌, ℕ, zero, suc, List, [], ◌∷◌, All, drop, length, map, take}
use Rattle.std.proofs.Common.{ap, arith, inl, inr, refl}
use Rattle.std.proofs.lemmas.List.{length-append, length-map, take-append-drop}
use Rattle.std.proofs.lemmas.List.Elements.{All-cons, All-drop, All-head, All-nil, All-tail, All-take}
use Rattle.std.proofs.lemmas.Slice.Zip.{AllZip-long}
use Rattle.snmp_msg.specs.Variables.{Variable}
use Rattle.snmp_responder.specs.Instrumentation.{Known}
use Rattle.snmp_walk.specs.Bindings.{given_says}
use Rattle.snmp_walk.specs.BulkColumn.{IsAt, IsUnknownAt, Wants, bulk_request}
use Rattle.snmp_walk.specs.BulkDialogue.{HasGathered, HasRepetition, IsEnough, NoneWants, bulk_requests_of}
use Rattle.snmp_walk.specs.Column.{IsOpen}
use Rattle.snmp_walk.specs.Front.{AreKnown, IsCutRow, IsFront, IsRowAt}
use Rattle.snmp_walk.specs.declared.column.Progress.{Progress}
use Rattle.snmp_walk.specs.declared.column.Progress.TheVariants.{Given, Hidden, Ended}
use Rattle.snmp_walk.specs.declared.bulk_column.BulkColumn.{BulkColumn}
use Rattle.snmp_walk.specs.declared.bulk_dialogue.BulkDialogue.{BulkDialogue}
use Rattle.gateway_laws.specs.BulkTracks.{AllBulkTrack, BulkColumnTracks, IsWalking}

-- ---- a dialogue that has enough

abbrev WantsSome : BulkColumn → Type 0
WantsSome c = 0 < c.most

is_open : (p : Progress) → IsWalking p → ¬ (p ≡ Ended) → IsOpen p
is_open (Given g) walking not_ended = absurd walking
is_open Hidden walking not_ended = absurd walking
is_open Ended walking not_ended = absurd (not_ended refl)
is_open _ walking not_ended = tt

known : (device : Known) (Seen : List ℕ → Type 0) (c : BulkColumn) → BulkColumnTracks device Seen c → WantsSome c → ¬ Wants c → ¬ IsUnknownAt c 0
known device Seen c tracks some not_wants unknown = not_wants (record {
  few = let none = unknown.behind in omega (arith, length-map c.got.items given_says, none, some);
  opened = is_open c.progress tracks.walking unknown.not_ended;
})

all_known : (device : Known) (Seen : List ℕ → Type 0) (cs : List BulkColumn) → AllBulkTrack device Seen cs → All WantsSome cs → NoneWants cs → HasRepetition cs
all_known device Seen [] tracks some none = All-nil (λ (c : BulkColumn). ¬ IsUnknownAt c 0)
all_known device Seen (c ∷ cs) tracks some none = All-cons (λ (x : BulkColumn). ¬ IsUnknownAt x 0) c cs
    (known device Seen c (All-head (BulkColumnTracks device Seen) c cs tracks) (All-head WantsSome c cs some) (All-head (λ (x : BulkColumn). ¬ Wants x) c cs none))
    (all_known device Seen cs (All-tail (BulkColumnTracks device Seen) c cs tracks) (All-tail WantsSome c cs some) (All-tail (λ (x : BulkColumn). ¬ Wants x) c cs none))

-- each column wants a variable, if a repetition is asked
repeaters_want : (most : ℕ) (vs : List Variable) (cs : List BulkColumn) → 0 < most → map bulk_request cs ≡ map (λ (v : Variable). (v.name, most)) vs → All WantsSome cs
repeaters_want most vs [] some same = All-nil WantsSome
repeaters_want most [] (c ∷ cs) some same = absurd (let none : bulk_request c ∷ map bulk_request cs ≡ [] = same in cc)
repeaters_want most (v ∷ vs) (c ∷ cs) some same =
    let both : bulk_request c ∷ map bulk_request cs ≡ (v.name, most) ∷ map (λ (x : Variable). (x.name, most)) vs = same in
    let head : bulk_request c ≡ (v.name, most) = cc in
    let tail : map bulk_request cs ≡ map (λ (x : Variable). (x.name, most)) vs = cc in
    All-cons WantsSome c cs (omega (arith, ap (λ (r : List ℕ × ℕ). r.1) head, some)) (repeaters_want most vs cs some tail)

pub all_want : (n most : ℕ) (vs : List Variable) (cs : List BulkColumn) → 0 < most → map bulk_request cs ≡ bulk_requests_of n most vs → All WantsSome cs
all_want n most vs [] some same = All-nil WantsSome
all_want zero most [] (c ∷ cs) some same = absurd (let none : bulk_request c ∷ map bulk_request cs ≡ [] = same in cc)
all_want zero most (v ∷ vs) (c ∷ cs) some same = repeaters_want most (v ∷ vs) (c ∷ cs) some same
all_want (suc n) most [] (c ∷ cs) some same = absurd (let none : bulk_request c ∷ map bulk_request cs ≡ [] = same in cc)
all_want (suc n) most (v ∷ vs) (c ∷ cs) some same =
    let both : bulk_request c ∷ map bulk_request cs ≡ (v.name, 1) ∷ bulk_requests_of n most vs = same in
    let head : bulk_request c ≡ (v.name, 1) = cc in
    let tail : map bulk_request cs ≡ bulk_requests_of n most vs = cc in
    All-cons WantsSome c cs (omega (arith, ap (λ (r : List ℕ × ℕ). r.1) head)) (all_want n most vs cs some tail)

pub enough_known : (device : Known) (Seen : List ℕ → Type 0) (d : BulkDialogue) → AllBulkTrack device Seen d.columns.items → All WantsSome d.columns.items → IsEnough d → ¬ HasGathered d.gathered d.columns.items → HasRepetition d.columns.items
enough_known device Seen d tracks some (inl none) not_gathered = all_known device Seen d.columns.items tracks some none
enough_known device Seen d tracks some (inr (inl gathered)) not_gathered = absurd (not_gathered gathered)
enough_known device Seen d tracks some (inr (inr last)) not_gathered = last.1

-- ---- a front of columns that each have a variable

not_cut : (cs : List BulkColumn) (vs : List Variable) → HasRepetition cs → IsCutRow cs 0 vs → ⊥
not_cut [] vs all cut = cut
not_cut (c ∷ cs) vs all (inl cut) = All-head (λ (x : BulkColumn). ¬ IsUnknownAt x 0) c cs all cut.0
not_cut (c ∷ cs) vs all (inr (v, rest, are, at, cut)) = not_cut cs rest (All-tail (λ (x : BulkColumn). ¬ IsUnknownAt x 0) c cs all) cut

row_long : (cs : List BulkColumn) (row : List Variable) → IsRowAt cs 0 row → length row ≡ length cs
row_long cs row is = omega (arith, AllZip-long (λ (c : BulkColumn) (v : Variable). IsAt c 0 v) cs row is)

known_long : (most : ℕ) (cs : List BulkColumn) (vs : List Variable) → 0 < most → HasRepetition cs → AreKnown cs most 0 vs → length cs ≤ length vs
known_long zero cs vs some all are_known = absurd (omega (arith, some))
known_long (suc most) cs vs some all (inl cut) = absurd (not_cut cs vs all cut)
known_long (suc most) cs vs some all (inr (row, rest, are, is_row, more)) =
    omega (arith, row_long cs row is_row, ap (λ (ws : List Variable). length ws) are, length-append row rest)

pub front_long : (n most : ℕ) (cs : List BulkColumn) (vs : List Variable) → 0 < most → HasRepetition cs → IsFront n most cs vs → length cs ≤ length vs
front_long n most cs vs some all (inl cut) = absurd (not_cut (take n cs) vs (All-take (λ (x : BulkColumn). ¬ IsUnknownAt x 0) n cs all) cut)
front_long n most cs vs some all (inr (single, rest, are, is_row, are_known)) =
    let last = known_long most (drop n cs) rest some (All-drop (λ (x : BulkColumn). ¬ IsUnknownAt x 0) n cs all) are_known in
    omega (
      arith,
      row_long (take n cs) single is_row,
      last,
      ap (λ (ws : List Variable). length ws) are,
      length-append single rest,
      length-append (take n cs) (drop n cs),
      ap (λ (xs : List BulkColumn). length xs) (take-append-drop n cs),
    )
