-- What a device answers as RFC 3416 says to what a dialogue for a GetBulkRequest asks is true in turn.
use Rattle.std.specs.Prelude.{◌≡◌, ◌≢◌, ◌<◌, ◌≤◌, ◌+◌, ◌-◌, ◌++◌, ℕ, zero, suc, List, [], ◌∷◌, All, drop, length, take}
use Rattle.std.specs.List.{flat_map}
use Rattle.std.proofs.Common.{ap, arith, refl, subst, sym, ◌∙◌}
use Rattle.std.proofs.lemmas.List.{append-nil, append_assoc, length-append}
use Rattle.std.proofs.lemmas.List.Elements.{All-append, All-cons, All-nil, All-weaker}
use Rattle.std.proofs.lemmas.Slice.Zip.{AllZip-long}
use Rattle.snmp_msg.specs.Variables.{Variable}
use Rattle.snmp_responder.specs.Bulk.{IsBulk}
use Rattle.snmp_responder.specs.Instrumentation.{Known}
use Rattle.snmp_responder.specs.Next.{AreNextAnswers}
use Rattle.snmp_walk.specs.BulkAsk.{asked_of}
use Rattle.snmp_walk.specs.Column.{Asks}
use Rattle.snmp_walk.specs.Turns.{repeated, turn_in, turns, turns_from}
use Rattle.snmp_walk.specs.declared.column.Progress.{Progress}
use Rattle.snmp_walk.specs.declared.column.Progress.TheVariants.{Wanting, Asked, Given, Hidden, Ended}
use Rattle.snmp_walk.specs.declared.bulk_column.BulkColumn.{BulkColumn}
use Rattle.gateway_laws.specs.Bulk.{AreNamesAsked, IsTrueInTurn}
use Rattle.gateway_laws.specs.Device.{AllSeen}
use Rattle.gateway_laws.proofs.InTurn.{AreWithin, Differ, bulk_in_turn, name_at, names_at, row_true}

-- the name that is asked for a column, if it is
abbrev pub asked_name : Progress → List (List ℕ)
asked_name (Asked ask) = ask.name ∷ []
asked_name _ = []

-- those of all columns
abbrev pub asked_names : List BulkColumn → List (List ℕ)
asked_names [] = []
asked_names (c ∷ cs) = asked_name c.progress ++ asked_names cs

-- ---- the turns of columns, by their numbers

name_behind : (before after : List (List ℕ)) (name : List ℕ) → name_at (before ++ name ∷ after) (length before) ≡ name
name_behind [] after name = refl
name_behind (n ∷ before) after name = name_behind before after name

-- the names of the turns are those that are asked
turn_names : (before names : List (List ℕ)) (cs : List BulkColumn) → AreNamesAsked cs names → names_at (before ++ names) (turns_from (length before) cs) ≡ asked_names cs
turn_names before names [] asked = refl
turn_names before [] (c ∷ cs) asked = absurd asked
turn_names before (name ∷ names) (c ∷ cs) asked =
    let all = before ++ name ∷ names in
    let longer : length (before ++ name ∷ []) ≡ length before + 1 = omega (arith, length-append before (name ∷ [])) in
    let rest = subst (λ (those : List (List ℕ)). names_at those (turns_from (length before + 1) cs) ≡ asked_names cs) (append_assoc before (name ∷ []) names)
    (subst (λ (k : ℕ). names_at ((before ++ name ∷ []) ++ names) (turns_from k cs) ≡ asked_names cs) longer (turn_names (before ++ name ∷ []) names cs asked.1)) in
    with_this c.progress asked.0 rest
  where
    with_this : (p : Progress) → ((a : List ℕ) → Asks p a → name ≡ a) → names_at (before ++ name ∷ names) (turns_from (length before + 1) cs) ≡ asked_names cs
        → names_at (before ++ name ∷ names) (turn_in (length before) p ++ turns_from (length before + 1) cs) ≡ asked_name p ++ asked_names cs
    with_this (Wanting from) same rest = rest
    with_this (Asked ask) same rest = λ i. (name_behind before names name ∙ same ask.name refl) i ∷ rest i
    with_this (Given g) same rest = rest
    with_this Hidden same rest = rest
    with_this Ended same rest = rest

-- the number is that of a column, the first of which has this one
abbrev IsOf : ℕ → List BulkColumn → ℕ → Type 0
IsOf number cs turn = (number ≤ turn) × (turn < number + length cs)

turns_within : (number : ℕ) (cs : List BulkColumn) → All (IsOf number cs) (turns_from number cs)
turns_within number [] = All-nil (IsOf number [])
turns_within number (c ∷ cs) =
    All-append (IsOf number (c ∷ cs)) (turn_in number c.progress) (turns_from (number + 1) cs) (here c.progress)
    (All-weaker (IsOf (number + 1) cs) (IsOf number (c ∷ cs)) (λ turn is. (omega (arith, is.0), omega (arith, is.1))) (turns_from (number + 1) cs) (turns_within (number + 1) cs))
  where
    here : (p : Progress) → All (IsOf number (c ∷ cs)) (turn_in number p)
    here (Asked ask) = All-cons (IsOf number (c ∷ cs)) number [] (omega arith, omega arith) (All-nil (IsOf number (c ∷ cs)))
    here (Wanting from) = All-nil (IsOf number (c ∷ cs))
    here (Given g) = All-nil (IsOf number (c ∷ cs))
    here Hidden = All-nil (IsOf number (c ∷ cs))
    here Ended = All-nil (IsOf number (c ∷ cs))

turns_differ : (number : ℕ) (cs : List BulkColumn) → Differ (turns_from number cs)
turns_differ number [] = tt
turns_differ number (c ∷ cs) = here c.progress (turns_differ (number + 1) cs)
  where
    here : (p : Progress) → Differ (turns_from (number + 1) cs) → Differ (turn_in number p ++ turns_from (number + 1) cs)
    here (Asked ask) rest = (
      All-weaker (IsOf (number + 1) cs) (λ (other : ℕ). number ≢ other) (λ turn is same. omega (arith, same, is.0)) (turns_from (number + 1) cs) (turns_within (number + 1) cs),
      rest,
    )
    here (Wanting from) rest = rest
    here (Given g) rest = rest
    here Hidden rest = rest
    here Ended rest = rest

-- those of the first columns, and then those of the others
turns_split : (number n other : ℕ) (cs : List BulkColumn) → other ≡ number + n → turns_from number cs ≡ turns_from number (take n cs) ++ turns_from other (drop n cs)
turns_split number zero other [] same = refl
turns_split number zero other (c ∷ cs) same = let is : number ≡ other = omega (arith, same) in ap (λ (k : ℕ). turns_from k (c ∷ cs)) is
turns_split number (suc n) other [] same = refl
turns_split number (suc n) other (c ∷ cs) same =
    ap (λ (ts : List ℕ). turn_in number c.progress ++ ts) (turns_split (number + 1) n other cs (omega (arith, same)))
    ∙ sym (append_assoc (turn_in number c.progress) (turns_from (number + 1) (take n cs)) (turns_from other (drop n cs)))

turns_long : (number : ℕ) (cs : List BulkColumn) → length (turns_from number cs) ≡ asked_of cs
turns_long number [] = refl
turns_long number (c ∷ cs) = here c.progress (turns_long (number + 1) cs)
  where
    here : (p : Progress) → length (turns_from (number + 1) cs) ≡ asked_of cs → length (turn_in number p ++ turns_from (number + 1) cs) ≡ length (turn_in 0 p ++ flat_map (λ (x : BulkColumn). turn_in 0 x.progress) cs)
    here (Asked ask) rest = ap suc rest
    here (Wanting from) rest = rest
    here (Given g) rest = rest
    here Hidden rest = rest
    here Ended rest = rest

-- once, and then once less
repeated_once : (n : ℕ) (numbers : List ℕ) → 0 < n → repeated n numbers ≡ numbers ++ repeated (n - 1) numbers
repeated_once zero numbers some = absurd (omega (arith, some))
repeated_once (suc n) numbers some = let less : suc n - 1 ≡ n = omega arith in ap (λ (k : ℕ). numbers ++ repeated k numbers) (sym less)

-- as many columns as there are, at most
pub few_asked : (n : ℕ) (cs : List BulkColumn) → asked_of (take n cs) ≤ length cs
few_asked zero cs = omega arith
few_asked (suc n) [] = omega arith
few_asked (suc n) (c ∷ cs) = here c.progress (few_asked n cs)
  where
    here : (p : Progress) → asked_of (take n cs) ≤ length cs → length (turn_in 0 p ++ flat_map (λ (x : BulkColumn). turn_in 0 x.progress) (take n cs)) ≤ suc (length cs)
    here (Asked ask) rest = omega (arith, rest)
    here (Wanting from) rest = omega (arith, rest)
    here (Given g) rest = omega (arith, rest)
    here Hidden rest = omega (arith, rest)
    here Ended rest = omega (arith, rest)

all_within : (cs : List BulkColumn) (names : List (List ℕ)) → AreNamesAsked cs names → AreWithin names (turns_from 0 cs)
all_within cs names asked =
    let long = AllZip-long (λ (c : BulkColumn) (name : List ℕ). (a : List ℕ) → Asks c.progress a → name ≡ a) cs names asked in
    All-weaker (IsOf 0 cs) (λ (turn : ℕ). turn < length names) (λ turn is. omega (arith, is.1, long)) (turns_from 0 cs) (turns_within 0 cs)

module _ (device : Known) (cs : List BulkColumn) (names : List (List ℕ)) (asked : AreNamesAsked cs names) where
  -- what the device has for a GetNextRequest of these names
  pub next_in_turn : (n : ℕ) (vs : List Variable) → AreNextAnswers device AllSeen (asked_names cs) vs → IsTrueInTurn device names (turns n 1 cs) vs
  next_in_turn n vs answers =
      subst (λ (those : List Variable). IsTrueInTurn device names (turns_from 0 cs ++ []) those) (append-nil vs)
      (row_true device names (turns_from 0 cs) [] vs [] (all_within cs names asked) (turns_differ 0 cs)
      (subst (λ (those : List (List ℕ)). AreNextAnswers device AllSeen those vs) (sym (turn_names [] names cs asked)) answers) tt)

  -- for a GetBulkRequest of these names: as many repetitions as were asked, or fewer
  pub repetitions_in_turn : (n singles most repetitions : ℕ) (whole vs rest : List Variable) → singles ≡ asked_of (take n cs) → 0 < repetitions → most ≤ repetitions
      → IsBulk device AllSeen (asked_names cs) singles most whole → whole ≡ vs ++ rest → IsTrueInTurn device names (turns n repetitions cs) vs
  repetitions_in_turn n singles most repetitions whole vs rest count some few bulk is =
      let single = turns_from 0 (take n cs) in
      let again = turns_from n (drop n cs) in
      let split : turns_from 0 cs ≡ single ++ again = turns_split 0 n n cs (omega arith) in
      let those : asked_names cs ≡ names_at names (single ++ again) = sym (turn_names [] names cs asked) ∙ ap (names_at names) split in
      let long : singles ≡ length single = count ∙ sym (turns_long 0 (take n cs)) in
      let joined : turns n repetitions cs ≡ single ++ repeated repetitions again =
      ap (λ (ts : List ℕ). ts ++ repeated (repetitions - 1) again) split ∙ append_assoc single again (repeated (repetitions - 1) again) ∙ ap (λ (ts : List ℕ). single ++ ts) (sym (repeated_once repetitions again some)) in
      subst (λ (ts : List ℕ). IsTrueInTurn device names ts vs) (sym joined)
      (bulk_in_turn device names single again most repetitions whole vs rest few
      (subst (AreWithin names) split (all_within cs names asked)) (subst Differ split (turns_differ 0 cs))
      (subst (λ (all : List (List ℕ)). IsBulk device AllSeen all (length single) most whole) those (subst (λ (k : ℕ). IsBulk device AllSeen (asked_names cs) k most whole) long bulk)) is)
