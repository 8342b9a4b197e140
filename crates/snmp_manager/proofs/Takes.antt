-- What a take answers and leaves, for the functions that do it.
use Rattle.snmp_message.specs.declared.refusal.Refusal.TheVariants.{DecryptionError, NotInWindow, OutOfMemory}
use Rattle.snmp_message.specs.declared.refusal.Refusal.{Refusal}
use Rattle.std.proofs.Common.{◌≡◌, ℕ, ◌≤◌, List, Option, Some, None, Bool, true, false, cond, length, refl, sym, ◌∙◌, ap, subst, inl, inr}
use Rattle.std.specs.Prelude.{◌↔◌, ◌≢◌, Result, Ok, Err, MatchBool, IsTrue, IsSome, IsSomeAnd}
use Rattle.engine_clock.specs.Pairs.{BootsAndTime}
use Rattle.std.specs.Ordering.{is_eq}
use Rattle.std.proofs.lemmas.Cmp.{tied_itself}
use Rattle.engine_clock.specs.Marks.{Marks, SeenPair, mark_at, mark_join, joined_to, seen_at, learned}
use Rattle.engine_clock.specs.Joins.{option_join}
use Rattle.engine_clock.specs.Windows.{InManagerWindow, notion_at}
use Rattle.engine_clock.proofs.Absorbing.{joined_is, JoinsMark-learned, JoinsPair-learned}
use Rattle.engine_clock.proofs.Held.{engines_total}
use Rattle.usm_users.specs.User.{User}
use Rattle.snmp_message.specs.declared.refused_at.RefusedAt.{RefusedAt}
use Rattle.usm_core.specs.Table.{holds, fails, gives, refuses, refused, refusal_answer}
use Rattle.snmp_message.specs.Numbers.{in_table}
use Rattle.usm_core.specs.Authentic.{Authentic}
use Rattle.usm_core.specs.Verified.{Verified, Verifies, AllowsEngine, manager}
use Rattle.usm_core.specs.Answers.{IsAuthenticatedAs}
use Rattle.snmp_incoming.specs.Outcome.{Given, Taker, Outcome, Weighs, ReadsText, IsFresh, pair_in, as_manager}
use Rattle.snmp_incoming.specs.Answers.{IsOpening}
use Rattle.snmp_incoming.proofs.Rows.{same_refused}
use Rattle.snmp_manager.specs.declared.outcome.Outcome.TheVariants.{Refused}
use Rattle.snmp_manager.specs.Views.{Held, held_by}
use Rattle.snmp_manager.specs.Learning.{Learns, LearnsFrom, LearnsChecked}
use Rattle.snmp_manager.specs.Takes.{Takes, HoldsAuthentic, IsOnceLearned, TakesNoMemory}
use Rattle.snmp_manager.specs.Runs.{TakesOne}

-- exactly the authentic datagrams, as `open_auth` says
abbrev pub IsExact : List User → List ℕ → Result Verified Refusal → Type 0
IsExact users w answer = (engine : List ℕ) (pair : BootsAndTime) → (Authentic users w engine pair × AllowsEngine manager engine) ↔ IsAuthenticatedAs answer engine pair

allowed : (users : List User) (w engine : List ℕ) (pair : BootsAndTime) → Authentic users w engine pair → AllowsEngine manager engine
allowed users w engine pair a = subst (λ (e : List ℕ). (5 ≤ length e) × (length e ≤ 32)) a.engine_is a.message.engine_length

-- of a refused datagram nothing is learned
pub learns_nothing : (users : List User) (now : ℕ) (w : List ℕ) (held : Marks) (n : Refusal) → IsExact users w (Err n) → LearnsFrom users now w held held
learns_nothing users now w held n exact = inr (λ e p a. (exact e p).0 (a, allowed users w e p a), refl)

pub one_pair : (p q : BootsAndTime) → p.boots ≡ q.boots → p.time ≡ q.time → p ≡ q
one_pair p q e d = λ i. record { boots = e i; time = d i }

by_auth : (users : List User) (now : ℕ) (w : List ℕ) (old new : Marks) (v : Verified) → IsExact users w (Ok v) → (b : Bool) → v.parts.header.auth ≡ b
    → MatchBool b (Learns v.fields.engine (pair_in v) now old new) (new ≡ old) → LearnsFrom users now w old new
by_auth users now w old new v exact true is l =
    inl (
      v.fields.engine,
      pair_in v,
      record {
        is = ((exact v.fields.engine (pair_in v)).1 (is, refl, refl, refl)).0;
        only = λ e p a. let h = (exact e p).0 (a, allowed users w e p a) in (sym h.1, one_pair p (pair_in v) (sym h.2) (sym h.3));
      },
      l,
    )
by_auth users now w old new v exact false is l =
    inr (λ e p a. let h : true ≡ false = sym ((exact e p).0 (a, allowed users w e p a)).0 ∙ is in cc h, l)

-- what is learned of a checked message is what the datagram says
pub learns_checked : (users : List User) (now : ℕ) (w : List ℕ) (old new : Marks) (v : Verified) → IsExact users w (Ok v) → LearnsChecked v now old new → LearnsFrom users now w old new
learns_checked users now w old new v exact l = by_auth users now w old new v exact v.parts.header.auth refl l

-- ---- rows

module _ (old new : Held) (now : ℕ) (w : List ℕ) (same : new.users ≡ old.users) where
  -- refused down to the digest
  pub takes_refused : (r : Refusal) → r ≢ OutOfMemory → new.clocks ≡ old.clocks → IsExact old.users w (Err r) → Verifies manager old.users w (Err r) → Takes old now w (refusal_answer r) new
  unfolding Outcome
  takes_refused r other kept exact rows =
      subst (λ (a : Option (Result Given Refusal)). Takes old now w a new) (sym (same_refused r other))
      (same, subst (λ (m : Marks). LearnsFrom old.users now w old.clocks m) (sym kept) (learns_nothing old.users now w old.clocks r exact), holds tt (refuses r rows))

  module _ (v : Verified) (exact : IsExact old.users w (Ok v)) (rows : Verifies manager old.users w (Ok v)) (learned : LearnsChecked v now old.clocks new.clocks) where
    learns : LearnsFrom old.users now w old.clocks new.clocks
    learns = learns_checked old.users now w old.clocks new.clocks v exact learned

    -- what is answered by the rows from the time window on
    pub takes_weighed : (a : Option (Result Given Refusal)) → IsSomeAnd a (Weighs (as_manager new.clocks) old.users now w v) → Takes old now w a new
    unfolding Outcome learns
    takes_weighed None weighs = absurd weighs
    takes_weighed (Some a) weighs = (same, learns, holds tt (gives v rows weighs))

-- ---- the rows from the time window on

module _ (taker : Taker) (users : List User) (now : ℕ) (w : List ℕ) (v : Verified) where
  pub weighs_late : ((v.parts.header.auth ≡ true → IsFresh taker now v) → ⊥) → Weighs taker users now w v (Err NotInWindow)
  unfolding Weighs
  weighs_late outside = fails outside

  module _ (fresh : v.parts.header.auth ≡ true → IsFresh taker now v) where
    pub weighs_unopened : IsOpening users w v None → Weighs taker users now w v (Err DecryptionError)
    unfolding Weighs
    weighs_unopened opening = holds fresh (fails (λ salt. opening.1 (salt opening.0)))

    pub weighs_read : (text : List ℕ) (a : Option (Result Given Refusal)) → IsOpening users w v (Some text) → IsSomeAnd a (ReadsText v text) → IsSomeAnd a (Weighs taker users now w v)
    unfolding Weighs
    weighs_read text None opening read = absurd read
    weighs_read text (Some a) opening read = holds fresh (holds opening.0 (text, opening.1, read))

pub not_both : (b : Bool) (P : Type 0) → IsTrue b ↔ P → b ≡ false → P → ⊥
not_both b P h e p = let wrong : true ≡ false = sym (h.1 p) ∙ e in cc wrong

pub is_so : (b : Bool) (P : Type 0) → IsTrue b ↔ P → b ≡ true → P
is_so b P h e = h.0 e

-- ---- the window once the pair is learned

-- what is held of an engine once its pair has come in
pub mark_at-learns : (engine : List ℕ) (pair : BootsAndTime) (now : ℕ) (old new : Marks) → Learns engine pair now old new
    → mark_at new engine ≡ Some (joined_to (mark_at old engine) (seen_at pair now))
mark_at-learns engine pair now old new l =
    l.mark engine
    ∙ ap (λ o. cond (is_eq o) (option_join mark_join (mark_at old engine) (Some (seen_at pair now))) (mark_at old engine)) (tied_itself engines_total engine)
    ∙ sym (joined_is (mark_at old engine) (seen_at pair now))

-- So the window can be judged before anything is learned.
pub fresh_once_learned : (v : Verified) (now : ℕ) (old new : Marks) (mark : SeenPair) (held : BootsAndTime) (notion : ℕ) (fresh : Bool) → v.parts.header.auth ≡ true
    → mark ≡ joined_to (mark_at old v.fields.engine) (seen_at (pair_in v) now) → held ≡ mark.pair → notion ≡ notion_at now mark
    → IsTrue fresh ↔ InManagerWindow held notion (pair_in v) → LearnsChecked v now old new → IsTrue fresh ↔ (v.parts.header.auth ≡ true → IsFresh (as_manager new) now v)
fresh_once_learned v now old new mark held notion fresh auth is same_pair same_notion judged learned =
    let l : Learns v.fields.engine (pair_in v) now old new = subst (λ b. MatchBool b (Learns v.fields.engine (pair_in v) now old new) (new ≡ old)) auth learned in
    let at_engine : mark_at new v.fields.engine ≡ Some mark = mark_at-learns v.fields.engine (pair_in v) now old new l ∙ ap Some (sym is) in
    let window : IsTrue fresh ↔ InManagerWindow mark.pair (notion_at now mark) (pair_in v) =
    subst (λ n. IsTrue fresh ↔ InManagerWindow mark.pair n (pair_in v)) same_notion (subst (λ p. IsTrue fresh ↔ InManagerWindow p notion (pair_in v)) same_pair judged) in (
      λ t _. (mark, at_engine, window.0 t),
      λ f.
          let at = f auth in
          let same : at.0 ≡ mark = cc (sym at.1 ∙ at_engine) in
          window.1 (subst (λ m. InManagerWindow m.pair (notion_at now m) (pair_in v)) same at.2),
    )

-- what is held once a checked message's pair is learned
pub learns_some : (v : Verified) (now : ℕ) (old : Marks) → (new : Marks) × LearnsChecked v now old new
learns_some v now old =
    elim v.parts.header.auth as (λ b. (new : Marks) × MatchBool b (Learns v.fields.engine (pair_in v) now old new) (new ≡ old)) [
      | true ↦
          let mark = seen_at (pair_in v) now in
          let new = learned v.fields.engine mark old in
          (new, record { mark = JoinsMark-learned v.fields.engine mark old new refl; pair_joined = JoinsPair-learned v.fields.engine mark old new refl })
      | false ↦ (old, refl)
    ]

-- A message that is refused wants no memory for a copy.
pub copies_nothing : (old : Held) (now : ℕ) (w : List ℕ) (v : Verified) (P : Type 0) → IsExact old.users w (Ok v) → Verifies manager old.users w (Ok v) → TakesNoMemory old now w
    → (v.parts.header.privacy ≡ false → (new : Marks) → LearnsChecked v now old.clocks new → ((g : Given) → Weighs (as_manager new) old.users now w v (Ok g) → ⊥) → P) → P
copies_nothing old now w v P exact rows none is =
    let new = learns_some v now old.clocks in
    is (none.plain v rows) new.0 new.1
    (λ g weighs. none.refused g (held_by old.users new.0) (takes_weighed old (held_by old.users new.0) now w refl v exact rows new.1 (Some (Ok g)) weighs))

-- memory isn't wanted for an engine that is held
pub learns_held : (held : Held) (w : List ℕ) (v : Verified) → IsExact held.users w (Ok v) → HoldsAuthentic held w → v.parts.header.auth ≡ true → IsSome (mark_at held.clocks v.fields.engine)
learns_held held w v exact holds_it auth = holds_it v.fields.engine (pair_in v) ((exact v.fields.engine (pair_in v)).1 (auth, refl, refl, refl)).0

-- ---- outcomes

-- a refusal is reported as it is
pub told : (old new : Held) (now : ℕ) (w : List ℕ) (fault : RefusedAt) (o : Option Refusal) → in_table fault.refusal ≡ o → o ≢ None → Takes old now w (refused o) new → TakesOne old now w (Refused fault) new
told old new now w fault None is some takes = absurd (some refl)
told old new now w fault (Some n) is some takes = (Err n, is, takes)

pub stays : (old new : Held) (now : ℕ) (w : List ℕ) (o : Option Refusal) → o ≡ None → Takes old now w (refused o) new → new ≡ old
stays old new now w None e takes = takes
stays old new now w (Some n) e takes = cc e

-- what is answered by some row is an answer
pub is_answer : {A : Type 0} (o : Option A) (P : A → Type 0) → IsSomeAnd o P → IsSome o
is_answer None P h = absurd h
is_answer (Some a) P h = refl

-- ---- refusals that teach nothing

read_refused : (v : Verified) (text : List ℕ) (r : Refusal) → ReadsText v text (Err r) → IsOnceLearned r
unfolding ReadsText
read_refused v text r (fails none) = tt
read_refused v text r (holds _ (fails none)) = tt
read_refused v text r (holds _ (holds _ given)) = absurd cc

weighs_refused : (taker : Taker) (users : List User) (now : ℕ) (w : List ℕ) (v : Verified) (r : Refusal) → Weighs taker users now w v (Err r) → IsOnceLearned r
unfolding Weighs
weighs_refused taker users now w v r (fails outside) = tt
weighs_refused taker users now w v r (holds _ (fails salt)) = tt
weighs_refused taker users now w v r (holds _ (holds _ read)) = read_refused v read.0 r read.2

-- what is refused by a row from the time window on is refused once its pair is learned
pub refused_once_learned : (taker : Taker) (users : List User) (now : ℕ) (w : List ℕ) (v : Verified) (answer : Option (Result Given Refusal)) (r : Refusal)
    → IsSomeAnd answer (Weighs taker users now w v) → answer ≡ Some (Err r) → IsOnceLearned r
refused_once_learned taker users now w v answer r weighs is =
    weighs_refused taker users now w v r (subst (λ (a : Option (Result Given Refusal)). IsSomeAnd a (Weighs taker users now w v)) is weighs)
