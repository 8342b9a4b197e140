-- One more datagram, and what is known.
use Rattle.std.proofs.Common.{◌≡◌, ◌<◌, ◌+◌, ℕ, List, [], ◌∷◌, ◌++◌, Option, Some, length, take, get_or, refl, sym, ◌∙◌, ap, subst, inl, inr, arith}
use Rattle.std.specs.Prelude.{◌⊎◌, Contains, true, Result, Ok, Err, IsOk}
use Rattle.std.specs.Result.{is_err}
use Rattle.std.specs.Global.{Vec}
use Rattle.std.proofs.lemmas.List.{take_more, map-append, append_assoc, append-nil}
use Rattle.std.proofs.lemmas.List.Elements.{Contains-append_left, Contains-append_right, Contains-append_cases}
use Rattle.engine_clock.specs.Pairs.{BootsAndTime, IsGreatestOf}
use Rattle.engine_clock.specs.Marks.{Marks, pair_at}
use Rattle.engine_clock.proofs.Greatest.{IsGreatestOf-same, IsGreatestOf-unique}
use Rattle.engine_clock.proofs.MapJoins.{IsGreatestOf-learned, greatest-held}
use Rattle.engine_clock.proofs.Greatest.{pair_order}
use Rattle.usm_users.specs.User.{User}
use Rattle.usm_core.specs.Authentic.{Authentic}
use Rattle.snmp_manager.specs.Learning.{LearnsFrom}
use Rattle.snmp_manager.specs.Known.{Known, IsLatest, HaveSameAuthentic, datagrams_of, octets_of}
use Rattle.snmp_manager.specs.Views.{Held, BeginAlike, HoldSamePairs}
use Rattle.snmp_manager.specs.Runs.{TakesOne, Runs, HasTaken, moments_of}
use Rattle.snmp_manager.specs.declared.outcome.Outcome.{Outcome}

-- A set of pairs of an engine is what it was, and what an authentic datagram adds. Its greatest is then held.
pub learns_set : (users : List User) (now : ℕ) (w : List ℕ) (old new : Marks) (engine : List ℕ) (S : BootsAndTime → Type 0) → LearnsFrom users now w old new
    → IsGreatestOf S (pair_at old engine) → IsGreatestOf (λ q. S q ⊎ Authentic users w engine q) (pair_at new engine)
learns_set users now w old new engine S (inr none) latest =
    subst (λ (clocks : Marks). IsGreatestOf (λ q. S q ⊎ Authentic users w engine q) (pair_at clocks engine)) (sym none.1)
    (IsGreatestOf-same S (λ q. S q ⊎ Authentic users w engine q) (pair_at old engine) (λ q s. inl s) (λ q m. elim m [ inl s ↦ s | inr a ↦ absurd (none.0 engine q a) ]) latest)
learns_set users now w old new engine S (inl (e, pair, authentic, learns)) latest =
    IsGreatestOf-same (λ q. S q ⊎ ((e ≡ engine) × (q ≡ pair))) (λ q. S q ⊎ Authentic users w engine q) (pair_at new engine)
    (λ q m. elim m [ inl s ↦ inl s | inr is ↦ inr (subst (λ f. Authentic users w f q) is.0 (subst (λ r. Authentic users w e r) (sym is.1) authentic.is)) ])
    (λ q m. elim m [ inl s ↦ inl s | inr a ↦ let h = authentic.only engine q a in inr (sym h.0, h.1) ])
    (IsGreatestOf-learned S e pair old new learns.pair_joined engine latest)

pub only_one : {A : Type 0} (w x : A) → Contains (w ∷ []) x → x ≡ w
only_one w x h = let first : h.0 ≡ 0 = omega (arith, h.1) in sym (subst (λ k. get_or (w ∷ []) k x ≡ x) first h.2)

pub the_one : {A : Type 0} (w : A) → Contains (w ∷ []) w
the_one w = (0, omega arith, refl)

-- after one more datagram the greatest that is known is held
pub known_more : (users : List User) (begin : Option BootsAndTime) (ws : List (List ℕ)) (now : ℕ) (w : List ℕ) (old new : Marks) (engine : List ℕ) → LearnsFrom users now w old new
    → IsLatest users begin ws engine (pair_at old engine) → IsLatest users begin (ws ++ w ∷ []) engine (pair_at new engine)
known_more users begin ws now w old new engine learns latest =
    IsGreatestOf-same (λ q. Known users begin ws engine q ⊎ Authentic users w engine q) (Known users begin (ws ++ w ∷ []) engine) (pair_at new engine)
    (λ q m. elim m [
      | inl k ↦ elim k [ inl b ↦ inl b | inr x ↦ inr (x.0, Contains-append_left ws (w ∷ []) x.0 x.1, x.2) ]
      | inr a ↦ inr (w, Contains-append_right ws (w ∷ []) w (the_one w), a)
    ])
    (λ q k. elim k [
      | inl b ↦ inl (inl b)
      | inr x ↦ elim (Contains-append_cases ws (w ∷ []) x.0 x.1) [ inl c ↦ inl (inr (x.0, c, x.2)) | inr c ↦ inr (subst (λ y. Authentic users y engine q) (only_one w x.0 c) x.2) ]
    ])
    (learns_set users now w old new engine (Known users begin ws engine) learns latest)

-- nothing was taken yet
pub known_none : (users : List User) (begin : Option BootsAndTime) (engine : List ℕ) → IsLatest users begin [] engine begin
known_none users begin engine =
    IsGreatestOf-same (λ q. begin ≡ Some q) (Known users begin [] engine) begin (λ q b. inl b) (λ q k. elim k [ inl b ↦ b | inr x ↦ absurd (omega (arith, x.1.1)) ]) (greatest-held pair_order begin)

pub datagrams_of_more : (ts : List (ℕ × Vec ℕ)) (i : ℕ) (d : ℕ × Vec ℕ) → i < length ts → datagrams_of (take (i + 1) ts) ≡ datagrams_of (take i ts) ++ (get_or ts i d).1.items ∷ []
datagrams_of_more ts i d lt = ap datagrams_of (take_more ts i d lt) ∙ map-append (λ t. t.1.items) (take i ts) (get_or ts i d ∷ [])

-- one more outcome
pub runs_more : (old mid new : Held) (ts : List (ℕ × Vec ℕ)) (outcomes : List Outcome) (t : ℕ × Vec ℕ) (outcome : Outcome) → Runs old ts outcomes mid → TakesOne mid t.0 t.1.items outcome new → Runs old (ts ++ t ∷ []) (outcomes ++ outcome ∷ []) new
runs_more old mid new [] [] t outcome runs takes = (new, subst (λ h. TakesOne h t.0 t.1.items outcome new) runs takes, refl)
runs_more old mid new [] (o ∷ os) t outcome runs takes = absurd runs
runs_more old mid new (x ∷ ts) [] t outcome runs takes = absurd runs
runs_more old mid new (x ∷ ts) (o ∷ os) t outcome runs takes = (runs.0, runs.1, runs_more runs.0 mid new ts os t outcome runs.2 takes)

module _ (begin old new : Held) (ts : List (ℕ × Vec ℕ)) (i : ℕ) (t : ℕ × Vec ℕ) (outcome : Outcome) (w : List ℕ) (lt : i < length ts) (is : t ≡ get_or ts i t) (octets : w ≡ t.1.items) (takes : TakesOne old t.0 w outcome new) where
  -- the greatest that is known after one more take
  pub latest_more : old.users ≡ begin.users → (engine : List ℕ) → IsLatest begin.users (pair_at begin.clocks engine) (datagrams_of (take i ts)) engine (pair_at old.clocks engine) → IsLatest begin.users (pair_at begin.clocks engine) (datagrams_of (take (i + 1) ts)) engine (pair_at new.clocks engine)
  latest_more same engine latest =
      rw (datagrams_of_more ts i t lt, ← is)
      (known_more begin.users (pair_at begin.clocks engine) (datagrams_of (take i ts)) t.0 t.1.items old.clocks new.clocks engine
      (subst (λ x. LearnsFrom begin.users t.0 x old.clocks new.clocks) octets (subst (λ users. LearnsFrom users t.0 w old.clocks new.clocks) same takes.2.1)) latest)

  -- and its outcome
  pub outcomes_more : (outcomes : List Outcome) → Runs begin (take i ts) outcomes old → Runs begin (take (i + 1) ts) (outcomes ++ outcome ∷ []) new
  outcomes_more outcomes runs =
      rw (take_more ts i t lt, ← is) (runs_more begin old new (take i ts) outcomes t outcome runs (subst (λ x. TakesOne old t.0 x outcome new) octets takes))

pub is_not_err : {X E : Type 0} (r : Result X E) → IsOk r → is_err r ≡ true → ⊥
is_not_err (Ok x) ok e = cc e
is_not_err (Err x) ok e = cc ok

pub same_latest : (users : List User) (begin : Option BootsAndTime) (xs ys : List (List ℕ)) (engine : List ℕ) (p q : Option BootsAndTime) → HaveSameAuthentic users xs ys → IsLatest users begin xs engine p → IsLatest users begin ys engine q → p ≡ q
same_latest users begin xs ys engine p q same h k =
    IsGreatestOf-unique (Known users begin ys engine) p q
    (IsGreatestOf-same (Known users begin xs engine) (Known users begin ys engine) p
    (λ r m. elim m [ inl b ↦ inl b | inr w ↦ inr (w.0, (same w.0 engine r w.2).0 w.1, w.2) ])
    (λ r m. elim m [ inl b ↦ inl b | inr w ↦ inr (w.0, (same w.0 engine r w.2).1 w.1, w.2) ]) h) k

-- ---- all that was taken

-- a run takes its datagrams
pub runs_taken : (old new : Held) (ts : List (ℕ × Vec ℕ)) (os : List Outcome) → Runs old ts os new → HasTaken old (moments_of ts) new
runs_taken old new [] [] runs = runs
runs_taken old new [] (o ∷ os) runs = absurd runs
runs_taken old new (t ∷ ts) [] runs = absurd runs
runs_taken old new (t ∷ ts) (o ∷ os) runs = (runs.0, (runs.1.0, runs.1.2), runs_taken runs.0 new ts os runs.2)

-- datagrams behind others
pub taken_behind : (old mid new : Held) (xs ys : List (ℕ × List ℕ)) → HasTaken old xs mid → HasTaken mid ys new → HasTaken old (xs ++ ys) new
taken_behind old mid new [] ys first more = subst (λ (h : Held). HasTaken h ys new) first more
taken_behind old mid new (x ∷ xs) ys first more = (first.0, first.1, taken_behind first.0 mid new xs ys first.2 more)

-- the users stay
pub taken_users : (old new : Held) (ts : List (ℕ × List ℕ)) → HasTaken old ts new → new.users ≡ old.users
taken_users old new [] taken = ap (λ (h : Held). h.users) taken
taken_users old new (t ∷ ts) taken = taken_users taken.0 new ts taken.2 ∙ taken.1.1.0

-- the greatest that is known after a list was taken, where it was held after the datagrams before
taken_latest : (begin mid new : Held) (done : List (List ℕ)) (ts : List (ℕ × List ℕ)) (engine : List ℕ) → mid.users ≡ begin.users → HasTaken mid ts new
    → IsLatest begin.users (pair_at begin.clocks engine) done engine (pair_at mid.clocks engine)
    → IsLatest begin.users (pair_at begin.clocks engine) (done ++ octets_of ts) engine (pair_at new.clocks engine)
taken_latest begin mid new done [] engine same taken latest =
    rw append-nil (subst (λ (h : Held). IsLatest begin.users (pair_at begin.clocks engine) done engine (pair_at h.clocks engine)) (sym taken) latest)
taken_latest begin mid new done (t ∷ ts) engine same taken latest =
    let takes = taken.1.1 in
    let learns = subst (λ users. LearnsFrom users t.0 t.1 mid.clocks taken.0.clocks) same takes.1 in
    let more = known_more begin.users (pair_at begin.clocks engine) done t.0 t.1 mid.clocks taken.0.clocks engine learns latest in
    subst (λ ws. IsLatest begin.users (pair_at begin.clocks engine) ws engine (pair_at new.clocks engine)) (append_assoc done (t.1 ∷ []) (octets_of ts))
    (taken_latest begin taken.0 new (done ++ t.1 ∷ []) ts engine (takes.0 ∙ same) taken.2 more)

-- after a list was taken the greatest that is known is held
pub all_latest : (old new : Held) (ts : List (ℕ × List ℕ)) (engine : List ℕ) → HasTaken old ts new → IsLatest old.users (pair_at old.clocks engine) (octets_of ts) engine (pair_at new.clocks engine)
all_latest old new ts engine taken = taken_latest old old new [] ts engine refl taken (known_none old.users (pair_at old.clocks engine) engine)

pub same_pairs : (a b a_after b_after : Held) (xs ys : List (ℕ × List ℕ)) → BeginAlike a b → HaveSameAuthentic a.users (octets_of xs) (octets_of ys) → HasTaken a xs a_after → HasTaken b ys b_after → HoldSamePairs a_after b_after
same_pairs a b a_after b_after xs ys alike same run other engine =
    same_latest a.users (pair_at a.clocks engine) (octets_of xs) (octets_of ys) engine (pair_at a_after.clocks engine) (pair_at b_after.clocks engine) same (all_latest a a_after xs engine run)
    (rw (alike.0, alike.1 engine) (all_latest b b_after ys engine other))
