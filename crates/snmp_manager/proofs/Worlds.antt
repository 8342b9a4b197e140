-- What is known after one more event is what the managers and the files of the world have the greatest of.
use Rattle.std.proofs.Common.{◌≡◌, ◌≢◌, ◌<◌, ◌+◌, ℕ, suc, List, [], ◌∷◌, ◌++◌, Option, Some, length, take, get_or, refl, sym, ◌∙◌, ap, subst, inl, inr, arith, None}
use Rattle.std.specs.Prelude.{◌⊎◌, slice_get, slice_set, Result, Ok, Err, OnOk, OnErr}
use Rattle.engine_clock.specs.Faults.{GivesBack}
use Rattle.engine_clock.specs.declared.saved.ClockFault.{ClockFault}
use Rattle.engine_clock.specs.declared.saved.ClockFault.TheVariants.{Line}
use Rattle.std.proofs.lemmas.Option.{slice_get_within}
use Rattle.std.proofs.lemmas.List.{length-append, take_more}
use Rattle.std.specs.Option.{option_map}
use Rattle.engine_clock.specs.Pairs.{BootsAndTime, IsBelow, IsGreatestOf}
use Rattle.engine_clock.specs.Marks.{SeenPair, Marks, mark_at, pair_at, seen_at, IsMarkBelow, IsGreatestMarkOf}
use Rattle.engine_clock.specs.Saved.{AreMarks, listing}
use Rattle.engine_clock.proofs.Greatest.{IsGreatestOfBy-unique, IsGreatestOfBy-same, mark_order, pair_order}
use Rattle.engine_clock.proofs.SameMarks.{same_marks}
use Rattle.engine_clock.proofs.MapJoins.{greatest-held, IsGreatestMarkOf-learned, IsGreatestMarkOf-absorbed}
use Rattle.engine_clock.proofs.SavedTexts.{one_listing}
use Rattle.usm_users.specs.User.{User}
use Rattle.usm_core.specs.Authentic.{Authentic}
use Rattle.snmp_manager.specs.Views.{Held}
use Rattle.snmp_manager.specs.Learning.{LearnsFrom}
use Rattle.snmp_manager.specs.State.{WorldState, IsListing, AreFiles}
use Rattle.snmp_manager.specs.Knowledge.{PairsOf, SameKnowledge, SamePairsKnown, HasGreatestPairs, AuthenticAt, Reads, Writes, Knowledge, Knowing, at_first, knows_after, knows_after_all, HasGreatest, HaveUsers, Changes, Steps}
use Rattle.snmp_manager.specs.declared.event.Event.{Event}
use Rattle.snmp_manager.specs.declared.event.Event.TheVariants.{Take, Save, Absorb, Restart}
use Rattle.std.proofs.lemmas.Bool.{cases_lt}
use Rattle.snmp_manager.proofs.Lists.{get-set_same, get-set_other, get_push-cases}

number_same_or_not : (x y : ℕ) → (x ≡ y) ⊎ (x ≢ y)
number_same_or_not x y = elim (cases_lt x y) [ inl less ↦ inr (λ e. omega arith) | inr le ↦ elim (cases_lt y x) [ inl more ↦ inr (λ e. omega arith) | inr ge ↦ inl (omega arith) ] ]

latest_alike : (S T : SeenPair → Type 0) → ((q : SeenPair) → S q → T q) → ((q : SeenPair) → T q → S q) → (a : Option SeenPair) → IsGreatestMarkOf S a → IsGreatestMarkOf T a
latest_alike S T to from a h = IsGreatestOfBy-same IsMarkBelow S T a to from h

mark_is : (m : SeenPair) (pair : BootsAndTime) (now : ℕ) → m.pair ≡ pair → m.seen ≡ now → m ≡ seen_at pair now
mark_is m pair now e d = λ i. record { pair = e i; seen = d i }

-- A set of marks of an engine is what it was, and what an authentic datagram adds. Its greatest is then held.
learns_set : (users : List User) (now : ℕ) (w : List ℕ) (old new : Marks) (engine : List ℕ) (S : SeenPair → Type 0) → LearnsFrom users now w old new
    → IsGreatestMarkOf S (mark_at old engine) → IsGreatestMarkOf (λ q. S q ⊎ AuthenticAt users now w engine q) (mark_at new engine)
learns_set users now w old new engine S (inr none) latest =
    subst (λ (clocks : Marks). IsGreatestMarkOf (λ q. S q ⊎ AuthenticAt users now w engine q) (mark_at clocks engine)) (sym none.1)
    (latest_alike S (λ q. S q ⊎ AuthenticAt users now w engine q) (λ q s. inl s) (λ q m. elim m [ inl s ↦ s | inr a ↦ absurd (none.0 engine q.pair a.0) ]) (mark_at old engine) latest)
learns_set users now w old new engine S (inl (e, pair, authentic, learns)) latest =
    latest_alike (λ q. S q ⊎ ((e ≡ engine) × (q ≡ seen_at pair now))) (λ q. S q ⊎ AuthenticAt users now w engine q)
    (λ q m. elim m [ inl s ↦ inl s | inr is ↦ inr (subst (λ f. Authentic users w f q.pair) is.0 (subst (λ r. Authentic users w e r) (sym (ap (λ (x : SeenPair). x.pair) is.1)) authentic.is), ap (λ (x : SeenPair). x.seen) is.1) ])
    (λ q m. elim m [ inl s ↦ inl s | inr a ↦ let h = authentic.only engine q.pair a.0 in inr (sym h.0, mark_is q pair now h.1 a.1) ])
    (mark_at new engine) (IsGreatestMarkOf-learned S e (seen_at pair now) old new learns.mark engine latest)

-- managers of which each has the greatest of what it knows
abbrev pub AllGreatest : (ℕ → Knowledge) → List Held → Type 0
AllGreatest S managers = (i : ℕ) (held : Held) → slice_get managers i ≡ Some held → (engine : List ℕ) → IsGreatestMarkOf (S i engine) (mark_at held.clocks engine)

-- one manager changes
pub changed : (S T : ℕ → Knowledge) (i : ℕ) (R : Held → Held → Type 0) (old new : List Held) → Changes i R old new → AllGreatest S old
    → ((j : ℕ) (e : List ℕ) (q : SeenPair) → j ≢ i → S j e q → T j e q) → ((j : ℕ) (e : List ℕ) (q : SeenPair) → j ≢ i → T j e q → S j e q)
    → ((before after : Held) → slice_get old i ≡ Some before → R before after → (e : List ℕ) → IsGreatestMarkOf (S i e) (mark_at before.clocks e) → IsGreatestMarkOf (T i e) (mark_at after.clocks e))
    → AllGreatest T new
changed S T i R old new change greatest into back here j held at engine =
    elim (number_same_or_not j i) [
      | inl same ↦
          let there : slice_get (slice_set old i change.after) i ≡ Some held = subst (λ n. slice_get (slice_set old i change.after) n ≡ Some held) same (sym (ap (λ l. slice_get l j) change.is) ∙ at) in
          let after : Some change.after ≡ Some held = sym (get-set_same old i change.before change.after change.was) ∙ there in
          let is : change.after ≡ held = cc in
          subst (λ n. IsGreatestMarkOf (T n engine) (mark_at held.clocks engine)) (sym same)
          (subst (λ (h : Held). IsGreatestMarkOf (T i engine) (mark_at h.clocks engine)) is
          (here change.before change.after change.was change.changes engine (greatest i change.before change.was engine)))
      | inr other ↦
          latest_alike (S j engine) (T j engine) (λ q. into j engine q other) (λ q. back j engine q other) (mark_at held.clocks engine)
          (greatest j held (sym (get-set_other old i j change.after other) ∙ (sym (ap (λ l. slice_get l j) change.is) ∙ at)) engine)
    ]

-- users stay
pub same_users : (users : List User) (i : ℕ) (R : Held → Held → Type 0) (old new : List Held) → Changes i R old new → ((j : ℕ) (held : Held) → slice_get old j ≡ Some held → held.users ≡ users) → (j : ℕ) (held : Held) → slice_get new j ≡ Some held → held.users ≡ users
same_users users i R old new change have j held at =
    elim (number_same_or_not j i) [
      | inl same ↦
          let there : slice_get (slice_set old i change.after) i ≡ Some held = subst (λ n. slice_get (slice_set old i change.after) n ≡ Some held) same (sym (ap (λ l. slice_get l j) change.is) ∙ at) in
          let after : Some change.after ≡ Some held = sym (get-set_same old i change.before change.after change.was) ∙ there in
          let is : change.after ≡ held = cc in
          sym (ap (λ (h : Held). h.users) is) ∙ change.users ∙ have i change.before change.was
      | inr other ↦ have j held (sym (get-set_other old i j change.after other) ∙ (sym (ap (λ l. slice_get l j) change.is) ∙ at))
    ]

pub users_after : (users : List User) (old new : WorldState) (event : Event) → Steps old event new → HaveUsers users old → HaveUsers users new
users_after users old new (Take i now w) steps have = same_users users i _ old.managers new.managers steps.0 have
users_after users old new (Save i) steps have = λ j held at. have j held (sym (ap (λ l. slice_get l j) steps.0) ∙ at)
users_after users old new (Absorb i f now) steps have = same_users users i _ old.managers new.managers steps.0.2 have
users_after users old new (Restart i f now) steps have = same_users users i _ old.managers new.managers steps.0.2 have

pushed_length : (fs : List (List ℕ)) (f : List ℕ) → length (fs ++ f ∷ []) ≡ suc (length fs)
pushed_length fs f = length-append fs (f ∷ []) ∙ omega arith

-- at first
same_text : (a b : List ℕ) → Some a ≡ Some b → a ≡ b
same_text a b e = cc e

same_listed : (a b : Marks) → AreMarks a → AreMarks b → Some (listing a) ≡ Some (listing b) → a ≡ b
same_listed a b fa fb e = one_listing a b fa fb (same_text (listing a) (listing b) e)

pub greatest_at_first : (world : WorldState) → HasGreatest (at_first world) world
greatest_at_first world = record {
  managers = λ i held at engine.
      latest_alike (λ q. mark_at held.clocks engine ≡ Some q) ((at_first world).managers i engine)
      (λ q is. (held, at, is))
      (λ q m. let e : Some m.0 ≡ Some held = sym m.1 ∙ at in let h : m.0 ≡ held = cc e in subst (λ (x : Held). mark_at x.clocks engine ≡ Some q) h m.2)
      (mark_at held.clocks engine) (greatest-held mark_order (mark_at held.clocks engine));
  files = λ f marks fits at engine.
      latest_alike (λ q. mark_at marks engine ≡ Some q) ((at_first world).files f engine)
      (λ q is. (marks, fits, at, is))
      (λ q m. let h : m.0 ≡ marks = same_listed m.0 marks m.1 fits (sym m.2 ∙ at) in subst (λ (x : Marks). mark_at x engine ≡ Some q) h m.3)
      (mark_at marks engine) (greatest-held mark_order (mark_at marks engine));
  saved = refl;
}

files_stay : (k : Knowing) (old new : WorldState) → HasGreatest k old → new.files ≡ old.files → (f : ℕ) (marks : Marks) → AreMarks marks → slice_get new.files f ≡ Some (listing marks) → (engine : List ℕ) → IsGreatestMarkOf (k.files f engine) (mark_at marks engine)
files_stay k old new greatest same f marks fits at engine = greatest.files f marks fits (sym (ap (λ l. slice_get l f) same) ∙ at) engine

saved_files : (users : List User) (k : Knowing) (old new : WorldState) (i : ℕ) → HasGreatest k old → Steps old (Save i) new → (f : ℕ) (marks : Marks) → AreMarks marks → slice_get new.files f ≡ Some (listing marks) → (engine : List ℕ) → IsGreatestMarkOf ((knows_after users (Save i) k).files f engine) (mark_at marks engine)
saved_files users k old new i greatest steps f marks fits at engine =
    elim (get_push-cases old.files (listing steps.1.held.clocks) f (listing marks) (sym (ap (λ l. slice_get l f) steps.1.is) ∙ at)) [
      | inl before ↦
          let within = slice_get_within old.files f (listing marks) before in
          let count = greatest.saved in
          let other : f ≢ k.saved = omega (arith, within, count) in
          latest_alike (k.files f engine) ((knows_after users (Save i) k).files f engine)
          (λ q h. inl (other, h)) (λ q m. elim m [ inl h ↦ h.1 | inr h ↦ absurd (other h.0) ])
          (mark_at marks engine) (greatest.files f marks fits before engine)
      | inr last ↦
          let same : f ≡ k.saved = last.0 ∙ sym greatest.saved in
          latest_alike (k.managers i engine) ((knows_after users (Save i) k).files f engine)
          (λ q h. inr (same, h)) (λ q m. elim m [ inl h ↦ absurd (h.0 same) | inr h ↦ h.1 ])
          (mark_at marks engine)
          (subst (λ (m : Marks). IsGreatestMarkOf (k.managers i engine) (mark_at m engine)) (one_listing steps.1.held.clocks marks steps.1.fits fits last.1) (greatest.managers i steps.1.held steps.1.was engine))
    ]

-- after one event
pub greatest_after : (users : List User) (k : Knowing) (old new : WorldState) (event : Event) → HaveUsers users old → HasGreatest k old → Steps old event new → HasGreatest (knows_after users event k) new
greatest_after users k old new (Take i now w) have greatest steps = record {
  managers = changed k.managers (knows_after users (Take i now w) k).managers i _ old.managers new.managers steps.0 greatest.managers
      (λ j e q n s. inl s) (λ j e q n m. elim m [ inl s ↦ s | inr h ↦ absurd (n h.0) ])
      (λ before after was learns e latest.
      latest_alike (λ q. k.managers i e q ⊎ AuthenticAt users now w.items e q) ((knows_after users (Take i now w) k).managers i e)
      (λ q m. elim m [ inl s ↦ inl s | inr a ↦ inr (refl, a) ]) (λ q m. elim m [ inl s ↦ inl s | inr h ↦ inr h.1 ])
      (mark_at after.clocks e)
      (learns_set users now w.items before.clocks after.clocks e (k.managers i e) (subst (λ us. LearnsFrom us now w.items before.clocks after.clocks) (have i before was) learns) latest));
  files = files_stay k old new greatest steps.1;
  saved = greatest.saved ∙ sym (ap (λ (fs : List (List ℕ)). length fs) steps.1);
}
greatest_after users k old new (Save i) have greatest steps = record {
  managers = λ j held at engine. greatest.managers j held (sym (ap (λ l. slice_get l j) steps.0) ∙ at) engine;
  files = saved_files users k old new i greatest steps;
  saved = ap suc greatest.saved ∙ sym (ap (λ (fs : List (List ℕ)). length fs) steps.1.is ∙ pushed_length old.files (listing steps.1.held.clocks));
}
greatest_after users k old new (Absorb i f now) have greatest steps = record {
  managers = changed k.managers (knows_after users (Absorb i f now) k).managers i _ old.managers new.managers steps.0.2 greatest.managers
      (λ j e q n s. inl s) (λ j e q n m. elim m [ inl s ↦ s | inr h ↦ absurd (n h.0) ])
      (λ before after was joins e latest.
      latest_alike (λ q. k.managers i e q ⊎ k.files f e q) ((knows_after users (Absorb i f now) k).managers i e)
      (λ q m. elim m [ inl s ↦ inl s | inr h ↦ inr (refl, h) ]) (λ q m. elim m [ inl s ↦ inl s | inr h ↦ inr h.1 ])
      (mark_at after.clocks e)
      (IsGreatestMarkOf-absorbed (k.managers i e) (k.files f e) before.clocks steps.0.0 after.clocks joins e latest (greatest.files f steps.0.0 steps.0.1.fits steps.0.1.there e)));
  files = files_stay k old new greatest steps.1;
  saved = greatest.saved ∙ sym (ap (λ (fs : List (List ℕ)). length fs) steps.1);
}
greatest_after users k old new (Restart i f now) have greatest steps = record {
  managers = changed k.managers (knows_after users (Restart i f now) k).managers i _ old.managers new.managers steps.0.2 greatest.managers
      (λ j e q n s. inl (n, s)) (λ j e q n m. elim m [ inl s ↦ s.1 | inr h ↦ absurd (n h.0) ])
      (λ before after was same e latest.
      subst (λ (m : Marks). IsGreatestMarkOf ((knows_after users (Restart i f now) k).managers i e) (mark_at m e)) (sym same)
      (latest_alike (k.files f e) ((knows_after users (Restart i f now) k).managers i e)
      (λ q h. inr (refl, h)) (λ q m. elim m [ inl s ↦ absurd (s.0 refl) | inr h ↦ h.1 ])
      (mark_at steps.0.0 e) (greatest.files f steps.0.0 steps.0.1.fits steps.0.1.there e)));
  files = files_stay k old new greatest steps.1;
  saved = greatest.saved ∙ sym (ap (λ (fs : List (List ℕ)). length fs) steps.1);
}

-- after events in their order one more event
pub knows_more : (users : List User) (events : List Event) (event : Event) (k : Knowing) → ◌≡◌ {A = Knowing} (knows_after_all users (events ++ event ∷ []) k) (knows_after users event (knows_after_all users events k))
knows_more users [] event k = refl
knows_more users (e ∷ events) event k = knows_more users events event (knows_after users e k)

-- the greatest after one event more of a list
pub greatest_more : (users : List User) (begin old new : WorldState) (events : List Event) (i : ℕ) (event : Event)
    → i < length events → event ≡ get_or events i event → HaveUsers users old → HasGreatest (knows_after_all users (take i events) (at_first begin)) old → Steps old event new
    → HasGreatest (knows_after_all users (take (i + 1) events) (at_first begin)) new
greatest_more users begin old new events i event lt is have greatest steps =
    rw (take_more events i event lt, ← is) (subst (λ (k : Knowing). HasGreatest k new) (sym (knows_more users (take i events) event (at_first begin)))
    (greatest_after users (knows_after_all users (take i events) (at_first begin)) old new event have greatest steps))

-- ---- the files are listings

pub files_pushed : (files : List (List ℕ)) (marks : Marks) → AreMarks marks → AreFiles files → AreFiles (files ++ listing marks ∷ [])
files_pushed files marks fits are f text at =
    elim (get_push-cases files (listing marks) f text at) [
      | inl before ↦ are f text before
      | inr last ↦ record { marks = marks; fits = fits; is = sym last.1 }
    ]

pub files_after : {T E : Type 0} (managers : List Held) (i : ℕ) (old new : List (List ℕ)) (r : Result T E) → OnOk r (Writes managers i old new) → OnErr r (new ≡ old) → AreFiles old → AreFiles new
files_after managers i old new (Ok x) writes same are = subst AreFiles (sym writes.is) (files_pushed old writes.held.clocks writes.fits are)
files_after managers i old new (Err e) writes same are = subst AreFiles (sym same) are

-- a listing that is read gives its marks back
pub no_line : (marks : Marks) (fault : ClockFault) (n : ℕ) → fault ≡ Line n → GivesBack marks (Err fault) → ⊥
no_line marks fault n e h = subst (λ (f : ClockFault). GivesBack marks (Err f)) e h

pub file_read : (files : List (List ℕ)) (f : ℕ) (text : List ℕ) (l : IsListing text) (read : Marks) → slice_get files f ≡ Some text → read ≡ l.marks → Reads files f read
file_read files f text l read at same = record {
  fits = subst AreMarks (sym same) l.fits;
  there = at ∙ ap (λ (t : List ℕ). Some t) (l.is ∙ ap listing (sym same));
}

-- the pair of the greatest mark is the greatest of the pairs
pub greatest_pair : (S : SeenPair → Type 0) (found : Option SeenPair) → IsGreatestMarkOf S found → IsGreatestOf (PairsOf S) (option_map (λ m. m.pair) found)
greatest_pair S None h = λ p x. h x.0 x.1
greatest_pair S (Some m) h = ((m, h.0, refl), λ p x below. h.1 x.0 x.1 (inl (subst (λ q. IsBelow m.pair q) (sym x.2) below)))

pub greatest_pairs : {k : Knowing} {world : WorldState} → HasGreatest k world → HasGreatestPairs k world
greatest_pairs {k} h i held at engine = greatest_pair (k.managers i engine) (mark_at held.clocks engine) (h.managers i held at engine)

-- ---- equal knowledge

pub equal_marks : (k l : Knowing) (world other : WorldState) (i j : ℕ) (a b : Held) → HasGreatest k world → HasGreatest l other → slice_get world.managers i ≡ Some a → slice_get other.managers j ≡ Some b
    → SameKnowledge (k.managers i) (l.managers j) → a.clocks ≡ b.clocks
equal_marks k l world other i j a b greatest other_greatest at_i at_j same =
    same_marks a.clocks b.clocks (λ engine.
    IsGreatestOfBy-unique mark_order (l.managers j engine) (mark_at a.clocks engine) (mark_at b.clocks engine)
    (IsGreatestOfBy-same IsMarkBelow (k.managers i engine) (l.managers j engine) (mark_at a.clocks engine) (λ q. (same engine q).0) (λ q. (same engine q).1) (greatest.managers i a at_i engine))
    (other_greatest.managers j b at_j engine))

pub equal_pairs : (k l : Knowing) (world other : WorldState) (i j : ℕ) (a b : Held) (engine : List ℕ) → HasGreatest k world → HasGreatest l other → slice_get world.managers i ≡ Some a → slice_get other.managers j ≡ Some b
    → SamePairsKnown (k.managers i) (l.managers j) → pair_at a.clocks engine ≡ pair_at b.clocks engine
equal_pairs k l world other i j a b engine greatest other_greatest at_i at_j same =
    let S = k.managers i engine in
    let T = l.managers j engine in
    IsGreatestOfBy-unique pair_order (PairsOf T) (pair_at a.clocks engine) (pair_at b.clocks engine)
    (IsGreatestOfBy-same IsBelow (PairsOf S) (PairsOf T) (pair_at a.clocks engine) (λ p. (same engine p).0) (λ p. (same engine p).1)
    (greatest_pair S (mark_at a.clocks engine) (greatest.managers i a at_i engine)))
    (greatest_pair T (mark_at b.clocks engine) (other_greatest.managers j b at_j engine))
