-- No datagram with authentication is reported twice.
use Rattle.std.specs.Prelude.{◌≡◌, ◌≢◌, ◌⊎◌, ◌+◌, ◌-◌, ◌<◌, ◌≤◌, ℕ, Bool, true, false, cond, List, [], ◌∷◌, ◌++◌, Option, None, Some, Result, Ok, Contains, filter}
use Rattle.std.specs.Option.{option_map}
use Rattle.std.proofs.Common.{ap, arith, inl, inr, le-leb, refl, subst, sym, ◌∙◌}
use Rattle.std.proofs.lemmas.List.Elements.{Contains-append_cases, Contains-append_left, Contains-append_right, Contains-push, Contains-push_cases}
use Rattle.sha2.specs.Sha256.{sha256}
use Rattle.snmp_ber.specs.declared.level.Level.{Level}
use Rattle.snmp_ber.specs.declared.level.Level.TheVariants.{AuthNoPriv, AuthPriv, NoAuthNoPriv}
use Rattle.snmp_message.specs.Layout.{Outer, Parts, WrongVersion}
use Rattle.snmp_message.specs.Level.{level_of}
use Rattle.snmp_message.specs.Security.{Fields, SecText}
use Rattle.snmp_message.specs.declared.header.Header.{Header}
use Rattle.snmp_message.specs.declared.refusal.Refusal.{Refusal}
use Rattle.engine_clock.specs.Marks.{Marks, SeenPair, pair_at}
use Rattle.engine_clock.specs.Pairs.{BootsAndTime}
use Rattle.engine_clock.specs.Windows.{InManagerWindow, notion_at, time_window}
use Rattle.usm_users.specs.User.{User}
use Rattle.usm_core.specs.Authentic.{Authentic}
use Rattle.usm_core.specs.Table.{gives, holds}
use Rattle.usm_core.specs.Verified.{Side, Verified, Verifies, manager}
use Rattle.usm_core.proofs.Authentics.{exactly}
use Rattle.snmp_incoming.specs.Outcome.{Given, IsFresh, Outcome, ReadsText, Taker, Weighs, as_agent, as_manager, pair_in, side_at}
use Rattle.snmp_manager.specs.Learning.{LearnsFrom}
use Rattle.snmp_agent.specs.Agent.{AgentState, taker_of}
use Rattle.snmp_manager.specs.Views.{Held}
use Rattle.snmp_listener.specs.Listening.{Answers, Kind, ListenerState, ListenerTakes, TakesAs, inform, reason_of, sender_by, trap, uncounted}
use Rattle.snmp_listener.specs.Runs.{Event, IsRun, IsTold, WasTold, finds_no_memory, latest, takes, told_by, told_in}
use Rattle.snmp_listener.specs.Told.{comes_by, lasts, lasts_by, sender_at, sender_of, told_now, told_sender}
use Rattle.snmp_listener.specs.Wanted.{IsForManager}
use Rattle.snmp_listener.specs.declared.listener.ListenerTaken.{ListenerTaken}
use Rattle.snmp_listener.specs.declared.listener.ListenerTaken.TheVariants.{Trap, Inform, Copy, Dropped}
use Rattle.snmp_listener.specs.declared.told.TheConstants.{REMEMBERED}
use Rattle.snmp_listener.specs.declared.told.ToldNotification.{ToldNotification}
use Rattle.snmp_listener.specs.declared.told.ToldSender.{ToldSender}
use Rattle.snmp_listener.proofs.Remembering.{answers_risen, left}
use Rattle.snmp_listener.proofs.Rising.{AtMost, Comes, IsRisen, comes_back, learns_own, risen_on, risen_same}
use Rattle.snmp_listener.proofs.Telling.{told_run}

-- ---- what a filter keeps

contains_filtered : {X : Type 0} (p : X → Bool) (xs : List X) (x : X) → Contains xs x → p x ≡ true → Contains (filter p xs) x
contains_filtered p [] x there passes = absurd (omega (arith, there.1))
contains_filtered p (y ∷ ys) x there passes = elim (Contains-append_cases (y ∷ []) ys x there) [
  | inl first ↦ elim (Contains-push_cases [] y x first) [
    | inl none ↦ absurd (omega (arith, none.1))
    | inr is ↦ subst (λ (b : Bool). Contains (cond b (y ∷ filter p ys) (filter p ys)) x) (sym (ap p is ∙ passes)) (Contains-append_left (y ∷ []) (filter p ys) x first)
  ]
  | inr later ↦
      let more = contains_filtered p ys x later passes in
      elim (p y) as (λ b. Contains (cond b (y ∷ filter p ys) (filter p ys)) x) [
        | true ↦ Contains-append_right (y ∷ []) (filter p ys) x more
        | false ↦ more
      ]
]

-- ---- the engine and the users stay

record SameSides (old new : ListenerState) : Type 0 where
  pub engine : new.engine ≡ old.engine
  pub users : new.manager.users ≡ old.manager.users
  pub taker : taker_of new.agent ≡ taker_of old.agent
  pub agent_users : new.agent.users ≡ old.agent.users
  pub started : new.agent.started ≡ old.agent.started

same_sides : (kind : Kind) (old : ListenerState) (now : ℕ) (w : List ℕ) (answer : Result Given Refusal) (new : ListenerState) → new.engine ≡ old.engine → Answers kind old now w answer new → SameSides old new
same_sides trap old now w answer new engine is = record {
  engine = engine;
  users = is.1.0;
  taker = ap (λ (a : AgentState). taker_of a) is.2;
  agent_users = ap (λ (a : AgentState). a.users) is.2;
  started = ap (λ (a : AgentState). a.started) is.2;
}
same_sides inform old now w answer new engine is = record {
  engine = engine;
  users = ap (λ (h : Held). h.users) is.2;
  taker = ap (λ (a : AgentState). taker_of a) is.1.1;
  agent_users = ap (λ (a : AgentState). a.users) is.1.1;
  started = ap (λ (a : AgentState). a.started) is.1.1;
}

-- ---- what was told before

abbrev pub Answered : Kind → ListenerState → ℕ → List ℕ → Given → Marks → Type 0
Answered trap l now w g held = IsForManager l.engine w × ((before : Marks) × LearnsFrom l.manager.users now w before held) × Outcome (as_manager held) l.manager.users now w (Ok g)
Answered inform l now w g held = (IsForManager l.engine w → ⊥) × Outcome (taker_of l.agent) l.agent.users now w (Ok g)

answered_now : (kind : Kind) (old new : ListenerState) (now : ℕ) (w : List ℕ) (g : Given) → SameSides old new → Answers kind old now w (Ok g) new → Answered kind new now w g new.manager.clocks
answered_now trap old new now w g same is = (
  subst (λ (e : List ℕ). IsForManager e w) (sym same.engine) is.0,
  (old.manager.clocks, subst (λ (u : List User). LearnsFrom u now w old.manager.clocks new.manager.clocks) (sym same.users) is.1.1),
  subst (λ (u : List User). Outcome (as_manager new.manager.clocks) u now w (Ok g)) (sym same.users) is.1.2,
)
answered_now inform old new now w g same is = (
  subst (λ (e : List ℕ). IsForManager e w → ⊥) (sym same.engine) is.0,
  subst (λ (t : Taker). Outcome t new.agent.users now w (Ok g)) (sym same.taker) (subst (λ (u : List User). Outcome (taker_of old.agent) u now w (Ok g)) (sym same.agent_users) is.1.0),
)

answered_on : (kind : Kind) (old new : ListenerState) (now : ℕ) (w : List ℕ) (g : Given) (held : Marks) → SameSides old new → Answered kind old now w g held → Answered kind new now w g held
answered_on trap old new now w g held same is = (
  subst (λ (e : List ℕ). IsForManager e w) (sym same.engine) is.0,
  (is.1.0, subst (λ (u : List User). LearnsFrom u now w is.1.0 held) (sym same.users) is.1.1),
  subst (λ (u : List User). Outcome (as_manager held) u now w (Ok g)) (sym same.users) is.2,
)
answered_on inform old new now w g held same is = (
  subst (λ (e : List ℕ). IsForManager e w → ⊥) (sym same.engine) is.0,
  subst (λ (t : Taker). Outcome t new.agent.users now w (Ok g)) (sym same.taker) (subst (λ (u : List User). Outcome (taker_of old.agent) u now w (Ok g)) (sym same.agent_users) is.1),
)

pub record Earlier (since : ℕ) (events : List Event) (l : ListenerState) (w : List ℕ) : Type 0 where
  pub kind : Kind
  pub given : Given
  pub moment : ℕ
  pub held : Marks
  pub not_before : since ≤ moment
  pub not_after : moment ≤ latest since events
  pub answered : Answered kind l moment w given held
  pub risen : IsRisen held l.manager.clocks
  pub there : Contains (told_in events) (told_now moment (sha256 w) (sender_by kind given held))

-- the call tells it
record Tells (kind : Kind) (old : ListenerState) (now : ℕ) (w : List ℕ) (what : ListenerTaken) (new : ListenerState) : Type 0 where
  pub given : Given
  pub answers : Answers kind old now w (Ok given) new
  pub told : told_by now w what new.manager.clocks ≡ told_now now (sha256 w) (sender_by kind given new.manager.clocks) ∷ []

some_not : {A : Type 0} (x : A) → Some x ≡ None → ⊥
some_not x is = cc is

tells : (kind : Kind) (old : ListenerState) (now : ℕ) (from w salt : List ℕ) (what : ListenerTaken) (new : ListenerState) → TakesAs kind old now from w salt what new → reason_of what ≡ None → Tells kind old now w what new
tells trap old now from w salt (Trap t) new took is = record { given = t; answers = took.fit.answers; told = refl }
tells inform old now from w salt (Trap t) new took is = absurd took
tells trap old now from w salt (Inform t text) new took is = absurd took
tells inform old now from w salt (Inform t text) new took is = record { given = t; answers = took.fit.answers; told = refl }
tells kind old now from w salt (Copy text) new took is = absurd (some_not _ is)
tells kind old now from w salt (Dropped why answer) new took is = absurd (some_not why is)

since_latest : (since : ℕ) (first : ListenerState) (events : List Event) (last : ListenerState) → IsRun since first events last → since ≤ latest since events
since_latest since first [] last run = omega arith
since_latest since first (takes now from w salt what clocks ∷ before) last run = omega (arith, run.2, since_latest since first before run.0 run.1)
since_latest since first (finds_no_memory ∷ before) last run = since_latest since first before last run

counted_too : (kind : Kind) (old new : ListenerState) (now : ℕ) (w : List ℕ) (answer : Result Given Refusal) → Answers kind old now w answer (uncounted old new) → Answers kind old now w answer new
counted_too trap old new now w answer is = is
counted_too inform old new now w answer is = is

module _ (since : ℕ) (first : ListenerState) where
  sides : (old new : ListenerState) (now : ℕ) (from w salt : List ℕ) (what : ListenerTaken) → ListenerTakes old now from w salt what new → SameSides old new
  sides old new now from w salt what took =
      let l = left took.1.0 old now from w salt what (uncounted old new) took.1.1 in
      let s = same_sides took.1.0 old now w l.answer (uncounted old new) took.0.engine l.answers in
      record { engine = s.engine; users = s.users; taker = s.taker; agent_users = s.agent_users; started = s.started }

  pub started_on : (events : List Event) (last : ListenerState) → IsRun since first events last → last.agent.started ≡ first.agent.started
  started_on [] last run = ap (λ (l : ListenerState). l.agent.started) run
  started_on (takes now from w salt what clocks ∷ before) last run = (sides run.0 last now from w salt what run.3).started ∙ started_on before run.0 run.1
  started_on (finds_no_memory ∷ before) last run = started_on before last run

  here : (before : List Event) (old new : ListenerState) (now : ℕ) (from w salt : List ℕ) (what : ListenerTaken) → since ≤ now → ListenerTakes old now from w salt what new → reason_of what ≡ None
      → Earlier since (takes now from w salt what new.manager.clocks ∷ before) new w
  here before old new now from w salt what on took is =
      let t = tells took.1.0 old now from w salt what (uncounted old new) took.1.1 is in
      let s = sides old new now from w salt what took in
      let one = told_now now (sha256 w) (sender_by took.1.0 t.given new.manager.clocks) in
      record {
        kind = took.1.0;
        given = t.given;
        moment = now;
        held = new.manager.clocks;
        not_before = on;
        not_after = omega arith;
        answered = answered_now took.1.0 old new now w t.given s (counted_too took.1.0 old new now w (Ok t.given) t.answers);
        risen = risen_same new.manager.clocks;
        there = subst (λ (told : List ToldNotification). Contains (told_in before ++ told) one) (sym t.told) (Contains-push (told_in before) one);
      }

  pub found : (events : List Event) (last : ListenerState) (w : List ℕ) → IsRun since first events last → WasTold events w → Earlier since events last w
  found [] last w run was = absurd was
  found (takes now from v salt what clocks ∷ before) last w run (inl is) =
      subst (λ (x : List ℕ). Earlier since (takes now from v salt what clocks ∷ before) last x) is.0
      (subst (λ (c : Marks). Earlier since (takes now from v salt what c ∷ before) last v) (sym run.4)
      (here before run.0 last now from v salt what (omega (arith, run.2, since_latest since first before run.0 run.1)) run.3 is.1))
  found (takes now from v salt what clocks ∷ before) last w run (inr was) =
      let e = found before run.0 w run.1 was in
      let l = left run.3.1.0 run.0 now from v salt what (uncounted run.0 last) run.3.1.1 in
      record {
        kind = e.kind;
        given = e.given;
        moment = e.moment;
        held = e.held;
        not_before = e.not_before;
        not_after = omega (arith, e.not_after, run.2);
        answered = answered_on e.kind run.0 last e.moment w e.given e.held (sides run.0 last now from v salt what run.3) e.answered;
        risen = risen_on e.held run.0.manager.clocks last.manager.clocks e.risen (answers_risen run.3.1.0 run.0 now v l.answer (uncounted run.0 last) l.answers);
        there = Contains-append_left (told_in before) (told_by now v what clocks) _ e.there;
      }
  found (finds_no_memory ∷ before) last w run was =
      let e = found before last w run was in
      record { kind = e.kind; given = e.given; moment = e.moment; held = e.held; not_before = e.not_before; not_after = e.not_after; answered = e.answered; risen = e.risen; there = e.there }

-- ---- what is said of a datagram that is accepted

record AcceptedBy (taker : Taker) (users : List User) (now : ℕ) (w : List ℕ) (g : Given) : Type 0 where
  pub message : Verified
  pub rows : Verifies (side_at taker) users w (Ok message)
  pub fresh : message.parts.header.auth ≡ true → IsFresh taker now message
  pub level : g.level ≡ level_of message.parts.header
  pub engine : g.engine ≡ message.fields.engine

same_given : (a b : Given) → ◌≡◌ {A = Result Given Refusal} (Ok a) (Ok b) → a ≡ b
same_given a b is = cc is

read_given : (v : Verified) (text : List ℕ) (g : Given) → ReadsText v text (Ok g) → (g.level ≡ level_of v.parts.header) × (g.engine ≡ v.fields.engine)
unfolding ReadsText
read_given v text g (holds s (holds p e)) = (ap (λ (x : Given). x.level) (same_given g _ e), ap (λ (x : Given). x.engine) (same_given g _ e))

weighed_given : (taker : Taker) (users : List User) (now : ℕ) (w : List ℕ) (v : Verified) (g : Given) → Weighs taker users now w v (Ok g)
    → (v.parts.header.auth ≡ true → IsFresh taker now v) × (g.level ≡ level_of v.parts.header) × (g.engine ≡ v.fields.engine)
unfolding Weighs
weighed_given taker users now w v g (holds fresh (holds salt (text, is, below))) = let r = read_given v text g below in (fresh, r.0, r.1)

accepted_by : (taker : Taker) (users : List User) (now : ℕ) (w : List ℕ) (g : Given) → Outcome taker users now w (Ok g) → AcceptedBy taker users now w g
unfolding Outcome
accepted_by taker users now w g (holds clock (gives v rows below)) =
    let found = weighed_given taker users now w v g below in
    record { message = v; rows = rows; fresh = found.0; level = found.1; engine = found.2 }

has_auth : (h : Header) (b : Bool) → h.auth ≡ b → level_of h ≢ NoAuthNoPriv → h.auth ≡ true
has_auth h true e n = e
has_auth h false e n = absurd (n (rw e refl))

sender_known : (level : Level) (engine : List ℕ) (clocks : Marks) (pair : BootsAndTime) → level ≢ NoAuthNoPriv → pair_at clocks engine ≡ Some pair → sender_at level engine clocks ≡ Some (told_sender engine pair)
sender_known NoAuthNoPriv engine clocks pair some is = absurd (some refl)
sender_known AuthNoPriv engine clocks pair some is = ap (λ (p : Option BootsAndTime). option_map (told_sender engine) p) is
sender_known AuthPriv engine clocks pair some is = ap (λ (p : Option BootsAndTime). option_map (told_sender engine) p) is

same_pair : (a b : BootsAndTime) → Some a ≡ Some b → a ≡ b
same_pair a b is = cc is

-- a message in the window says a pair that can come by what is held
window_comes : (held p first : BootsAndTime) (mark : SeenPair) (now : ℕ) → mark.pair ≡ held → AtMost p held → AtMost p first → AtMost first held → InManagerWindow mark.pair (notion_at now mark) p → Comes first held
window_comes held p first mark now is own before later window = subst (Comes first) is (in_window mark p first now (subst (AtMost p) (sym is) own) before (subst (AtMost first) (sym is) later) window.1)
  where
    in_window : (mark : SeenPair) (p first : BootsAndTime) (now : ℕ) → AtMost p mark.pair → AtMost p first → AtMost first mark.pair → ((mark.pair.boots < p.boots) ⊎ ((p.boots ≡ mark.pair.boots) × (notion_at now mark ≤ p.time + time_window))) → Comes first mark.pair
    in_window mark p first now own before later (inl newer) = absurd (elim own [ inl h ↦ omega (arith, h, newer) | inr h ↦ omega (arith, h.0, newer) ])
    in_window mark p first now own before later (inr same) = elim before [
      | inl h ↦ absurd (elim later [ inl k ↦ omega (arith, h, k, same.0) | inr k ↦ omega (arith, h, k.0, same.0) ])
      | inr h ↦ inr (sym same.0 ∙ h.0, omega (arith, same.1, h.1))
    ]

-- ---- none is reported twice

module _ (verified_one : (side : Side) (users : List User) (w : List ℕ) (a b : Result Verified Refusal) → Verifies side users w a → Verifies side users w b → a ≡ b)
    (one : (w : List ℕ) (m n : Parts) → Outer w m → Outer w n → m ≡ n) (version : (w : List ℕ) (m : Parts) → Outer w m → WrongVersion w → ⊥) (security : (at : ℕ) (x : List ℕ) (s t : Fields) → SecText at x s → SecText at x t → s ≡ t) where
  -- a Trap that is accepted again can come by what was held when it was accepted first
  trap_lasts : (users : List User) (w : List ℕ) (moment now came : ℕ) (before held clocks : Marks) (first g : Given) → LearnsFrom users moment w before held → Outcome (as_manager held) users moment w (Ok first)
      → IsRisen held clocks → ((engine : List ℕ) (p : BootsAndTime) → Authentic users w engine p → (q : BootsAndTime) × (pair_at clocks engine ≡ Some q) × AtMost p q)
      → Outcome (as_manager clocks) users now w (Ok g) → g.level ≢ NoAuthNoPriv → lasts_by now clocks came (sender_of first held) ≡ true
  trap_lasts users w moment now came before held clocks first g learned accepted risen own again level =
      let a = accepted_by (as_manager held) users moment w first accepted in
      let b = accepted_by (as_manager clocks) users now w g again in
      let same : a.message ≡ b.message = cc (verified_one manager users w (Ok a.message) (Ok b.message) a.rows b.rows) in
      let v = b.message in
      let auth = has_auth v.parts.header v.parts.header.auth refl (λ e. level (b.level ∙ e)) in
      let engine = v.fields.engine in
      let p = pair_in v in
      let authentic = ((exactly one version security manager users w (Ok v) tt b.rows engine p).1 (auth, refl, refl, refl)).0 in
      let h = learns_own users moment w before held learned engine p authentic in
      let k = own engine p authentic in
      let r = risen engine h.0 h.1 in
      let first_level : first.level ≢ NoAuthNoPriv = λ e. level (b.level ∙ ap (λ (m : Verified). level_of m.parts.header) (sym same) ∙ sym a.level ∙ e) in
      let engine_is : first.engine ≡ engine = a.engine ∙ ap (λ (m : Verified). m.fields.engine) same in
      let sender : sender_of first held ≡ Some (told_sender engine h.0) = ap (λ (e : List ℕ). sender_at first.level e held) engine_is ∙ sender_known first.level engine held h.0 first_level h.1 in
      let fresh = b.fresh auth in
      let mark_is : fresh.0.pair ≡ k.0 = cc (sym (ap (λ (m : Option SeenPair). option_map (λ (x : SeenPair). x.pair) m) fresh.1) ∙ k.1) in
      let later : AtMost h.0 k.0 = subst (AtMost h.0) (same_pair r.0 k.0 (sym r.1 ∙ k.1)) r.2 in
      let came_again = comes_back h.0 k.0 (window_comes k.0 p h.0 fresh.0 now mark_is k.2 h.2 later fresh.2) in
      subst (λ (s : Option ToldSender). lasts_by now clocks came s ≡ true) (sym sender) (subst (λ (o : Option BootsAndTime). comes_by h.0 o ≡ true) (sym k.1) came_again)

  module _ (replay : (engine : List ℕ) (boots started now other_boots other_started later : ℕ) (users others : List User) (w : List ℕ) (given again : Given) → Outcome (as_agent engine boots started) users now w (Ok given)
      → Outcome (as_agent engine other_boots other_started) others later w (Ok again) → given.level ≢ NoAuthNoPriv → (boots ≡ other_boots) × (now - started ≤ (later - other_started) + 300) × (later - other_started ≤ (now - started) + 300)) where
    lasts_again : (kind by : Kind) (l new : ListenerState) (w : List ℕ) (moment now : ℕ) (held : Marks) (first g : Given) → l.agent.started ≤ moment → moment ≤ now → Answered kind l moment w first held → IsRisen held l.manager.clocks
        → Answers by l now w (Ok g) new → g.level ≢ NoAuthNoPriv → lasts_by now new.manager.clocks moment (sender_by kind first held) ≡ true
    lasts_again trap trap l new w moment now held first g started on was risen is level =
        trap_lasts l.manager.users w moment now moment was.1.0 held new.manager.clocks first g was.1.1 was.2
        (risen_on held l.manager.clocks new.manager.clocks risen (answers_risen trap l now w (Ok g) new is)) (learns_own l.manager.users now w l.manager.clocks new.manager.clocks is.1.1) is.1.2 level
    lasts_again inform inform l new w moment now held first g started on was risen is level =
        let bound = replay l.agent.engine l.agent.boots l.agent.started now l.agent.boots l.agent.started moment l.agent.users l.agent.users w g first is.1.0 was.1 level in
        le-leb now (moment + REMEMBERED) (omega (arith, bound.1, started, on))
    lasts_again trap inform l new w moment now held first g started on was risen is level = absurd (is.0 was.0)
    lasts_again inform trap l new w moment now held first g started on was risen is level = absurd (was.0 is.0)

    pub once : (since : ℕ) (first old last : ListenerState) (events : List Event) (now : ℕ) (from w salt : List ℕ) (what : ListenerTaken) (kind : Kind) (g : Given) → first.told ≡ [] → first.agent.started ≤ since → IsRun since first events old
        → latest since events ≤ now → ListenerTakes old now from w salt what last → IsTold what kind g → g.level ≢ NoAuthNoPriv → WasTold events w → ⊥
    once since first old last events now from w salt what kind g none started run on took is level was =
        let e = found since first events old w run was in
        let new = told_run since first old last events now from w salt what none run on took kind g is in
        let one = told_now e.moment (sha256 w) (sender_by e.kind e.given e.held) in
        let again = lasts_again e.kind kind old (uncounted old last) w e.moment now e.held e.given g (omega (arith, started, e.not_before, started_on since first events old run)) (omega (arith, e.not_after, on)) e.answered e.risen new.fit.answers level in
        new.no_copy (one, contains_filtered (lasts now last.manager.clocks) (told_in events) one e.there again, refl)
