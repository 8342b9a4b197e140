-- What was sealed is accepted by who has its user and allows its engine.
use Rattle.snmp_message.specs.declared.refusal.Refusal.TheVariants.{NotInWindow}
use Rattle.snmp_message.specs.declared.refusal.Refusal.{Refusal}
use Rattle.std.proofs.Common.{◌≡◌, ℕ, ◌-◌, ◌≤◌, arith, List, [], ◌+◌, ◌++◌, Bool, true, false, length, drop, refl, sym, ap, subst, ◌∙◌, inl, inr, append-nil}
use Rattle.std.specs.Prelude.{if◌then◌else◌, ◌&&◌, Result, Ok, Err, Option, Some, None, is_some, IsSomeAnd, MatchBool}
use Rattle.std.proofs.lemmas.Bool.{cases_lt}
use Rattle.snmp_ber.specs.Element.{IsElement}
use Rattle.snmp_message.specs.Layout.{Parts, Outer}
use Rattle.snmp_message.specs.Security.{Fields, SecText}
use Rattle.snmp_message.specs.Scoped.{Contexts, ScopedContent, ScopedText, ScopedFront, HasScoped}
use Rattle.snmp_msg.specs.Pdu.{PduParts, PduText}
use Rattle.snmp_message.specs.declared.header.Header.{Header}
use Rattle.snmp_message.specs.Level.{level_of}
use Rattle.engine_clock.specs.Pairs.{BootsAndTime}
use Rattle.engine_clock.specs.Marks.{SeenPair, mark_at}
use Rattle.engine_clock.specs.Windows.{InAgentWindow, InManagerWindow, time_window, notion_at}
use Rattle.snmp_ber.specs.declared.level.Level.{Level}
use Rattle.snmp_ber.specs.declared.level.Level.TheVariants.{NoAuthNoPriv, AuthPriv}
use Rattle.usm_users.specs.User.{User}
use Rattle.usm_users.specs.Users.{user_named, supports, HasUser, HasUserAt}
use Rattle.usm_core.specs.Table.{holds, fails, gives}
use Rattle.usm_core.specs.Authentic.{Authentic, IsMac, IsDigestRight}
use Rattle.usm_core.specs.Verified.{Side, agent, manager, AllowsEngine, AllowsUser, Verified, ReadsLayout, Judges, Verifies}
use Rattle.usm_core.specs.Sealed.{Sending, Seals, IsPlaintext}
use Rattle.usm_core.specs.Says.{SaysSent}
use Rattle.snmp_incoming.specs.Outcome.{Given, Taker, as_agent, as_manager, side_at, ClockRuns, own_pair, pair_in, IsFresh, IsFreshAt, IsTextOf, ReadsText, Weighs, Outcome}
use Rattle.snmp_outgoing.specs.Accepts.{IsFor, IsPairFresh, IsInTime, IsAccepted, IsAnsweredInTime}

and_right : (a b : Bool) → (a && b) ≡ true → b ≡ true
and_right true b e = e
and_right false b e = absurd cc

flags_of : (senders : List User) (m : Sending) (text : List ℕ) → Seals senders m (Ok text) → m.header.privacy ≡ true → m.header.auth ≡ true
unfolding Seals
flags_of senders m text (holds flags rest) = flags

by_bool : (b : Bool) (P Q : Type 0) (R : Type 0) → (b ≡ true → P → R) → (b ≡ false → Q → R) → MatchBool b P Q → R
by_bool true P Q R f g h = f refl h
by_bool false P Q R f g h = g refl h

-- ---- a ScopedPDU says the same at each place

pub record SameScoped (s d : Contexts) : Type 0 where
  pub engine : d.engine ≡ s.engine
  pub name : d.name ≡ s.name
  pub pdu : d.pdu ≡ s.pdu

moved : (at to : ℕ) (content : List ℕ) (s : Contexts) → ScopedContent at content s → (d : Contexts) × ScopedContent to content d × SameScoped s d
moved at to content s is = (
  record { engine = s.engine; name = s.name; pdu = s.pdu; pdu_at = to + (length is.engine + length is.name) },
  record { engine = is.engine; is_engine = is.is_engine; name = is.name; is_name = is.is_name; pdu_tag = is.pdu_tag; pdu_content = is.pdu_content; is_pdu = is.is_pdu; joined = is.joined; pdu_place = refl },
  record { engine = refl; name = refl; pdu = refl },
)

-- ---- the window

fresh_here : (taker : Taker) (now : ℕ) (v : Verified) (engine : List ℕ) (pair : BootsAndTime) → v.fields.engine ≡ engine → pair_in v ≡ pair → IsPairFresh taker now engine pair → IsFresh taker now v
fresh_here (as_agent own boots started) now v engine pair e p is = subst (InAgentWindow (own_pair boots started now)) (sym p) is
fresh_here (as_manager held) now v engine pair e p is =
    subst (λ (x : List ℕ). IsFreshAt held x (pair_in v) now) (sym e) (subst (λ (q : BootsAndTime). IsFreshAt held engine q now) (sym p) is)

fresh_there : (taker : Taker) (now : ℕ) (v : Verified) (engine : List ℕ) (pair : BootsAndTime) → v.fields.engine ≡ engine → pair_in v ≡ pair → IsFresh taker now v → IsPairFresh taker now engine pair
fresh_there (as_agent own boots started) now v engine pair e p is = subst (InAgentWindow (own_pair boots started now)) p is
fresh_there (as_manager held) now v engine pair e p is =
    subst (λ (q : BootsAndTime). IsFreshAt held engine q now) p (subst (λ (x : List ℕ). IsFreshAt held x (pair_in v) now) e is)

-- ---- what isn't out of the window is in it

eq_stable : (a b : ℕ) → ((a ≡ b → ⊥) → ⊥) → a ≡ b
eq_stable a b h =
    elim (cases_lt a b) [
      | inl lt ↦ absurd (h (λ e. let same : a ≡ b = e in omega (arith, lt, same)))
      | inr le ↦ elim (cases_lt b a) [
        | inl lt ↦ absurd (h (λ e. let same : a ≡ b = e in omega (arith, lt, same)))
        | inr ge ↦ omega (arith, le, ge)
      ]
    ]

le_stable : (a b : ℕ) → ((a ≤ b → ⊥) → ⊥) → a ≤ b
le_stable a b h =
    elim (cases_lt b a) [
      | inl lt ↦ absurd (h (λ e. let at_most : a ≤ b = e in omega (arith, lt, at_most)))
      | inr le ↦ le
    ]

agent_stable : (own p : BootsAndTime) → ((InAgentWindow own p → ⊥) → ⊥) → InAgentWindow own p
agent_stable own p h = (
  λ e. h (λ w. w.0 e),
  eq_stable p.boots own.boots (λ no. h (λ w. no w.1)),
  le_stable p.time (own.time + time_window) (λ no. h (λ w. no w.2)),
  le_stable own.time (p.time + time_window) (λ no. h (λ w. no w.3)),
)

manager_stable : (held : BootsAndTime) (notion : ℕ) (p : BootsAndTime) → ((InManagerWindow held notion p → ⊥) → ⊥) → InManagerWindow held notion p
manager_stable held notion p h = (
  λ e. h (λ w. w.0 e),
  elim (cases_lt held.boots p.boots) [
    | inl lt ↦ inl lt
    | inr le ↦ inr (
      eq_stable p.boots held.boots (λ no. h (λ w. elim w.1 [ inl lt ↦ absurd (omega (arith, lt, le)) | inr same ↦ no same.0 ])),
      le_stable notion (p.time + time_window) (λ no. h (λ w. elim w.1 [ inl lt ↦ absurd (omega (arith, lt, le)) | inr same ↦ no same.1 ])),
    )
  ],
)

some_mark : (a b : SeenPair) → Some a ≡ Some b → a ≡ b
some_mark a b e = cc e

-- the same where a mark may be held
held_stable : (o : Option SeenPair) (pair : BootsAndTime) (now : ℕ) → (((mark : SeenPair) × (o ≡ Some mark) × InManagerWindow mark.pair (notion_at now mark) pair → ⊥) → ⊥)
    → (mark : SeenPair) × (o ≡ Some mark) × InManagerWindow mark.pair (notion_at now mark) pair
held_stable None pair now h = absurd (h (λ f. let e = f.1 in cc e))
held_stable (Some mark) pair now h = (mark, refl, manager_stable mark.pair (notion_at now mark) pair (λ no. h (λ f. let e : f.0 ≡ mark = sym (some_mark mark f.0 f.1) in no (subst (λ (x : SeenPair). InManagerWindow x.pair (notion_at now x) pair) e f.2))))

pair_stable : (taker : Taker) (now : ℕ) (engine : List ℕ) (pair : BootsAndTime) → ((IsPairFresh taker now engine pair → ⊥) → ⊥) → IsPairFresh taker now engine pair
pair_stable (as_agent own boots started) now engine pair h = agent_stable (own_pair boots started now) pair h
pair_stable (as_manager held) now engine pair h = held_stable (mark_at held engine) pair now h

time_stable : (taker : Taker) (now : ℕ) (m : Sending) → ((IsInTime taker now m → ⊥) → ⊥) → IsInTime taker now m
time_stable taker now m h = λ auth. pair_stable taker now m.engine m.pair (λ no. h (λ fresh. no (fresh auth)))

-- ---- the plaintext

salt_of : (b : Bool) (x : List ℕ) → b ≡ true → length x ≡ 8 → length (if b then x else []) ≡ 8
salt_of true x e h = h
salt_of false x e h = absurd cc

at_priv : (h : Header) → h.privacy ≡ true → h.auth ≡ true → level_of h ≡ AuthPriv
at_priv h p a = rw (a, p) refl

-- who is allowed at authPriv is a user
known_at_priv : (side : Side) (users : List User) (name : List ℕ) (level : Level) → level ≡ AuthPriv → AllowsUser side users name level → HasUser users name
known_at_priv (agent own) users name level e user = user
known_at_priv manager users name level e (inl user) = user
known_at_priv manager users name level e (inr none) = let wrong : AuthPriv ≡ NoAuthNoPriv = sym e ∙ none.1 in absurd cc

has_both : (user : User) → supports user AuthPriv ≡ true → is_some user.privacy ≡ true
has_both user e = and_right (is_some user.auth) (is_some user.privacy) e

key_text : {K : Type 0} (o : Option K) (F : K → List ℕ) → is_some o ≡ true → (t : List ℕ) × IsSomeAnd o (λ k. t ≡ F k)
key_text None F e = absurd cc
key_text (Some k) F e = (F k, refl)

some_text : {K : Type 0} (o : Option User) (f : User → Option K) (F : K → List ℕ) → ((u : User) → supports u AuthPriv ≡ true → is_some (f u) ≡ true)
    → IsSomeAnd o (λ u. supports u AuthPriv ≡ true) → (t : List ℕ) × IsSomeAnd o (λ u. IsSomeAnd (f u) (λ k. t ≡ F k))
some_text None f F has h = absurd h
some_text (Some u) f F has h = key_text (f u) F (has u h)

other_user : {K : Type 0} (o r : Option User) (f : User → Option K) (P : K → Type 0) → o ≡ r → IsSomeAnd o (λ u. IsSomeAnd (f u) P) → IsSomeAnd r (λ u. IsSomeAnd (f u) P)
other_user o r f P e h = subst (λ (x : Option User). IsSomeAnd x (λ u. IsSomeAnd (f u) P)) e h

-- what the message is opened to, and that this begins with the ScopedPDU that was sent
record Opened (users : List User) (w : List ℕ) (v : Verified) (c : Contexts) : Type 0 where
  pub text : List ℕ
  pub is_text : IsTextOf users w v text
  pub contexts : Contexts
  pub front : ScopedFront text contexts
  pub same : SameScoped c contexts

read_text : (v : Verified) (text : List ℕ) (s : Contexts) (p : PduParts) → ScopedFront text s → PduText s.pdu p
    → ReadsText v text (Ok (record { engine = v.fields.engine; user = v.fields.user; level = level_of v.parts.header; id = v.parts.header.id; max_size = v.parts.header.max_size; tag = p.tag; text = text }))
unfolding ReadsText
read_text v text s p front pdu = holds (record { contexts = s; is = front }) (holds (record { pdu = p; is = pdu }) refl)

-- ---- the table

module _ (taker : Taker) (senders users : List User) (now : ℕ) (m : Sending) (c : Contexts) (p : PduParts) (w : List ℕ)
    (is_for : IsFor taker senders users m c p) (seals : Seals senders m (Ok w)) (v : Verified) (reads : ReadsLayout w (Ok v)) (said : SaysSent senders m w v.parts v.fields)
    (one : (w : List ℕ) (m n : Parts) → Outer w m → Outer w n → m ≡ n)
    (one_fields : (at : ℕ) (x : List ℕ) (s t : Fields) → SecText at x s → SecText at x t → s ≡ t)
    (one_element : (a b x y : List ℕ) (tag other_tag : ℕ) (content other_content : List ℕ) → IsElement tag content a → IsElement other_tag other_content b → a ++ x ≡ b ++ y
    → (tag ≡ other_tag) × (content ≡ other_content) × (a ≡ b) × (x ≡ y))
    (from_data : (w : List ℕ) (m : Parts) (s : Contexts) → Outer w m → HasScoped w m s → ScopedText 0 (drop m.data_at w) (record s { pdu_at = s.pdu_at - m.data_at }))
    (authentic : m.header.auth ≡ true → Authentic senders w m.engine m.pair)
    (opens : m.header.privacy ≡ true → (plain : List ℕ) → IsPlaintext senders v.fields v.parts.data_content plain → plain ≡ m.scoped) where
  set_auth : v.parts.header.auth ≡ true → m.header.auth ≡ true
  set_auth e = ap (λ (h : Header). h.auth) (sym said.header_is) ∙ e

  set_privacy : v.parts.header.privacy ≡ true → m.header.privacy ≡ true
  set_privacy e = ap (λ (h : Header). h.privacy) (sym said.header_is) ∙ e

  same_named : m.header.auth ≡ true → user_named senders v.fields.user ≡ user_named users v.fields.user
  same_named auth = subst (λ (n : List ℕ). user_named senders n ≡ user_named users n) (sym said.user_is) (sym (is_for.same_user auth))

  digest : v.parts.header.auth ≡ true → IsDigestRight users w v.parts v.fields
  digest e =
      let a = authentic (set_auth e) in
      let parts : a.parts ≡ v.parts = one w a.parts v.parts a.message.outer said.outer in
      let security = subst (λ (x : Parts). SecText x.security_at x.security a.fields) parts a.message.security in
      let fields : a.fields ≡ v.fields = one_fields v.parts.security_at v.parts.security a.fields v.fields security said.security in
      let right = subst (λ (x : Fields). IsDigestRight senders w v.parts x) fields (subst (λ (x : Parts). IsDigestRight senders w x a.fields) parts a.message.digest) in
      subst (λ (o : Option User). IsSomeAnd o (λ user. IsSomeAnd user.auth (λ key. IsMac key w v.parts v.fields))) (same_named (set_auth e)) right

  user_here : AllowsUser (side_at taker) users v.fields.user (level_of v.parts.header)
  user_here = subst (λ (h : Header). AllowsUser (side_at taker) users v.fields.user (level_of h)) (sym said.header_is)
      (subst (λ (n : List ℕ). AllowsUser (side_at taker) users n (level_of m.header)) (sym said.user_is) is_for.user)

  level_here : HasUser users v.fields.user → HasUserAt users v.fields.user (level_of v.parts.header)
  level_here = subst (λ (h : Header). HasUser users v.fields.user → HasUserAt users v.fields.user (level_of h)) (sym said.header_is)
      (subst (λ (n : List ℕ). HasUser users n → HasUserAt users n (level_of m.header)) (sym said.user_is) is_for.level)

  judges : Judges (side_at taker) users w v (Ok v)
  unfolding Judges
  judges = holds (subst (AllowsEngine (side_at taker)) (sym said.engine_is) is_for.engine) (holds user_here (holds level_here (holds digest refl)))

  verifies : Verifies (side_at taker) users w (Ok v)
  unfolding Verifies
  verifies = gives v reads judges

  pair_same : pair_in v ≡ m.pair
  pair_same = rw (said.boots_is, said.time_is) refl

  plain_read : m.header.privacy ≡ false → (v.parts.data_tag ≡ 48) × IsElement 48 v.parts.data_content m.scoped → Opened users w v c
  plain_read e d =
      let content : is_for.scoped.content ≡ v.parts.data_content =
      (one_element m.scoped m.scoped [] [] 48 48 is_for.scoped.content v.parts.data_content (is_for.scoped.head, is_for.scoped.is_whole, is_for.scoped.whole) d.1 refl).1 in
      let says = subst (λ (x : List ℕ). ScopedContent (0 + length is_for.scoped.head) x c) content is_for.scoped.says in
      let there = moved (0 + length is_for.scoped.head) (length w - length v.parts.data_content) v.parts.data_content c says in
      let clear : v.parts.header.privacy ≡ false = ap (λ (h : Header). h.privacy) said.header_is ∙ e in
      let text = drop v.parts.data_at w in
      record {
        text = text;
        is_text = subst (λ (b : Bool). MatchBool b (IsPlaintext users v.fields v.parts.data_content text) (text ≡ drop v.parts.data_at w)) (sym clear) refl;
        contexts = record there.0 { pdu_at = there.0.pdu_at - v.parts.data_at };
        front = (text, [], sym (append-nil text), from_data w v.parts there.0 said.outer (clear, d.0, there.1));
        same = record { engine = there.2.engine; name = there.2.name; pdu = there.2.pdu };
      }

  sealed_read : m.header.privacy ≡ true → Opened users w v c
  sealed_read e =
      let auth : m.header.auth ≡ true = flags_of senders m w seals e in
      let at : level_of v.parts.header ≡ AuthPriv = ap level_of said.header_is ∙ at_priv m.header e auth in
      let level : HasUserAt users v.fields.user AuthPriv = subst (HasUserAt users v.fields.user) at (level_here (known_at_priv (side_at taker) users v.fields.user (level_of v.parts.header) at user_here)) in
      let plain : (t : List ℕ) × IsPlaintext users v.fields v.parts.data_content t = some_text (user_named users v.fields.user) (λ u. u.privacy) _ has_both level in
      let there : IsPlaintext senders v.fields v.parts.data_content plain.0 = other_user (user_named users v.fields.user) (user_named senders v.fields.user) (λ u. u.privacy) _ (sym (same_named auth)) plain.1 in
      let is : plain.0 ≡ m.scoped = opens e plain.0 there in
      let set : v.parts.header.privacy ≡ true = ap (λ (h : Header). h.privacy) said.header_is ∙ e in
      record {
        text = plain.0;
        is_text = subst (λ (b : Bool). MatchBool b (IsPlaintext users v.fields v.parts.data_content plain.0) (plain.0 ≡ drop v.parts.data_at w)) (sym set) plain.1;
        contexts = c;
        front = (m.scoped, [], is ∙ sym (append-nil m.scoped), is_for.scoped);
        same = record { engine = refl; name = refl; pdu = refl };
      }

  opened : Opened users w v c
  opened = by_bool m.header.privacy _ _ (Opened users w v c) (λ e d. sealed_read e) (λ e d. plain_read e d) said.content

  given : Given
  given = record { engine = v.fields.engine; user = v.fields.user; level = level_of v.parts.header; id = v.parts.header.id; max_size = v.parts.header.max_size; tag = p.tag; text = opened.text }

  weighs : IsInTime taker now m → Weighs taker users now w v (Ok given)
  unfolding Weighs given
  weighs fresh =
      holds (λ e. fresh_here taker now v m.engine m.pair said.engine_is pair_same (fresh (set_auth e)))
      (holds (λ e. ap (λ (x : List ℕ). length x) said.salt_is ∙ salt_of m.header.privacy m.salt (set_privacy e) is_for.fits.salt)
      (opened.text, opened.is_text, read_text v opened.text opened.contexts p opened.front (subst (λ (t : List ℕ). PduText t p) (sym opened.same.pdu) is_for.pdu)))

  pub accepted : ClockRuns taker now → IsInTime taker now m → IsAccepted taker users now w m c p
  unfolding Outcome given
  accepted runs fresh = (
    given,
    holds runs (gives v verifies (weighs fresh)),
    record {
      engine_is = said.engine_is;
      user_is = said.user_is;
      level_is = ap level_of said.header_is;
      id_is = ap (λ (h : Header). h.id) said.header_is;
      max_size_is = ap (λ (h : Header). h.max_size) said.header_is;
      tag_is = refl;
      contexts = opened.contexts;
      front = opened.front;
      context_engine_is = opened.same.engine;
      context_name_is = opened.same.name;
      pdu_is = opened.same.pdu;
    },
  )

  pub late : ClockRuns taker now → (IsInTime taker now m → ⊥) → Outcome taker users now w (Err NotInWindow)
  unfolding Outcome Weighs
  late runs stale = holds runs (gives v verifies (fails (λ fresh. stale (λ auth. fresh_there taker now v m.engine m.pair said.engine_is pair_same (fresh (ap (λ (h : Header). h.auth) said.header_is ∙ auth))))))

  pub accepted_only : ((a b : Result Given Refusal) → Outcome taker users now w a → Outcome taker users now w b → a ≡ b) → ClockRuns taker now
      → (g : Given) → Outcome taker users now w (Ok g) → IsInTime taker now m
  accepted_only same runs g is = time_stable taker now m (λ stale. let e = same (Ok g) (Err NotInWindow) is (late runs stale) in cc e)

  pub answered : ((a b : Result Given Refusal) → Outcome taker users now w a → Outcome taker users now w b → a ≡ b) → ClockRuns taker now
      → (answer : Result Given Refusal) → Outcome taker users now w answer → IsAnsweredInTime taker now m c p answer
  answered same runs answer is = record {
    in_time = λ fresh. let a = accepted runs fresh in (a.0, same answer (Ok a.0) is a.1, a.2);
    late = λ stale. same answer (Err NotInWindow) is (late runs stale);
  }
