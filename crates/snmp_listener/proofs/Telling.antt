-- The laws of a listener.
use Rattle.std.specs.Prelude.{◌≡◌, ◌⊎◌, ◌<◌, ◌≤◌, ℕ, List, [], Option, None, Some, Result, Ok, Err, length}
use Rattle.std.specs.Global.{Vec}
use Rattle.std.proofs.Common.{arith, inl, inr, refl, subst, sym}
use Rattle.sha2.specs.Sha256.{sha256}
use Rattle.snmp_message.specs.declared.refusal.Refusal.{Refusal}
use Rattle.snmp_incoming.specs.Outcome.{Given, Outcome, Taker, as_manager}
use Rattle.snmp_agent.specs.Agent.{taker_of}
use Rattle.usm_users.specs.User.{User}
use Rattle.vacm_core.specs.Tables.{Tables}
use Rattle.snmp_listener.specs.Acknowledging.{Acknowledges}
use Rattle.snmp_listener.specs.Listening.{Answers, DropsAs, IsAnswered, IsFit, Kind, ListenerState, ListenerTakes, RefusesAs, TakesAs, inform, tag_of, trap, uncounted}
use Rattle.snmp_listener.specs.Runs.{Event, IsRun, IsToBeTold, IsTold, IsUnanswerable, acknowledgement_of, latest, told_again}
use Rattle.snmp_listener.specs.Told.{HasDigest, lasting}
use Rattle.snmp_ber.specs.declared.level.Level.{Level}
use Rattle.snmp_listener.specs.Wanted.{IsHighEnough, IsLow, IsUnwanted, IsWanted}
use Rattle.snmp_listener.specs.declared.dropped.Dropped.{Dropped as Why}
use Rattle.snmp_listener.specs.declared.dropped.Dropped.TheVariants as drops
use Rattle.snmp_listener.specs.declared.listener.ListenerTaken.{ListenerTaken}
use Rattle.snmp_listener.specs.declared.listener.ListenerTaken.TheVariants.{Trap, Inform, Copy, Dropped}
use Rattle.snmp_listener.specs.declared.rules.ListenerRules.{ListenerRules}
use Rattle.snmp_listener.specs.declared.told.ToldNotification.{ToldNotification}
use Rattle.snmp_listener.proofs.Remembering.{left, told_lasts}

-- ---- what is acknowledged

some_same : (x y : Vec ℕ) → Some x ≡ Some y → x ≡ y
some_same x y is = cc is

none_not : (x : Vec ℕ) → None ≡ Some x → ⊥
none_not x is = cc is

-- what is acknowledged by what lasts of what was remembered
abbrev Acknowledged : ListenerState → ListenerState → ℕ → List ℕ → List ℕ → List ℕ → ListenerTaken → Vec ℕ → Type 0
Acknowledged old new now from w salt what text = (g : Given) × IsFit inform old now from w g new
    × Acknowledges old.agent now g salt (Ok text.items) × (IsTold what inform g ⊎ HasDigest (sha256 w) (lasting now new.manager.clocks old.told))

copy_acknowledged : (kind : Kind) (old new : ListenerState) (now : ℕ) (from w salt : List ℕ) (g : Given) (what : ListenerTaken) (text : Vec ℕ) → IsFit kind old now from w g new → IsAnswered kind old now g salt (Some text)
    → HasDigest (sha256 w) (lasting now new.manager.clocks old.told) → Acknowledged old new now from w salt what text
copy_acknowledged trap old new now from w salt g what text fit answered has = absurd (none_not text (sym answered))
copy_acknowledged inform old new now from w salt g what text fit answered has = (g, fit, answered, inr has)

inform_acknowledged : (kind : Kind) (old new : ListenerState) (now : ℕ) (from w salt : List ℕ) (t : Given) (other text : Vec ℕ) → TakesAs kind old now from w salt (Inform t other) new → other ≡ text → Acknowledged old new now from w salt (Inform t other) text
inform_acknowledged trap old new now from w salt t other text took same = absurd took
inform_acknowledged inform old new now from w salt t other text took same = (t, took.fit, subst (λ (x : Vec ℕ). Acknowledges old.agent now t salt (Ok x.items)) same took.answered, inl refl)

acknowledged : (kind : Kind) (old new : ListenerState) (now : ℕ) (from w salt : List ℕ) (what : ListenerTaken) (text : Vec ℕ) → TakesAs kind old now from w salt what new → acknowledgement_of what ≡ Some text → Acknowledged old new now from w salt what text
acknowledged kind old new now from w salt (Trap t) text took is = absurd (none_not text is)
acknowledged kind old new now from w salt (Inform t other) text took is = inform_acknowledged kind old new now from w salt t other text took (some_same other text is)
acknowledged kind old new now from w salt (Copy other) text took is =
    copy_acknowledged kind old new now from w salt took.0 (Copy other) text took.1.fit (subst (IsAnswered kind old now took.0 salt) is took.1.answered) took.1.notes.0
acknowledged kind old new now from w salt (Dropped why answer) text took is = absurd (none_not text is)

pub acknowledged_run : (since : ℕ) (first old last : ListenerState) (events : List Event) (now : ℕ) (from w salt : List ℕ) (what : ListenerTaken) (text : Vec ℕ) → first.told ≡ [] → IsRun since first events old → latest since events ≤ now
    → ListenerTakes old now from w salt what last → acknowledgement_of what ≡ Some text
    → (g : Given) × IsFit inform old now from w g (uncounted old last) × Acknowledges old.agent now g salt (Ok text.items) × (IsTold what inform g ⊎ HasDigest (sha256 w) (told_again events now last))
acknowledged_run since first old last events now from w salt what text none run on took is =
    let a = acknowledged took.1.0 old (uncounted old last) now from w salt what text took.1.1 is in
    (a.0, a.1, a.2, elim a.3 [ inl told ↦ inl told | inr has ↦ inr (subst (HasDigest (sha256 w)) (told_lasts since first old last events now from w salt what none run on took) has) ])

-- ---- what is reported

-- the same, by what lasts of what was remembered
record IsNew (old new : ListenerState) (now : ℕ) (from w : List ℕ) (kind : Kind) (g : Given) : Type 0 where
  pub fit : IsFit kind old now from w g new
  pub no_copy : HasDigest (sha256 w) (lasting now new.manager.clocks old.told) → ⊥
  pub room : length (lasting now new.manager.clocks old.told) < old.rules.most

told_new : (by kind : Kind) (old new : ListenerState) (now : ℕ) (from w salt : List ℕ) (what : ListenerTaken) (g : Given) → TakesAs by old now from w salt what new → IsTold what kind g → IsNew old new now from w kind g
told_new trap trap old new now from w salt (Trap t) g took is = record { fit = subst (λ (x : Given). IsFit trap old now from w x new) is took.fit; no_copy = took.notes.0; room = took.notes.1 }
told_new inform trap old new now from w salt (Trap t) g took is = absurd took
told_new by inform old new now from w salt (Trap t) g took is = absurd is
told_new inform inform old new now from w salt (Inform t text) g took is = record { fit = subst (λ (x : Given). IsFit inform old now from w x new) is took.fit; no_copy = took.notes.0; room = took.notes.1 }
told_new trap inform old new now from w salt (Inform t text) g took is = absurd took
told_new by trap old new now from w salt (Inform t text) g took is = absurd is
told_new by kind old new now from w salt (Copy text) g took is = absurd is
told_new by kind old new now from w salt (Dropped why answer) g took is = absurd is

module _ (since : ℕ) (first old last : ListenerState) (events : List Event) (now : ℕ) (from w salt : List ℕ) (what : ListenerTaken) (none : first.told ≡ []) (run : IsRun since first events old) (on : latest since events ≤ now) (took : ListenerTakes old now from w salt what last) where
  same : lasting now last.manager.clocks old.told ≡ told_again events now last
  same = told_lasts since first old last events now from w salt what none run on took

  pub told_run : (kind : Kind) (g : Given) → IsTold what kind g → IsToBeTold events old now from w kind g last
  told_run kind g is =
      let new = told_new took.1.0 kind old (uncounted old last) now from w salt what g took.1.1 is in
      record {
        fit = new.fit;
        no_copy = subst (λ (told : List ToldNotification). HasDigest (sha256 w) told → ⊥) same new.no_copy;
        room = subst (λ (told : List ToldNotification). length told < old.rules.most) same new.room;
      }

-- ---- what is to be told

abbrev pub HasOneAnswer : Type 0
HasOneAnswer = (taker : Taker) (users : List User) (now : ℕ) (w : List ℕ) (a b : Result Given Refusal) → Outcome taker users now w a → Outcome taker users now w b → a ≡ b

low_not_high : (least : Option Level) (users : List User) (name : List ℕ) (level : Level) → IsHighEnough least users name level → IsLow least users name level → ⊥
low_not_high (Some least) users name level high low = absurd (omega (arith, high, low))
low_not_high None users name level high low = absurd (omega (arith, high low.0 low.1, low.2))

not_wanted : (rules : ListenerRules) (users : List User) (tables : Tables) (tag : ℕ) (from : List ℕ) (g : Given) (why : Why) → IsWanted rules users tables tag from g → IsUnwanted rules users tables tag from g why → ⊥
not_wanted rules users tables tag from g (drops.Refused r) wanted is = is
not_wanted rules users tables tag from g drops.OtherPdu wanted is = is wanted.tag_is
not_wanted rules users tables tag from g drops.LowLevel wanted is = low_not_high rules.least_level users g.user g.level wanted.level is
not_wanted rules users tables tag from g drops.OtherAddress wanted is = is.1 (wanted.address is.0)
not_wanted rules users tables tag from g drops.OutsideView wanted is = is.1 (wanted.view is.0)
not_wanted rules users tables tag from g drops.Copy wanted is = is
not_wanted rules users tables tag from g drops.NoRoom wanted is = is

module _ (one : HasOneAnswer) (old new : ListenerState) (now : ℕ) (from w salt : List ℕ) (g : Given) where
  one_answer : (kind : Kind) (a b : Result Given Refusal) → Answers kind old now w a new → Answers kind old now w b new → a ≡ b
  one_answer trap a b first second = one (as_manager new.manager.clocks) old.manager.users now w a b first.1.2 second.1.2
  one_answer inform a b first second = one (taker_of old.agent) old.agent.users now w a b first.1.0 second.1.0

  unfit_not : (kind : Kind) (why : Why) (given : Given) → IsNew old new now from w kind g → Answers kind old now w (Ok given) new → IsUnwanted old.rules new.manager.users old.agent.tables (tag_of kind) from given why → ⊥
  unfit_not kind why given is answers unwanted =
      let same : g ≡ given = cc (one_answer kind (Ok g) (Ok given) is.fit.answers answers) in
      not_wanted old.rules new.manager.users old.agent.tables (tag_of kind) from given why (subst (IsWanted old.rules new.manager.users old.agent.tables (tag_of kind) from) same is.fit.wanted) unwanted

  refused_not : (kind : Kind) (r : Refusal) → IsNew old new now from w kind g → Answers kind old now w (Err r) new → ⊥
  refused_not kind r is answers = cc (one_answer kind (Ok g) (Err r) is.fit.answers answers)

  new_refused : (kind : Kind) (r : Refusal) (answer : Option (Vec ℕ)) → IsNew old new now from w kind g → RefusesAs kind old now from w salt r answer new → IsUnanswerable old now salt kind g (Dropped (drops.Refused r) answer)
  new_refused trap r answer is took = absurd (refused_not trap r is took.answers)
  new_refused inform r answer is (inl took) = absurd (refused_not inform r is took.answers)
  new_refused inform r answer is (inr took) =
      let same : took.given ≡ g = cc (one_answer inform (Ok took.given) (Ok g) took.fit.answers is.fit.answers) in
      (r, refl, refl, subst (λ (x : Given). Acknowledges old.agent now x salt (Err r)) same took.refused)

  new_dropped : (kind : Kind) (why : Why) (answer : Option (Vec ℕ)) → IsNew old new now from w kind g → DropsAs kind old now from w salt why answer new → IsUnanswerable old now salt kind g (Dropped why answer)
  new_dropped kind (drops.Refused r) answer is took = new_refused kind r answer is took
  new_dropped kind drops.NoRoom answer is took = absurd (omega (arith, took.1.2.notes.1, is.room))
  new_dropped kind drops.OtherPdu answer is took = absurd (unfit_not kind drops.OtherPdu took.1.given is took.1.answers took.1.unwanted)
  new_dropped kind drops.LowLevel answer is took = absurd (unfit_not kind drops.LowLevel took.1.given is took.1.answers took.1.unwanted)
  new_dropped kind drops.OtherAddress answer is took = absurd (unfit_not kind drops.OtherAddress took.1.given is took.1.answers took.1.unwanted)
  new_dropped kind drops.OutsideView answer is took = absurd (unfit_not kind drops.OutsideView took.1.given is took.1.answers took.1.unwanted)
  new_dropped kind drops.Copy answer is took = absurd took.1.unwanted

  new_told : (kind : Kind) (what : ListenerTaken) → IsNew old new now from w kind g → TakesAs kind old now from w salt what new → IsTold what kind g ⊎ IsUnanswerable old now salt kind g what
  new_told trap (Trap t) is took = inl (cc (one_answer trap (Ok t) (Ok g) took.fit.answers is.fit.answers))
  new_told inform (Trap t) is took = absurd took
  new_told trap (Inform t text) is took = absurd took
  new_told inform (Inform t text) is took = inl (cc (one_answer inform (Ok t) (Ok g) took.fit.answers is.fit.answers))
  new_told kind (Copy text) is took = absurd (is.no_copy took.1.notes.0)
  new_told kind (Dropped why answer) is took = inr (new_dropped kind why answer is took)

  pub one_kind : (kind by : Kind) (a b : Result Given Refusal) → Answers kind old now w a new → Answers by old now w b new → by ≡ kind
  one_kind trap trap a b first second = refl
  one_kind inform inform a b first second = refl
  one_kind trap inform a b first second = absurd (second.0 first.0)
  one_kind inform trap a b first second = absurd (first.0 second.0)

pub each_run : HasOneAnswer → (since : ℕ) (first old last : ListenerState) (events : List Event) (now : ℕ) (from w salt : List ℕ) (what : ListenerTaken) (kind : Kind) (g : Given) → first.told ≡ [] → IsRun since first events old → latest since events ≤ now
    → ListenerTakes old now from w salt what last → IsToBeTold events old now from w kind g last → IsTold what kind g ⊎ IsUnanswerable old now salt kind g what
each_run one since first old last events now from w salt what kind g none run on took is =
    let fin = uncounted old last in
    let l = left took.1.0 old now from w salt what fin took.1.1 in
    let by = one_kind one old fin now from w salt g kind took.1.0 (Ok g) l.answer is.fit.answers l.answers in
    let lasts = sym (told_lasts since first old last events now from w salt what none run on took) in
    new_told one old fin now from w salt g kind what
    (record {
      fit = is.fit;
      no_copy = subst (λ (told : List ToldNotification). HasDigest (sha256 w) told → ⊥) lasts is.no_copy;
      room = subst (λ (told : List ToldNotification). length told < old.rules.most) lasts is.room;
    })
    (subst (λ (k : Kind). TakesAs k old now from w salt what fin) by took.1.1)
