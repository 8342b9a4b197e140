-- What is remembered of a run.
use Rattle.std.specs.Prelude.{◌≡◌, ◌⊎◌, ◌≤◌, ℕ, List, [], ◌∷◌, ◌++◌, Option, Result, Ok, Err}
use Rattle.std.specs.Global.{Vec}
use Rattle.std.proofs.Common.{ap, arith, inl, inr, refl, subst, sym, ◌∙◌}
use Rattle.std.proofs.lemmas.List.{append-nil}
use Rattle.std.proofs.lemmas.List.Elements.{filter-append}
use Rattle.engine_clock.specs.Marks.{Marks}
use Rattle.snmp_message.specs.declared.refusal.Refusal.{Refusal}
use Rattle.snmp_incoming.specs.Outcome.{Given}
use Rattle.snmp_manager.specs.Views.{Held}
use Rattle.snmp_listener.specs.Listening.{Answers, DropsAs, Kind, ListenerState, ListenerTakes, TakesAs, inform, trap, uncounted}
use Rattle.snmp_listener.specs.Runs.{Event, IsRun, finds_no_memory, latest, takes, told_by, told_in}
use Rattle.snmp_listener.specs.Told.{lasting, lasts}
use Rattle.snmp_listener.specs.declared.dropped.Dropped.{Dropped as Why}
use Rattle.snmp_listener.specs.declared.dropped.Dropped.TheVariants as drops
use Rattle.snmp_listener.specs.declared.listener.ListenerTaken.{ListenerTaken}
use Rattle.snmp_listener.specs.declared.listener.ListenerTaken.TheVariants.{Trap, Inform, Copy, Dropped}
use Rattle.snmp_listener.specs.declared.told.ToldNotification.{ToldNotification}
use Rattle.snmp_listener.proofs.Rising.{IsRisen, lasting_twice, learns_risen, risen_on, risen_same}

-- ---- what a call leaves

-- what was remembered, all or what lasts, and what is reported
pub record Memory (old new : ListenerState) (now : ℕ) (clocks : Marks) (told : List ToldNotification) : Type 0 where
  pub kept : List ToldNotification
  pub kept_is : (kept ≡ old.told) ⊎ (kept ≡ lasting now clocks old.told)
  pub new_is : new.told ≡ kept ++ told

nothing : (old new : ListenerState) (now : ℕ) (clocks : Marks) → new.told ≡ old.told → Memory old new now clocks []
nothing old new now clocks same = record { kept = old.told; kept_is = inl refl; new_is = same ∙ sym (append-nil old.told) }

forgot : (old new : ListenerState) (now : ℕ) (clocks : Marks) → new.told ≡ lasting now clocks old.told → Memory old new now clocks []
forgot old new now clocks is = record { kept = lasting now clocks old.told; kept_is = inr refl; new_is = is ∙ sym (append-nil (lasting now clocks old.told)) }

noted : (old new : ListenerState) (now : ℕ) (clocks : Marks) (one : ToldNotification) → new.told ≡ lasting now clocks old.told ++ one ∷ [] → Memory old new now clocks (one ∷ [])
noted old new now clocks one is = record { kept = lasting now clocks old.told; kept_is = inr refl; new_is = is }

-- what a call answered, and what it remembers
pub record Left (kind : Kind) (old : ListenerState) (now : ℕ) (w : List ℕ) (new : ListenerState) (told : List ToldNotification) : Type 0 where
  pub answer : Result Given Refusal
  pub answers : Answers kind old now w answer new
  pub memory : Memory old new now new.manager.clocks told

left_dropped : (kind : Kind) (old : ListenerState) (now : ℕ) (from w salt : List ℕ) (why : Why) (answer : Option (Vec ℕ)) (new : ListenerState) → DropsAs kind old now from w salt why answer new → Left kind old now w new []
left_dropped trap old now from w salt (drops.Refused r) answer new is = record { answer = Err r; answers = is.answers; memory = nothing old new now new.manager.clocks is.notes }
left_dropped inform old now from w salt (drops.Refused r) answer new (inl is) = record { answer = Err r; answers = is.answers; memory = nothing old new now new.manager.clocks is.notes }
left_dropped inform old now from w salt (drops.Refused r) answer new (inr is) = record { answer = Ok is.given; answers = is.fit.answers; memory = nothing old new now new.manager.clocks is.notes }
left_dropped kind old now from w salt drops.NoRoom answer new is = record { answer = Ok is.1.0; answers = is.1.2.fit.answers; memory = forgot old new now new.manager.clocks is.1.2.notes.2 }
left_dropped kind old now from w salt drops.OtherPdu answer new is = record { answer = Ok is.1.given; answers = is.1.answers; memory = nothing old new now new.manager.clocks is.1.notes }
left_dropped kind old now from w salt drops.LowLevel answer new is = record { answer = Ok is.1.given; answers = is.1.answers; memory = nothing old new now new.manager.clocks is.1.notes }
left_dropped kind old now from w salt drops.OtherAddress answer new is = record { answer = Ok is.1.given; answers = is.1.answers; memory = nothing old new now new.manager.clocks is.1.notes }
left_dropped kind old now from w salt drops.OutsideView answer new is = record { answer = Ok is.1.given; answers = is.1.answers; memory = nothing old new now new.manager.clocks is.1.notes }
left_dropped kind old now from w salt drops.Copy answer new is = record { answer = Ok is.1.given; answers = is.1.answers; memory = nothing old new now new.manager.clocks is.1.notes }

pub left : (kind : Kind) (old : ListenerState) (now : ℕ) (from w salt : List ℕ) (what : ListenerTaken) (new : ListenerState) → TakesAs kind old now from w salt what new → Left kind old now w new (told_by now w what new.manager.clocks)
left trap old now from w salt (Trap t) new is = record { answer = Ok _; answers = is.fit.answers; memory = noted old new now new.manager.clocks _ is.notes.2 }
left inform old now from w salt (Trap t) new is = absurd is
left trap old now from w salt (Inform t text) new is = absurd is
left inform old now from w salt (Inform t text) new is = record { answer = Ok _; answers = is.fit.answers; memory = noted old new now new.manager.clocks _ is.notes.2 }
left kind old now from w salt (Copy text) new is = record { answer = Ok is.0; answers = is.1.fit.answers; memory = forgot old new now new.manager.clocks is.1.notes.1 }
left kind old now from w salt (Dropped why answer) new is = left_dropped kind old now from w salt why answer new is

-- ---- clocks rise, and users stay

pub answers_risen : (kind : Kind) (old : ListenerState) (now : ℕ) (w : List ℕ) (answer : Result Given Refusal) (new : ListenerState) → Answers kind old now w answer new → IsRisen old.manager.clocks new.manager.clocks
answers_risen trap old now w answer new is = learns_risen old.manager.users now w old.manager.clocks new.manager.clocks is.1.1
answers_risen inform old now w answer new is = subst (λ (held : Held). IsRisen old.manager.clocks held.clocks) (sym is.2) (risen_same old.manager.clocks)

-- ---- a run

-- what is remembered and lasts is what was told in the events and lasts
abbrev pub Stands : ℕ → List Event → ListenerState → Type 0
Stands since events l = (now : ℕ) (clocks : Marks) → latest since events ≤ now → IsRisen l.manager.clocks clocks → lasting now clocks l.told ≡ lasting now clocks (told_in events)

kept_lasts : (old : ListenerState) (now later : ℕ) (clocks after : Marks) (kept : List ToldNotification) → now ≤ later → IsRisen clocks after → ((kept ≡ old.told) ⊎ (kept ≡ lasting now clocks old.told)) → lasting later after kept ≡ lasting later after old.told
kept_lasts old now later clocks after kept on risen (inl same) = ap (lasting later after) same
kept_lasts old now later clocks after kept on risen (inr is) = ap (lasting later after) is ∙ lasting_twice now later clocks after on risen old.told

step : (since : ℕ) (before : List Event) (now : ℕ) (from w salt : List ℕ) (what : ListenerTaken) (old new : ListenerState) → Stands since before old → latest since before ≤ now → ListenerTakes old now from w salt what new
    → Stands since (takes now from w salt what new.manager.clocks ∷ before) new
step since before now from w salt what old new stands after took later clocks on risen =
    let l = left took.1.0 old now from w salt what (uncounted old new) took.1.1 in
    let m = l.memory in
    let rose = risen_on old.manager.clocks new.manager.clocks clocks (answers_risen took.1.0 old now w l.answer (uncounted old new) l.answers) risen in
    let told = told_by now w what new.manager.clocks in
    ap (lasting later clocks) m.new_is
    ∙ filter-append (lasts later clocks) m.kept told
    ∙ ap (λ (xs : List ToldNotification). xs ++ lasting later clocks told) (kept_lasts old now later new.manager.clocks clocks m.kept on risen m.kept_is ∙ stands later clocks (omega (arith, after, on)) rose)
    ∙ sym (filter-append (lasts later clocks) (told_in before) told)

pub run_stands : (since : ℕ) (first : ListenerState) (events : List Event) (last : ListenerState) → first.told ≡ [] → IsRun since first events last → Stands since events last
run_stands since first [] last none run = λ now clocks on risen. ap (λ (l : ListenerState). lasting now clocks l.told) run ∙ ap (lasting now clocks) none
run_stands since first (takes now from w salt what clocks ∷ before) last none run =
    subst (λ (c : Marks). Stands since (takes now from w salt what c ∷ before) last) (sym run.4)
    (step since before now from w salt what run.0 last (run_stands since first before run.0 none run.1) run.2 run.3)
run_stands since first (finds_no_memory ∷ before) last none run = run_stands since first before last none run

-- at a call, what lasts of what is remembered is what was told and lasts
pub told_lasts : (since : ℕ) (first old last : ListenerState) (events : List Event) (now : ℕ) (from w salt : List ℕ) (what : ListenerTaken) → first.told ≡ [] → IsRun since first events old → latest since events ≤ now
    → ListenerTakes old now from w salt what last → lasting now last.manager.clocks old.told ≡ lasting now last.manager.clocks (told_in events)
told_lasts since first old last events now from w salt what none run on took =
    let l = left took.1.0 old now from w salt what (uncounted old last) took.1.1 in
    run_stands since first events old none run now last.manager.clocks on (answers_risen took.1.0 old now w l.answer (uncounted old last) l.answers)
