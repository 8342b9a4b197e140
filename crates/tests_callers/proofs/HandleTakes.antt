-- What a caller writes of managers' handles.
use Rattle.std.proofs.Common.{◌≡◌, ◌∙◌, ◌<◌, ◌⊎◌, ◌+◌, ℕ, List, [], ◌∷◌, ◌++◌, length, take, Option, Some, None, refl, sym, ap, subst, inl, inr, arith}
use Rattle.std.specs.Prelude.{◌≢◌, ⊤, Result, Ok, Err, Contains, slice_index_or}
use Rattle.std.specs.Global.{Vec}
use Rattle.std.proofs.lemmas.List.{map-append, take_more}
use Rattle.std.proofs.lemmas.List.Elements.{Contains-push_cases}
use Rattle.engine_clock.specs.Marks.{Marks, pair_at}
use Rattle.engine_clock.specs.Pairs.{BootsAndTime}
use Rattle.usm_core.specs.Authentic.{Authentic, HasEngineLength}
use Rattle.usm_core.specs.Table.{refusal_answer}
use Rattle.snmp_message.specs.declared.refusal.Refusal.{Refusal}
use Rattle.snmp_message.specs.declared.refusal.Refusal.TheVariants.{NotMessage, BadVersion, NotSecurity, NotScoped, NotPdu, UnknownEngine}
use Rattle.snmp_message.specs.declared.refusal.Refusal.TheVariants.{UnknownUser, UnsupportedLevel, WrongDigest, NotInWindow, DecryptionError, BadScoped}
use Rattle.snmp_message.specs.declared.refusal.Refusal.TheVariants.{BadPdu, OutOfMemory, ClockExhausted, TooLarge, UnknownModel, InvalidFlags}
use Rattle.snmp_incoming.specs.Outcome.{Given}
use Rattle.snmp_manager.specs.Known.{HaveSameAuthentic, octets_of}
use Rattle.snmp_manager.specs.Runs.{HasTaken, moments_of}
use Rattle.snmp_manager.specs.Takes.{Takes}
use Rattle.snmp_manager.specs.Views.{Held, BeginAlike, HoldSamePairs}
use Rattle.snmp_handles.specs.Managers.{ManagerHeld, ManagerTakes, TellsPair}
use Rattle.snmp_handles.specs.declared.fault.CallFault.{CallFault}
use Rattle.snmp_handles.specs.declared.fault.CallFault.TheVariants.{Refused, BadArgument, NothingTaken, NotAsked, BadBindings, ShortBuffer}
use Rattle.snmp_handles.specs.declared.fault.CallFault.TheVariants.{BadConfiguration, BadClocks, TooManyRequests}

-- a refusal but out of memory is an answer of the table
pub told_answer : {X : Type 0} (r : Refusal) → r ≢ OutOfMemory → refusal_answer {X = X} r ≡ Some (Err r)
told_answer NotMessage other = refl
told_answer BadVersion other = refl
told_answer NotSecurity other = refl
told_answer NotScoped other = refl
told_answer NotPdu other = refl
told_answer UnknownEngine other = refl
told_answer UnknownUser other = refl
told_answer UnsupportedLevel other = refl
told_answer WrongDigest other = refl
told_answer NotInWindow other = refl
told_answer DecryptionError other = refl
told_answer BadScoped other = refl
told_answer BadPdu other = refl
told_answer OutOfMemory other = absurd (other refl)
told_answer ClockExhausted other = refl
told_answer TooLarge other = refl
told_answer UnknownModel other = refl
told_answer InvalidFlags other = refl

holds_none : {X : Type 0} (x : X) → Contains {X = X} [] x → ⊥
holds_none x c = let none : c.0 < 0 = c.1 in omega (arith, none)

module _ (join : (a b : Held) (now : ℕ) (w : List ℕ) (answer : Result Given Refusal) → Takes a now w (Some answer) b → HasTaken a ((now, w) ∷ []) b) where
  pub took_refused : (old new : Held) (now : ℕ) (w : List ℕ) (r : Refusal) → r ≢ OutOfMemory → Takes old now w (refusal_answer r) new → HasTaken old ((now, w) ∷ []) new
  took_refused old new now w r other takes = join old new now w (Err r) (subst (λ (o : Option (Result Given Refusal)). Takes old now w o new) (told_answer r other) takes)

  -- what the handle takes is taken by its manager, unless memory ran out
  pub took : (old new : ManagerHeld) (now : ℕ) (w : List ℕ) (fault : CallFault) → fault ≢ Refused OutOfMemory → ManagerTakes {V = ⊤} old now w (Err fault) new → HasTaken old.manager ((now, w) ∷ []) new.manager
  took old new now w (Refused r) other takes = took_refused old.manager new.manager now w r (λ is. other (ap Refused is)) takes.4
  took old new now w BadArgument other takes = absurd takes
  took old new now w NothingTaken other takes = absurd takes
  took old new now w NotAsked other takes = absurd takes
  took old new now w BadBindings other takes = absurd takes
  took old new now w ShortBuffer other takes = absurd takes
  took old new now w BadConfiguration other takes = absurd takes
  took old new now w BadClocks other takes = absurd takes
  took old new now w TooManyRequests other takes = absurd takes

  module _ (law : (a b a_after b_after : Held) (xs ys : List (ℕ × List ℕ)) → BeginAlike a b → HaveSameAuthentic a.users (octets_of xs) (octets_of ys) → HasTaken a xs a_after → HasTaken b ys b_after → HoldSamePairs a_after b_after) where
    -- a datagram that isn't authentic changes no pair, whatever it is answered
    pub keeps_pairs : (old new : Held) (now : ℕ) (w : List ℕ) (o : Option (Result Given Refusal)) → ((engine : List ℕ) (pair : BootsAndTime) → Authentic old.users w engine pair → ⊥)
        → Takes old now w o new → HoldSamePairs old new
    keeps_pairs old new now w None un same = λ engine. ap (λ (h : Held). pair_at h.clocks engine) (sym same)
    keeps_pairs old new now w (Some answer) un takes =
        let none : HaveSameAuthentic old.users [] (w ∷ []) = λ x engine pair auth.
        ((λ c. absurd (holds_none x c)), (λ c. elim (Contains-push_cases [] w x c) [ inl n ↦ absurd (holds_none x n) | inr is ↦ absurd (un engine pair (subst (λ (y : List ℕ). Authentic old.users y engine pair) (sym is) auth)) ])) in
        law old old old new [] ((now, w) ∷ []) (refl, λ engine. refl) none refl (join old new now w answer takes)

    pub handle_keeps_pairs : (old new : ManagerHeld) (now : ℕ) (w : List ℕ) (told : Result ⊤ CallFault) → ((engine : List ℕ) (pair : BootsAndTime) → Authentic old.manager.users w engine pair → ⊥)
        → ManagerTakes old now w told new → HoldSamePairs old.manager new.manager
    handle_keeps_pairs old new now w (Ok done) un takes = keeps_pairs old.manager new.manager now w (Some (Ok takes.0)) un takes.5
    handle_keeps_pairs old new now w (Err (Refused r)) un takes = keeps_pairs old.manager new.manager now w (refusal_answer r) un takes.4
    handle_keeps_pairs old new now w (Err BadArgument) un takes = absurd takes
    handle_keeps_pairs old new now w (Err NothingTaken) un takes = absurd takes
    handle_keeps_pairs old new now w (Err NotAsked) un takes = absurd takes
    handle_keeps_pairs old new now w (Err BadBindings) un takes = absurd takes
    handle_keeps_pairs old new now w (Err ShortBuffer) un takes = absurd takes
    handle_keeps_pairs old new now w (Err BadConfiguration) un takes = absurd takes
    handle_keeps_pairs old new now w (Err BadClocks) un takes = absurd takes
    handle_keeps_pairs old new now w (Err TooManyRequests) un takes = absurd takes

-- a wrong code leaves the marks
pub wrong_digest : (old new : ManagerHeld) (now : ℕ) (w : List ℕ) → ManagerTakes {V = ⊤} old now w (Err (Refused WrongDigest)) new → HoldSamePairs old.manager new.manager
wrong_digest old new now w takes = λ engine. ap (λ (m : Marks). pair_at m engine) (sym (takes.5 (λ e. e)))

-- the moments of one datagram more
pub moments_more : (ds : List (ℕ × Vec ℕ)) (i : ℕ) (t : ℕ × Vec ℕ) → i < length ds → t ≡ slice_index_or ds i t → moments_of (take (i + 1) ds) ≡ moments_of (take i ds) ++ (t.0, t.1.items) ∷ []
moments_more ds i t lt is =
    ap moments_of (take_more ds i t lt ∙ ap (λ (x : ℕ × Vec ℕ). take i ds ++ x ∷ []) (sym is)) ∙ map-append (λ (x : ℕ × Vec ℕ). (x.0, x.1.items)) (take i ds) (t ∷ [])

-- ---- what is reported of a pair

-- what an answer says, by what is held
abbrev PairToldBy : Type 0 → Option BootsAndTime → Result BootsAndTime CallFault → Type 0
PairToldBy Fits held told = ((pair : BootsAndTime) × (told ≡ Ok pair) × Fits × (held ≡ Some pair))
    ⊎ (((told ≡ Err BadArgument) × (Fits → ⊥)) ⊎ ((told ≡ Err NothingTaken) × Fits × (held ≡ None)))

told_by : (held : ManagerHeld) (engine : List ℕ) (told : Result BootsAndTime CallFault) → TellsPair held engine told → PairToldBy (HasEngineLength engine) (pair_at held.manager.clocks engine) told
told_by held engine (Ok pair) t = inl (pair, refl, t.0, t.1)
told_by held engine (Err BadArgument) t = inr (inl (refl, t))
told_by held engine (Err NothingTaken) t = inr (inr (refl, t.0, t.1))
told_by held engine (Err (Refused r)) t = absurd t
told_by held engine (Err NotAsked) t = absurd t
told_by held engine (Err BadBindings) t = absurd t
told_by held engine (Err ShortBuffer) t = absurd t
told_by held engine (Err BadConfiguration) t = absurd t
told_by held engine (Err BadClocks) t = absurd t
told_by held engine (Err TooManyRequests) t = absurd t

one_told : (Fits : Type 0) (held : Option BootsAndTime) (p q : Result BootsAndTime CallFault) → PairToldBy Fits held p → PairToldBy Fits held q → p ≡ q
one_told Fits held p q (inl (x, p_is, fits, some)) (inl (y, q_is, _, other)) = let same : Some x ≡ Some y = sym some ∙ other in cc (p_is, q_is, same)
one_told Fits held p q (inl (x, p_is, fits, some)) (inr (inl (q_is, wrong))) = absurd (wrong fits)
one_told Fits held p q (inl (x, p_is, fits, some)) (inr (inr (q_is, _, none))) = let e : Some x ≡ None = sym some ∙ none in cc e
one_told Fits held p q (inr (inl (p_is, wrong))) (inl (y, q_is, fits, _)) = absurd (wrong fits)
one_told Fits held p q (inr (inl (p_is, wrong))) (inr (inl (q_is, _))) = p_is ∙ sym q_is
one_told Fits held p q (inr (inl (p_is, wrong))) (inr (inr (q_is, fits, _))) = absurd (wrong fits)
one_told Fits held p q (inr (inr (p_is, _, none))) (inl (y, q_is, _, some)) = let e : Some y ≡ None = sym some ∙ none in cc e
one_told Fits held p q (inr (inr (p_is, fits, none))) (inr (inl (q_is, wrong))) = absurd (wrong fits)
one_told Fits held p q (inr (inr (p_is, _, none))) (inr (inr (q_is, _, _))) = p_is ∙ sym q_is

pub told_alike : (one other : ManagerHeld) (engine : List ℕ) (p q : Result BootsAndTime CallFault) → HoldSamePairs one.manager other.manager → TellsPair one engine p → TellsPair other engine q → p ≡ q
told_alike one other engine p q same a b =
    one_told (HasEngineLength engine) (pair_at one.manager.clocks engine) p q (told_by one engine p a)
    (subst (λ (held : Option BootsAndTime). PairToldBy (HasEngineLength engine) held q) (sym (same engine)) (told_by other engine q b))
