-- Where the pairs that are known come from, and that they stay known.
use Rattle.std.proofs.Common.{◌≡◌, ℕ, List, [], ◌∷◌, Option, Some, None, refl, inl, inr, arith}
use Rattle.std.specs.Prelude.{◌⊎◌, Contains}
use Rattle.std.proofs.lemmas.List.Elements.{Contains-append_left, Contains-append_right}
use Rattle.engine_clock.specs.Pairs.{BootsAndTime, IsBelow, IsGreatestOf}
use Rattle.std.specs.Option.{option_map}
use Rattle.engine_clock.specs.Marks.{SeenPair}
use Rattle.usm_users.specs.User.{User}
use Rattle.snmp_manager.specs.Knowledge.{AuthenticAt, Knowing, knows_after, knows_after_all, taken_in, IsNeverRestarted}
use Rattle.snmp_manager.specs.declared.event.Event.{Event}
use Rattle.snmp_manager.specs.declared.event.Event.TheVariants.{Take, Save, Absorb, Restart}

-- the knowledge of some manager or file
abbrev pub Somewhere : Knowing → List ℕ → SeenPair → Type 0
Somewhere k engine pair = ((i : ℕ) × k.managers i engine pair) ⊎ ((f : ℕ) × k.files f engine pair)

abbrev pub Taken : List User → List (ℕ × List ℕ) → List ℕ → SeenPair → Type 0
Taken users ws engine pair = (t : ℕ × List ℕ) × Contains ws t × AuthenticAt users t.0 t.1 engine pair

later : (users : List User) (w : ℕ × List ℕ) (ws : List (ℕ × List ℕ)) (engine : List ℕ) (pair : SeenPair) → Taken users ws engine pair → Taken users (w ∷ ws) engine pair
later users w ws engine pair t = (t.0, Contains-append_right (w ∷ []) ws t.0 t.1, t.2)

-- what is somewhere after an event was somewhere before it, or was authenticated in it
one_event : (users : List User) (event : Event) (k : Knowing) (engine : List ℕ) (pair : SeenPair) → Somewhere (knows_after users event k) engine pair → Taken users (taken_in (event ∷ [])) engine pair ⊎ Somewhere k engine pair
one_event users (Take i now w) k engine pair (inl m) = elim m.1 [ inl s ↦ inr (inl (m.0, s)) | inr a ↦ inl ((now, w.items), (0, omega arith, refl), a.1) ]
one_event users (Take i now w) k engine pair (inr f) = inr (inr f)
one_event users (Save i) k engine pair (inl m) = inr (inl m)
one_event users (Save i) k engine pair (inr f) = elim f.1 [ inl s ↦ inr (inr (f.0, s.1)) | inr s ↦ inr (inl (i, s.1)) ]
one_event users (Absorb i g now) k engine pair (inl m) = elim m.1 [ inl s ↦ inr (inl (m.0, s)) | inr s ↦ inr (inr (g, s.1)) ]
one_event users (Absorb i g now) k engine pair (inr f) = inr (inr f)
one_event users (Restart i g now) k engine pair (inl m) = elim m.1 [ inl s ↦ inr (inl (m.0, s.1)) | inr s ↦ inr (inr (g, s.1)) ]
one_event users (Restart i g now) k engine pair (inr f) = inr (inr f)

more_taken : (users : List User) (event : Event) (events : List Event) (engine : List ℕ) (pair : SeenPair) → Taken users (taken_in events) engine pair → Taken users (taken_in (event ∷ events)) engine pair
more_taken users (Take i now w) events engine pair t = later users (now, w.items) (taken_in events) engine pair t
more_taken users (Save i) events engine pair t = t
more_taken users (Absorb i g now) events engine pair t = t
more_taken users (Restart i g now) events engine pair t = t

first_taken : (users : List User) (event : Event) (events : List Event) (engine : List ℕ) (pair : SeenPair) → Taken users (taken_in (event ∷ [])) engine pair → Taken users (taken_in (event ∷ events)) engine pair
first_taken users (Take i now w) events engine pair t = (t.0, Contains-append_left ((now, w.items) ∷ []) (taken_in events) t.0 t.1, t.2)
first_taken users (Save i) events engine pair t = absurd (omega (arith, t.1.1))
first_taken users (Absorb i g now) events engine pair t = absurd (omega (arith, t.1.1))
first_taken users (Restart i g now) events engine pair t = absurd (omega (arith, t.1.1))

pub all_events : (users : List User) (events : List Event) (k : Knowing) (engine : List ℕ) (pair : SeenPair) → Somewhere (knows_after_all users events k) engine pair → Taken users (taken_in events) engine pair ⊎ Somewhere k engine pair
all_events users [] k engine pair s = inr s
all_events users (event ∷ events) k engine pair s =
    elim (all_events users events (knows_after users event k) engine pair s) [
      | inl t ↦ inl (more_taken users event events engine pair t)
      | inr before ↦ elim (one_event users event k engine pair before) [ inl t ↦ inl (first_taken users event events engine pair t) | inr first ↦ inr first ]
    ]

-- what a manager knows it knows on
stays_once : (users : List User) (event : Event) (events : List Event) (k : Knowing) (i : ℕ) (engine : List ℕ) (pair : SeenPair) → IsNeverRestarted i (event ∷ events) → k.managers i engine pair → (knows_after users event k).managers i engine pair × IsNeverRestarted i events
stays_once users (Take j now w) events k i engine pair never known = (inl known, never)
stays_once users (Save j) events k i engine pair never known = (known, never)
stays_once users (Absorb j f now) events k i engine pair never known = (inl known, never)
stays_once users (Restart j f now) events k i engine pair never known = (inl (never.0, known), never.1)

pub stays : (users : List User) (events : List Event) (k : Knowing) (i : ℕ) (engine : List ℕ) (pair : SeenPair) → IsNeverRestarted i events → k.managers i engine pair → (knows_after_all users events k).managers i engine pair
stays users [] k i engine pair never known = known
stays users (event ∷ events) k i engine pair never known =
    let once = stays_once users event events k i engine pair never known in
    stays users events (knows_after users event k) i engine pair once.1 once.0

pub not_below_member : (S : BootsAndTime → Type 0) (b : Option BootsAndTime) (p : BootsAndTime) → IsGreatestOf S b → S p → (q : BootsAndTime) × (b ≡ Some q) × (IsBelow q p → ⊥)
not_below_member S None p latest member = absurd (latest p member)
not_below_member S (Some q) p latest member = (q, refl, latest.1 p member)

pub mark_of : (held : Option SeenPair) (p : BootsAndTime) → option_map (λ m. m.pair) held ≡ Some p → (mark : SeenPair) × (held ≡ Some mark) × (mark.pair ≡ p)
mark_of None p e = cc e
mark_of (Some m) p e = (m, refl, cc e)
