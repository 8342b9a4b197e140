-- The Sets that are remembered, as more happens.
use Rattle.std.specs.Prelude.{◌≡◌, ◌≢◌, ◌∷◌, ◌+◌, ◌<◌, ◌≤◌, ℕ, List, [], All, Contains, Option, Some, None, MatchOption, slice_index_or}
use Rattle.std.proofs.Common.{refl, sym, subst, ◌∙◌, inl, inr, arith}
use Rattle.std.proofs.lemmas.Bool.Decides.{eqb_tells, leb_tells}
use Rattle.std.proofs.lemmas.List.Elements.{All-contains, All-nil, All-contains_itself, Contains-push}
use Rattle.sha2.specs.Sha256.{sha256}
use Rattle.vacm_core.specs.Tables.{Tables}
use Rattle.snmp_gate.specs.Groups.{Group, groups_of}
use Rattle.snmp_gate.specs.Sending.{Requests}
use Rattle.snmp_gate.specs.declared.devices.Device.{Device}
use Rattle.snmp_gate.specs.History.{Happening, accepted, number_of}
use Rattle.snmp_gate.specs.Lawful.{IsSetRequest, WasAsked}
use Rattle.snmp_gate.specs.Noting.{AsksSet, IsNotedAgain, IsToldOf}
use Rattle.snmp_gate.specs.Sets.{IsKept, IsNoted, IsTold, IsUnknown, KeepsSets, lasting, new_set}
use Rattle.snmp_gate.specs.Waiting.{GoesOut, GroupStands, GroupsStand, SetsStand}
use Rattle.snmp_gate.specs.declared.set_answer.ResponseStatus.{ResponseStatus}
use Rattle.snmp_gate.specs.declared.sets.RememberedSet.{RememberedSet}
use Rattle.snmp_gate.specs.declared.sets.SetNote.{SetNote}
use Rattle.snmp_gate.specs.declared.sets.SetNote.TheVariants.{New}
use Rattle.snmp_gate.specs.declared.sets.TheConstants.{REMEMBERED}
use Rattle.snmp_gate.specs.declared.waiting_message.WaitingMessage.{WaitingMessage}
use Rattle.snmp_gate.specs.declared.work.Work.{Work}
use Rattle.snmp_gate.proofs.Others.{contains_cons}
use Rattle.snmp_gate.proofs.SetMemory.{kept_lasts, kept_told, noted_keeps}

-- what was remembered, and may still come, is remembered
abbrev pub KeepsKnown : ℕ → List RememberedSet → List RememberedSet → Type 0
KeepsKnown then old new = (digest : List ℕ) (at : ℕ) → then ≤ at + REMEMBERED → IsKept digest at old → IsKept digest at new

pub keeps_same : (then : ℕ) (old new : List RememberedSet) → new ≡ old → KeepsKnown then old new
keeps_same then old new same digest at soon kept = subst (IsKept digest at) (sym same) kept

pub keeps_kept : (then : ℕ) (old new : List RememberedSet) → KeepsSets then old new → KeepsKnown then old new
keeps_kept then old new keeps digest at soon kept = elim keeps [
  | inl same ↦ subst (IsKept digest at) (sym same) kept
  | inr last ↦ subst (IsKept digest at) (sym last) (kept_lasts digest at then old soon kept)
]

pub keeps_noted : (then : ℕ) (other : List ℕ) (old new : List RememberedSet) (note : SetNote) → IsNoted then other old new note → KeepsKnown then old new
keeps_noted then other old new note noted digest at soon kept = noted_keeps digest other at then old new note noted (kept_lasts digest at then old soon kept)

pub keeps_again : (then : ℕ) (a b c : List RememberedSet) → KeepsKnown then a b → KeepsKnown then b c → KeepsKnown then a c
keeps_again then a b c first second digest at soon kept = second digest at soon (first digest at soon kept)

told_by : (then : ℕ) (old new : List RememberedSet) (d : List ℕ) (s : Option ResponseStatus) → MatchOption s (new ≡ old) (λ says. IsTold d says old new) → KeepsKnown then old new
told_by then old new d None same = keeps_same then old new same
told_by then old new d (Some says) is = λ digest at soon kept. kept_told digest d at says old new is kept

told_of : (then : ℕ) (old new : List RememberedSet) (digest : Option (List ℕ)) (s : Option ResponseStatus) → MatchOption digest (new ≡ old) (λ d. MatchOption s (new ≡ old) (λ says. IsTold d says old new)) → KeepsKnown then old new
told_of then old new None s same = keeps_same then old new same
told_of then old new (Some d) s is = told_by then old new d s is

pub keeps_told : (then : ℕ) (m : WaitingMessage) (said : Option ResponseStatus) (old new : List RememberedSet) → IsToldOf m said old new → KeepsKnown then old new
keeps_told then m said old new told = told_of then old new m.digest said told

pub keeps_noted_again : (then : ℕ) (digest : Option (List ℕ)) (old new : List RememberedSet) (note : SetNote) → IsNotedAgain then digest old new note → KeepsKnown then old new
keeps_noted_again then None old new note is = keeps_same then old new is.1
keeps_noted_again then (Some d) old new note is = keeps_noted then d old new note is

-- a Set that came now, and is remembered now, wasn't known
pub record IsFresh (then : ℕ) (digest : List ℕ) (old new : List RememberedSet) : Type 0 where
  pub unknown : IsUnknown digest (lasting then old)
  pub kept : IsKept digest then new

pub fresh_new : (then : ℕ) (digest : List ℕ) (old new : List RememberedSet) → IsNoted then digest old new New → IsFresh then digest old new
fresh_new then digest old new noted = record {
  unknown = noted.0;
  kept = subst (IsKept digest then) (sym noted.2) (record {
    set = new_set then digest;
    there = Contains-push (lasting then old) (new_set then digest);
    digest_is = refl;
    came = omega arith;
  });
}

-- what isn't known came too long ago
long_ago : (then at : ℕ) (digest : List ℕ) (old : List RememberedSet) → IsUnknown digest (lasting then old) → IsKept digest at old → then ≤ at + REMEMBERED → ⊥
long_ago then at digest old unknown kept soon =
    let last = kept_lasts digest at then old soon kept in
    unknown last.set (record { there = last.there; digest_is = last.digest_is })

-- nothing is accepted
pub sets_step : (now then : ℕ) (before after : List Happening) (gs new : List (Group WaitingMessage Work)) (old sets : List RememberedSet) → now ≤ then
    → ((n at : ℕ) (w : List ℕ) (m : WaitingMessage) → Contains after (accepted n at w m) → Contains before (accepted n at w m)) → ((n : ℕ) → GoesOut after new n → GoesOut before gs n) → KeepsKnown then old sets
    → SetsStand now before gs old → SetsStand then after new sets
sets_step now then before after gs new old sets later there goes keeps stands = record {
  past = λ n at w m is. let le = stands.past n at w m (there n at w m is) in omega (arith, le, later);
  known = λ n at w m is out soon. keeps (sha256 w) at soon (stands.known n at w m (there n at w m is) (goes n out) (omega (arith, later, soon)));
  apart = λ a b differ out other w at then_at m p is also. stands.apart a b differ (goes a out) (goes b other) w at then_at m p (there a at w m is) (there b then_at w p also);
}

record IsThis (k then : ℕ) (v : List ℕ) (n at : ℕ) (w : List ℕ) : Type 0 where
  number : n ≡ k
  moment : at ≡ then
  datagram : w ≡ v

this_one : (k then : ℕ) (v : List ℕ) (x : WaitingMessage) (n at : ℕ) (w : List ℕ) (m : WaitingMessage) → accepted k then v x ≡ accepted n at w m → IsThis k then v n at w
this_one k then v x n at w m is =
    let number : n ≡ k = cc in
    let moment : at ≡ then = cc in
    let datagram : w ≡ v = cc in
    record { number = number; moment = moment; datagram = datagram }

-- a message is accepted, for a Set only if it wasn't known
module _ (now then k : ℕ) (v : List ℕ) (x : WaitingMessage) (before : List Happening) (gs new : List (Group WaitingMessage Work)) (old sets : List RememberedSet) (later : now ≤ then) (stands : SetsStand now before gs old)
    (goes : (n : ℕ) → n ≢ k → GoesOut (accepted k then v x ∷ before) new n → GoesOut before gs n)
    (goes_own : (at : ℕ) (w : List ℕ) (m : WaitingMessage) → Contains before (accepted k at w m) → GoesOut (accepted k then v x ∷ before) new k → GoesOut before gs k) (keeps : KeepsKnown then old sets)
    (fresh : GoesOut (accepted k then v x ∷ before) new k → IsFresh then (sha256 v) old sets) where
  goes_too : (n at : ℕ) (w : List ℕ) (m : WaitingMessage) → Contains before (accepted n at w m) → GoesOut (accepted k then v x ∷ before) new n → GoesOut before gs n
  goes_too n at w m there out = elim (eqb_tells n k) [
    | inl (test, same) ↦ subst (GoesOut before gs) (sym same) (goes_own at w m (subst (λ (i : ℕ). Contains before (accepted i at w m)) same there) (subst (GoesOut (accepted k then v x ∷ before) new) same out))
    | inr (test, other) ↦ goes n other out
  ]

  -- the new datagram, and an older one of another request
  apart_now : (b at : ℕ) (w : List ℕ) (m : WaitingMessage) → w ≡ v → Contains before (accepted b at w m) → GoesOut (accepted k then v x ∷ before) new k → GoesOut (accepted k then v x ∷ before) new b → at + REMEMBERED < then
  apart_now b at w m is there own out = elim (leb_tells then (at + REMEMBERED)) [
    | inl (test, soon) ↦
        let kept = stands.known b at w m there (goes_too b at w m there out) (omega (arith, later, soon)) in
        absurd (long_ago then at (sha256 v) old (fresh own).unknown (subst (λ (u : List ℕ). IsKept (sha256 u) at old) is kept) soon)
    | inr (test, over) ↦ over
  ]

  pub sets_taken : SetsStand then (accepted k then v x ∷ before) new sets
  sets_taken = record {
    past = λ n at w m there. elim (contains_cons (accepted k then v x) before (accepted n at w m) there) [
      | inl is ↦ let at_is = (this_one k then v x n at w m is).moment in omega (arith, at_is)
      | inr rest ↦ let le = stands.past n at w m rest in omega (arith, le, later)
    ];
    known = λ n at w m there out soon. elim (contains_cons (accepted k then v x) before (accepted n at w m) there) [
      | inl is ↦
          let this = this_one k then v x n at w m is in
          subst (λ (u : List ℕ). IsKept (sha256 u) at sets) (sym this.datagram)
          (subst (λ (i : ℕ). IsKept (sha256 v) i sets) (sym this.moment) (fresh (subst (GoesOut (accepted k then v x ∷ before) new) this.number out)).kept)
      | inr rest ↦ keeps (sha256 w) at soon (stands.known n at w m rest (goes_too n at w m rest out) (omega (arith, later, soon)))
    ];
    apart = λ a b differ out other w at also m p there too.
        elim (contains_cons (accepted k then v x) before (accepted a at w m) there) [
          | inl is ↦
              let this = this_one k then v x a at w m is in
              elim (contains_cons (accepted k then v x) before (accepted b also w p) too) [
                | inl same ↦ let that = this_one k then v x b also w p same in absurd (differ (this.number ∙ sym that.number))
                | inr rest ↦
                    let lt = apart_now b also w p this.datagram rest (subst (GoesOut (accepted k then v x ∷ before) new) this.number out) other in
                    inr (omega (arith, lt, this.moment))
              ]
          | inr old_one ↦ elim (contains_cons (accepted k then v x) before (accepted b also w p) too) [
            | inl same ↦
                let that = this_one k then v x b also w p same in
                let lt = apart_now a at w m that.datagram old_one (subst (GoesOut (accepted k then v x ∷ before) new) that.number other) out in
                inl (omega (arith, lt, that.moment))
            | inr rest ↦ stands.apart a b differ (goes_too a at w m old_one out) (goes_too b also w p rest other) w at also m p old_one rest
          ]
        ];
  }

-- ---- which requests go out

-- a Set by the request of this number is to be asked
abbrev pub IsOpenSet : List (Group WaitingMessage Work) → ℕ → Type 0
IsOpenSet gs n = (g : Group WaitingMessage Work) × Contains gs g × (g.number ≡ n) × AsksSet g.work

-- each of the groups that is a Set to be asked was one
abbrev pub WereSets : List (Group WaitingMessage Work) → List (Group WaitingMessage Work) → Type 0
WereSets gs new = All (λ (g : Group WaitingMessage Work). AsksSet g.work → IsOpenSet gs g.number) new

pub were_sets : (gs : List (Group WaitingMessage Work)) → WereSets gs gs
were_sets gs k d within set = let g = slice_index_or gs k d in (g, All-contains_itself gs k d within, refl, set)

pub set_request_before : (e : Happening) (before : List Happening) (n : ℕ) → ((at : ℕ) (w : List ℕ) (m : WaitingMessage) → e ≢ accepted n at w m) → IsSetRequest (e ∷ before) n → IsSetRequest before n
set_request_before e before n isnt is = elim (contains_cons e before (accepted n is.is_asked.is_accepted.now is.is_asked.is_accepted.datagram is.is_asked.message) is.is_asked.is_accepted.there) [
  | inl now ↦ absurd (isnt is.is_asked.is_accepted.now is.is_asked.is_accepted.datagram is.is_asked.message now)
  | inr rest ↦ record {
    question = is.question;
    is_asked = record { message = is.is_asked.message; is_accepted = record { now = is.is_asked.is_accepted.now; datagram = is.is_asked.is_accepted.datagram; there = rest }; asks = is.is_asked.asks };
    tag = is.tag;
  }
]

pub goes_before : (e : Happening) (before : List Happening) (gs new : List (Group WaitingMessage Work)) (n : ℕ) → (WasAsked (e ∷ before) n → WasAsked before n) → ((at : ℕ) (w : List ℕ) (m : WaitingMessage) → e ≢ accepted n at w m) → WereSets gs new
    → GoesOut (e ∷ before) new n → GoesOut before gs n
goes_before e before gs new n was isnt were out = elim out [
  | inl both ↦ inl (was both.0, set_request_before e before n isnt both.1)
  | inr (g, there, number, set) ↦ inr (subst (IsOpenSet gs) number (All-contains (λ (x : Group WaitingMessage Work). AsksSet x.work → IsOpenSet gs x.number) new g were there set))
]

-- ---- at first

none_there : {X : Type 0} (x : X) → Contains [] x → ⊥
none_there x there = omega (arith, there.1)

pub sets_first : (rs : Requests) (sets : List RememberedSet) → SetsStand 0 [] (groups_of rs) sets
sets_first rs sets = record {
  past = λ n at w m there. absurd (none_there (accepted n at w m) there);
  known = λ n at w m there. absurd (none_there (accepted n at w m) there);
  apart = λ a b differ out other w at then m p there. absurd (none_there (accepted a at w m) there);
}

pub nothing_stands : (tables : Tables) (devices : List Device) (next : ℕ) (rs : Requests) → rs ≡ [] → GroupsStand tables devices [] next (groups_of rs)
nothing_stands tables devices next rs none = subst (λ (xs : Requests). GroupsStand tables devices [] next (groups_of xs)) (sym none) (record {
  all = All-nil (GroupStands tables devices []);
  numbered = record { rise = λ i j d below within. absurd (omega arith); less = All-nil (λ (g : Group WaitingMessage Work). g.number < next) };
  past = All-nil (λ (e : Happening). number_of e < next);
  gone = λ n none. refl;
})
