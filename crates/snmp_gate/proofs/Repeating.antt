-- A Response says again only what was said of the same Set before.
use Rattle.std.specs.Prelude.{◌≡◌, ◌≢◌, ◌⊎◌, ◌∷◌, ◌++◌, ◌+◌, ◌<◌, ◌≤◌, ℕ, Bool, true, false, cond, List, [], All, Contains, Option, Some, None, MatchOption, filter, length, slice_index_or, slice_set}
use Rattle.std.proofs.Common.{refl, sym, ap, subst, ◌∙◌, inl, inr, arith}
use Rattle.std.proofs.lemmas.Bool.{false≢true}
use Rattle.std.proofs.lemmas.Bool.Decides.{leb_tells}
use Rattle.std.proofs.lemmas.List.Elements.{All-contains, All-contains_itself, All-set, Contains-append_cases, Contains-append_left, Contains-append_right, Contains-get_or, Contains-push, Contains-push_cases, filter_passes}
use Rattle.sha2.specs.Sha256.{sha256}
use Rattle.vacm_core.specs.Tables.{Tables}
use Rattle.snmp_gate.specs.Beginning.{IsOfDatagram, IsKnownWork, MayBeJoined}
use Rattle.snmp_gate.specs.Groups.{Group, IsAnswered, IsAt, IsJoined, IsWorked, begun, group_of, groups_of}
use Rattle.snmp_gate.specs.History.{CameFor, Happening, IsToldAgain, WasTold, accepted, sent}
use Rattle.snmp_gate.specs.Noting.{IsNotedAgain, IsNotedFor, IsToldOf}
use Rattle.snmp_gate.specs.Replies.{Answering, ClientAnswer}
use Rattle.snmp_gate.specs.Sending.{Requests}
use Rattle.snmp_gate.specs.Sets.{IsNoted, IsTold, KeepsSets, lasting, lasts, new_set, with_outcome}
use Rattle.snmp_gate.specs.Taking.{WorkSaysSame}
use Rattle.snmp_gate.specs.Waiting.{GroupsStand, OutcomesStand}
use Rattle.snmp_gate.specs.Work.{IsToldFirst}
use Rattle.snmp_gate.specs.declared.devices.Device.{Device}
use Rattle.snmp_gate.specs.declared.requests.Joined.TheVariants.{Joined}
use Rattle.snmp_gate.specs.declared.requests.WaitingRequest.{WaitingRequest}
use Rattle.snmp_gate.specs.declared.set_answer.ResponseStatus.{ResponseStatus}
use Rattle.snmp_gate.specs.declared.sets.RememberedSet.{RememberedSet}
use Rattle.snmp_gate.specs.declared.sets.SetNote.TheVariants.{New}
use Rattle.snmp_gate.specs.declared.sets.TheConstants.{REMEMBERED}
use Rattle.snmp_gate.specs.declared.take_client.Noted.{Noted}
use Rattle.snmp_gate.specs.declared.take_client.Noted.TheVariants as noted
use Rattle.snmp_gate.specs.declared.waiting_message.WaitingMessage.{WaitingMessage}
use Rattle.snmp_gate.specs.declared.work.RequestEnd.{RequestEnd}
use Rattle.snmp_gate.specs.declared.work.RequestEnd.TheVariants.{Repeated}
use Rattle.snmp_gate.specs.declared.work.Work.{Work}
use Rattle.snmp_gate.specs.declared.work.Work.TheVariants.{Open, Ends}
use Rattle.snmp_gate.proofs.GroupSteps.{group_at, groups_set}
use Rattle.snmp_gate.proofs.Others.{contains_cons, none_happened}
use Rattle.snmp_gate.proofs.Questions.{all_answered, all_joined, all_worked, at_place}

abbrev Gs : Type 0
Gs = List (Group WaitingMessage Work)

-- ---- what happened before is part of what happened later

abbrev pub IsLater : List Happening → List Happening → Type 0
IsLater before after = (e : Happening) → Contains before e → Contains after e

pub later_same : (before : List Happening) → IsLater before before
later_same before e there = there

pub later_more : (e : Happening) (before : List Happening) → IsLater before (e ∷ before)
later_more e before x there = Contains-append_right (e ∷ []) before x there

happens_now : (e : Happening) (before : List Happening) → Contains (e ∷ before) e
happens_now e before = Contains-append_left (e ∷ []) before e (Contains-push [] e)

came_later : (before after : List Happening) (digest : List ℕ) (n at : ℕ) → IsLater before after → CameFor before digest n at → CameFor after digest n at
came_later before after digest n at later came =
    record { datagram = came.datagram; message = came.message; there = later (accepted n at came.datagram came.message) came.there; digest_is = came.digest_is }

told_later : (before after : List Happening) (digest : List ℕ) (says : ResponseStatus) → IsLater before after → WasTold before digest says → WasTold after digest says
told_later before after digest says later told = record {
  number = told.number;
  now = told.now;
  datagram = told.datagram;
  message = told.message;
  came = later (accepted told.number told.now told.datagram told.message) told.came;
  digest_is = told.digest_is;
  by = told.by;
  answer = told.answer;
  there = later (sent told.number told.message told.by told.answer) told.there;
  says_is = told.says_is;
}

again_later : (before after : List Happening) (n : ℕ) (m : WaitingMessage) (says : ResponseStatus) → IsLater before after → IsToldAgain before n m says → IsToldAgain after n m says
again_later before after n m says later again = record {
  now = again.now;
  datagram = again.datagram;
  came = later (accepted n again.now again.datagram m) again.came;
  other = again.other;
  another = again.another;
  first = again.first;
  came_first = came_later before after (sha256 again.datagram) again.other again.first later again.came_first;
  soon = again.soon;
  told = told_later before after (sha256 again.datagram) says later again.told;
}

-- ---- where the Sets come from that are remembered

-- a remembered Set was remembered before, and what is known of it now was known, or is said now
pub record SetFrom (after : List Happening) (old : List RememberedSet) (set : RememberedSet) : Type 0 where
  pub was : RememberedSet
  pub there : Contains old was
  pub digest_is : was.digest ≡ set.digest
  pub came_is : was.came ≡ set.came
  pub told : (says : ResponseStatus) → set.outcome ≡ Some says → (was.outcome ≡ Some says) ⊎ WasTold after set.digest says

-- or it came now
pub record IsNewSet (after : List Happening) (set : RememberedSet) : Type 0 where
  pub number : ℕ
  pub came : CameFor after set.digest number set.came
  pub untold : set.outcome ≡ None

abbrev pub SetsFrom : List Happening → List RememberedSet → List RememberedSet → Type 0
SetsFrom after old new = (set : RememberedSet) → Contains new set → SetFrom after old set ⊎ IsNewSet after set

same_set : (after : List Happening) (old : List RememberedSet) (set : RememberedSet) → Contains old set → SetFrom after old set
same_set after old set there = record { was = set; there = there; digest_is = refl; came_is = refl; told = λ says is. inl is }

-- what a filter leaves was there
unfiltered : (p : RememberedSet → Bool) (xs : List RememberedSet) (x : RememberedSet) → Contains (filter p xs) x → Contains xs x
unfiltered p [] x there = absurd (omega (arith, there.1))
unfiltered p (y ∷ ys) x there =
    elim (p y) as (λ b. Contains (cond b (y ∷ filter p ys) (filter p ys)) x → Contains (y ∷ ys) x) [
      | true ↦ λ kept. elim (Contains-append_cases (y ∷ []) (filter p ys) x kept) [
        | inl first ↦ Contains-append_left (y ∷ []) ys x first
        | inr rest ↦ Contains-append_right (y ∷ []) ys x (unfiltered p ys x rest)
      ]
      | false ↦ λ kept. Contains-append_right (y ∷ []) ys x (unfiltered p ys x kept)
    ] there

kept_there : (now : ℕ) (old new : List RememberedSet) (set : RememberedSet) → KeepsSets now old new → Contains new set → Contains old set
kept_there now old new set keeps there = elim keeps [
  | inl same ↦ subst (λ (xs : List RememberedSet). Contains xs set) same there
  | inr last ↦ unfiltered (lasts now) old set (subst (λ (xs : List RememberedSet). Contains xs set) last there)
]

pub from_kept : (after : List Happening) (now : ℕ) (old new : List RememberedSet) → KeepsSets now old new → SetsFrom after old new
from_kept after now old new keeps set there = inl (same_set after old set (kept_there now old new set keeps there))

one_some : {A : Type 0} (a b : A) → Some a ≡ Some b → a ≡ b
one_some a b is = cc

no_some : {A : Type 0} (a : A) → None ≡ Some a → ⊥
no_some a is = cc

from_told : (after : List Happening) (digest : List ℕ) (says : ResponseStatus) (old new : List RememberedSet) → IsTold digest says old new → WasTold after digest says → SetsFrom after old new
from_told after digest says old new told was set there = elim told [
  | inl same ↦ inl (same_set after old set (subst (λ (xs : List RememberedSet). Contains xs set) same.1 there))
  | inr at_place ↦
      let place = at_place.0 in
      let at = at_place.2 in
      let value = with_outcome says at.set in
      let own : at.set.digest ≡ digest = ap (λ (x : RememberedSet). x.digest) at.set_is ∙ at_place.1.digest_is at.set in
      let P : RememberedSet → Type 0 = λ x. Contains old x ⊎ (value ≡ x) in
      let all : All P (slice_set old place value) = All-set P old place value (inr refl) (λ k d within. inl (All-contains_itself old k d within)) in
      elim (All-contains P (slice_set old place value) set all (subst (λ (xs : List RememberedSet). Contains xs set) at.new_is there)) [
        | inl kept ↦ inl (same_set after old set kept)
        | inr is ↦ inl (record {
          was = at.set;
          there = subst (Contains old) (sym at.set_is) (Contains-get_or old place at.set at_place.1.within);
          digest_is = ap (λ (x : RememberedSet). x.digest) is;
          came_is = ap (λ (x : RememberedSet). x.came) is;
          told = λ other out.
              let same : says ≡ other = one_some says other (ap (λ (x : RememberedSet). x.outcome) is ∙ out) in
              inr (subst (WasTold after set.digest) same (subst (λ (d : List ℕ). WasTold after d says) (sym own ∙ ap (λ (x : RememberedSet). x.digest) is) was));
        })
      ]
]

told_by : (after : List Happening) (old new : List RememberedSet) (d : List ℕ) (s : Option ResponseStatus) → MatchOption s (new ≡ old) (λ says. IsTold d says old new) → ((says : ResponseStatus) → s ≡ Some says → WasTold after d says) → SetsFrom after old new
told_by after old new d None same was = from_kept after 0 old new (inl same)
told_by after old new d (Some says) is was = from_told after d says old new is (was says refl)

told_of : (after : List Happening) (old new : List RememberedSet) (digest : Option (List ℕ)) (s : Option ResponseStatus) → MatchOption digest (new ≡ old) (λ d. MatchOption s (new ≡ old) (λ says. IsTold d says old new))
    → ((d : List ℕ) (says : ResponseStatus) → digest ≡ Some d → s ≡ Some says → WasTold after d says) → SetsFrom after old new
told_of after old new None s same was = from_kept after 0 old new (inl same)
told_of after old new (Some d) s is was = told_by after old new d s is (λ says. was d says refl)

-- what the Response to a message says is remembered
pub from_said : (after : List Happening) (m : WaitingMessage) (s : Option ResponseStatus) (old new : List RememberedSet) → IsToldOf m s old new → ((d : List ℕ) (says : ResponseStatus) → m.digest ≡ Some d → s ≡ Some says → WasTold after d says)
    → SetsFrom after old new
from_said after m s old new told was = told_of after old new m.digest s told was

-- ---- the requests that end by what was told before

abbrev pub IsAgain : Gs → ℕ → ResponseStatus → WaitingMessage → Type 0
IsAgain gs n says m = (g : Group WaitingMessage Work) × Contains gs g × (g.number ≡ n) × (g.work ≡ Ends (Repeated says)) × Contains g.messages m

-- the group was one with these messages, if it ends so
abbrev pub WasAgain : Gs → Group WaitingMessage Work → Type 0
WasAgain gs g = (says : ResponseStatus) (m : WaitingMessage) → g.work ≡ Ends (Repeated says) → Contains g.messages m → IsAgain gs g.number says m

abbrev pub WereAgain : Gs → Gs → Type 0
WereAgain gs new = All (WasAgain gs) new

pub were_again : (gs : Gs) → WereAgain gs gs
were_again gs k d within says m is there = let g = slice_index_or gs k d in (g, All-contains_itself gs k d within, refl, is, there)

first_isnt : (e : RequestEnd) (says : ResponseStatus) → IsToldFirst e → e ≡ Repeated says → ⊥
first_isnt e says first is = subst IsToldFirst is first

-- what no Response says again isn't among these
pub not_again : (gs : Gs) (g : Group WaitingMessage Work) → MayBeJoined g.work → WasAgain gs g
not_again gs g may says m is there = absurd (subst MayBeJoined is may)

pub again_worked : (gs new : Gs) (place : ℕ) (was w : Work) → MayBeJoined w → IsWorked gs place was w new → WereAgain gs new
again_worked gs new place was w may worked =
    all_worked (WasAgain gs) gs new place was w worked (λ g known says m is there. absurd (subst MayBeJoined is may)) (were_again gs)

pub again_answered : (gs new : Gs) (place : ℕ) (m : WaitingMessage) → IsAnswered gs place m new → WereAgain gs new
again_answered gs new place m answer =
    all_answered (WasAgain gs) gs new place m answer
    (λ g next rest were known says x is there. known says x is (subst (λ (ms : List WaitingMessage). Contains ms x) (sym were) (Contains-append_right (m ∷ []) (next ∷ rest) x there)))
    (were_again gs)

-- the work of one request is another now
pub again_set : (rs : Requests) (place : ℕ) (r s : WaitingRequest WaitingMessage Work) → place < length rs → r ≡ slice_index_or rs place r → (WasAgain (groups_of rs) (group_of r) → WasAgain (groups_of rs) (group_of s))
    → WereAgain (groups_of rs) (groups_of (slice_set rs place s))
again_set rs place r s within is keeps =
    let P : Group WaitingMessage Work → Type 0 = WasAgain (groups_of rs) in
    let all : All P (groups_of rs) = were_again (groups_of rs) in
    subst (All P) (sym (groups_set rs place s)) (All-set P (groups_of rs) place (group_of s) (keeps (at_place P (groups_of rs) place (group_of r) (group_at rs place r within is) all)) all)

-- a request says the same
pub again_same : (old new : Work) (gs : Gs) (n : ℕ) (ms : List WaitingMessage) → WorkSaysSame old new → WasAgain gs (record { number = n; messages = ms; work = old }) → WasAgain gs (record { number = n; messages = ms; work = new })
again_same (Open a) (Open b) gs n ms same was = not_again gs (record { number = n; messages = ms; work = Open b }) tt
again_same (Open a) (Ends e) gs n ms same was = subst (λ (w : Work). WasAgain gs (record { number = n; messages = ms; work = w })) (sym same) was
again_same (Ends e) (Open b) gs n ms same was = subst (λ (w : Work). WasAgain gs (record { number = n; messages = ms; work = w })) (sym same) was
again_same (Ends e) (Ends f) gs n ms same was = subst (λ (w : Work). WasAgain gs (record { number = n; messages = ms; work = w })) (sym same) was

-- ---- a step

pub outcomes_step : (before after : List Happening) (gs new : Gs) (old sets : List RememberedSet) → IsLater before after
    → ((n at : ℕ) (w d : List ℕ) (m : WaitingMessage) → Contains after (accepted n at w m) → m.digest ≡ Some d → d ≡ sha256 w) → SetsFrom after old sets
    → ((g : Group WaitingMessage Work) (says : ResponseStatus) (m : WaitingMessage) → Contains new g → g.work ≡ Ends (Repeated says) → Contains g.messages m → IsAgain gs g.number says m ⊎ IsToldAgain after g.number m says)
    → OutcomesStand before gs old → OutcomesStand after new sets
outcomes_step before after gs new old sets later digests from were stands = record {
  digests = digests;
  came = λ set there. elim (from set there) [
    | inl f ↦
        let came = stands.came f.was f.there in
        (came.0, subst (λ (d : List ℕ). CameFor after d came.0 set.came) f.digest_is (subst (CameFor after f.was.digest came.0) f.came_is (came_later before after f.was.digest came.0 f.was.came later came.1)))
    | inr f ↦ (f.number, f.came)
  ];
  told = λ set says there out. elim (from set there) [
    | inl f ↦ elim (f.told says out) [
      | inl was ↦ subst (λ (d : List ℕ). WasTold after d says) f.digest_is (told_later before after f.was.digest says later (stands.told f.was says f.there was))
      | inr now ↦ now
    ]
    | inr f ↦ absurd (no_some says (sym f.untold ∙ out))
  ];
  again = λ g says m there is waits. elim (were g says m there is waits) [
    | inl a ↦ subst (λ (n : ℕ). IsToldAgain after n m says) a.2 (again_later before after a.0.number m says later (stands.again a.0 says m a.1 a.3 a.4))
    | inr now ↦ now
  ];
}

were_so : (after : List Happening) (gs new : Gs) → WereAgain gs new → (g : Group WaitingMessage Work) (says : ResponseStatus) (m : WaitingMessage) → Contains new g → g.work ≡ Ends (Repeated says) → Contains g.messages m
    → IsAgain gs g.number says m ⊎ IsToldAgain after g.number m says
were_so after gs new were g says m there is waits = inl (All-contains (WasAgain gs) new g were there says m is waits)

-- nothing happens
pub outcomes_kept : (before : List Happening) (gs new : Gs) (old sets : List RememberedSet) → SetsFrom before old sets → WereAgain gs new → OutcomesStand before gs old → OutcomesStand before new sets
outcomes_kept before gs new old sets from were stands =
    outcomes_step before before gs new old sets (later_same before) (λ n at w d m there own. stands.digests n at w d m there own) from (were_so before gs new were) stands

-- a happening by which nothing is accepted
pub outcomes_other : (e : Happening) (before : List Happening) (gs new : Gs) (old sets : List RememberedSet) → ((n at : ℕ) (w : List ℕ) (m : WaitingMessage) → e ≢ accepted n at w m) → SetsFrom (e ∷ before) old sets → WereAgain gs new
    → OutcomesStand before gs old → OutcomesStand (e ∷ before) new sets
outcomes_other e before gs new old sets isnt from were stands =
    outcomes_step before (e ∷ before) gs new old sets (later_more e before)
    (λ n at w d m there own. elim (contains_cons e before (accepted n at w m) there) [ inl is ↦ absurd (isnt n at w m is) | inr rest ↦ stands.digests n at w d m rest own ])
    from (were_so (e ∷ before) gs new were) stands

-- ---- a message is accepted

record IsThis (k then : ℕ) (v : List ℕ) (x : WaitingMessage) (n at : ℕ) (w : List ℕ) (m : WaitingMessage) : Type 0 where
  datagram : v ≡ w
  message : x ≡ m

this_one : (k then : ℕ) (v : List ℕ) (x : WaitingMessage) (n at : ℕ) (w : List ℕ) (m : WaitingMessage) → accepted k then v x ≡ accepted n at w m → IsThis k then v x n at w m
this_one k then v x n at w m is =
    let datagram : v ≡ w = cc in
    let message : x ≡ m = cc in record { datagram = datagram; message = message }

digests_more : (k then : ℕ) (v : List ℕ) (x : WaitingMessage) (before : List Happening) (gs : Gs) (old : List RememberedSet) → IsOfDatagram x v → OutcomesStand before gs old → (n at : ℕ) (w d : List ℕ) (m : WaitingMessage)
    → Contains (accepted k then v x ∷ before) (accepted n at w m) → m.digest ≡ Some d → d ≡ sha256 w
digests_more k then v x before gs old digest stands n at w d m there own = elim (contains_cons (accepted k then v x) before (accepted n at w m) there) [
  | inl is ↦ let this = this_one k then v x n at w m is in digest.own d (ap (λ (y : WaitingMessage). y.digest) this.message ∙ own) ∙ ap sha256 this.datagram
  | inr rest ↦ stands.digests n at w d m rest own
]

-- the Set that is noted comes now
noted_from : (k then : ℕ) (v : List ℕ) (x : WaitingMessage) (before : List Happening) (d : List ℕ) (old mid sets : List RememberedSet) → d ≡ sha256 v → KeepsSets then old mid → IsNoted then d mid sets New
    → SetsFrom (accepted k then v x ∷ before) old sets
noted_from k then v x before d old mid sets own keeps is set there =
    let after = accepted k then v x ∷ before in
    elim (Contains-push_cases (lasting then mid) (new_set then d) set (subst (λ (xs : List RememberedSet). Contains xs set) is.2 there)) [
      | inl kept ↦ inl (same_set after old set (kept_there then old mid set keeps (unfiltered (lasts then) mid set kept)))
      | inr same ↦ inr (record {
        number = k;
        came = record {
          datagram = v;
          message = x;
          there = subst (λ (at : ℕ). Contains after (accepted k at v x)) (ap (λ (s : RememberedSet). s.came) same) (happens_now (accepted k then v x) before);
          digest_is = sym own ∙ ap (λ (s : RememberedSet). s.digest) same;
        };
        untold = sym (ap (λ (s : RememberedSet). s.outcome) same);
      })
    ]

again_from : (k then : ℕ) (v : List ℕ) (x : WaitingMessage) (before : List Happening) (digest : Option (List ℕ)) (old sets : List RememberedSet) → ((d : List ℕ) → digest ≡ Some d → d ≡ sha256 v) → IsNotedAgain then digest old sets New
    → SetsFrom (accepted k then v x ∷ before) old sets
again_from k then v x before None old sets own is = from_kept (accepted k then v x ∷ before) then old sets (inl is.1)
again_from k then v x before (Some d) old sets own is = noted_from k then v x before d old old sets (own d refl) (inl refl) is

-- it joins a request
pub joined_outcomes : (most k then place : ℕ) (v : List ℕ) (x : WaitingMessage) (before : List Happening) (gs new : Gs) (old sets : List RememberedSet) → IsOfDatagram x v → IsNotedAgain then x.digest old sets New → IsJoined most gs place x new Joined
    → ((g : Group WaitingMessage Work) → IsAt gs place g → MayBeJoined g.work) → OutcomesStand before gs old → OutcomesStand (accepted k then v x ∷ before) new sets
joined_outcomes most k then place v x before gs new old sets digest noted joins may stands =
    outcomes_step before (accepted k then v x ∷ before) gs new old sets (later_more (accepted k then v x) before) (digests_more k then v x before gs old digest stands)
    (again_from k then v x before x.digest old sets digest.own noted)
    (were_so (accepted k then v x ∷ before) gs new (all_joined (WasAgain gs) most gs new place x Joined joins (λ g at room known says m is there. absurd (subst MayBeJoined is (may g at))) (were_again gs))) stands

-- it begins a request
begun_from : (k then : ℕ) (v : List ℕ) (x : WaitingMessage) (before : List Happening) (w : Work) (digest : Option (List ℕ)) (old mid sets : List RememberedSet) (n : Noted) → ((d : List ℕ) → digest ≡ Some d → d ≡ sha256 v) → KeepsSets then old mid
    → n ≢ noted.Before → n ≢ noted.NoRoom → IsNotedFor then digest w mid sets n → SetsFrom (accepted k then v x ∷ before) old sets
begun_from k then v x before w digest old mid sets noted.NoSet own keeps isnt fits is = from_kept (accepted k then v x ∷ before) then old sets (subst (KeepsSets then old) (sym is.1) keeps)
begun_from k then v x before w digest old mid sets noted.Now own keeps isnt fits is = noted_from k then v x before is.0 old mid sets (own is.0 is.1) keeps is.2
begun_from k then v x before w digest old mid sets noted.Before own keeps isnt fits is = absurd (isnt refl)
begun_from k then v x before w digest old mid sets noted.NoRoom own keeps isnt fits is = absurd (fits refl)

lasts_soon : (now : ℕ) (sets : List RememberedSet) (set : RememberedSet) → Contains (lasting now sets) set → now ≤ set.came + REMEMBERED
lasts_soon now sets set there =
    let passes = All-contains (λ (s : RememberedSet). lasts now s ≡ true) (lasting now sets) set (filter_passes (lasts now) sets) there in
    elim (leb_tells now (set.came + REMEMBERED)) [ inl (test, le) ↦ le | inr (test, over) ↦ absurd (false≢true (sym test ∙ passes)) ]

-- what the Response to the datagram says that comes now
begun_again : (tables : Tables) (devices : List Device) (next then : ℕ) (v : List ℕ) (x : WaitingMessage) (before : List Happening) (gs : Gs) (w : Work) (old : List RememberedSet) (says : ResponseStatus) → IsOfDatagram x v
    → IsKnownWork then x.digest old w → w ≡ Ends (Repeated says) → GroupsStand tables devices before next gs → OutcomesStand before gs old → IsToldAgain (accepted next then v x ∷ before) next x says
begun_again tables devices next then v x before gs w old says digest known is groups stands =
    let after = accepted next then v x ∷ before in
    let k = subst (IsKnownWork then x.digest old) is known in
    let set = k.2.0 in
    let own : set.digest ≡ sha256 v = k.2.1.digest_is ∙ digest.own k.0 k.1 in
    let there = unfiltered (lasts then) old set k.2.1.there in
    let came = stands.came set there in record {
      now = then;
      datagram = v;
      came = happens_now (accepted next then v x) before;
      other = came.0;
      another = λ same. none_happened before next (accepted came.0 set.came came.1.datagram came.1.message) groups.past came.1.there (sym same);
      first = set.came;
      came_first = subst (λ (d : List ℕ). CameFor after d came.0 set.came) own (came_later before after set.digest came.0 set.came (later_more (accepted next then v x) before) came.1);
      soon = lasts_soon then old set k.2.1.there;
      told = subst (λ (d : List ℕ). WasTold after d says) own (told_later before after set.digest says (later_more (accepted next then v x) before) (stands.told set says there k.2.2));
    }

only_one : (x m : WaitingMessage) → Contains (x ∷ []) m → x ≡ m
only_one x m there = elim (contains_cons x [] m there) [ inl is ↦ is | inr none ↦ absurd (omega (arith, none.1)) ]

pub begun_outcomes : (tables : Tables) (devices : List Device) (next then : ℕ) (v : List ℕ) (x : WaitingMessage) (before : List Happening) (gs new : Gs) (w : Work) (old mid sets : List RememberedSet) (n : Noted) → IsOfDatagram x v → KeepsSets then old mid
    → n ≢ noted.Before → n ≢ noted.NoRoom → IsNotedFor then x.digest w mid sets n → IsKnownWork then x.digest old w → new ≡ gs ++ begun next x w ∷ [] → GroupsStand tables devices before next gs → OutcomesStand before gs old
    → OutcomesStand (accepted next then v x ∷ before) new sets
begun_outcomes tables devices next then v x before gs new w old mid sets n digest keeps isnt fits noted_is known new_is groups stands =
    let after = accepted next then v x ∷ before in
    outcomes_step before after gs new old sets (later_more (accepted next then v x) before) (digests_more next then v x before gs old digest stands)
    (begun_from next then v x before w x.digest old mid sets n digest.own keeps isnt fits noted_is)
    (λ g says m there is waits. elim (Contains-push_cases gs (begun next x w) g (subst (λ (xs : Gs). Contains xs g) new_is there)) [
      | inl old_one ↦ inl (All-contains (WasAgain gs) gs g (were_again gs) old_one says m is waits)
      | inr same ↦
          let own = only_one x m (subst (λ (ms : List WaitingMessage). Contains ms m) (sym (ap (λ (y : Group WaitingMessage Work). y.messages) same)) waits) in
          let told = begun_again tables devices next then v x before gs w old says digest known (ap (λ (y : Group WaitingMessage Work). y.work) same ∙ is) groups stands in
          inr (subst (λ (k : ℕ). IsToldAgain after k m says) (ap (λ (y : Group WaitingMessage Work). y.number) same) (subst (λ (y : WaitingMessage). IsToldAgain after next y says) own told))
    ]) stands

-- ---- a client is sent something

-- what its Response says was told of its datagram
pub sent_told : (number at : ℕ) (v : List ℕ) (m : WaitingMessage) (by : Answering) (answer : ClientAnswer) (before : List Happening) (gs : Gs) (old : List RememberedSet) → Contains before (accepted number at v m) → OutcomesStand before gs old
    → (d : List ℕ) (says : ResponseStatus) → m.digest ≡ Some d → answer.says ≡ Some says → WasTold (sent number m by answer ∷ before) d says
sent_told number at v m by answer before gs old came stands d says own is =
    let e = sent number m by answer in record {
      number = number;
      now = at;
      datagram = v;
      message = m;
      came = later_more e before (accepted number at v m) came;
      digest_is = sym (stands.digests number at v d m came own);
      by = by;
      answer = answer;
      there = happens_now e before;
      says_is = is;
    }

-- ---- at first

none_there : {X : Type 0} (x : X) → Contains [] x → ⊥
none_there x there = omega (arith, there.1)

pub outcomes_first : (rs : Requests) (sets : List RememberedSet) → rs ≡ [] → sets ≡ [] → OutcomesStand [] (groups_of rs) sets
outcomes_first rs sets none empty = record {
  digests = λ n at w d m there own. absurd (none_there (accepted n at w m) there);
  came = λ set there. absurd (none_there set (subst (λ (xs : List RememberedSet). Contains xs set) empty there));
  told = λ set says there out. absurd (none_there set (subst (λ (xs : List RememberedSet). Contains xs set) empty there));
  again = λ g says m there is waits. absurd (none_there g (subst (λ (xs : Requests). Contains (groups_of xs) g) none there));
}
