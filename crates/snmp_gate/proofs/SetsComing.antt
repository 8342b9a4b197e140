-- Sets that come.
use Rattle.std.specs.Prelude.{◌≡◌, ◌≢◌, ◌⊎◌, ◌∷◌, ◌++◌, ◌<◌, ◌≤◌, ℕ, List, [], Contains, Option, Some, length, slice_index_or}
use Rattle.std.proofs.Common.{refl, sym, ap, subst, ◌∙◌, inl, inr, arith}
use Rattle.std.proofs.lemmas.List.Elements.{All-contains, All-head, Contains-push_cases}
use Rattle.sha2.specs.Sha256.{sha256}
use Rattle.snmp_msg.specs.PduTypes.{pdu_tag}
use Rattle.snmp_msg.specs.declared.pdu_type.PduType.TheVariants.{SetRequest}
use Rattle.vacm_core.specs.Tables.{Tables}
use Rattle.gateway_laws.specs.Requests.{RequestPdu}
use Rattle.snmp_gate.specs.Beginning.{BeginsWell, IsOfDatagram}
use Rattle.snmp_gate.specs.Groups.{Group, IsJoined, begun, group_of, groups_of}
use Rattle.snmp_gate.specs.History.{Happening, IsAccepted, accepted, asked, number_of, told_in}
use Rattle.snmp_gate.specs.Lawful.{IsSetRequest, WasAsked}
use Rattle.snmp_gate.specs.Messages.{question_in}
use Rattle.snmp_gate.specs.Noting.{AsksSet, IsNotedAgain, IsNotedFor}
use Rattle.snmp_gate.specs.Question.{Question}
use Rattle.snmp_gate.specs.Sending.{Requests}
use Rattle.snmp_gate.specs.Said.{said_nothing}
use Rattle.snmp_gate.specs.Sets.{IsNoted, IsUnknown, KeepsSets}
use Rattle.snmp_gate.specs.Waiting.{AllAsk, GoesOut, GroupStands, GroupsStand, SetsStand, WorkStands}
use Rattle.snmp_gate.specs.Work.{TaskStands}
use Rattle.snmp_gate.specs.declared.devices.Device.{Device}
use Rattle.snmp_gate.specs.declared.requests.Joined.TheVariants.{Joined}
use Rattle.snmp_gate.specs.declared.requests.WaitingRequest.{WaitingRequest}
use Rattle.snmp_gate.specs.declared.sets.RememberedSet.{RememberedSet}
use Rattle.snmp_gate.specs.declared.sets.SetNote.TheVariants.{New}
use Rattle.snmp_gate.specs.declared.take_client.Noted.{Noted}
use Rattle.snmp_gate.specs.declared.take_client.Noted.TheVariants as noted
use Rattle.snmp_gate.specs.declared.task.Task.TheVariants as task
use Rattle.snmp_gate.specs.declared.waiting_message.WaitingMessage.{WaitingMessage}
use Rattle.snmp_gate.specs.declared.work.Work.{Work}
use Rattle.snmp_gate.specs.declared.work.Work.TheVariants.{Open, Ends}
use Rattle.snmp_gate.proofs.Joining.{same_message}
use Rattle.snmp_gate.proofs.Keeping.{lasting_same}
use Rattle.snmp_gate.proofs.Others.{contains_cons, none_happened, was_before}
use Rattle.snmp_gate.proofs.Questions.{all_joined}
use Rattle.snmp_gate.proofs.SetsKept.{IsFresh, IsOpenSet, KeepsKnown, WereSets, fresh_new, goes_before, keeps_again, keeps_kept, keeps_noted, keeps_noted_again, sets_taken, set_request_before, were_sets}

abbrev Gs : Type 0
Gs = List (Group WaitingMessage Work)

one_some : {A : Type 0} (a b : A) → Some a ≡ Some b → a ≡ b
one_some a b is = cc

-- what is asked of an open Set
record AllAskSet (before : List Happening) (n : ℕ) : Type 0 where
  pub question : Question
  pub all : AllAsk before n question
  pub tag : question.tag ≡ pdu_tag SetRequest

work_asks : (tables : Tables) (devices : List Device) (before : List Happening) (n : ℕ) (q : Question) (w : Work) → WorkStands tables devices before n q w → AsksSet w → q.tag ≡ pdu_tag SetRequest
work_asks tables devices before n q (Open o) stands set =
    let known : TaskStands tables q (told_in n before) task.Set = subst (TaskStands tables q (told_in n before)) set stands.task in known.tag
work_asks tables devices before n q (Ends e) stands set = absurd set

open_asks : (tables : Tables) (devices : List Device) (before : List Happening) (next : ℕ) (gs : Gs) (n : ℕ) → GroupsStand tables devices before next gs → IsOpenSet gs n → AllAskSet before n
open_asks tables devices before next gs n stands is =
    let g = is.0 in
    let known = All-contains (GroupStands tables devices before) gs g stands.all is.1 in record {
      question = known.question;
      all = subst (λ (k : ℕ). AllAsk before k known.question) is.2 known.one;
      tag = work_asks tables devices before g.number known.question g.work known.work is.3;
    }

-- ---- a message that joins

module _ (tables : Tables) (devices : List Device) (before : List Happening) (next : ℕ) (rs : Requests) (place most : ℕ) (r : WaitingRequest WaitingMessage Work) (m : WaitingMessage) (new : Gs) (since now : ℕ) (v : List ℕ) (old sets : List RememberedSet)
    (within : place < length rs) (is : r ≡ slice_index_or rs place r) (group : GroupStands tables devices before (group_of r)) (asks : question_in r.first ≡ question_in m) (joins : IsJoined most (groups_of rs) place m new Joined) (digest : IsOfDatagram m v)
    (later : since ≤ now) (noted : IsNotedAgain now m.digest old sets New) (stands : GroupsStand tables devices before next (groups_of rs)) (known : SetsStand since before (groups_of rs) old) where
  joined_were : WereSets (groups_of rs) new
  joined_were = all_joined (λ (g : Group WaitingMessage Work). AsksSet g.work → IsOpenSet (groups_of rs) g.number) most (groups_of rs) new place m Joined joins (λ g at room it. it) (were_sets (groups_of rs))

  asked_first : question_in r.first ≡ Some group.question
  asked_first = All-head (λ (x : WaitingMessage). question_in x ≡ Some group.question) r.first r.others.items group.asks

  asked_m : question_in m ≡ Some group.question
  asked_m = sym asks ∙ asked_first

  isnt_asked : (n d id : ℕ) (what : RequestPdu) (w : List ℕ) → accepted r.number now v m ≢ asked n d id what w
  isnt_asked n d id what w same = let wrong : accepted r.number now v m ≡ asked n d id what w = same in cc

  was_old : (n : ℕ) → WasAsked (accepted r.number now v m ∷ before) n → WasAsked before n
  was_old n = was_before (accepted r.number now v m) before n (isnt_asked n)

  same_tag : (q : Question) → Some group.question ≡ Some q → q.tag ≡ pdu_tag SetRequest → group.question.tag ≡ pdu_tag SetRequest
  same_tag q same tag = ap (λ (x : Question). x.tag) (one_some group.question q same) ∙ tag

  open_before : (n : ℕ) (g : Group WaitingMessage Work) → Contains new g → g.number ≡ n → AsksSet g.work → IsOpenSet (groups_of rs) n
  open_before n g there number set = subst (IsOpenSet (groups_of rs)) number (All-contains (λ (x : Group WaitingMessage Work). AsksSet x.work → IsOpenSet (groups_of rs) x.number) new g joined_were there set)

  tag_of_set : IsSetRequest (accepted r.number now v m ∷ before) r.number → group.question.tag ≡ pdu_tag SetRequest
  tag_of_set set =
      let a = set.is_asked in
      elim (contains_cons (accepted r.number now v m) before (accepted r.number a.is_accepted.now a.is_accepted.datagram a.message) a.is_accepted.there) [
        | inl same ↦ same_tag set.question (sym asked_m ∙ ap question_in (same_message r.number now v m r.number a.is_accepted.now a.is_accepted.datagram a.message same) ∙ a.asks) set.tag
        | inr rest ↦ same_tag set.question (sym (group.one a.is_accepted.now a.is_accepted.datagram a.message rest) ∙ a.asks) set.tag
      ]

  tag_of_open : IsOpenSet (groups_of rs) r.number → group.question.tag ≡ pdu_tag SetRequest
  tag_of_open opened =
      let all = open_asks tables devices before next (groups_of rs) r.number stands opened in
      let first = All-head (IsAccepted before r.number) r.first r.others.items group.are_accepted in
      same_tag all.question (sym asked_first ∙ all.all first.now first.datagram r.first first.there) all.tag

  -- a request of Sets has messages that ask Sets
  tag_of : GoesOut (accepted r.number now v m ∷ before) new r.number → group.question.tag ≡ pdu_tag SetRequest
  tag_of out = elim out [
    | inl both ↦ tag_of_set both.1
    | inr (g, there, number, set) ↦ tag_of_open (open_before r.number g there number set)
  ]

  own_before : GoesOut (accepted r.number now v m ∷ before) new r.number → GoesOut before (groups_of rs) r.number
  own_before out = elim out [
    | inl both ↦ inl (
      was_old r.number both.0,
      record {
        question = group.question;
        is_asked = record { message = r.first; is_accepted = All-head (IsAccepted before r.number) r.first r.others.items group.are_accepted; asks = asked_first };
        tag = tag_of_set both.1;
      },
    )
    | inr (g, there, number, set) ↦ inr (open_before r.number g there number set)
  ]

  pub joined_sets : SetsStand now (accepted r.number now v m ∷ before) new sets
  joined_sets =
      sets_taken since now r.number v m before (groups_of rs) new old sets later known
      (λ n other out. goes_before (accepted r.number now v m) before (groups_of rs) new n (was_old n) (λ at w x same. other (sym (ap number_of same))) joined_were out)
      (λ at w x there out. own_before out)
      (keeps_noted_again now m.digest old sets New noted)
      (λ out. fresh_new now (sha256 v) old sets (subst (λ (d : Option (List ℕ)). IsNotedAgain now d old sets New) (digest.set group.question asked_m (tag_of out)) noted))

-- ---- a message that begins a request

pub task_asks : (tables : Tables) (devices : List Device) (q : Question) (w : Work) → BeginsWell tables devices q w → AsksSet w → q.tag ≡ pdu_tag SetRequest
task_asks tables devices q (Open o) well set = let known : TaskStands tables q said_nothing task.Set = subst (TaskStands tables q said_nothing) set (well.0 said_nothing refl) in known.tag
task_asks tables devices q (Ends e) well set = absurd set

noted_fresh : (now : ℕ) (v d : List ℕ) (w : Work) (digest : Option (List ℕ)) (mid sets : List RememberedSet) (n : Noted) → n ≢ noted.Before → n ≢ noted.NoRoom → IsNotedFor now digest w mid sets n → AsksSet w → digest ≡ Some (sha256 v) → IsFresh now (sha256 v) mid sets
noted_fresh now v d w digest mid sets noted.NoSet isnt fits is set own = absurd (is.0 set)
noted_fresh now v d w digest mid sets noted.Now isnt fits is set own =
    fresh_new now (sha256 v) mid sets (subst (λ (x : List ℕ). IsNoted now x mid sets New) (one_some is.0 (sha256 v) (sym is.1 ∙ own)) is.2)
noted_fresh now v d w digest mid sets noted.Before isnt fits is set own = absurd (isnt refl)
noted_fresh now v d w digest mid sets noted.NoRoom isnt fits is set own = absurd (fits refl)

pub keeps_noted_for : (now : ℕ) (w : Work) (digest : Option (List ℕ)) (mid sets : List RememberedSet) (n : Noted) → IsNotedFor now digest w mid sets n → KeepsKnown now mid sets
keeps_noted_for now w digest mid sets noted.NoSet is = keeps_kept now mid sets (inl is.1)
keeps_noted_for now w digest mid sets noted.Now is = keeps_noted now is.0 mid sets New is.2
keeps_noted_for now w digest mid sets noted.Before is = keeps_kept now mid sets (inr is.2.1.1)
keeps_noted_for now w digest mid sets noted.NoRoom is = keeps_kept now mid sets (inr is.2.2)

module _ (tables : Tables) (devices : List Device) (before : List Happening) (next : ℕ) (gs new : Gs) (m : WaitingMessage) (q : Question) (w : Work) (since now : ℕ) (v : List ℕ) (old mid sets : List RememberedSet) (n : Noted) (asks : question_in m ≡ Some q)
    (well : BeginsWell tables devices q w) (digest : IsOfDatagram m v) (later : since ≤ now) (isnt : n ≢ noted.Before) (fits : n ≢ noted.NoRoom) (first : KeepsSets now old mid) (noted_is : IsNotedFor now m.digest w mid sets n) (new_is : new ≡ gs ++ begun next m w ∷ [])
    (stands : GroupsStand tables devices before next gs) (known : SetsStand since before gs old) where
  begun_was : (k : ℕ) → WasAsked (accepted next now v m ∷ before) k → WasAsked before k
  begun_was k = was_before (accepted next now v m) before k (λ d id what x same. let wrong : accepted next now v m ≡ asked k d id what x = same in cc)

  begun_there : (g : Group WaitingMessage Work) → Contains new g → Contains gs g ⊎ (begun next m w ≡ g)
  begun_there g there = Contains-push_cases gs (begun next m w) g (subst (λ (xs : Gs). Contains xs g) new_is there)

  never_next : (x : Happening) → Contains before x → number_of x ≡ next → ⊥
  never_next x there same = none_happened before next x stands.past there (sym same)

  begun_set : (g : Group WaitingMessage Work) → Contains new g → g.number ≡ next → AsksSet g.work → AsksSet w
  begun_set g there number set = elim (begun_there g there) [
    | inl old_one ↦ let lt = All-contains (λ (x : Group WaitingMessage Work). x.number < next) gs g stands.numbered.less old_one in absurd (omega (arith, lt, number))
    | inr same ↦ subst AsksSet (sym (ap (λ (x : Group WaitingMessage Work). x.work) same)) set
  ]

  begun_goes : (k : ℕ) → k ≢ next → GoesOut (accepted next now v m ∷ before) new k → GoesOut before gs k
  begun_goes k other out = elim out [
    | inl both ↦ inl (begun_was k both.0, set_request_before (accepted next now v m) before k (λ at x y same. other (sym (ap number_of same))) both.1)
    | inr (g, there, number, set) ↦ elim (begun_there g there) [
      | inl old_one ↦ inr (g, old_one, number, set)
      | inr same ↦ absurd (other (sym number ∙ sym (ap (λ (x : Group WaitingMessage Work). x.number) same)))
    ]
  ]

  begun_fresh : GoesOut (accepted next now v m ∷ before) new next → IsFresh now (sha256 v) old sets
  begun_fresh out = elim out [
    | inl both ↦ let was = begun_was next both.0 in absurd (never_next (asked next was.device was.id was.request was.datagram) was.there refl)
    | inr (g, there, number, set) ↦
        let own = begun_set g there number set in
        let fresh = noted_fresh now v [] w m.digest mid sets n isnt fits noted_is own (digest.set q asks (task_asks tables devices q w well own)) in record {
          unknown = subst (IsUnknown (sha256 v)) (lasting_same now old mid first) fresh.unknown;
          kept = fresh.kept;
        }
  ]

  pub begun_sets : SetsStand now (accepted next now v m ∷ before) new sets
  begun_sets =
      sets_taken since now next v m before gs new old sets later known begun_goes
      (λ at x y there out. absurd (never_next (accepted next at x y) there refl))
      (keeps_again now old mid sets (keeps_kept now old mid first) (keeps_noted_for now w m.digest mid sets n noted_is))
      begun_fresh
