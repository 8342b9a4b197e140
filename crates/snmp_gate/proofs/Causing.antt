-- Why requests have no Response, as more happens.
use Rattle.std.specs.Prelude.{◌≡◌, ◌∷◌, ◌++◌, ◌<◌, ℕ, List, [], All, Contains, Some, length, slice_index_or, slice_set}
use Rattle.std.proofs.Common.{sym, ap, subst, ◌∙◌, inl, inr, arith}
use Rattle.std.proofs.lemmas.List.{get_or_default}
use Rattle.std.proofs.lemmas.List.Elements.{All-push, All-set, All-weaker, Contains-append_left, Contains-append_right, Contains-push, Contains-push_cases}
use Rattle.snmp_agent.specs.declared.unhandled.Unhandled.{Unhandled}
use Rattle.vacm_core.specs.Tables.{Tables}
use Rattle.snmp_gate.specs.Causes.{EndsFor, EndsOnlyBy, HasResponse, IfWorkEnds, IsUnhandledBy}
use Rattle.snmp_gate.specs.Groups.{Group, IsAnswered, IsJoined, IsWorked, begun, group_of, groups_of}
use Rattle.snmp_gate.specs.History.{Happening, IsCauseFor, WasGivenUp, given_up}
use Rattle.snmp_gate.specs.Limits.{IsSilent}
use Rattle.snmp_gate.specs.Messages.{question_in}
use Rattle.snmp_gate.specs.Question.{Question}
use Rattle.snmp_gate.specs.Sending.{Requests, SetsAsked}
use Rattle.snmp_gate.specs.Taking.{WorkSaysSame}
use Rattle.snmp_gate.specs.Waiting.{CausesStand, EndsByCause}
use Rattle.snmp_gate.specs.declared.devices.Device.{Device}
use Rattle.snmp_gate.specs.declared.devices.Devices.{Devices}
use Rattle.snmp_gate.specs.declared.gate.Gate.{Gate}
use Rattle.snmp_gate.specs.declared.limits.GateLimits.{GateLimits}
use Rattle.snmp_gate.specs.declared.requests.Joined.TheVariants.{Joined}
use Rattle.snmp_gate.specs.declared.requests.WaitingRequest.{WaitingRequest}
use Rattle.snmp_gate.specs.declared.waiting_message.WaitingMessage.{WaitingMessage}
use Rattle.snmp_gate.specs.declared.work.OpenRequest.{OpenRequest}
use Rattle.snmp_gate.specs.declared.work.RequestEnd.{RequestEnd}
use Rattle.snmp_gate.specs.declared.work.Work.{Work}
use Rattle.snmp_gate.specs.declared.work.Work.TheVariants.{Open, Ends}
use Rattle.snmp_gate.proofs.GroupSteps.{group_at, groups_set}
use Rattle.snmp_gate.proofs.Questions.{all_answered, all_joined, all_worked, at_place}
use Rattle.snmp_gate.proofs.Whys.{ends_weaker, responds_for, work_weaker}

abbrev pub Gs : Type 0
Gs = List (Group WaitingMessage Work)

module _ (limits : GateLimits) (engine : List ℕ) (tables : Tables) (devices : List Device) where
  -- what ends a request
  abbrev pub EndsNow : List Happening → ℕ → Question → Work → Type 0
  EndsNow before n q w = IfWorkEnds (EndsOnlyBy (IsCauseFor engine tables devices before n q) (IsSilent limits before n q)) w

  abbrev pub Causes : List Happening → Gs → Type 0
  Causes before gs = All (EndsByCause limits engine tables devices before) gs

  up_later : (e : Happening) (before : List Happening) (n : ℕ) → WasGivenUp before n → WasGivenUp (e ∷ before) n
  up_later e before n was = (was.0, Contains-append_right (e ∷ []) before (given_up n was.0) was.1)

  silent_later : (e : Happening) (before : List Happening) (n : ℕ) (q : Question) → IsSilent limits before n q → IsSilent limits (e ∷ before) n q
  silent_later e before n q is = (up_later e before n is.0, is.1)

  cause_later : (e : Happening) (before : List Happening) (n : ℕ) (q : Question) (why : Unhandled) → IsCauseFor engine tables devices before n q why → IsCauseFor engine tables devices (e ∷ before) n q why
  cause_later e before n q why (inl asked) = inl asked
  cause_later e before n q why (inr up) = inr (up.0, up_later e before n up.1, up.2)

  by_later : (e : Happening) (before : List Happening) (g : Group WaitingMessage Work) → EndsByCause limits engine tables devices before g → EndsByCause limits engine tables devices (e ∷ before) g
  by_later e before g by m q there asks =
      let n = g.number in
      work_weaker (EndsOnlyBy (IsCauseFor engine tables devices before n q) (IsSilent limits before n q)) (EndsOnlyBy (IsCauseFor engine tables devices (e ∷ before) n q) (IsSilent limits (e ∷ before) n q)) g.work
      (λ x. ends_weaker (IsCauseFor engine tables devices before n q) (IsCauseFor engine tables devices (e ∷ before) n q) (IsSilent limits before n q) (IsSilent limits (e ∷ before) n q) x (cause_later e before n q) (silent_later e before n q))
      (by m q there asks)

  -- more happens
  pub causes_later : (e : Happening) (before : List Happening) (gs : Gs) → Causes before gs → Causes (e ∷ before) gs
  causes_later e before gs stand = All-weaker (EndsByCause limits engine tables devices before) (EndsByCause limits engine tables devices (e ∷ before)) (by_later e before) gs stand

  -- by what is asked no application answers it
  pub ends_now : (before : List Happening) (n : ℕ) (q : Question) (w : Work) → IfWorkEnds (EndsFor engine tables devices q) w → EndsNow before n q w
  ends_now before n q w by =
      work_weaker (EndsFor engine tables devices q) (EndsOnlyBy (IsCauseFor engine tables devices before n q) (IsSilent limits before n q)) w
      (λ e. ends_weaker (IsUnhandledBy engine tables devices q) (IsCauseFor engine tables devices before n q) ⊥ (IsSilent limits before n q) e (λ why asked. inl asked) (λ none. absurd none)) by

  pub responds_now : (before : List Happening) (n : ℕ) (q : Question) (w : Work) → IfWorkEnds HasResponse w → EndsNow before n q w
  responds_now before n q w has =
      work_weaker HasResponse (EndsOnlyBy (IsCauseFor engine tables devices before n q) (IsSilent limits before n q)) w (responds_for (IsCauseFor engine tables devices before n q) (IsSilent limits before n q)) has

  -- something becomes of a request
  pub causes_worked : (before : List Happening) (gs new : Gs) (place : ℕ) (was w : Work) → IsWorked gs place was w new → ((n : ℕ) (q : Question) → EndsNow before n q w) → Causes before gs → Causes before new
  causes_worked before gs new place was w worked ends stand = all_worked (EndsByCause limits engine tables devices before) gs new place was w worked (λ g known m q there asks. ends g.number q) stand

  -- and of the one at this place
  pub causes_at : (before : List Happening) (gs : Gs) (place : ℕ) (h : Group WaitingMessage Work) → EndsByCause limits engine tables devices before h → Causes before gs → Causes before (slice_set gs place h)
  causes_at before gs place h holds stand = All-set (EndsByCause limits engine tables devices before) gs place h holds stand

  pub causes_set : (before : List Happening) (rs : Requests) (place : ℕ) (s : WaitingRequest WaitingMessage Work) → EndsByCause limits engine tables devices before (group_of s) → Causes before (groups_of rs) → Causes before (groups_of (slice_set rs place s))
  causes_set before rs place s holds stand = subst (Causes before) (sym (groups_set rs place s)) (causes_at before (groups_of rs) place (group_of s) holds stand)

  -- a message is answered
  pub causes_answered : (before : List Happening) (gs new : Gs) (place : ℕ) (m : WaitingMessage) → IsAnswered gs place m new → Causes before gs → Causes before new
  causes_answered before gs new place m answer stand =
      all_answered (EndsByCause limits engine tables devices before) gs new place m answer
      (λ g next rest were known x q there asks. known x q (subst (λ (ms : List WaitingMessage). Contains ms x) (sym were) (Contains-append_right (m ∷ []) (next ∷ rest) x there)) asks) stand

  -- a message begins a request
  pub causes_begun : (before : List Happening) (gs new : Gs) (next : ℕ) (m : WaitingMessage) (w : Work) → new ≡ gs ++ begun next m w ∷ [] → ((q : Question) → question_in m ≡ Some q → EndsNow before next q w) → Causes before gs → Causes before new
  causes_begun before gs new next m w is ends stand =
      subst (Causes before) (sym is) (All-push (EndsByCause limits engine tables devices before) gs (begun next m w) stand (λ x q there asks. elim (Contains-push_cases [] m x there) [
        | inl none ↦ absurd (omega (arith, none.1))
        | inr same ↦ ends q (ap question_in same ∙ asks)
      ]))

  -- a message joins the request at a place, whose first one asks the same
  pub causes_joined : (before : List Happening) (most : ℕ) (rs : Requests) (place : ℕ) (r : WaitingRequest WaitingMessage Work) (m : WaitingMessage) (new : Gs) → place < length rs → r ≡ slice_index_or rs place r → question_in r.first ≡ question_in m
      → IsJoined most (groups_of rs) place m new Joined → Causes before (groups_of rs) → Causes before new
  causes_joined before most rs place r m new within is asks joins stand =
      let there = group_at rs place r within is in
      all_joined (EndsByCause limits engine tables devices before) most (groups_of rs) new place m Joined joins (λ g at room known x q waits asked. elim (Contains-push_cases g.messages m x waits) [
        | inl old ↦ known x q old asked
        | inr new_one ↦
            let same : g ≡ group_of r = at.group_is ∙ get_or_default (groups_of rs) place g (group_of r) there.within ∙ sym there.group_is in
            known r.first q (subst (λ (h : Group WaitingMessage Work). Contains h.messages r.first) (sym same) (Contains-append_left (r.first ∷ []) r.others.items r.first (Contains-push [] r.first))) (asks ∙ ap question_in new_one ∙ asked)
      ]) stand

  -- a request says the same
  same_work : (old new : Work) (P : RequestEnd → Type 0) → WorkSaysSame old new → IfWorkEnds P old → IfWorkEnds P new
  same_work (Open a) (Open b) P same by = tt
  same_work (Open a) (Ends e) P same by = subst (IfWorkEnds P) (sym same) by
  same_work (Ends e) (Open b) P same by = tt
  same_work (Ends e) (Ends f) P same by = subst (IfWorkEnds P) (sym same) by

  pub causes_same : (before : List Happening) (rs : Requests) (place : ℕ) (r : WaitingRequest WaitingMessage Work) (w : Work) → place < length rs → r ≡ slice_index_or rs place r → WorkSaysSame r.work w → Causes before (groups_of rs)
      → Causes before (groups_of (slice_set rs place (record { number = r.number; first = r.first; others = r.others; work = w })))
  causes_same before rs place r w within is same stand =
      let here = at_place (EndsByCause limits engine tables devices before) (groups_of rs) place (group_of r) (group_at rs place r within is) stand in
      causes_set before rs place (record { number = r.number; first = r.first; others = r.others; work = w })
      (λ m q there asks. same_work r.work w (EndsOnlyBy (IsCauseFor engine tables devices before r.number q) (IsSilent limits before r.number q)) same (here m q there asks)) stand

  -- a device is asked
  pub causes_asked : (e : Happening) (before : List Happening) (rs new : Requests) (place id : ℕ) (o : OpenRequest) (sets : SetsAsked rs place id new) → sets.request.work ≡ Open o → Causes before (groups_of rs) → Causes (e ∷ before) (groups_of new)
  causes_asked e before rs new place id o sets opened stand =
      let r = sets.request in
      let s : WaitingRequest WaitingMessage Work = record { number = r.number; first = r.first; others = r.others; work = sets.work } in
      subst (λ (xs : Requests). Causes (e ∷ before) (groups_of xs)) (sym sets.new_is)
      (causes_set (e ∷ before) rs place s
      (λ m q there asks. subst (EndsNow (e ∷ before) r.number q) (sym (sets.asked o opened).1) tt)
      (causes_later e before (groups_of rs) stand))

  -- its device answered
  pub causes_after : (e : Happening) (before : List Happening) (rs : Requests) (place : ℕ) (s : WaitingRequest WaitingMessage Work) → IfWorkEnds HasResponse s.work → Causes before (groups_of rs) → Causes (e ∷ before) (groups_of (slice_set rs place s))
  causes_after e before rs place s has stand =
      causes_set (e ∷ before) rs place s (λ m q there asks. responds_now (e ∷ before) s.number q s.work has) (causes_later e before (groups_of rs) stand)

-- the same, with what is equal
pub causes_moved : (old new : Gate) (before : List Happening) (gs : Gs) → new.limits ≡ old.limits → new.agent.engine ≡ old.agent.engine → new.agent.tables ≡ old.agent.tables → new.devices ≡ old.devices → groups_of new.requests.list.items ≡ gs
    → All (EndsByCause old.limits old.agent.engine old.agent.tables old.devices.list.items before) gs → CausesStand before new
causes_moved old new before gs limits engine tables devices groups stand =
    subst (λ (l : GateLimits). All (EndsByCause l new.agent.engine new.agent.tables new.devices.list.items before) (groups_of new.requests.list.items)) (sym limits)
    (subst (λ (e : List ℕ). All (EndsByCause old.limits e new.agent.tables new.devices.list.items before) (groups_of new.requests.list.items)) (sym engine)
    (subst (λ (t : Tables). All (EndsByCause old.limits old.agent.engine t new.devices.list.items before) (groups_of new.requests.list.items)) (sym tables)
    (subst (λ (d : Devices). All (EndsByCause old.limits old.agent.engine old.agent.tables d.list.items before) (groups_of new.requests.list.items)) (sym devices)
    (subst (λ (xs : Gs). All (EndsByCause old.limits old.agent.engine old.agent.tables old.devices.list.items before) xs) (sym groups) stand))))
