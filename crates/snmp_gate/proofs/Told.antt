-- What is reported of what goes out.
use Rattle.std.specs.Prelude.{◌≡◌, ◌<◌, ℕ, Some, List, length, slice_index_or}
use Rattle.std.specs.List.{HoldsAt}
use Rattle.std.proofs.Common.{sym, ap, subst, ◌∙◌, arith}
use Rattle.std.proofs.lemmas.List.{get_or-map, get_or-set_same, get_or_default, length-map, length-set}
use Rattle.snmp_gate.specs.Due.{HasEnded, IsTodo}
use Rattle.snmp_gate.specs.Groups.{Group, IsWorked, group_of, groups_of, with_work}
use Rattle.snmp_gate.specs.Sending.{IsSentBy, Requests}
use Rattle.snmp_gate.specs.Told.{IsAskedNow, IsEndOf, Tells, TellsEnd, end_told}
use Rattle.snmp_gate.specs.declared.asks.DeviceAsks.{DeviceAsks}
use Rattle.snmp_gate.specs.declared.gate.Sent.{Sent}
use Rattle.snmp_gate.specs.declared.gate.Sent.TheVariants as out
use Rattle.snmp_gate.specs.declared.limits.GateLimits.{GateLimits}
use Rattle.snmp_gate.specs.declared.reply.Reply.{Reply}
use Rattle.snmp_gate.specs.declared.reply.Reply.TheVariants as reply
use Rattle.snmp_gate.specs.declared.requests.WaitingRequest.{WaitingRequest}
use Rattle.snmp_gate.specs.declared.waiting_message.WaitingMessage.{WaitingMessage}
use Rattle.snmp_gate.specs.declared.work.EndedBy.{EndedBy}
use Rattle.snmp_gate.specs.declared.work.EndedBy.TheVariants.{Answer}
use Rattle.snmp_gate.specs.declared.work.OpenRequest.{OpenRequest}
use Rattle.snmp_gate.specs.declared.work.RequestEnd.{RequestEnd}
use Rattle.snmp_gate.specs.declared.work.Todo.TheVariants.{Ask}
use Rattle.snmp_gate.specs.declared.work.Work.{Work}
use Rattle.snmp_gate.specs.declared.work.Work.TheVariants.{Open, Ends}
use Rattle.snmp_gate.proofs.Asked.{none_is_some}

-- ---- a message that is answered, or isn't

pub sent_tells : (number : ℕ) (message : WaitingMessage) (ended : EndedBy) (replied : Reply) (sent : Sent) (r : WaitingRequest WaitingMessage Work) → IsSentBy number message ended replied sent → number ≡ r.number → IsEndOf r.work ended → TellsEnd sent r
sent_tells number message ended (reply.Responds says datagram) sent r is number_is end = subst (λ (s : Sent). TellsEnd s r) (sym is) (number_is, end)
sent_tells number message ended (reply.Reports datagram) sent r is number_is end = subst (λ (s : Sent). TellsEnd s r) (sym is) (number_is, end)
sent_tells number message ended reply.Nothing sent r is number_is end = subst (λ (s : Sent). TellsEnd s r) (sym is) (number_is, end)
sent_tells number message ended reply.SilentDrop sent r is number_is end = subst (λ (s : Sent). TellsEnd s r) (sym is) (number_is, end)
sent_tells number message ended (reply.Refused why) sent r is number_is end = subst (λ (s : Sent). TellsEnd s r) (sym is) (number_is, end)

pub end_tells : (sent : Sent) (r : WaitingRequest WaitingMessage Work) → TellsEnd sent r → Tells sent r
end_tells (out.ToClient number message says datagram ended) r tells = tells
end_tells (out.Unanswered number message why ended) r tells = tells
end_tells (out.ToDevice number device datagram again) r tells = absurd tells
end_tells (out.GivenUp number device times) r tells = absurd tells
end_tells out.Nothing r tells = absurd tells

-- ---- a request that ends by an answer in the same call

open_end : (w : Work) → (¬ HasEnded w) → (ended : EndedBy) → ended ≡ Answer → IsEndOf w ended
open_end (Open o) goes_on ended is = is
open_end (Ends e) goes_on ended is = absurd (goes_on tt)

worked_so : (sent : Sent) (r s : WaitingRequest WaitingMessage Work) (e : RequestEnd) → s.number ≡ r.number → s.work ≡ Ends e → end_told e ≡ Answer → (¬ HasEnded r.work) → TellsEnd sent s → Tells sent r
worked_so (out.ToClient number message says datagram ended) r s e numbers is answer goes_on tells =
    let by : ended ≡ end_told e = subst (λ (w : Work). IsEndOf w ended) is tells.1 in (tells.0 ∙ numbers, open_end r.work goes_on ended (by ∙ answer))
worked_so (out.Unanswered number message why ended) r s e numbers is answer goes_on tells =
    let by : ended ≡ end_told e = subst (λ (w : Work). IsEndOf w ended) is tells.1 in (tells.0 ∙ numbers, open_end r.work goes_on ended (by ∙ answer))
worked_so (out.ToDevice number device datagram again) r s e numbers is answer goes_on tells = absurd tells
worked_so (out.GivenUp number device times) r s e numbers is answer goes_on tells = absurd tells
worked_so out.Nothing r s e numbers is answer goes_on tells = absurd tells

pub worked_tells : (rs new : Requests) (place : ℕ) (was : Work) (e : RequestEnd) (sent : Sent) → IsWorked (groups_of rs) place was (Ends e) (groups_of new) → end_told e ≡ Answer → HoldsAt (λ (r : WaitingRequest WaitingMessage Work). ¬ HasEnded r.work) rs place
    → HoldsAt (TellsEnd sent) new place → HoldsAt (Tells sent) rs place
worked_tells rs new place was e sent worked answer goes_on tells r =
    let g = worked.group in
    let h = with_work g (Ends e) in
    let long : length (groups_of new) ≡ length (groups_of rs) = ap (λ (gs : List (Group WaitingMessage Work)). length gs) worked.new_is ∙ length-set (groups_of rs) place h in
    let same_new : length (groups_of new) ≡ length new = length-map new (λ (x : WaitingRequest WaitingMessage Work). group_of x) in
    let same_old : length (groups_of rs) ≡ length rs = length-map rs (λ (x : WaitingRequest WaitingMessage Work). group_of x) in
    let within_new : place < length new = omega (arith, worked.at.within, long, same_new) in
    let within_old : place < length rs = omega (arith, worked.at.within, same_old) in
    let a = slice_index_or rs place r in
    let b = slice_index_or new place r in
    let read_old : slice_index_or (groups_of rs) place (group_of r) ≡ group_of a = get_or-map (λ (x : WaitingRequest WaitingMessage Work). group_of x) rs place r (group_of r) within_old in
    let read_new : slice_index_or (groups_of new) place (group_of r) ≡ group_of b = get_or-map (λ (x : WaitingRequest WaitingMessage Work). group_of x) new place r (group_of r) within_new in
    let there : g ≡ group_of a = worked.at.group_is ∙ get_or_default (groups_of rs) place g (group_of r) worked.at.within ∙ read_old in
    let ended : group_of b ≡ h = sym read_new ∙ ap (λ (gs : List (Group WaitingMessage Work)). slice_index_or gs place (group_of r)) worked.new_is ∙ get_or-set_same (groups_of rs) place h (group_of r) worked.at.within in
    worked_so sent a b e (ap (λ (x : Group WaitingMessage Work). x.number) ended ∙ ap (λ (x : Group WaitingMessage Work). x.number) there) (ap (λ (x : Group WaitingMessage Work). x.work) ended) answer (goes_on r) (tells r)

-- ---- a device that is asked

pub unasked_before : (limits : GateLimits) (asks : List DeviceAsks) (now : ℕ) (w : Work) → IsTodo limits asks now w (Some Ask) → IsAskedNow w → ⊥
unasked_before limits asks now (Open o) due asked = asked due.0
unasked_before limits asks now (Ends e) due asked = absurd due

pub asked_now : (w : Work) (o : OpenRequest) (id : ℕ) → w ≡ Open o → o.asked ≡ Some id → IsAskedNow w
asked_now w o id is asked = subst IsAskedNow (sym is) (λ none. none_is_some id (sym none ∙ asked))
