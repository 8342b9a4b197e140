-- What is reported of a request has nothing hidden, and what is asked neither.
use Rattle.std.specs.Prelude.{◌≡◌, ◌⊎◌, ◌<◌, ℕ, Bool, pos, List, All, Contains, Option, slice_index_or}
use Rattle.std.specs.Global.{Vec}
use Rattle.std.proofs.Common.{ap, inl, inr, sym, subst, arith}
use Rattle.std.proofs.lemmas.List.Elements.{All-weaker, All-contains_itself, AllZip-get_or, length_all_zip}
use Rattle.snmp_msg.specs.Variables.{Variable, variables_of}
use Rattle.snmp_msg.specs.declared.pdu_type.PduType.TheVariants.{GetNextRequest}
use Rattle.vacm_core.specs.Tables.{Tables}
use Rattle.snmp_agent.specs.declared.unhandled.Unhandled.{Unhandled}
use Rattle.snmp_incoming.specs.Outcome.{Given}
use Rattle.snmp_walk.specs.Column.{MayShow}
use Rattle.snmp_walk.specs.declared.operation.ReadOperation.{ReadOperation}
use Rattle.snmp_walk.specs.declared.operation.ReadOperation.TheVariants.{Get, GetNext}
use Rattle.snmp_gate.specs.History.{Happening, IsCauseFor, MayAskFor, MayAskName, reads, bulk, sets, told_in}
use Rattle.gateway_laws.specs.Requests.{RequestPdu}
use Rattle.snmp_gate.specs.DeviceMessages.{IsRequestFor}
use Rattle.snmp_gate.specs.Messages.{seen_in, set_in}
use Rattle.snmp_gate.specs.Question.{Question}
use Rattle.snmp_gate.specs.Replies.{Answering, ClientAnswer, IsAnswerTo, IsReported, IsSent, MayTellBulk, MayTellValues, Told, answer_with, columns, front, set}
use Rattle.snmp_gate.specs.Said.{Said}
use Rattle.snmp_gate.specs.Waiting.{Fresh, SendHappens, answering_at}
use Rattle.snmp_gate.specs.declared.work.EndedBy.{EndedBy}
use Rattle.snmp_gate.specs.declared.devices.Device.{Device as DeviceIs}
use Rattle.snmp_gate.specs.declared.gate.Gate.{Gate}
use Rattle.snmp_gate.specs.declared.gate.Sent.{Sent}
use Rattle.snmp_gate.specs.declared.gate.Sent.TheVariants as out
use Rattle.snmp_gate.specs.declared.set_answer.ResponseStatus.{ResponseStatus}
use Rattle.snmp_gate.specs.declared.waiting_message.WaitingMessage.{WaitingMessage}
use Rattle.tests_callers.specs.declared.gateways.Out.TheVariants.{Client, Device}
use Rattle.tests_callers.specs.Hidden.{AsksSeen, IsOwnOrSeen, KeepsHidden, is_own, is_empty, is_seen, gets, walks}
use Rattle.tests_callers.specs.Hidden as hidden

shown : (Seen : List ℕ → Type 0) (own said : List Variable) (operation : ReadOperation) (first : List ℕ) (v : Variable) → MayShow Seen said operation first v → IsOwnOrSeen Seen own said v
shown Seen own said Get first v (inl hidden) = is_empty hidden.1.empty
shown Seen own said Get first v (inr (seen, named, reply, told)) = is_seen (subst Seen (sym named) seen) told
shown Seen own said GetNext first v (inl (seen, before, value, told)) = is_seen seen told
shown Seen own said GetNext first v (inr end) = is_empty end.1.empty

of_own : (tables : Tables) (q : Question) (said vs : List Variable) → vs ≡ variables_of q.list → All (IsOwnOrSeen (seen_in tables q) (variables_of q.list) said) vs
of_own tables q said vs own =
    subst (All (IsOwnOrSeen (seen_in tables q) (variables_of q.list) said)) (sym own)
    (All-weaker (Contains (variables_of q.list)) (IsOwnOrSeen (seen_in tables q) (variables_of q.list) said) (λ v there. is_own there) (variables_of q.list) (All-contains_itself (variables_of q.list)))

values : (tables : Tables) (q : Question) (said : Said) (vs : List Variable) → MayTellValues tables q said vs → All (IsOwnOrSeen (seen_in tables q) (variables_of q.list) said.variables) vs
values tables q said vs (columns operation tag each whole) = λ k d lt.
    shown (seen_in tables q) (variables_of q.list) said.variables operation _ _
    (AllZip-get_or (λ (asked v : Variable). MayShow (seen_in tables q) said.variables operation asked.name v) (variables_of q.list) vs k d d each (subst (λ (n : ℕ). k < n) (sym (length_all_zip _ (variables_of q.list) vs each)) lt))
values tables q said vs (front tag each non_repeaters max_repetitions first most whole) =
    All-weaker (MayTellBulk (seen_in tables q) said.variables (variables_of q.list)) (IsOwnOrSeen (seen_in tables q) (variables_of q.list) said.variables)
    (λ v may. shown (seen_in tables q) (variables_of q.list) said.variables GetNext _ v may.shows) vs each
values tables q said vs (set tag own) = of_own tables q said.variables vs own

asks : (tables : Tables) (d : DeviceIs) (q : Question) (said : Said) (id : ℕ) (r : RequestPdu) (datagram : List ℕ) → MayAskFor tables d q said id r datagram → AsksSeen tables q said datagram d
asks tables d q said id r datagram (reads Get tag each same ask) =
    gets id r.variables (subst (IsRequestFor datagram d.community.items id) same ask)
    (All-weaker (MayAskName q tables said Get) (λ v. seen_in tables q v.name) (λ v may. subst (seen_in tables q) (sym may.may.0) may.may.1) r.variables each)
asks tables d q said id r datagram (reads GetNext tag each same ask) = walks GetNextRequest id (pos 0) (pos 0) r.variables (subst (IsRequestFor datagram d.community.items id) same ask) each
asks tables d q said id r datagram (bulk which tag each ask) = walks r.type id (pos r.non_repeaters) (pos r.max_repetitions) r.variables ask each
asks tables d q said id r datagram (sets community write tag same each ask) =
    hidden.sets community id (variables_of q.list) write (subst (IsRequestFor datagram community.items id) same ask)
    (subst (λ (x : RequestPdu). All (λ (v : Variable). set_in tables q v.name) x.variables) same each)

answers : (by : Answering) (tables : Tables) (q : Question) (said : Said) (again : Option ResponseStatus) (Cause : Unhandled → Type 0) (g : Given) (answer : ClientAnswer) → IsAnswerTo by tables q said again Cause g answer
    → ((why : Unhandled) × IsReported by g why answer.datagram) ⊎ ((told : Told) × IsSent by g told answer.datagram × All (IsOwnOrSeen (seen_in tables q) (variables_of q.list) said.variables) told.variables)
answers by tables q said again Cause g answer (inr (why, cause, report)) = inl (why, report.0)
answers by tables q said again Cause g answer (inl (told, sent, (status, inl (none, may)))) = inr (told, sent.0, values tables q said told.variables may)
answers by tables q said again Cause g answer (inl (told, sent, (status, inr (inl (some, own))))) = inr (told, sent.0, of_own tables q said.variables told.variables own)
answers by tables q said again Cause g answer (inl (told, sent, (status, inr (inr (big, none))))) = inr (told, sent.0, subst (All (IsOwnOrSeen (seen_in tables q) (variables_of q.list) said.variables)) (sym none) (λ k d lt. absurd (omega (arith, lt))))

client_shown : (old new : Gate) (now : ℕ) (before : List Happening) (f : Fresh) (number : ℕ) (to : WaitingMessage) (says : Option ResponseStatus) (datagram : Vec ℕ) (ended : EndedBy) → SendHappens old now before f (out.ToClient number to says datagram ended) new → KeepsHidden old before (Client to.client datagram)
client_shown old new now before f number to says datagram ended (m, same, happens) =
    let mediated = happens.lawful.mediated in
    (number, m, answering_at old now f.salt, ap (λ (x : WaitingMessage). x.client) same, mediated.0, λ q asks. answers (answering_at old now f.salt) old.agent.tables q (told_in number before) mediated.1.0 (IsCauseFor old.agent.engine old.agent.tables old.devices.list.items before number q) m.kept (answer_with says datagram) (mediated.1.2 q asks))

pub to_client : (old new : Gate) (now : ℕ) (before : List Happening) (f : Fresh) (sent : Sent) (number : ℕ) (to : WaitingMessage) (says : Option ResponseStatus) (datagram : Vec ℕ) (ended : EndedBy) → sent ≡ out.ToClient number to says datagram ended → SendHappens old now before f sent new → KeepsHidden old before (Client to.client datagram)
to_client old new now before f sent number to says datagram ended is happens =
    client_shown old new now before f number to says datagram ended (subst (λ s. SendHappens old now before f s new) is happens)

device_asked : (old new : Gate) (now : ℕ) (before : List Happening) (f : Fresh) (number to : ℕ) (datagram : Vec ℕ) (again : Bool) → SendHappens old now before f (out.ToDevice number to datagram again) new → KeepsHidden old before (Device to datagram)
device_asked old new now before f number to datagram again (id, request, from, happens) =
    let mediated = happens.lawful.mediated in (
      number,
      mediated.0,
      mediated.1,
      mediated.2,
      λ d. asks old.agent.tables (slice_index_or old.devices.list.items to d) mediated.0 (told_in number before) id request datagram.items (mediated.3 d).0.0,
    )

pub to_device : (old new : Gate) (now : ℕ) (before : List Happening) (f : Fresh) (sent : Sent) (number to : ℕ) (datagram : Vec ℕ) (again : Bool) → sent ≡ out.ToDevice number to datagram again → SendHappens old now before f sent new → KeepsHidden old before (Device to datagram)
to_device old new now before f sent number to datagram again is happens =
    device_asked old new now before f number to datagram again (subst (λ s. SendHappens old now before f s new) is happens)
