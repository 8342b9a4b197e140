use Rattle.std.proofs.Common.{arith, ◌≡◌, ◌≤◌, ◌∙◌, ℕ, List, ap, inl, refl, subst}
use Rattle.std.specs.Prelude.{slice_index_or, slice_set}
use Rattle.std.proofs.lemmas.List.{get_or-set_same, set-get_or, set-set}
use Rattle.snmp_gate.specs.Causes.{HasResponse}
use Rattle.snmp_gate.specs.Groups.{IsWorked, groups_of, with_work}
use Rattle.snmp_gate.specs.History.{Happening}
use Rattle.snmp_gate.specs.Question.{Question}
use Rattle.snmp_gate.specs.Said.{Said}
use Rattle.snmp_gate.specs.Waiting.{Fresh, GateStands, SendHappens, asks_in, fresh, messages_in}
use Rattle.snmp_gate.specs.Work.{EndingStands, IsToldFirst}
use Rattle.snmp_gate.specs.declared.gate.Gate.{Gate}
use Rattle.snmp_gate.specs.declared.gate.Sent.{Sent}
use Rattle.snmp_gate.specs.declared.gate.Sent.TheVariants as out
use Rattle.snmp_gate.specs.declared.requests.WaitingRequests.{WaitingRequests}
use Rattle.snmp_gate.specs.declared.waiting_message.WaitingMessage.{WaitingMessage}
use Rattle.snmp_gate.specs.declared.work.RequestEnd.{RequestEnd}
use Rattle.snmp_gate.specs.declared.work.Work.{Work}
use Rattle.snmp_gate.specs.declared.work.Work.TheVariants.{Ends}
use Rattle.snmp_gate.proofs.Bounded.{agent_same, bounded_same, bounded_worked, stays_on, stays_requests}
use Rattle.snmp_gate.proofs.Causing.{causes_worked, responds_now}
use Rattle.snmp_gate.proofs.Histories.{Waiting, ended_all, moved, too_long}
use Rattle.snmp_gate.proofs.Keeping.{stands_kept}
use Rattle.snmp_gate.proofs.Same.{work_as_before}
use Rattle.snmp_gate.proofs.SetsGoing.{ended_outcomes, ended_sets}
use Rattle.snmp_gate.proofs.Todos.{worked_ended}
use Rattle.snmp_gate.proofs.Told.{worked_tells}
use Rattle.snmp_gate.proofs.gate.Gate.answer_too_long.Goals as goal

-- the gateway, where a request ends that can't be asked
too_long_stands : (g : Gate) (requests : WaitingRequests WaitingMessage Work) (place : ℕ) (was : Work) (e : RequestEnd) → ((q : Question) (told : Said) → EndingStands g.agent.tables q told e) → IsToldFirst e → HasResponse e → requests.next ≡ g.requests.next
    → IsWorked (groups_of g.requests.list.items) place was (Ends e) (groups_of requests.list.items) → (since now : ℕ) (before : List Happening) → since ≤ now → GateStands since before g → GateStands now before (record g { requests = requests })
too_long_stands g requests place was e ends first responds next worked since now before later stands = record {
  requests = moved g.agent.tables g.agent.tables g.devices.list.items g.devices.list.items before g.requests.next requests.next (groups_of requests.list.items) (groups_of requests.list.items) refl refl next refl
      (ended_all g.agent.tables g.devices.list.items before g.requests.next (groups_of g.requests.list.items) (groups_of requests.list.items) place was e ends worked stands.requests);
  asks = stands.asks;
  sets = ended_sets since now before (groups_of g.requests.list.items) (groups_of requests.list.items) place was e g.sets.sets.items later worked stands.sets;
  outcomes = ended_outcomes before (groups_of g.requests.list.items) (groups_of requests.list.items) place was e g.sets.sets.items first worked stands.outcomes;
  causes = causes_worked g.limits g.agent.engine g.agent.tables g.devices.list.items before (groups_of g.requests.list.items) (groups_of requests.list.items) place was (Ends e) worked
      (λ n q. responds_now g.limits g.agent.engine g.agent.tables g.devices.list.items before n q (Ends e) responds) stands.causes;
}

-- what happens is the same, where only requests changed before
send_same : (g : Gate) (requests : WaitingRequests WaitingMessage Work) (now : ℕ) (before : List Happening) (f : Fresh) (what : Sent) (new : Gate) → SendHappens (record g { requests = requests }) now before f what new → SendHappens g now before f what new
send_same g requests now before f (out.ToClient n to says w ended) new h = (h.0, h.1, record { lawful = h.2.lawful; allowed = h.2.allowed; stands = h.2.stands })
send_same g requests now before f (out.ToDevice n to w again) new h = (h.0, h.1, h.2, record { lawful = h.3.lawful; allowed = h.3.allowed; stands = h.3.stands })
send_same g requests now before f (out.Unanswered n to why ended) new h = (h.0, h.1, record { lawful = h.2.lawful; allowed = h.2.allowed; stands = h.2.stands })
send_same g requests now before f (out.GivenUp n to times) new h = record { lawful = h.lawful; allowed = h.allowed; stands = h.stands }
send_same g requests now before f out.Nothing new h = h

-- what is turned and turned back is as it was
turned_back : (gs mid new : List Waiting) (place : ℕ) (was x r : Work) → IsWorked gs place was x mid → IsWorked mid place r was new → new ≡ gs
turned_back gs mid new place was x r first second =
    let g = first.group in
    let there : second.group ≡ with_work g x = second.at.group_is ∙ ap (λ (l : List Waiting). slice_index_or l place second.group) first.new_is ∙ get_or-set_same gs place (with_work g x) second.group first.at.within in
    let whole : with_work second.group was ≡ g = ap (λ (y : Waiting). with_work y was) there ∙ ap (λ (w : Work). with_work g w) first.before_is in
    second.new_is ∙ (λ i. slice_set (first.new_is i) place (whole i)) ∙ set-set gs place (with_work g x) g ∙ ap (λ (y : Waiting). slice_set gs place y) first.at.group_is ∙ set-get_or gs place g

pub answer_at-requires-clause-ended : goal.answer_at-requires-clause-ended
answer_at-requires-clause-ended c r = worked_ended c.args.self.now.requests.list.items c.work-before.new.self.list.items c.args.place c.work-before.result _ c.work-before.ensures.worked r

pub returns-in-Ok-clause-happens : goal.returns-in-Ok-clause-happens
returns-in-Ok-clause-happens c since ask_id before later stands =
    let g = c.args.self.now in
    send_same g c.work-before.new.self c.args.now before (fresh c.args.salt ask_id) c.in-Ok.sent c.answer_at.new.self (c.in-Ok.ensures.happens c.args.now ask_id before (omega arith)
    (too_long_stands g c.work-before.new.self c.args.place c.work-before.result _ (too_long g.agent.tables) tt tt c.work-before.ensures.next c.work-before.ensures.worked since c.args.now before later stands))

pub returns-in-Ok-clause-stays : goal.returns-in-Ok-clause-stays
returns-in-Ok-clause-stays c =
    let g = c.args.self.now in
    let mid : Gate = record g { requests = c.work-before.new.self } in
    stays_on g mid c.answer_at.new.self
    (stays_requests g mid (agent_same g.agent g.agent refl) refl refl refl (bounded_worked g.limits g.requests c.work-before.new.self c.work-before.ensures.most c.work-before.ensures.most_messages c.args.place c.work-before.result _ c.work-before.ensures.worked tt (λ d. omega arith)))
    c.answer_at.ensures.stays

pub returns-in-Err-clause-same : goal.returns-in-Err-clause-same
returns-in-Err-clause-same c =
    let g = c.args.self.now in
    turned_back (groups_of g.requests.list.items) (groups_of c.work-before.new.self.list.items) (groups_of c.work.new.self.list.items) c.args.place c.work-before.result _ c.work.result c.work-before.ensures.worked
    (subst (λ (x : Gate). IsWorked (groups_of x.requests.list.items) c.args.place c.work.result c.work-before.result (groups_of c.work.new.self.list.items)) c.in-Err.ensures.same c.work.ensures.worked)

pub returns-in-Err-clause-err : goal.returns-in-Err-clause-err
returns-in-Err-clause-err c =
    let g = c.args.self.now in
    let is = c.in-Err.ensures.same in
    let groups = turned_back (groups_of g.requests.list.items) (groups_of c.work-before.new.self.list.items) (groups_of c.work.new.self.list.items) c.args.place c.work-before.result _ c.work.result c.work-before.ensures.worked
    (subst (λ (x : Gate). IsWorked (groups_of x.requests.list.items) c.args.place c.work.result c.work-before.result (groups_of c.work.new.self.list.items)) is c.work.ensures.worked) in
    let next = c.work.ensures.next ∙ ap (λ (x : Gate). x.requests.next) is ∙ c.work-before.ensures.next in
    let asks = ap (λ (x : Gate). asks_in x.asks.items) is in
    let sets = ap (λ (x : Gate). x.sets.sets.items) is in
    record {
      agent = ap (λ (x : Gate). x.agent) is;
      devices = ap (λ (x : Gate). x.devices) is;
      limits = ap (λ (x : Gate). x.limits) is;
      asks = asks;
      messages = ap messages_in groups;
      work = work_as_before (groups_of g.requests.list.items) (groups_of c.work.new.self.list.items) groups;
      next = next;
      sets = inl sets;
      stands = stands_kept c.args.now g (record c.answer_at.new.self { requests = c.work.new.self }) (ap (λ (x : Gate). x.limits) is) (ap (λ (x : Gate). x.agent.engine) is) (ap (λ (x : Gate). x.agent.tables) is) (ap (λ (x : Gate). x.devices) is) asks groups next
          (inl sets);
    }

pub returns-in-Ok-clause-told : goal.returns-in-Ok-clause-told
returns-in-Ok-clause-told c =
    worked_tells c.args.self.now.requests.list.items c.work-before.new.self.list.items c.args.place c.work-before.result _ c.in-Ok.sent c.work-before.ensures.worked refl c.requires.goes_on c.in-Ok.ensures.told

pub returns-in-Err-clause-stays : goal.returns-in-Err-clause-stays
returns-in-Err-clause-stays c =
    let g = c.args.self.now in
    let a = c.answer_at.new.self in
    let is = c.in-Err.ensures.same in
    let last : Gate = record a { requests = c.work.new.self } in
    stays_requests g last (agent_same g.agent a.agent (ap (λ (x : Gate). x.agent) is)) (ap (λ (x : Gate). x.devices) is) (ap (λ (x : Gate). x.limits) is) (ap (λ (x : Gate). x.asks) is)
    (bounded_same g.limits g.requests c.work.new.self (c.work.ensures.most ∙ ap (λ (x : Gate). x.requests.most) is ∙ c.work-before.ensures.most)
    (c.work.ensures.most_messages ∙ ap (λ (x : Gate). x.requests.most_messages) is ∙ c.work-before.ensures.most_messages) (returns-in-Err-clause-same c))
