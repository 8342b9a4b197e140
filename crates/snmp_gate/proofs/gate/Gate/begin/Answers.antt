use Rattle.std.proofs.Common.{◌∙◌, refl, ap, arith, inl, inr, subst, sym}
use Rattle.std.proofs.lemmas.Bool.{false≢true}
use Rattle.std.proofs.lemmas.Bool.Decides.{leb_tells}
use Rattle.sha2.specs.Sha256.{sha256}
use Rattle.std.specs.Prelude.{All, Some, ℕ, ◌∷◌, ◌≡◌, ◌≢◌, ◌<◌, ◌≤◌, ◌+◌, ◌-◌, ◌^◌, length, min, suc}
use Rattle.snmp_agent.specs.Agent.{AgentState}
use Rattle.snmp_gate.specs.Beginning.{BeginsWell}
use Rattle.snmp_gate.specs.Bounds.{IsShareFull}
use Rattle.snmp_gate.specs.Causes.{EndsFor, IfWorkEnds}
use Rattle.snmp_gate.specs.Groups.{groups_of}
use Rattle.snmp_gate.specs.Messages.{question_in}
use Rattle.snmp_gate.specs.Question.{Question}
use Rattle.snmp_gate.specs.History.{accepted}
use Rattle.snmp_gate.specs.Sending.{Requests}
use Rattle.snmp_gate.specs.Waiting.{IsAsBefore}
use Rattle.snmp_gate.specs.declared.devices.Devices.{Devices}
use Rattle.snmp_gate.specs.declared.limits.GateLimits.{GateLimits}
use Rattle.snmp_gate.specs.declared.requests.WaitingRequests.{WaitingRequests}
use Rattle.snmp_gate.specs.declared.waiting_message.WaitingMessage.{WaitingMessage}
use Rattle.snmp_gate.specs.declared.work.Work.{Work}
use Rattle.snmp_gate.proofs.GroupSteps.{on_err}
use Rattle.snmp_gate.proofs.Histories.{moved}
use Rattle.std.specs.Global.{Vec}
use Rattle.snmp_gate.specs.Lawful.{IsInTurn}
use Rattle.snmp_gate.specs.Waiting.{AsksStand, EndsByCause, GateStands, OutcomesStand, SetsStand, asks_in}
use Rattle.snmp_gate.specs.declared.asks.DeviceAsks.{DeviceAsks}
use Rattle.snmp_gate.proofs.AsksKept.{asks_same}
use Rattle.snmp_gate.specs.declared.gate.Gate.{Gate}
use Rattle.snmp_gate.proofs.Bounded.{agent_same, bounded_begun, new_fresh, stays_forgotten, stays_noted, stays_on, stays_requests, stays_same, stays_twice}
use Rattle.snmp_gate.proofs.Keeping.{as_before, keeps_again, same_before, stands_later, stands_noted, stays_as_before, unnoted}
use Rattle.snmp_gate.proofs.SetsComing.{begun_sets, task_asks}
use Rattle.snmp_gate.proofs.Causing.{causes_begun, causes_later, causes_moved, ends_now}
use Rattle.snmp_gate.proofs.Repeating.{begun_outcomes}
use Rattle.snmp_gate.proofs.Joining.{begins_in_turn, begun_all}
use Rattle.snmp_gate.specs.Untaken.{AsksIn, by_numbers, by_requests}
use Rattle.snmp_gate.proofs.Untaken.{full_device, noted_before, noted_full}
use Rattle.snmp_gate.proofs.gate.Gate.begin.Goals as goal
use Rattle.snmp_gate.proofs.gate.Gate.begin.Goals.{then-is_full-via-then-is_full, then-is_full-via-else-is_full+then-next_number}

next_is : (n : ℕ) → n ≤ 2 ^ 64 - 1 → n ≢ 2 ^ 64 - 1 → min (n + 1) (2 ^ 64 - 1) ≡ suc n
next_is n fits isnt = omega (arith, fits, isnt)

below : (n m : ℕ) → (m ≤ n → ⊥) → n < m
below n m not = elim (leb_tells m n) [ inl (test, le) ↦ absurd (not le) | inr (test, lt) ↦ lt ]

pub returns-in-Ok-clause-takes : goal.returns-in-Ok-clause-takes
returns-in-Ok-clause-takes c since before datagram later digest unhandled stands =
    let g = c.args.self.now in
    let n = c.note_asked.new.self in
    let w = c.in-Some.work in
    let m = c.args.message in
    let q = c.requires.asks.0 in
    let first = c.first_work.ensures.same in
    let note = c.note_asked.ensures.same in
    let fits : c.next_number.result ≤ 2 ^ 64 - 1 = omega (arith, c.next_number.type_inv) in
    let rs = note.requests ∙ first.requests in
    let agent = note.agent ∙ first.agent in
    let devices = note.devices ∙ first.devices in
    let limits = note.limits ∙ first.limits in
    let same_next = ap (λ (x : WaitingRequests WaitingMessage Work). x.next) rs in
    let groups_same = ap (λ (x : WaitingRequests WaitingMessage Work). groups_of x.list.items) rs in
    let new = groups_of c.begin.new.self.list.items in
    let requests = moved g.agent.tables n.agent.tables g.devices.list.items n.devices.list.items before g.requests.next n.requests.next (groups_of g.requests.list.items) (groups_of n.requests.list.items)
    (ap (λ (x : AgentState). x.tables) agent)
    (ap (λ (x : Devices). x.list.items) devices)
    same_next groups_same stands.requests in
    let well = (rw c.in-Some.is at c.in_ok-work.ensures.begins) q c.requires.asks.1 in
    let well_now = subst (λ (x : AgentState). BeginsWell x.tables n.devices.list.items q w) (sym agent)
    (subst (λ (x : Devices). BeginsWell g.agent.tables x.list.items q w) (sym devices) well) in
    let next_one = c.in-Ok.ensures.next ∙ next_is n.requests.next (subst (λ (x : ℕ). x ≤ 2 ^ 64 - 1) (c.next_number.ensures ∙ sym same_next) fits) (λ is. c.if-next_number.false (c.next_number.ensures ∙ sym same_next ∙ is)) in
    let all = begun_all n.agent.tables n.devices.list.items before n.requests.next c.begin.new.self.next (groups_of n.requests.list.items) new m q w c.args.now datagram
    c.requires.asks.1 well_now (rw c.in-Some.is at c.in_ok-work.ensures.fresh) c.in-Ok.ensures.ok next_one requests in
    let known = subst (λ (x : WaitingRequests WaitingMessage Work). SetsStand since before (groups_of x.list.items) g.sets.sets.items) (sym rs) stands.sets in
    let sets = begun_sets n.agent.tables n.devices.list.items before n.requests.next (groups_of n.requests.list.items) new m q w since c.args.now datagram g.sets.sets.items c.first_work.new.self.sets.sets.items n.sets.sets.items c.in_ok-noted.noted
    c.requires.asks.1 well_now digest later c.in_default-noted.not-Before c.in_default-noted-2.not-NoRoom c.first_work.ensures.sets c.in_ok-noted.ensures.noted c.in-Ok.ensures.ok requests known in
    let outcomes = begun_outcomes n.agent.tables n.devices.list.items n.requests.next c.args.now datagram m before (groups_of n.requests.list.items) new w g.sets.sets.items c.first_work.new.self.sets.sets.items n.sets.sets.items c.in_ok-noted.noted digest
    c.first_work.ensures.sets c.in_default-noted.not-Before c.in_default-noted-2.not-NoRoom c.in_ok-noted.ensures.noted (rw c.in-Some.is at c.in_ok-work.ensures.known) c.in-Ok.ensures.ok requests
    (subst (λ (x : WaitingRequests WaitingMessage Work). OutcomesStand before (groups_of x.list.items) g.sets.sets.items) (sym rs) stands.outcomes) in
    let asks = asks_same (accepted n.requests.next c.args.now datagram m) before (asks_in n.asks.items) (λ k. refl) (subst (λ (v : Vec DeviceAsks). AsksStand before (asks_in v.items)) (sym (note.asks ∙ first.asks)) stands.asks) in
    let e = accepted n.requests.next c.args.now datagram m in
    let here = causes_moved g n before (groups_of n.requests.list.items) limits (ap (λ (x : AgentState). x.engine) agent) (ap (λ (x : AgentState). x.tables) agent) devices refl
    (subst (λ (x : WaitingRequests WaitingMessage Work). All (EndsByCause g.limits g.agent.engine g.agent.tables g.devices.list.items before) (groups_of x.list.items)) (sym rs) stands.causes) in
    let ends = λ (x : Question) (asked : question_in m ≡ Some x).
    ends_now n.limits n.agent.engine n.agent.tables n.devices.list.items before n.requests.next x w
    (subst (λ (a : AgentState). IfWorkEnds (EndsFor a.engine a.tables n.devices.list.items x) w) (sym agent)
    (subst (λ (d : Devices). IfWorkEnds (EndsFor g.agent.engine g.agent.tables d.list.items x) w) (sym devices)
    ((rw c.in-Some.is at c.in_ok-work.ensures.ends) x unhandled asked))) in
    let causes = causes_later n.limits n.agent.engine n.agent.tables n.devices.list.items e before new
    (causes_begun n.limits n.agent.engine n.agent.tables n.devices.list.items before (groups_of n.requests.list.items) new n.requests.next m w c.in-Ok.ensures.ok ends here) in
    subst (λ (k : ℕ). IsInTurn before (accepted k c.args.now datagram m)
    × GateStands c.args.now (accepted k c.args.now datagram m ∷ before) (record { alloc = n.alloc; agent = n.agent; devices = n.devices; asks = n.asks; limits = n.limits; requests = c.begin.new.self; sets = n.sets })) (sym c.in-Ok.ensures.number)
    (begins_in_turn before n.requests.next c.args.now datagram m requests.past, record { requests = all; asks = asks; sets = sets; outcomes = outcomes; causes = causes })

pub returns-then-is_full-clause-takes : goal.returns-then-is_full-clause-takes
returns-then-is_full-clause-takes c since before datagram later digest unhandled stands = stands_later c.args.now c.args.self.now since before later stands

pub returns-in_err-work-clause-err : goal.returns-in_err-work-clause-err
returns-in_err-work-clause-err c = on_err _ _ (same_before c.args.now c.args.self.now c.first_work.new.self c.first_work.ensures.same c.first_work.ensures.sets)

pub returns-in_default-clause-takes : goal.returns-in_default-clause-takes
returns-in_default-clause-takes c since before datagram later digest unhandled stands =
    stands_noted c.args.now c.args.self.now c.first_work.new.self c.first_work.ensures.same c.first_work.ensures.sets since before later stands

pub returns-in-Before-clause-takes : goal.returns-in-Before-clause-takes
returns-in-Before-clause-takes c since before datagram later digest unhandled stands =
    let g = c.args.self.now in
    let mid = c.first_work.new.self in
    let n = c.note_asked.new.self in
    let first = stands_noted c.args.now g mid c.first_work.ensures.same c.first_work.ensures.sets since before later stands in
    stands_noted c.args.now mid n c.note_asked.ensures.same (inr (rw c.in-Before.is at c.in_ok-noted.ensures.noted).2.1.1) c.args.now before (omega arith) first

pub returns-in_err-noted-clause-err : goal.returns-in_err-noted-clause-err
returns-in_err-noted-clause-err c =
    let g = c.args.self.now in
    let n = c.note_asked.new.self in
    let first = c.first_work.ensures.same in
    let same = c.note_asked.ensures.same in
    let requests = same.requests ∙ first.requests in
    on_err c.from_residual-in_err-noted.result (IsAsBefore c.args.now g n)
    (as_before c.args.now g n (same.agent ∙ first.agent) (same.devices ∙ first.devices) (same.limits ∙ first.limits) (same.asks ∙ first.asks)
    (ap (λ (x : WaitingRequests WaitingMessage Work). groups_of x.list.items) requests)
    (ap (λ (x : WaitingRequests WaitingMessage Work). x.next) requests)
    (keeps_again c.args.now g.sets.sets.items c.first_work.new.self.sets.sets.items n.sets.sets.items c.first_work.ensures.sets c.in_err-noted.ensures.err))

pub returns-in-Err-clause-err : goal.returns-in-Err-clause-err
returns-in-Err-clause-err c =
    let g = c.args.self.now in
    let n = c.note_asked.new.self in
    let u = c.unnote.new.self in
    let first = c.first_work.ensures.same in
    let same = c.note_asked.ensures.same in
    let last = c.unnote.ensures.same in
    let requests = same.requests ∙ first.requests in
    as_before c.args.now g u (last.agent ∙ same.agent ∙ first.agent) (last.devices ∙ same.devices ∙ first.devices) (last.limits ∙ same.limits ∙ first.limits) (last.asks ∙ same.asks ∙ first.asks)
    (ap (λ (x : WaitingRequests WaitingMessage Work). groups_of x.list.items) last.requests ∙ ap (λ (x : Requests). groups_of x) c.in-Err.ensures.err.0
    ∙ ap (λ (x : WaitingRequests WaitingMessage Work). groups_of x.list.items) requests)
    (ap (λ (x : WaitingRequests WaitingMessage Work). x.next) last.requests ∙ c.in-Err.ensures.err.1 ∙ ap (λ (x : WaitingRequests WaitingMessage Work). x.next) requests)
    (keeps_again c.args.now g.sets.sets.items c.first_work.new.self.sets.sets.items u.sets.sets.items c.first_work.ensures.sets
    (unnoted c.args.now c.args.message.digest c.in-Some.work c.first_work.new.self.sets.sets.items n.sets.sets.items u.sets.sets.items c.in_ok-noted.noted c.in_ok-noted.ensures.noted c.unnote.ensures.sets))

pub returns-then-is_full-clause-untaken : goal.returns-then-is_full-clause-untaken
returns-then-is_full-clause-untaken c untaken = stays_as_before c.args.now c.args.self.now

pub returns-in_default-clause-untaken : goal.returns-in_default-clause-untaken
returns-in_default-clause-untaken c untaken = same_before c.args.now c.args.self.now c.first_work.new.self c.first_work.ensures.same c.first_work.ensures.sets

pub returns-in-Before-clause-untaken : goal.returns-in-Before-clause-untaken
returns-in-Before-clause-untaken c untaken =
    let g = c.args.self.now in
    let n = c.note_asked.new.self in
    let first = c.first_work.ensures.same in
    let same = c.note_asked.ensures.same in
    let requests = same.requests ∙ first.requests in
    as_before c.args.now g n (same.agent ∙ first.agent) (same.devices ∙ first.devices) (same.limits ∙ first.limits) (same.asks ∙ first.asks)
    (ap (λ (x : WaitingRequests WaitingMessage Work). groups_of x.list.items) requests)
    (ap (λ (x : WaitingRequests WaitingMessage Work). x.next) requests)
    (keeps_again c.args.now g.sets.sets.items c.first_work.new.self.sets.sets.items n.sets.sets.items c.first_work.ensures.sets (inr (rw c.in-Before.is at c.in_ok-noted.ensures.noted).2.1.1))

pub returns-in-NoRoom-clause-untaken : goal.returns-in-NoRoom-clause-untaken
returns-in-NoRoom-clause-untaken c untaken =
    let g = c.args.self.now in
    let n = c.note_asked.new.self in
    let first = c.first_work.ensures.same in
    let same = c.note_asked.ensures.same in
    let requests = same.requests ∙ first.requests in
    as_before c.args.now g n (same.agent ∙ first.agent) (same.devices ∙ first.devices) (same.limits ∙ first.limits) (same.asks ∙ first.asks)
    (ap (λ (x : WaitingRequests WaitingMessage Work). groups_of x.list.items) requests)
    (ap (λ (x : WaitingRequests WaitingMessage Work). x.next) requests)
    (keeps_again c.args.now g.sets.sets.items c.first_work.new.self.sets.sets.items n.sets.sets.items c.first_work.ensures.sets (inr (rw c.in-NoRoom.is at c.in_ok-noted.ensures.noted).2.2))

pub returns-in-Ok-clause-untaken : goal.returns-in-Ok-clause-untaken
returns-in-Ok-clause-untaken c untaken = absurd untaken

pub returns-then-is_full-clause-stays : goal.returns-then-is_full-clause-stays
returns-then-is_full-clause-stays c = stays_same c.args.self.now

pub returns-in_err-work-clause-stays : goal.returns-in_err-work-clause-stays
returns-in_err-work-clause-stays c = stays_noted c.args.self.now c.first_work.new.self c.first_work.ensures.same

pub returns-in_default-clause-stays : goal.returns-in_default-clause-stays
returns-in_default-clause-stays c = stays_noted c.args.self.now c.first_work.new.self c.first_work.ensures.same

pub returns-in-Before-clause-stays : goal.returns-in-Before-clause-stays
returns-in-Before-clause-stays c = stays_twice c.args.self.now c.first_work.new.self c.note_asked.new.self c.first_work.ensures.same c.note_asked.ensures.same

pub returns-in-NoRoom-clause-stays : goal.returns-in-NoRoom-clause-stays
returns-in-NoRoom-clause-stays c = stays_twice c.args.self.now c.first_work.new.self c.note_asked.new.self c.first_work.ensures.same c.note_asked.ensures.same

pub returns-in-NoRoom-clause-takes : goal.returns-in-NoRoom-clause-takes
returns-in-NoRoom-clause-takes c since before datagram later digest unhandled stands =
    let g = c.args.self.now in
    let mid = c.first_work.new.self in
    let n = c.note_asked.new.self in
    let first = stands_noted c.args.now g mid c.first_work.ensures.same c.first_work.ensures.sets since before later stands in
    stands_noted c.args.now mid n c.note_asked.ensures.same (inr (rw c.in-NoRoom.is at c.in_ok-noted.ensures.noted).2.2) c.args.now before (omega arith) first

pub note_asked-requires : goal.note_asked-requires
note_asked-requires c = λ set.
    let g = c.args.self.now in
    let well = (rw c.in-Some.is at c.in_ok-work.ensures.begins) c.requires.asks.0 c.requires.asks.1 in
    (sha256 c.requires.digest.0, c.requires.digest.1.set c.requires.asks.0 c.requires.asks.1 (task_asks g.agent.tables g.devices.list.items c.requires.asks.0 c.in-Some.work well set))

pub returns-then-is_full-clause-cause : goal.returns-then-is_full-clause-cause
returns-then-is_full-clause-cause c = elim c.then-is_full.branch [
  | then-is_full-via-then-is_full w ↦ by_requests (c.is_full.ensures.0 w.if-is_full.true)
  | then-is_full-via-else-is_full+then-next_number w ↦ by_numbers (sym w.next_number.ensures ∙ w.if-next_number.true)
]

pub returns-in_default-clause-cause : goal.returns-in_default-clause-cause
returns-in_default-clause-cause c = c.in_ok-work.ensures.unknown c.in_default.is

pub returns-in-Before-clause-cause : goal.returns-in-Before-clause-cause
returns-in-Before-clause-cause c =
    let g = c.args.self.now in
    noted_before c.args.now c.args.message.digest c.in-Some.work g c.first_work.new.self.sets.sets.items c.note_asked.new.self.sets.sets.items c.first_work.ensures.sets (rw c.in-Before.is at c.in_ok-noted.ensures.noted)

pub returns-in-NoRoom-clause-cause : goal.returns-in-NoRoom-clause-cause
returns-in-NoRoom-clause-cause c =
    let g = c.args.self.now in
    noted_full c.args.now c.args.message.digest c.in-Some.work g c.first_work.new.self.sets.sets.items c.note_asked.new.self.sets.sets.items c.first_work.ensures.sets (AsksIn c.args.message) (rw c.in-NoRoom.is at c.in_ok-noted.ensures.noted)

pub returns-in_err-noted-clause-stays : goal.returns-in_err-noted-clause-stays
returns-in_err-noted-clause-stays c = stays_twice c.args.self.now c.first_work.new.self c.note_asked.new.self c.first_work.ensures.same c.note_asked.ensures.same

pub returns-in-Ok-clause-stays : goal.returns-in-Ok-clause-stays
returns-in-Ok-clause-stays c =
    let g = c.args.self.now in
    let n = c.note_asked.new.self in
    let new : Gate = record n { requests = c.begin.new.self } in
    stays_on g n new (stays_twice g c.first_work.new.self n c.first_work.ensures.same c.note_asked.ensures.same)
    (stays_requests n new (agent_same n.agent n.agent refl) refl refl refl (bounded_begun n.limits n.requests c.begin.new.self c.begin.ensures.most c.begin.ensures.most_messages n.requests.next c.args.message c.in-Some.work
    (subst (λ (rs : WaitingRequests WaitingMessage Work). length rs.list.items < rs.most) (sym (c.note_asked.ensures.same.requests ∙ c.first_work.ensures.same.requests))
    (below (length g.requests.list.items) g.requests.most (λ le. false≢true (c.if-is_full.ensures.1 le)))) c.in-Ok.ensures.ok (new_fresh c.args.now c.in-Some.work (rw c.in-Some.is at c.in_ok-work.ensures.fresh))
    (λ full. false≢true (c.if-is_share_full.ensures.1 (subst (λ (l : GateLimits). IsShareFull l.waiting_per_device (groups_of c.first_work.new.self.requests.list.items) c.in-Some.work) c.note_asked.ensures.same.limits
    (subst (λ (rs : WaitingRequests WaitingMessage Work). IsShareFull n.limits.waiting_per_device (groups_of rs.list.items) c.in-Some.work) c.note_asked.ensures.same.requests full))))))

pub returns-in-Err-clause-stays : goal.returns-in-Err-clause-stays
returns-in-Err-clause-stays c =
    let g = c.args.self.now in
    let n = c.note_asked.new.self in
    stays_on g c.first_work.new.self c.unnote.new.self (stays_noted g c.first_work.new.self c.first_work.ensures.same)
    (stays_forgotten c.first_work.new.self n c.begin.new.self c.unnote.new.self c.note_asked.ensures.same c.unnote.ensures.same (ap (λ (x : Requests). groups_of x) c.in-Err.ensures.err.0) c.in-Err.ensures.most c.in-Err.ensures.most_messages)

pub returns-then-is_share_full-clause-takes : goal.returns-then-is_share_full-clause-takes
returns-then-is_share_full-clause-takes c since before datagram later digest unhandled stands =
    stands_noted c.args.now c.args.self.now c.first_work.new.self c.first_work.ensures.same c.first_work.ensures.sets since before later stands

pub returns-then-is_share_full-clause-untaken : goal.returns-then-is_share_full-clause-untaken
returns-then-is_share_full-clause-untaken c untaken = same_before c.args.now c.args.self.now c.first_work.new.self c.first_work.ensures.same c.first_work.ensures.sets

pub returns-then-is_share_full-clause-stays : goal.returns-then-is_share_full-clause-stays
returns-then-is_share_full-clause-stays c = stays_noted c.args.self.now c.first_work.new.self c.first_work.ensures.same

pub returns-then-is_share_full-clause-cause : goal.returns-then-is_share_full-clause-cause
returns-then-is_share_full-clause-cause c =
    let g = c.args.self.now in
    let first = c.first_work.ensures.same in
    full_device c.args.now g c.requires.asks.0 c.args.message c.in-Some.work c.requires.asks.1 ((rw c.in-Some.is at c.in_ok-work.ensures.begins) c.requires.asks.0 c.requires.asks.1)
    (subst (λ (l : GateLimits). IsShareFull l.waiting_per_device (groups_of g.requests.list.items) c.in-Some.work) first.limits
    (subst (λ (rs : WaitingRequests WaitingMessage Work). IsShareFull c.first_work.new.self.limits.waiting_per_device (groups_of rs.list.items) c.in-Some.work) first.requests (c.is_share_full.ensures.0 c.if-is_share_full.true)))
