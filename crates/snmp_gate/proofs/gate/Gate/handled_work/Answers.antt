use Rattle.std.proofs.Common.{ap, inr, slice_index_or, List, ℕ, subst, ◌∙◌, sym}
use Rattle.snmp_message.specs.Scoped.{contexts_of}
use Rattle.snmp_incoming.specs.Answers.{given_of}
use Rattle.snmp_gate.specs.Said.{Said}
use Rattle.snmp_gate.specs.Devices.{IsDeviceOf, IsUnknownContext}
use Rattle.snmp_gate.specs.Messages.{question_given}
use Rattle.snmp_gate.specs.Question.{Question}
use Rattle.snmp_gate.proofs.Asked.{asked_with}
use Rattle.snmp_gate.proofs.Knowing.{no_set_known, set_onward_repeats}
use Rattle.snmp_gate.proofs.gate.Gate.handled_work.Goals as goal

pub returns-then-pdu_of-tag-clause-begins : goal.returns-then-pdu_of-tag-clause-begins
returns-then-pdu_of-tag-clause-begins c q asked =
    let g = c.args.self.now in
    let client = c.args.message.now.client.items in
    let given = ap (question_given client) c.taken-taken.ensures ∙ asked in
    let context = ap (λ (x : Question). x.context) (asked_with client (given_of c.taken-taken.result) (contexts_of c.scoped.result) q c.scoped.ensures given).1 in
    c.work_of-work.ensures.begins g.agent.tables g.devices.list.items q (λ told nothing. c.in_ok-onward.ensures.stands client q told nothing given)
    (subst (λ (name : List ℕ). IsDeviceOf g.devices.list.items name c.in-Some.device) context c.in-Some.ensures.found) c.in_ok-onward.ensures.repeats

pub returns-in-Onward-clause-begins : goal.returns-in-Onward-clause-begins
returns-in-Onward-clause-begins c q asked =
    let g = c.args.self.now in
    let client = c.args.message.now.client.items in
    let given = ap (question_given client) c.taken-taken.ensures ∙ asked in
    let context = ap (λ (x : Question). x.context) (asked_with client (given_of c.taken-taken.result) (contexts_of c.scoped.result) q c.scoped.ensures given).1 in
    let set = sym (c.pdu_of.ensures.asked client q given).tag ∙ c.if-pdu_of-tag.false ∙ c.tag.ensures.value in
    c.work_of.ensures.begins g.agent.tables g.devices.list.items q
    (λ (told : Said) nothing. (rw c.in-Onward.is at c.in_ok-onward-2.ensures.begins q asked set) told nothing)
    (subst (λ (name : List ℕ). IsDeviceOf g.devices.list.items name c.in-Some.device) context c.in-Some.ensures.found)
    (λ d. set_onward_repeats g.agent.tables q c.in-Onward.onward set (λ told nothing. (rw c.in-Onward.is at c.in_ok-onward-2.ensures.begins q asked set) told nothing) (slice_index_or g.devices.list.items c.in-Some.device d).repetitions)

pub returns-then-pdu_of-tag-clause-known : goal.returns-then-pdu_of-tag-clause-known
returns-then-pdu_of-tag-clause-known c =
    let digest = c.args.message.now.digest in
    let sets = c.args.self.now.sets.sets.items in
    c.work_of-work.ensures.known digest sets (no_set_known c.args.now digest sets c.in_ok-onward.onward c.in_ok-onward.ensures.first)

pub returns-in-Onward-clause-known : goal.returns-in-Onward-clause-known
returns-in-Onward-clause-known c =
    c.work_of.ensures.known c.args.message.now.digest c.args.self.now.sets.sets.items (rw c.in-Onward.is at c.in_ok-onward-2.ensures.known)

pub returns-in_default-clause-ends : goal.returns-in_default-clause-ends
returns-in_default-clause-ends c q asked =
    let client = c.args.message.now.client.items in
    let given = ap (question_given client) c.taken-taken.ensures ∙ asked in
    let context = ap (λ (x : Question). x.context) (asked_with client (given_of c.taken-taken.result) (contexts_of c.scoped.result) q c.scoped.ensures given).1 in
    inr (subst (IsUnknownContext c.args.self.now.devices.list.items) context c.in_default.ensures.found)

pub returns-then-pdu_of-tag-clause-ends : goal.returns-then-pdu_of-tag-clause-ends
returns-then-pdu_of-tag-clause-ends c q asked =
    let g = c.args.self.now in
    let client = c.args.message.now.client.items in
    let given = ap (question_given client) c.taken-taken.ensures ∙ asked in
    c.work_of-work.ensures.cause g.agent.engine g.agent.tables g.devices.list.items q
    (c.in_ok-onward.ensures.ends client q given (λ set. c.if-pdu_of-tag.true ((c.pdu_of.ensures.asked client q given).tag ∙ set ∙ sym c.tag.ensures.value)))

pub returns-in-Onward-clause-ends : goal.returns-in-Onward-clause-ends
returns-in-Onward-clause-ends c q asked =
    let g = c.args.self.now in
    let client = c.args.message.now.client.items in
    let given = ap (question_given client) c.taken-taken.ensures ∙ asked in
    let set = sym (c.pdu_of.ensures.asked client q given).tag ∙ c.if-pdu_of-tag.false ∙ c.tag.ensures.value in
    c.work_of.ensures.cause g.agent.engine g.agent.tables g.devices.list.items q ((rw c.in-Onward.is at c.in_ok-onward-2.ensures.ends) q asked set)
