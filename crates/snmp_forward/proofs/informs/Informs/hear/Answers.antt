use Rattle.std.proofs.Common.{inl, inr, length, refl, ◌≡◌}
use Rattle.std.proofs.lemmas.Option.{slice_get_read}
use Rattle.snmp_requests.specs.declared.device_request.NextStep.{NextStep}
use Rattle.snmp_requests.specs.declared.device_request.NextStep.TheVariants.{Wait, Send, Answered, Refused}
use Rattle.snmp_forward.specs.InformStanding.{IsGoingOn}
use Rattle.snmp_forward.proofs.InformSteps.{hears_off, hears_on}
use Rattle.snmp_forward.proofs.informs.Informs.hear.Goals as goal

pub returns-in-Wait-clause-happens : goal.returns-in-Wait-clause-happens
returns-in-Wait-clause-happens c = λ before given w stands of at answer.
    let old = c.args.self.now in
    let i = c.index.result.now in
    let x = c.index_mut.result.now in
    let at_i = slice_get_read old.list.items (length old.list.items) c.args.place i refl c.requires.place c.index.ensures in
    let at_x = slice_get_read old.list.items (length old.list.items) c.args.place x refl c.requires.place c.index_mut.ensures.value in
    hears_on old _ before c.args.place i x w c.hear-step.new.self given c.args.answered.heard c.args.holds_clock c.args.engine.now c.hear-step.result Wait c.hear-step.ensures c.in-Wait.is of at_i at_x at answer c.settle.ensures.keeps
    (record { engine = refl; manager = refl; limits = refl; most = refl; next = refl }) stands (IsGoingOn) (inl refl) refl refl (λ wait. c.settle.ensures.waits c.in-Wait.is)

pub returns-in-Send-clause-happens : goal.returns-in-Send-clause-happens
returns-in-Send-clause-happens c = λ before given w stands of at answer.
    let old = c.args.self.now in
    let i = c.index.result.now in
    let x = c.index_mut.result.now in
    let at_i = slice_get_read old.list.items (length old.list.items) c.args.place i refl c.requires.place c.index.ensures in
    let at_x = slice_get_read old.list.items (length old.list.items) c.args.place x refl c.requires.place c.index_mut.ensures.value in
    hears_on old _ before c.args.place i x w c.hear-step.new.self given c.args.answered.heard c.args.holds_clock c.args.engine.now c.hear-step.result (Send c.in-Send.field-0) c.hear-step.ensures c.in-Send.is of at_i at_x at answer c.settle.ensures.keeps
    (record { engine = refl; manager = refl; limits = refl; most = refl; next = refl }) stands (IsGoingOn) (inr (c.in-Send.field-0, refl)) refl refl (λ wait. cc wait)

pub returns-in-Answered-clause-happens : goal.returns-in-Answered-clause-happens
returns-in-Answered-clause-happens c = λ before given w stands of at answer.
    let old = c.args.self.now in
    let i = c.index.result.now in
    let x = c.index_mut.result.now in
    let at_i = slice_get_read old.list.items (length old.list.items) c.args.place i refl c.requires.place c.index.ensures in
    let at_x = slice_get_read old.list.items (length old.list.items) c.args.place x refl c.requires.place c.index_mut.ensures.value in
    hears_off old _ before c.args.place i x w c.hear-step.new.self given c.args.answered.heard c.args.holds_clock c.args.engine.now c.hear-step.result Answered c.hear-step.ensures c.in-Answered.is of at_i at_x at answer c.settle.ensures.keeps
    (record { engine = refl; manager = refl; limits = refl; most = refl; next = refl }) stands (λ (n : NextStep). n ≡ Answered) refl c.remove.ensures.items refl

pub returns-in-Refused-clause-happens : goal.returns-in-Refused-clause-happens
returns-in-Refused-clause-happens c = λ before given w stands of at answer.
    let old = c.args.self.now in
    let i = c.index.result.now in
    let x = c.index_mut.result.now in
    let at_i = slice_get_read old.list.items (length old.list.items) c.args.place i refl c.requires.place c.index.ensures in
    let at_x = slice_get_read old.list.items (length old.list.items) c.args.place x refl c.requires.place c.index_mut.ensures.value in
    hears_off old _ before c.args.place i x w c.hear-step.new.self given c.args.answered.heard c.args.holds_clock c.args.engine.now c.hear-step.result (Refused c.in-Refused.counter) c.hear-step.ensures c.in-Refused.is of at_i at_x at answer c.settle.ensures.keeps
    (record { engine = refl; manager = refl; limits = refl; most = refl; next = refl }) stands (λ (n : NextStep). n ≡ Refused c.in-Refused.counter) refl c.remove-in-Refused.ensures.items refl
