use Rattle.std.proofs.Common.{refl, subst, sym, Option}
use Rattle.std.proofs.lemmas.Result.{IfOk-weaker}
use Rattle.snmp_forward.specs.Originating.{Originates}
use Rattle.snmp_forward.specs.Standing.{SendHappens, sealing_at}
use Rattle.snmp_forward.specs.Written.{IsFirstInform, told_as}
use Rattle.snmp_forward.specs.declared.forwarder.TrapTurn.{TrapTurn}
use Rattle.snmp_forward.specs.declared.originator.Originated.{Originated}
use Rattle.snmp_forward.specs.declared.originator.Originator.{Originator}
use Rattle.snmp_forward.proofs.OriginatorSteps.{inform_goes, trap_goes}
use Rattle.snmp_forward.proofs.originator.Originator.next.Goals as goal

pub returns-in-Some-clause-goes_out : goal.returns-in-Some-clause-goes_out
returns-in-Some-clause-goes_out c = IfOk-weaker c.begin.result _ _ (λ what begins. begins c.args.now c.args.salt c.args.ask_id) c.begin.ensures.begins

pub returns-in-Some-2-clause-goes_out : goal.returns-in-Some-2-clause-goes_out
returns-in-Some-2-clause-goes_out c =
    let old = c.args.self.now in
    let new : Originator = record { forwarder = c.next_trap.new.self; informs = old.informs } in
    let by = sealing_at c.args.now c.args.salt c.args.ask_id in
    let turn = c.in-Some-2.turn in
    let trap = subst (IsFirstInform old.forwarder) c.in_default.is c.in_ok-number.ensures in
    subst (λ (o : Originated). Originates old c.args.now c.args.salt c.args.ask_id o new) (sym c.trap_of.ensures)
    (trap_goes old new c.args.now c.args.salt c.args.ask_id turn.number turn.receiver turn.written
    (c.next_trap.ensures.stays, λ before stands. subst (λ (t : Option TrapTurn). SendHappens old.forwarder before by (told_as t) new.forwarder) c.in-Some-2.is (c.in_ok-turn.ensures.happens before stands trap)) refl)

pub returns-clause-goes_out : goal.returns-clause-goes_out
returns-clause-goes_out c =
    let old = c.args.self.now in
    let new : Originator = record { forwarder = c.next_trap.new.self; informs = c.next.new.self } in
    let nothing = c.in_ok-turn.ensures.nothing c.in_default-2.is in
    subst (λ (o : Originated). Originates old c.args.now c.args.salt c.args.ask_id o new) (sym c.inform_of.ensures)
    (inform_goes old new c.args.now c.args.salt c.args.ask_id c.in_ok-sent.sent (record { idle = nothing.0; forwarder = nothing.1; sends = (c.next.ensures.stays, c.in_ok-sent.ensures.happens) }))
