use Rattle.std.proofs.Common.{refl, subst, ℕ, Option}
use Rattle.snmp_forward.specs.InformRuns.{AddsIfRoom}
use Rattle.snmp_forward.specs.Standing.{sealing_at}
use Rattle.snmp_forward.proofs.originator.Originator.begin.Goals as goal

pub returns-in_default-clause-begins : goal.returns-in_default-clause-begins
returns-in_default-clause-begins c = λ now salt ask_id.
    let full = subst (λ (added : Option ℕ). AddsIfRoom c.args.self.now.informs c.args.inform added c.add_if_room.new.self) c.in_default.is c.in_ok-added.ensures.adds in (
      c.args.inform,
      record { turn = (c.pass.ensures.stays, λ before stands. c.pass.ensures.happens before (sealing_at now salt ask_id) c.args.number c.args.inform stands c.requires); to = refl },
      full.0,
      full.1,
    )

pub returns-clause-begins : goal.returns-clause-begins
returns-clause-begins c = λ now salt ask_id. (
  c.args.inform,
  record { turn = (c.pass.ensures.stays, λ before stands. c.pass.ensures.happens before (sealing_at now salt ask_id) c.args.number c.args.inform stands c.requires); to = refl },
  subst (λ (added : Option ℕ). AddsIfRoom c.args.self.now.informs c.args.inform added c.add_if_room.new.self) c.in-Some.is c.in_ok-added.ensures.adds,
)
