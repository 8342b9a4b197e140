use Rattle.snmp_gate.proofs.Telling.{gen_err_told, no_read}
use Rattle.snmp_gate.proofs.Standing.{goes_tracking, read_stands}
use Rattle.std.specs.Prelude.{◌<◌, ℕ, List, None, length}
use Rattle.std.proofs.Common.{ap, arith, subst}
use Rattle.std.proofs.lemmas.List.{length-map}
use Rattle.snmp_msg.specs.Variables.{variables_of}
use Rattle.snmp_walk.specs.Dialogue.{IsNext, request}
use Rattle.snmp_walk.specs.declared.operation.ReadOperation.{ReadOperation}
use Rattle.snmp_gate.proofs.Erring.{read_long}
use Rattle.snmp_gate.proofs.onward.read_on.Goals as goal

pub returns-in-Asks-clause-stands : goal.returns-in-Asks-clause-stands
returns-in-Asks-clause-stands c tables q told viewer stands =
    read_stands tables q told c.args.viewer.now c.args.operation c.args.dialogue c.go_on.new.self viewer (c.go_on.ensures.stand told.variables)
    (goes_tracking c.args.viewer.now told c.args.dialogue c.go_on.new.self c.go_on.ensures.go_on) c.go_on.ensures.requests stands

pub returns-in-Ends-clause-stands : goal.returns-in-Ends-clause-stands
returns-in-Ends-clause-stands c tables q told viewer stands = (
  c.args.operation,
  read_stands tables q told c.args.viewer.now c.args.operation c.args.dialogue c.go_on.new.self viewer (c.go_on.ensures.stand told.variables)
      (goes_tracking c.args.viewer.now told c.args.dialogue c.go_on.new.self c.go_on.ensures.go_on) c.go_on.ensures.requests stands,
)

pub returns-in-RoundsUsedUp-clause-stands : goal.returns-in-RoundsUsedUp-clause-stands
returns-in-RoundsUsedUp-clause-stands c tables q told viewer stands =
    let next = subst (IsNext c.args.dialogue c.go_on.new.self) c.in-RoundsUsedUp.is c.go_on.ensures.next in
    let long = read_long tables q told c.args.operation c.args.dialogue stands in
    let same = ap (λ (xs : List (ReadOperation × List ℕ)). length xs) c.go_on.ensures.requests in
    let within : c.in-RoundsUsedUp.number < length (variables_of q.list) = omega (arith, next.2.within, long, same, length-map c.args.dialogue.columns.items request, length-map c.go_on.new.self.columns.items request) in
    gen_err_told tables q told None c.gen_err.result c.gen_err.ensures.status (c.gen_err.ensures.index (length (variables_of q.list)) within) (no_read q c.args.operation stands.tag)
