use Rattle.snmp_gate.proofs.Telling.{gen_err_told, no_bulk}
use Rattle.std.proofs.Common.{ℕ, subst, sym}
use Rattle.snmp_responder.specs.Code.{seen_by}
use Rattle.snmp_walk.specs.BulkAsk.{IsAskOf, repetitions_due}
use Rattle.snmp_walk.specs.BulkDialogue.{IsBulkNext}
use Rattle.gateway_laws.proofs.BulkTrueRuns.{next_same}
use Rattle.snmp_gate.proofs.Standing.{bulk_goes_tracking, bulk_stands}
use Rattle.std.specs.Prelude.{◌<◌, List, None, length}
use Rattle.std.proofs.Common.{ap, arith}
use Rattle.std.proofs.lemmas.List.{length-map}
use Rattle.snmp_msg.specs.Variables.{variables_of}
use Rattle.snmp_walk.specs.BulkColumn.{bulk_request}
use Rattle.snmp_gate.proofs.Erring.{bulk_long}
use Rattle.snmp_gate.proofs.onward.bulk_on.Goals as goal

pub returns-in-Asks-clause-stands : goal.returns-in-Asks-clause-stands
returns-in-Asks-clause-stands c tables q told viewer stands =
    let d = c.args.dialogue in
    let new = c.go_on.new.self in
    let step = c.go_on.ensures.next in
    let asks = subst (IsBulkNext (seen_by c.args.viewer.now) d new) c.in-Asks.is step in
    let chosen = asks.1.chosen in record {
      dialogue = bulk_stands tables q told c.args.viewer.now d new viewer (c.go_on.ensures.stand told.variables) (bulk_goes_tracking c.args.viewer.now told d new c.go_on.result step) (next_same (seen_by c.args.viewer.now) d new c.go_on.result step)
          c.go_on.ensures.requests stands;
      asked = record {
        ask = chosen.keeps;
        repetitions = repetitions_due d.repetitions d.max_repetitions chosen.fewest;
        few = omega (arith, asks.0.repetitions);
        columns = subst (λ (n : ℕ). IsAskOf n (repetitions_due d.repetitions d.max_repetitions chosen.fewest) new.columns.items c.in-Asks.by) (sym asks.0.non_repeaters) chosen.asks;
      };
    }

pub returns-in-Ends-clause-stands : goal.returns-in-Ends-clause-stands
returns-in-Ends-clause-stands c tables q told viewer stands =
    let d = c.args.dialogue in
    let new = c.go_on.new.self in
    let step = c.go_on.ensures.next in
    bulk_stands tables q told c.args.viewer.now d new viewer (c.go_on.ensures.stand told.variables) (bulk_goes_tracking c.args.viewer.now told d new c.go_on.result step) (next_same (seen_by c.args.viewer.now) d new c.go_on.result step)
    c.go_on.ensures.requests stands

pub returns-in-RoundsUsedUp-clause-stands : goal.returns-in-RoundsUsedUp-clause-stands
returns-in-RoundsUsedUp-clause-stands c tables q told viewer stands =
    let next = subst (IsBulkNext (seen_by c.args.viewer.now) c.args.dialogue c.go_on.new.self) c.in-RoundsUsedUp.is c.go_on.ensures.next in
    let long = bulk_long tables q told c.args.dialogue stands in
    let same = ap (λ (xs : List (List ℕ × ℕ)). length xs) c.go_on.ensures.requests in
    let within : c.in-RoundsUsedUp.number < length (variables_of q.list) = omega (arith, next.4.within, long, same, length-map c.args.dialogue.columns.items bulk_request, length-map c.go_on.new.self.columns.items bulk_request) in
    gen_err_told tables q told None c.gen_err.result c.gen_err.ensures.status (c.gen_err.ensures.index (length (variables_of q.list)) within) (no_bulk q stands.tag)
