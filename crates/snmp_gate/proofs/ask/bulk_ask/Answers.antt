use Rattle.std.proofs.Common.{ℕ, List, All, [], pos, refl, subst}
use Rattle.snmp_walk.specs.BulkDialogue.{BulkAllStand}
use Rattle.snmp_walk.specs.BulkRun.{BulkAsksWell}
use Rattle.snmp_gate.specs.DeviceMessages.{IsRequest}
use Rattle.snmp_gate.specs.History.{bulk}
use Rattle.snmp_gate.specs.ReadAsks.{bulk_asked_variables, bulk_type, max_repetitions_in, non_repeaters_in}
use Rattle.snmp_gate.proofs.AskingWell.{bulk_columns_ask, type_asked}
use Rattle.snmp_gate.proofs.Standing.{from_seen, is_viewer_for, to_seen, viewer_for}
use Rattle.snmp_gate.proofs.ask.bulk_ask.Goals as goal

pub returns : goal.returns
returns c tables q told stands =
    let d = c.args.dialogue.now in
    let viewer = viewer_for tables q in
    let is = is_viewer_for tables q in
    let well = c.one_bulk_dialogue.ensures.inwards viewer told.variables [] d d (from_seen (λ (Seen : List ℕ → Type 0). BulkAllStand Seen told.variables d) tables q viewer is stands.stand) refl in
    bulk (type_asked c.args.by) stands.tag
    (bulk_columns_ask tables q told d.non_repeaters d.max_repetitions d.columns.items stands.requests_are (to_seen (λ (Seen : List ℕ → Type 0). All (BulkAsksWell Seen told.variables) d.columns.items) tables q viewer is well))
    (subst (λ (community : List ℕ). IsRequest c.in_ok-datagram.datagram.items community (bulk_type c.args.by) c.args.id (pos (non_repeaters_in c.args.by)) (pos (max_repetitions_in c.args.by)) (bulk_asked_variables d)) c.deref.ensures.value c.in_ok-datagram.ensures.ask)
