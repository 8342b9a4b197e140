use Rattle.std.proofs.Common.{ℕ, List, All, [], refl, subst}
use Rattle.snmp_walk.specs.Dialogue.{AllStand}
use Rattle.snmp_walk.specs.Run.{AsksWell}
use Rattle.snmp_gate.specs.DeviceMessages.{IsAsk}
use Rattle.snmp_gate.specs.History.{reads}
use Rattle.snmp_gate.specs.ReadAsks.{asked_variables, read_type}
use Rattle.snmp_gate.proofs.AskingWell.{columns_ask}
use Rattle.snmp_gate.proofs.Standing.{from_seen, is_viewer_for, to_seen, viewer_for}
use Rattle.snmp_gate.proofs.ask.read_ask.Goals as goal

pub returns : goal.returns
returns c tables q told stands =
    let d = c.args.dialogue.now in
    let viewer = viewer_for tables q in
    let is = is_viewer_for tables q in
    let well = c.one_dialogue.ensures.inwards viewer told.variables [] d d (from_seen (λ (Seen : List ℕ → Type 0). AllStand Seen told.variables d) tables q viewer is stands.stand) refl in
    reads c.args.operation stands.tag
    (columns_ask tables q told c.args.operation d.columns.items stands.requests_are (to_seen (λ (Seen : List ℕ → Type 0). All (AsksWell Seen told.variables) d.columns.items) tables q viewer is well)) refl
    (subst (λ (community : List ℕ). IsAsk c.in_ok-datagram.datagram.items community (read_type c.args.operation) c.args.id (asked_variables d)) c.deref.ensures.value c.in_ok-datagram.ensures.ask)
