use Rattle.std.proofs.Common.{ap, ◌∙◌, List, ℕ}
use Rattle.snmp_msg.specs.Pdu.{pdu_of}
use Rattle.snmp_gate.specs.Fits.{TaskFits, fault_of}
use Rattle.snmp_gate.specs.Messages.{question_given}
use Rattle.snmp_gate.proofs.Standing.{to_seen}
use Rattle.snmp_gate.proofs.take_device.take_open.Goals as goal

pub returns-clause-stands : goal.returns-clause-stands
returns-clause-stands c q told asked says stands =
    let client = c.args.message.now.client.items in
    c.in_ok-became.ensures.stands c.args.tables.now q told (c.viewer_of-viewer.ensures client q (ap (question_given client) c.taken-taken.ensures ∙ asked)) says stands

pub returns-clause-fits : goal.returns-clause-fits
returns-clause-fits c q asked =
    let client = c.args.message.now.client.items in
    to_seen (λ (Seen : List ℕ → Type 0). TaskFits Seen c.args.waiting.now.task.task (pdu_of c.args.answer.now) (fault_of c.in_ok-became.became)) c.args.tables.now q c.viewer_of-viewer.result
    (c.viewer_of-viewer.ensures client q (ap (question_given client) c.taken-taken.ensures ∙ asked)) c.in_ok-became.ensures.fits
