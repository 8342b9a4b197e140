use Rattle.std.proofs.lemmas.Result.{IfOk-weaker}
use Rattle.capture_dumps.proofs.Blocks.{begin_follows}
use Rattle.capture_dumps.proofs.dumps.Reading.beginning.Goals as goal

pub returns : goal.returns
returns c =
    IfOk-weaker c.begin_dump.result _ _
    (λ after h. begin_follows c.args.self after (record { octets = c.in_ok-octets.octets; bases = c.all-bases.result }) c.args.octets.now h.0 h.1 c.in_ok-octets.ensures.items c.all-bases.ensures)
    c.begin_dump.ensures
