use Rattle.std.proofs.Common.{[], ◌∷◌}
use Rattle.diagnose_text.specs.Datagrams.{seen_as}
use Rattle.diagnose_text.proofs.Writings.{seen_writes, writes_then}
use Rattle.diagnose_text.proofs.diagnoser.Diagnoser.take.Goals as goal

pub returns : goal.returns
returns c =
    let sees = c.in_ok-take.ensures in
    let w = c.args.datagram.now in
    let old = c.args.self.now in (
      sees.0,
      writes_then (seen_as c.args.line w sees.0 ∷ []) [] old (record old { follower = c.take.new.self }) _ [] [] []
          (seen_writes c.args.line w sees.0 old c.take.new.self sees.1) c.end_over.ensures,
    )
