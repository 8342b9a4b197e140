use Rattle.std.proofs.Common.{subst, List, ℕ}
use Rattle.snmpsec_io.specs.Transfer.{WritesFront}
use Rattle.capture_datagrams.proofs.datagrams.tell_passed.Goals as goal

pub returns-clause-err : goal.returns-clause-err
returns-clause-err g c = (
  _,
  c.in-Ok.ensures,
  subst (λ (text : List ℕ). WritesFront (g.N.Write.contents c.args.notes.now) (g.N.Write.contents c.write_whole.new.writer) text) c.as_bytes.ensures.value c.in-Err.ensures.err,
)
