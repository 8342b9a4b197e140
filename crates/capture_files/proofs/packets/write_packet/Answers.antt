use Rattle.std.proofs.Common.{arith}
use Rattle.capture_files.proofs.RawRecords.{as_packet}
use Rattle.capture_files.proofs.packets.write_packet.Goals as goal

pub returns-in-Ok-clause-ok : goal.returns-in-Ok-clause-ok
returns-in-Ok-clause-ok g c = as_packet _ _ _ _ _ _ _ _ _ _ _ _ (omega arith) c.in-Ok.ensures.ok
