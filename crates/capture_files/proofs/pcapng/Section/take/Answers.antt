use Rattle.std.proofs.Common.{sym, ◌∙◌}
use Rattle.capture_files.proofs.Meanings.{no_interface, no_packet}
use Rattle.capture_files.proofs.pcapng.Section.take.Goals as goal

pub returns-in-None-clause-ok : goal.returns-in-None-clause-ok
returns-in-None-clause-ok c = no_interface _ _ _ _ (sym c.block_kind.ensures ∙ c.in-Interface.is) c.in-None.ensures.none

pub returns-in-None-read_packet-clause-ok : goal.returns-in-None-read_packet-clause-ok
returns-in-None-read_packet-clause-ok c = no_packet _ _ _ _ (sym c.block_kind.ensures ∙ c.in-Packet.is) c.in-None-read_packet.ensures.none
