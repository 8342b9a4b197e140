use Rattle.capture_dumps.proofs.Parts.{one_octets, one_place}
use Rattle.capture_dumps.proofs.hex_laws.one_reading.Goals as goal

pub returns-clause-octets : goal.returns-clause-octets
returns-clause-octets c = one_octets

pub returns-clause-place : goal.returns-clause-place
returns-clause-place c = one_place
