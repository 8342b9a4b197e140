use Rattle.snmp_responder.specs.Code.{seen_by}
use Rattle.snmp_walk.proofs.Named.{run_named}
use Rattle.snmp_walk.proofs.Runs.{run_asks_well, run_requests, run_rounds, run_stands}
use Rattle.snmp_walk.proofs.laws.one_dialogue.Goals as goal

pub returns-clause-stand : goal.returns-clause-stand
returns-clause-stand c viewer told steps first last stand run = run_stands (seen_by viewer) told steps first last stand run

pub returns-clause-inwards : goal.returns-clause-inwards
returns-clause-inwards c viewer told steps first last stand run = run_asks_well (seen_by viewer) told steps first last stand run

pub returns-clause-requests : goal.returns-clause-requests
returns-clause-requests c viewer told steps first last run = run_requests (seen_by viewer) told steps first last run

pub returns-clause-rounds : goal.returns-clause-rounds
returns-clause-rounds c viewer told steps first last run = run_rounds (seen_by viewer) told steps first last run

pub returns-clause-named : goal.returns-clause-named
returns-clause-named c viewer told steps first last named run = run_named (seen_by viewer) told steps first last named run
