use Rattle.snmp_manager.proofs.Learned.{all_latest, taken_users}
use Rattle.snmp_manager.proofs.Pieces.{latest_mark}
use Rattle.snmp_manager.proofs.laws.taken_holds_the_latest.Goals as goal

pub returns-clause-latest : goal.returns-clause-latest
returns-clause-latest c = all_latest

pub returns-clause-marks : goal.returns-clause-marks
returns-clause-marks c = latest_mark

pub returns-clause-users : goal.returns-clause-users
returns-clause-users c = taken_users
