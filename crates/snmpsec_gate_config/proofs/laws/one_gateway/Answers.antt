use Rattle.snmpsec_gate_config.proofs.Unique.{same_gate, same_devices, same_receivers, same_users, same_tables}
use Rattle.snmpsec_gate_config.proofs.Contexts.{own_contexts}
use Rattle.snmpsec_gate_config.proofs.Unrefused.{unrefused}
use Rattle.snmpsec_gate_config.proofs.laws.one_gateway.Goals as goal

pub returns-clause-gate : goal.returns-clause-gate
returns-clause-gate c = same_gate

pub returns-clause-devices : goal.returns-clause-devices
returns-clause-devices c = same_devices

pub returns-clause-receivers : goal.returns-clause-receivers
returns-clause-receivers c = same_receivers

pub returns-clause-users : goal.returns-clause-users
returns-clause-users c = same_users

pub returns-clause-rows : goal.returns-clause-rows
returns-clause-rows c = same_tables

pub returns-clause-own_contexts : goal.returns-clause-own_contexts
returns-clause-own_contexts c text gate devices receivers users rows s = own_contexts devices rows s.says.stands.config_rows.contexts s.sound_rows

pub returns-clause-unrefused : goal.returns-clause-unrefused
returns-clause-unrefused c text gate devices receivers users rows fault s r = unrefused text gate devices receivers users rows s fault r
