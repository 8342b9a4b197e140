use Rattle.tests_devices.proofs.examples.of_snmp_gate_bulk.asked.Goals as goal

pub write_bulk_ask-requires-clause-named : goal.write_bulk_ask-requires-clause-named
write_bulk_ask-requires-clause-named c = c.go_on-next.ensures.named c.in_ok-dialogue.ensures.named
