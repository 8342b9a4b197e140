use Rattle.tests_devices.proofs.examples.of_snmp_gate_reads.asked.Goals as goal

pub write_read_ask-requires-clause-named : goal.write_read_ask-requires-clause-named
write_read_ask-requires-clause-named c = c.go_on-next.ensures.named c.in_ok-dialogue.ensures.named
