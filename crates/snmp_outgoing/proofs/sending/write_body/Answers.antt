use Rattle.snmp_outgoing.proofs.sending.write_body.Goals as goal

pub returns-clause-rows : goal.returns-clause-rows
returns-clause-rows c = rw c.front.ensures.scoped at c.write_body_of.ensures.rows

pub returns-clause-memory : goal.returns-clause-memory
returns-clause-memory c is = rw c.front.ensures.scoped at (c.write_body_of.ensures.memory is)

pub returns-clause-spelled : goal.returns-clause-spelled
returns-clause-spelled c = rw c.front.ensures.pdu at c.write_body_of.ensures.spelled

pub returns-clause-short : goal.returns-clause-short
returns-clause-short c is = rw c.front.ensures.scoped at (c.write_body_of.ensures.short is)
