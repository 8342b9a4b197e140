use Rattle.gate_handles.proofs.gate_parts.rows_of.Goals as goal

pub returns-in-Err-clause-refuses : goal.returns-in-Err-clause-refuses
returns-in-Err-clause-refuses c = c.fault_of.ensures c.args.config.now c.in-Err.ensures.refuses
