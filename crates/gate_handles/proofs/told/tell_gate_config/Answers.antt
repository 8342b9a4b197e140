use Rattle.std.proofs.lemmas.Result.{err_from_is_err_and}
use Rattle.gate_handles.proofs.Refused.{no_room}
use Rattle.gate_handles.proofs.told.tell_gate_config.Goals as goal

pub returns-in_err-copied_message : goal.returns-in_err-copied_message
returns-in_err-copied_message c =
    let p = err_from_is_err_and c.from_residual.result c.from_residual.ensures.1 in
    rw (p.1, p.2) (no_room c.args.config.now c.args.out.now _ _ _ c.in-Err.fault c.in-Ok-fault_text.text.items _ (record { cause = c.in-Err.ensures.refuses; no_memory = c.if-is_memory.ensures }) c.in-Ok-fault_text.ensures c.in_err-copied_message.ensures)
