use Rattle.snmp_manager.proofs.Written.{sealable}
use Rattle.snmp_manager.proofs.manager.Manager.request_time.Goals as goal

pub returns-in_err-of-clause-memory : goal.returns-in_err-of-clause-memory
returns-in_err-of-clause-memory c =
    let is = c.nothing_of-body.ensures in
    rw (← c.self.view_is) (λ out. sealable _ _ _ (rw (is.engine, is.name, is.tag, is.id, is.second, is.third, is.bindings, c.as_slice.ensures.value, c.as_slice-2.ensures.value, c.no_pair.ensures) at c.in_ok-text.ensures.rows))
