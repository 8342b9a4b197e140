use Rattle.snmp_manager.proofs.manager.Manager.absorb.Goals as goal

pub returns-clause-held : goal.returns-clause-held
returns-clause-held c = rw (← c.self.view_is) (λ h. c.absorb.ensures.held h)
