use Rattle.std.proofs.Common.{◌≡◌, Some, subst}
use Rattle.snmp_handles.specs.Managers.{ManagerHeld}
use Rattle.snmp_handles.proofs.manager.ManagerHandle.answer.Goals as goal

pub returns-in-Some-Some : goal.returns-in-Some-Some
returns-in-Some-Some c =
    let kept : c.args.self.now.last ≡ Some c.in-Some-Some.kept = subst (λ (h : ManagerHeld). h.last ≡ Some c.in-Some-Some.kept) c.self.view_is c.in-Some-Some.is-0 in
    let waits : c.args.self.now.pending ≡ Some c.in-Some-Some.pending = subst (λ (h : ManagerHeld). h.pending ≡ Some c.in-Some-Some.pending) c.self.view_is c.in-Some-Some.is-1 in
    (c.in-Some-Some.kept, c.in-Some-Some.pending, kept, waits, c.answer.ensures)
