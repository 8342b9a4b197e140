use Rattle.std.proofs.Common.{◌≤◌, ℕ, List, [], Some, Ok, refl, subst, rules}
use Rattle.snmp_ber.specs.declared.level.Level.TheVariants.{NoAuthNoPriv}
use Rattle.std.specs.Prelude.{pos}
use Rattle.snmp_ber.specs.declared.number.TheConstants.{MAX_INTEGER32}
use Rattle.usm_core.specs.Sealed.{Seals}
use Rattle.snmp_outgoing.specs.Requests.{discovering}
use Rattle.snmp_manager.specs.Pendings.{Remembers}
use Rattle.snmp_manager.specs.declared.pending.Pending.{Pending}
use Rattle.snmp_handles.specs.Managers.{ManagerHeld, Waits}
use Rattle.snmp_handles.proofs.manager.ManagerHandle.discover.Goals as goal

pub returns-in-Ok : goal.returns-in-Ok
returns-in-Ok c =
    let text : List ℕ = c.in-Ok.text.items in
    let new : ManagerHeld = record { manager = c.self.inside.manager; last = c.self.inside.last; message = Some text; pending = Some c.in-Ok.pending; requests = c.self.inside.requests } in
    let P : ManagerHeld → Type 0 = λ h. (t : List ℕ) × (a : Pending) × Seals h.manager.users (discovering c.args.id) (Ok t) × Remembers a c.args.id [] [] NoAuthNoPriv [] [] (pos c.args.id) × Waits h t a new in
    let in_range : c.args.id ≤ MAX_INTEGER32 = search rules in
    (in_range, subst P c.self.view_is (text, c.in-Ok.pending, c.in-Ok.ensures.text, c.in-Ok.ensures.pending, refl))
