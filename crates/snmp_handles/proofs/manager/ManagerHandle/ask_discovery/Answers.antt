use Rattle.std.proofs.Common.{◌≤◌, ℕ, List, [], Some, Ok, refl, subst, rules}
use Rattle.std.specs.Prelude.{pos}
use Rattle.snmp_ber.specs.declared.level.Level.TheVariants.{NoAuthNoPriv}
use Rattle.snmp_ber.specs.declared.number.TheConstants.{MAX_INTEGER32}
use Rattle.usm_core.specs.Sealed.{Seals}
use Rattle.snmp_outgoing.specs.Requests.{discovering}
use Rattle.snmp_manager.specs.Pendings.{Remembers}
use Rattle.snmp_manager.specs.declared.pending.Pending.{Pending}
use Rattle.snmp_handles.specs.Managers.{ManagerHeld}
use Rattle.snmp_handles.specs.ManyRequests.{HasRoom, WaitsToo}
use Rattle.snmp_handles.proofs.manager.ManagerHandle.ask_discovery.Goals as goal

pub returns-in-Ok-add : goal.returns-in-Ok-add
returns-in-Ok-add c =
    let text : List ℕ = c.in-Ok.text.items in
    let a : Pending = c.in-Ok.pending in
    let token : ℕ = c.in-Some.token in
    let new : ManagerHeld = record { manager = c.self.inside.manager; last = c.self.inside.last; message = Some text; pending = c.self.inside.pending; requests = c.add.new.self } in
    let P : ℕ → ManagerHeld → Type 0 = λ id h. HasRoom h.requests c.args.first token × ((t : List ℕ) × (b : Pending) × Seals h.manager.users (discovering id) (Ok t)
    × Remembers b id [] [] NoAuthNoPriv [] [] (pos id) × WaitsToo h t token b new) in
    let of_self = subst (P c.message_id.result) c.self.view_is (c.in-Some.ensures, (text, a, c.in-Ok.ensures.text, c.in-Ok.ensures.pending, (c.add.new.self, c.in-Ok-add.ensures.added, refl))) in
    let all = subst (λ id. P id c.args.self.now) c.message_id.ensures.id of_self in
    let fits : c.args.first ≤ MAX_INTEGER32 = search rules in
    (fits, all.0, all.1)
