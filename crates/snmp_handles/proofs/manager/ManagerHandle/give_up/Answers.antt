use Rattle.std.proofs.Common.{◌≡◌, option_map, refl, subst}
use Rattle.snmp_requests.specs.Outstanding.{IsEnded, Outstanding}
use Rattle.snmp_handles.specs.Managers.{ManagerHeld}
use Rattle.snmp_handles.proofs.manager.ManagerHandle.give_up.Goals as goal

pub returns-then-give_up : goal.returns-then-give_up
returns-then-give_up c =
    let new : ManagerHeld = record { manager = c.self.inside.manager; last = c.self.inside.last; message = option_map (λ v. v.items) c.self.inside.message; pending = c.self.inside.pending; requests = c.give_up.new.self } in
    let P : ManagerHeld → Type 0 = λ h. (requests : Outstanding) × IsEnded h.requests c.args.token requests × (new ≡ record h { requests = requests }) in
    subst P c.self.view_is (c.give_up.new.self, c.if-give_up.ensures, refl)
