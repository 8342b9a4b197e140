use Rattle.std.proofs.Common.{◌≡◌, option_map, refl, subst, ap}
use Rattle.engine_clock.specs.Marks.{Marks, IsMarkJoinOf}
use Rattle.engine_clock.specs.Saved.{Saves}
use Rattle.snmp_manager.specs.Views.{Held}
use Rattle.snmp_handles.specs.Managers.{ManagerHeld}
use Rattle.snmp_handles.proofs.Helds.{held_is}
use Rattle.snmp_handles.proofs.manager.ManagerHandle.absorb.Goals as goal

pub returns-in-Ok-absorb : goal.returns-in-Ok-absorb
returns-in-Ok-absorb c =
    let inside : ManagerHeld = record { manager = c.self.inside.manager; last = c.self.inside.last; message = option_map (λ v. v.items) c.self.inside.message; pending = c.self.inside.pending; requests = c.self.inside.requests } in
    let wrap : Held → ManagerHeld = λ m. record { manager = m; last = c.self.inside.last; message = option_map (λ v. v.items) c.self.inside.message; pending = c.self.inside.pending; requests = c.self.inside.requests } in
    let joined : Marks = c.absorb.new.self.clocks in
    let made : wrap c.absorb.new.self ≡ wrap (record { users = c.self.inside.manager.users; clocks = joined }) = ap wrap (held_is c.absorb.new.self c.self.inside.manager.users joined c.absorb.ensures.users refl) in
    let P : ManagerHeld → Type 0 = λ h. (clocks : Marks) × (j : Marks) × Saves c.args.now c.args.text.now clocks × IsMarkJoinOf h.manager.clocks clocks j × (wrap c.absorb.new.self ≡ record h { manager = record { users = h.manager.users; clocks = j } }) in
    subst P c.self.view_is (c.in-Ok.clocks, joined, c.in-Ok.ensures.read, c.in-Ok-absorb.ensures.marks, made)
