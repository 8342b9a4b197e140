use Rattle.std.proofs.Common.{◌≡◌, ℕ, List, Some, subst, ap}
use Rattle.std.specs.Int.{to_be_bytes, w64}
use Rattle.snmp_ber.specs.declared.level.Level.{Level}
use Rattle.snmp_manager.specs.Views.{Held}
use Rattle.snmp_manager.specs.declared.pending.Pending.{Pending}
use Rattle.snmp_handles.specs.Numbers.{level_of}
use Rattle.snmp_handles.specs.Managers.{ManagerHeld, IsRequestText, Waits}
use Rattle.snmp_handles.specs.Asked.{asking_of, RemembersAsking}
use Rattle.snmp_handles.specs.declared.manager.AskedOf.{AskedOf}
use Rattle.snmp_handles.proofs.manager.ManagerHandle.request.Goals as goal

pub returns-in-Ok : goal.returns-in-Ok
returns-in-Ok c =
    let asked = c.in-Some.asked in
    let salt : List ℕ = to_be_bytes w64 c.args.salt in
    let of_is : asked.of ≡ c.args.of.now = c.in-Some.ensures.1 in
    let text : List ℕ = c.in-Ok.text.items in
    let wrap : Held → ManagerHeld = λ m. record { manager = m; last = c.self.inside.last; message = Some text; pending = Some c.in-Ok.pending; requests = c.self.inside.requests } in
    let P : AskedOf → ManagerHeld → Type 0 = λ of h. (level : Level) × (t : List ℕ) × (a : Pending) × (level_of c.args.of.now.level ≡ Some level) × IsRequestText h.manager c.args.now (asking_of of) level c.args.list.now salt t
    × RemembersAsking a (asking_of of) level × Waits h t a (wrap c.request.new.manager) in
    let asks : IsRequestText c.self.inside.manager c.args.now (asking_of asked.of) asked.level c.args.list.now salt text = rw c.to_be_bytes-salt.ensures at c.in-Ok.ensures.answer.0 in
    let of_self = subst (P asked.of) c.self.view_is (asked.level, text, c.in-Ok.pending, c.in-Some.ensures.2, asks, c.in-Ok.ensures.answer.1, ap wrap c.in-Ok.ensures.same) in
    (c.in-Some.ensures.0, subst (λ of. P of c.args.self.now) of_is of_self)
