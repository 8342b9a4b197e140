use Rattle.std.proofs.Common.{◌≡◌, ◌∙◌, ℕ, List, Some, Err, option_map, subst, ap}
use Rattle.std.specs.Int.{to_be_bytes, w64}
use Rattle.snmp_ber.specs.declared.level.Level.{Level}
use Rattle.snmp_manager.specs.Views.{Held}
use Rattle.snmp_manager.specs.declared.pending.Pending.{Pending}
use Rattle.snmp_handles.specs.Numbers.{level_of}
use Rattle.snmp_handles.specs.Managers.{Asking, IsRequestText, ManagerHeld}
use Rattle.snmp_handles.specs.Asked.{RemembersAsking, asking_of}
use Rattle.snmp_handles.specs.ManyRequests.{HasRoom, WaitsToo, WritesAsk, with_id}
use Rattle.snmp_handles.proofs.ManyAsks.{refuses}
use Rattle.snmp_handles.proofs.manager.ManagerHandle.ask.Goals as goal

pub returns-in-Ok-add : goal.returns-in-Ok-add
returns-in-Ok-add c =
    let salt : List ℕ = to_be_bytes w64 c.args.salt in
    let ask : Asking = asking_of c.args.of.now in
    let token : ℕ = c.in-Some.token in
    let text : List ℕ = c.in-Ok.text.items in
    let wrap : Held → ManagerHeld = λ m. record { manager = m; last = c.self.inside.last; message = Some text; pending = c.self.inside.pending; requests = c.add.new.self } in
    let P : ManagerHeld → Type 0 = λ h. HasRoom h.requests ask.id token × ((level : Level) × (t : List ℕ) × (a : Pending) × (level_of ask.level ≡ Some level)
    × IsRequestText h.manager c.args.now (with_id ask token) level c.args.list.now salt t × RemembersAsking a (with_id ask token) level × WaitsToo h t token a (wrap c.write_ask.new.manager)) in
    let written = rw c.to_be_bytes-salt.ensures at c.in-Ok.ensures.answer in
    let all = subst P c.self.view_is (c.in-Some.ensures, (written.0, text, c.in-Ok.pending, written.1, written.2.0, written.2.1, (c.add.new.self, c.in-Ok-add.ensures.added, ap wrap c.in-Ok.ensures.same))) in
    (c.if-not-is_in_range.ensures, all.0, all.1)

pub returns-in-Err : goal.returns-in-Err
returns-in-Err c =
    let salt : List ℕ = to_be_bytes w64 c.args.salt in
    let ask : Asking = asking_of c.args.of.now in
    let wrap : Held → ManagerHeld = λ m. record { manager = m; last = c.self.inside.last; message = option_map (λ v. v.items) c.self.inside.message; pending = c.self.inside.pending; requests = c.self.inside.requests } in
    let P : ManagerHeld → Type 0 = λ h. HasRoom h.requests ask.id c.in-Some.token × WritesAsk h.manager c.args.now ask c.in-Some.token c.args.list.now salt (Err c.in-Err.fault) in
    let written : WritesAsk c.self.inside.manager c.args.now ask c.in-Some.token c.args.list.now salt (Err c.in-Err.fault) =
    subst (λ s. WritesAsk c.self.inside.manager c.args.now ask c.in-Some.token c.args.list.now s (Err c.in-Err.fault)) c.to_be_bytes-salt.ensures c.in-Err.ensures.answer in
    let all = subst P c.self.view_is (c.in-Some.ensures, written) in (
      refuses c.args.self.now c.args.now ask c.in-Some.token c.args.list.now salt c.in-Err.fault c.if-not-is_in_range.ensures all.0 all.1,
      ap wrap c.in-Err.ensures.same ∙ c.self.view_is,
    )
