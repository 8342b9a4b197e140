use Rattle.std.proofs.Common.{◌≡◌, ◌∙◌, None, ap, rules}
use Rattle.snmp_manager.specs.Views.{Held}
use Rattle.snmp_requests.specs.Outstanding.{Outstanding, none_outstanding}
use Rattle.snmp_handles.specs.Managers.{ManagerHeld}
use Rattle.snmp_handles.proofs.Helds.{held_is}
use Rattle.snmp_handles.proofs.manager.ManagerHandle.of.Goals as goal

pub returns-in-Ok-read : goal.returns-in-Ok-read
returns-in-Ok-read c =
    let wrap : Held → ManagerHeld = λ m. record { manager = m; last = None; message = None; pending = None; requests = none_outstanding } in
    let users = c.in-Ok-read.config.users.users in
    let none : Outstanding → ManagerHeld = λ r. record { manager = c.new.result; last = None; message = None; pending = None; requests = r } in
    let made : none c.new-in-Ok-read.result ≡ wrap (record { users = users; clocks = c.in-Ok.clocks }) = ap none c.new-in-Ok-read.ensures ∙ ap wrap (held_is c.new.result users c.in-Ok.clocks c.new.ensures.users c.new.ensures.clocks) in
    (users, c.in-Ok-read.config.access, c.in-Ok.clocks, c.in-Ok-read.ensures.loads, c.in-Ok.ensures.read, made)

pub returns : goal.returns
returns c = ((c.in-Ok.clocks, c.in-Ok.ensures.read), search rules)
