use Rattle.std.proofs.Common.{subst, sym}
use Rattle.snmp_gate.proofs.Sending.{on_ok, on_some}
use Rattle.snmp_gate.specs.History.{MayAskFor}
use Rattle.snmp_gate.specs.Work.{BulkAskStands, TaskStands, request_of_task}
use Rattle.snmp_gate.specs.declared.task.Task.{Task}
use Rattle.snmp_gate.proofs.ask.datagram_of.Goals as goal

pub returns-in_ok-datagram-in-Read : goal.returns-in_ok-datagram-in-Read
returns-in_ok-datagram-in-Read c tables q told asked stands =
    subst (λ (t : Task). MayAskFor tables c.args.device.now q told c.args.id (request_of_task q t) c.in_ok-datagram-in-Read.datagram.items) (sym c.in-Read.is)
    (c.in_ok-datagram-in-Read.ensures tables q told (subst (TaskStands tables q told) c.in-Read.is stands))

pub returns-in_ok-datagram-in-Bulk : goal.returns-in_ok-datagram-in-Bulk
returns-in_ok-datagram-in-Bulk c tables q told asked stands =
    subst (λ (t : Task). MayAskFor tables c.args.device.now q told c.args.id (request_of_task q t) c.in_ok-datagram-in-Bulk.datagram.items) (sym c.in-Bulk.is)
    (c.in_ok-datagram-in-Bulk.ensures tables q told (let known : BulkAskStands tables q told c.in-Bulk.by c.in-Bulk.dialogue = subst (TaskStands tables q told) c.in-Bulk.is stands in known.dialogue))

pub returns-in-Set : goal.returns-in-Set
returns-in-Set c =
    on_ok c.set_ask.result _ _ (λ asked some. on_some asked _ _ (λ v may tables q told is stands.
    subst (λ (t : Task). MayAskFor tables c.args.device.now q told c.args.id (request_of_task q t) v.items) (sym c.in-Set.is)
    (may tables q told is (subst (TaskStands tables q told) c.in-Set.is stands))) some)
    c.set_ask.ensures
