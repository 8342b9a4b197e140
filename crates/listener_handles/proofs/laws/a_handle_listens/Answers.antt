use Rattle.std.proofs.Common.{ap}
use Rattle.snmp_listener.specs.Listening.{ListenerState}
use Rattle.listener_handles.proofs.Handling.{handled}
use Rattle.listener_handles.proofs.laws.a_handle_listens.Goals as goal

pub returns : goal.returns
returns c settings first calls of run =
    let known = handled settings.started first calls run in (
      known.events,
      known.are,
      known.run,
      ap (λ (l : ListenerState). l.told) of.made_of.is_new,
      ap (λ (l : ListenerState). l.agent.started) of.made_of.is_new,
    )
