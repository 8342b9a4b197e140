use Rattle.std.proofs.Common.{refl}
use Rattle.tests_callers.proofs.InTime.{given_to_manager, refused_by_manager}
use Rattle.tests_callers.proofs.responses.answer.Goals as goal

pub returns-in_default-take : goal.returns-in_default-take
returns-in_default-take d = λ c p front pdu.
    given_to_manager d.args.manager.now d.take.new.self d.args.manager.now.users d.args.at d.in-Ok.octets.items d.deref.result.now _ _ _ _ d.deref.ensures.value refl d.in_default-take.ensures.takes
    (d.in-Ok.ensures.accepted c p front pdu d.args.manager.now.users d.take.new.self.clocks d.args.at d.requires.shared)

pub returns : goal.returns
returns d = λ c p front pdu.
    refused_by_manager d.args.manager.now d.take.new.self d.args.manager.now.users d.args.at d.in-Ok.octets.items d.deref.result.now _ _ _ _ d.if-is_memory.ensures d.deref.ensures.value refl d.in-Err.ensures.takes
    (d.in-Ok.ensures.accepted c p front pdu d.args.manager.now.users d.take.new.self.clocks d.args.at d.requires.shared)
