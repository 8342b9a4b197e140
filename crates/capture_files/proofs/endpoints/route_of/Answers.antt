use Rattle.std.proofs.Common.{refl, subst}
use Rattle.capture_files.specs.Packet.{IsNetwork}
use Rattle.capture_files.specs.declared.packet.Found.TheVariants as found
use Rattle.capture_files.specs.declared.packet.Network.TheVariants as network
use Rattle.capture_files.proofs.endpoints.route_of.Goals as goal

pub returns-in-NotIp-clause-none : goal.returns-in-NotIp-clause-none
returns-in-NotIp-clause-none c =
    let here = subst (λ link. IsNetwork link c.args.packet.now c.unframe.result) c.from.ensures c.unframe.ensures in
    (found.NotIp, (network.NotIp, subst (IsNetwork c.args.link c.args.packet.now) c.in-NotIp.is here, refl), tt)

pub returns-in-OtherLink-clause-none : goal.returns-in-OtherLink-clause-none
returns-in-OtherLink-clause-none c =
    let here = subst (λ link. IsNetwork link c.args.packet.now c.unframe.result) c.from.ensures c.unframe.ensures in
    (found.OtherLink, (network.OtherLink, subst (IsNetwork c.args.link c.args.packet.now) c.in-OtherLink.is here, refl), tt)
