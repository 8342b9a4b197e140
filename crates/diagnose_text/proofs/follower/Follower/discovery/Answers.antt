use Rattle.std.proofs.Common.{◌≡◌, refl}
use Rattle.snmp_message.specs.Message.{parts}
use Rattle.diagnose_text.specs.Datagrams.{IsDiscovery, IsMessageId}
use Rattle.diagnose_text.proofs.Follows.{asks_as, followed_as, of_one}
use Rattle.diagnose_text.proofs.follower.Follower.discovery.Goals as goal

pub returns-clause-follows : goal.returns-clause-follows
returns-clause-follows c =
    let line = c.args.line in
    let id = c.in-Ok.message.header.id in
    let first = c.first.result in
    let is : IsDiscovery line first = record { captured = c.first.ensures.captured; plain = c.first.ensures.plain; what = c.first.ensures.what } in
    let with_id : IsMessageId c.args.datagram.now id = (parts c.in-Ok.message, c.in-Ok.ensures.exact, refl) in
    followed_as c.ask.result _ _ c.args.self.now c.args.self.now c.ask.new.self (refl, refl)
    (λ step h. (id, with_id, asks_as line id (λ held. held ≡ first) (IsDiscovery line) (of_one (IsDiscovery line) first is) step h)) c.ask.ensures.follows

pub unreachable-requires : goal.unreachable-requires
unreachable-requires c = c.in_default.ensures.none c.requires.parts c.requires.outer
