use Rattle.std.proofs.Common.{rules, replicate}
use Rattle.usm_core.specs.Sealed.{sending, SendingFits}
use Rattle.usm_core.specs.Writing.{WritesOpen}
use Rattle.usm_core.proofs.Tables.{true_false}
use Rattle.usm_core.proofs.Sealing.{open_sealed}
use Rattle.usm_core.proofs.SealedSizes.{too_large_long}
use Rattle.usm_core.proofs.users.Users.write_plain.Goals as goal

pub returns-clause-rows : goal.returns-clause-rows
returns-clause-rows g c =
    let m = sending c.args.header.now c.args.engine.now c.args.pair c.args.user.now (replicate 8 0) (g.S.ScopedPdu.octets c.args.scoped.now) in
    let written : WritesOpen m c.seal_open.result = search rules in
    open_sealed c.args.self.now.users m (λ e. absurd (true_false m.header.privacy e c.requires.privacy)) c.requires.auth c.requires.privacy c.seal_open.result written

pub returns-clause-short : goal.returns-clause-short
returns-clause-short g c =
    let m = sending c.args.header.now c.args.engine.now c.args.pair c.args.user.now (replicate 8 0) (g.S.ScopedPdu.octets c.args.scoped.now) in
    let fits : SendingFits m = search rules in
    too_large_long c.args.self.now.users m (c.some_sealed.ensures c.args.self.now.users m fits) (λ text. c.sealed_size.ensures.most c.args.self.now.users m text fits) c.seal_open.result (returns-clause-rows g c)
