use Rattle.std.proofs.Common.{rules}
use Rattle.usm_core.specs.Sealed.{sending, SendingFits}
use Rattle.usm_core.proofs.SealedSizes.{too_large_long}
use Rattle.usm_core.proofs.users.Users.seal_of.Goals as goal

pub seal_for-requires-clause-fits : goal.seal_for-requires-clause-fits
seal_for-requires-clause-fits g c = record {
  header = c.requires.header;
  boots = search rules;
  time = search rules;
  user = c.requires.user;
  salt = search rules;
  content = g.S.ScopedPdu.content c.args.scoped.now;
  scoped = g.S.ScopedPdu.is_element c.args.scoped.now c.requires.scoped;
}

pub returns-clause-short : goal.returns-clause-short
returns-clause-short g c =
    let m = sending c.args.header.now c.args.engine.now c.args.pair c.args.user.now c.args.salt (g.S.ScopedPdu.octets c.args.scoped.now) in
    let fits : SendingFits m = record {
      header = c.requires.header;
      boots = search rules;
      time = search rules;
      user = c.requires.user;
      salt = search rules;
      content = g.S.ScopedPdu.content c.args.scoped.now;
      scoped = g.S.ScopedPdu.is_element c.args.scoped.now c.requires.scoped;
    } in
    too_large_long c.args.self.now.users m (c.some_sealed.ensures c.args.self.now.users m fits) (λ text. c.sealed_size.ensures.most c.args.self.now.users m text fits) c.seal_for.result (search rules)
