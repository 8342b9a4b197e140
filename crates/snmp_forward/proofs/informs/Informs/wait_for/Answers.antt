use Rattle.std.proofs.Common.{arith, length, refl}
use Rattle.std.proofs.lemmas.Option.{slice_get_read}
use Rattle.snmp_forward.proofs.InformKeeping.{added_given, added_there, added_waits, keeps_added, keeps_on}
use Rattle.snmp_forward.proofs.informs.Informs.wait_for.Goals as goal

pub returns-clause-ok : goal.returns-clause-ok
returns-clause-ok c =
    let old = c.args.self.now in
    let w = c.index_mut-waiting.result.now in
    let added = c.in_ok-add.ensures.added in record {
      before = w;
      at = slice_get_read old.list.items (length old.list.items) c.args.place w refl c.requires.place c.index_mut-waiting.ensures.value;
      after = c.mark_sent.new.self;
      sent = c.mark_sent.ensures;
      list = refl;
      requests = keeps_on old.requests c.add.new.self c.forget.new.requests (keeps_added old.requests c.args.token c.args.pending c.add.new.self c.requires.token added) c.forget.ensures.keeps;
      given = added_given old.requests c.args.token c.args.pending c.add.new.self c.forget.new.requests added c.forget.ensures.keeps;
      id = c.requires.id;
      waits = added_waits old.requests c.args.token c.args.pending c.add.new.self c.forget.new.requests added c.forget.ensures.keeps;
      later = λ t less. omega (arith, less, c.requires.token.new);
      there = λ differs. added_there old.requests c.args.token c.args.pending c.add.new.self c.forget.new.requests w.token added c.forget.ensures.others differs;
    }
