use Rattle.std.proofs.Common.{length, refl}
use Rattle.std.proofs.lemmas.Option.{slice_get_read}
use Rattle.snmp_forward.proofs.informs.Informs.remove.Goals as goal

pub returns : goal.returns
returns c =
    let old = c.args.self.now in record {
      at = slice_get_read old.list.items (length old.list.items) c.args.place c.remove-waiting.result refl c.requires.place c.remove-waiting.ensures.value;
      list = c.remove-waiting.ensures.items;
      requests = c.forget.ensures.keeps;
      same = record { engine = refl; manager = refl; limits = refl; most = refl; next = refl };
    }
