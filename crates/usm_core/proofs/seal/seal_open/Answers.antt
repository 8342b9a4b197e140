use Rattle.std.proofs.Common.{[], refl}
use Rattle.usm_core.specs.Writing.{sending_of}
use Rattle.usm_core.proofs.seal.seal_open.Goals as goal

pub returns : goal.returns
returns g c =
    let m = sending_of g.S.ScopedPdu.octets c.args.outgoing.now in
    let s = c.args.outgoing.now.scoped.now in
    let content = g.S.ScopedPdu.content s in
    let is = g.S.ScopedPdu.is_element s c.requires.scoped in
    let e = c.spell.ensures in
    record {
      content = content;
      is_content = is;
      only = λ x h. (c.one_element.ensures.one m.scoped m.scoped [] [] 48 48 x content h is refl).1;
      ok = e.ok;
      size = e.size;
      fault = e.fault;
      too_large = e.too_large;
    }
