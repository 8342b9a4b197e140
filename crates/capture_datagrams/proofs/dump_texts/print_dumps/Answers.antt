use Rattle.std.proofs.Common.{◌++◌, List, ℕ, ap, ◌∙◌, subst, ◌+◌}
use Rattle.capture_datagrams.proofs.Dumps.{next_printed}
use Rattle.capture_datagrams.proofs.dump_texts.print_dumps.Goals as goal

pub loop-place-preserved : goal.loop-place-preserved
loop-place-preserved g c =
    let inv = c.loop-place.invariant in
    let said = c.in_ok-printed.ensures.ok in
    record {
      prints = next_printed (λ octets. octets.items) (g.P.Printer.prints c.args.printer.now) c.args.moment c.args.dumps.now c.loop-place.place c.index-dumps-place.result c.loop-place.text.items c.in_ok-printed.printed.text.items c.extend_from_slice.new.self.items c.loop-place.refused c.in_ok-printed.printed.refused c.either-refused.result c.loop-place-test.true c.index-dumps-place.is inv.prints
          (inv.keeps _ _ _ _ _ (subst (λ (o : List ℕ). g.P.Printer.prints c.loop-place.printer (c.loop-place.place + 1) c.args.moment o c.in_ok-printed.printed.text.items c.in_ok-printed.printed.refused) c.deref.ensures.value said))
          (c.in_ok-extend_from_slice.ensures.items ∙ ap (λ (t : List ℕ). c.loop-place.text.items ++ t) c.deref-in-loop-place.ensures.value)
          c.either-refused.ensures;
      keeps = λ n moment datagram text refused p. inv.keeps n moment datagram text refused (c.in_ok-printed.ensures.keeps n moment datagram text refused p);
    }
