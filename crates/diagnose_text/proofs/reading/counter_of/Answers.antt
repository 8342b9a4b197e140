use Rattle.std.proofs.Common.{rules, ◌≡◌, refl, subst}
use Rattle.std.specs.String.{string_bytes}
use Rattle.snmp_ber.specs.Oid.{dotted}
use Rattle.diagnose_text.specs.Facts.{IsCounterText}
use Rattle.diagnose_text.proofs.reading.counter_of.Goals as goal

pub returns : goal.returns
returns c =
    let same : c.deref.result.now ≡ dotted c.args.binding.now.name = search rules in
    (c.in_ok-counter.counter, c.read_unsigned.result, refl, subst (λ name. IsCounterText name (string_bytes c.in_ok-counter.counter)) same c.in_ok-counter.ensures, c.read_unsigned.ensures)
