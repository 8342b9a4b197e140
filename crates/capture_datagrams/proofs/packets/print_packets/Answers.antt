use Rattle.std.proofs.Common.{◌≡◌, ◌++◌, ◌∙◌, ap, string_bytes, rules}
use Rattle.capture_files.specs.Tally.{counts_of}
use Rattle.capture_datagrams.specs.Datagrams.{status_of}
use Rattle.capture_datagrams.proofs.packets.print_packets.Goals as goal

pub returns : goal.returns
returns g c =
    let printed = c.in_ok-printed.printed in
    let status : c.from-status.result ≡ status_of printed.passed.refused = search rules in
    record {
      passed = counts_of printed.passed;
      notes = printed.notes.items;
      line = string_bytes c.in_ok-line.line;
      come_to = c.in_ok-printed.ensures;
      is_line = c.in_ok-line.ensures;
      beside = c.in_ok-extend_from_slice.ensures.items ∙ ap (λ t. printed.notes.items ++ t) c.as_bytes.ensures.value;
      refusing = status;
    }
