use Rattle.std.proofs.Common.{◌≡◌, take, drop, ap, ◌∙◌, arith}
use Rattle.std.proofs.lemmas.Slice.{between_is}
use Rattle.capture_files.specs.Field.{field16}
use Rattle.capture_files.proofs.packet.find_in_udp.Goals as goal

pub returns : goal.returns
returns c =
    let said : c.from-length.result ≡ field16 c.args.octets.now 4 = c.from-length.ensures ∙ c.read_16.ensures in
    record {
      least = omega (arith, said, c.if-length-lt8.false);
      most = omega (arith, said, c.if-length-size.false);
      there = omega (arith, said, c.if-length-octets.false);
      from = c.read_16-2.ensures;
      to = c.read_16-3.ensures;
      is = between_is c.args.octets.now 8 c.from-length.result ∙ ap (λ n. drop 8 (take n c.args.octets.now)) said;
    }
