use Rattle.std.proofs.Common.{◌≡◌, length, arith, pos, to_z, w32}
use Rattle.std.proofs.lemmas.Int.{ints}
use Rattle.snmp_message.specs.Spelling.{number}
use Rattle.snmp_message.proofs.Writes.{header_text-length}
use Rattle.snmp_message.proofs.header.header_len.Goals as goal

pub returns-clause-size : goal.returns-clause-size
returns-clause-size c =
    let h = c.args.header.now in
    let id : to_z w32 h.id ≡ pos h.id = omega (arith, ints) in
    let max_size : to_z w32 h.max_size ≡ pos h.max_size = omega (arith, ints) in
    let model : to_z w32 h.model ≡ pos h.model = omega (arith, ints) in
    let first : c.integer_len.result ≡ length (number h.id) = rw id at c.integer_len.ensures.size in
    let second : c.integer_len-2.result ≡ length (number h.max_size) = rw max_size at c.integer_len-2.ensures.size in
    let third : c.integer_len-3.result ≡ length (number h.model) = rw model at c.integer_len-3.ensures.size in
    let all = header_text-length h in
    omega arith
