use Rattle.std.proofs.Common.{arith}
use Rattle.capture_files.proofs.format.read_record_item.Goals as goal

-- less than a record was read, which is no item
pub returns-in-Err-clause-err : goal.returns-in-Err-clause-err
returns-in-Err-clause-err g c =
    let read = c.in-Err.ensures.err in
    let most = read.2 in
    record {
      part = read.0;
      none = λ item rest r t is e. read.1 is.0 item rest is.1 e;
      most = omega (arith, most);
      consumed = read.3;
    }
