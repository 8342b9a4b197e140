use Rattle.std.proofs.Common.{◌∙◌, [], false, inr, refl, subst}
use Rattle.std.proofs.KnownBytes.{Appends-nil}
use Rattle.snmpsec_io.specs.Transfer.{WritesFront}
use Rattle.capture_files.proofs.datagrams.write_record.Goals as goal

pub returns-in-Told-clause-err : goal.returns-in-Told-clause-err
returns-in-Told-clause-err g c = record {
  sorted = c.sort_record.result;
  text = [];
  refused = false;
  sorts = c.sort_record.ensures;
  prints = rw c.in-Told.is ((refl, refl));
  stops = rw c.in-Told.is (inr (Appends-nil _, subst (WritesFront _ _) (c.as_bytes.ensures.value ∙ c.in-Ok.ensures) c.in-Err.ensures.err));
}
