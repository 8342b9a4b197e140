use Rattle.std.proofs.Common.{◌+◌, refl}
use Rattle.capture_dumps.specs.Line.{words}
use Rattle.capture_dumps.proofs.Blocks.{pass_follows, stops_words}
use Rattle.capture_dumps.proofs.dumps.Reading.behind_words.Goals as goal

pub returns-in-Some-clause-err : goal.returns-in-Some-clause-err
returns-in-Some-clause-err c = stops_words c.args.self c.args.place (c.args.place + 1) c.in-Some.field-0 c.in-Some.is refl

pub returns-in-None-clause-ok : goal.returns-in-None-clause-ok
returns-in-None-clause-ok c = pass_follows c.args.self c.args.self words tt c.in-None.is refl c.in-None.is
