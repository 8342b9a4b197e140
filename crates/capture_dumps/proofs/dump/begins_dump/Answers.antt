use Rattle.std.proofs.Common.{◌∙◌, drop, ap}
use Rattle.capture_dumps.specs.Dump.{begins_prefix}
use Rattle.capture_dumps.proofs.DumpLines.{behind_is_drop}
use Rattle.capture_dumps.proofs.dump.begins_dump.Goals as goal

pub returns : goal.returns
returns c = c.begins_prefix.ensures ∙ (ap begins_prefix (behind_is_drop c.blanks.result c.args.text.now) ∙ ap (λ n. begins_prefix (drop n c.args.text.now)) c.blanks.ensures.is)
