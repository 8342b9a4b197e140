use Rattle.std.proofs.Common.{◌∙◌, drop, ap}
use Rattle.capture_dumps.specs.Dump.{begins_offset}
use Rattle.capture_dumps.proofs.DumpLines.{behind_is_drop}
use Rattle.capture_dumps.proofs.dump.begins_prefix.Goals as goal

pub returns : goal.returns
returns c = c.begins_offset.ensures ∙ (ap begins_offset (behind_is_drop c.prefix_size.result c.args.text.now) ∙ ap (λ n. begins_offset (drop n c.args.text.now)) c.prefix_size.ensures.is)
