use Rattle.std.proofs.Common.{take}
use Rattle.std.specs.Prelude.{map, string_bytes}
use Rattle.engine_clock.specs.Merging.{HoldsMergeOf}
use Rattle.snmpsec_output.specs.Merge.{texts_of}
use Rattle.snmpsec_output.proofs.merge.merge_text.Given as goal

abbrev pub invariant-loop-file : goal.invariant-loop-file
invariant-loop-file l = HoldsMergeOf l.moment (take l.file-index (texts_of (map (λ file. (string_bytes file.0, file.1.items)) l.files))) l.joined
