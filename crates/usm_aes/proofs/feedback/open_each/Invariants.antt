use Rattle.usm_aes.specs.Aes.{enciphered}
use Rattle.usm_aes.proofs.InPlace.{IsOpening}
use Rattle.usm_aes.proofs.feedback.open_each.Given as goal

abbrev pub invariant-loop-j : goal.invariant-loop-j
invariant-loop-j l = IsOpening (enciphered l.schedule) l.fn.iv l.fn.text l.text l.input_block l.j
