use Rattle.capture_datagrams.proofs.Tellings.{first_no_port}
use Rattle.capture_datagrams.proofs.datagrams.ports_of.Goals as goal

pub returns-in_default-clause-none : goal.returns-in_default-clause-none
returns-in_default-clause-none c =
    first_no_port (λ word. word.now) c.args.words.now c.loop-word.word-index _ _ c.loop-word-test.true c.loop-word.invariant.texts c.loop-word.invariant.fit
    (λ port small same. c.in_default.not-Some port (c.port_of.ensures.all port small same))
