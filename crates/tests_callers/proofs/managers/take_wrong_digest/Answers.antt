use Rattle.std.proofs.Common.{◌≡◌, ap, sym}
use Rattle.engine_clock.specs.Marks.{Marks, pair_at}
use Rattle.snmp_message.specs.declared.refusal.Refusal.{Refusal}
use Rattle.snmp_message.specs.declared.refusal.Refusal.TheVariants.{WrongDigest}
use Rattle.usm_core.specs.Table.{refusal_answer}
use Rattle.snmp_incoming.specs.Outcome.{Given}
use Rattle.tests_callers.proofs.managers.take_wrong_digest.Goals as goal

pub returns-in-WrongDigest : goal.returns-in-WrongDigest
returns-in-WrongDigest c = λ yes engine.
    let stays : c.take.new.self.clocks ≡ c.args.manager.now.clocks = c.in-Err.ensures.stays WrongDigest (ap (λ (r : Refusal). refusal_answer {X = Given} r) c.in-WrongDigest.is) (λ e. e) in
    ap (λ (m : Marks). pair_at m engine) (sym stays)
