use Rattle.std.proofs.Common.{subst, sym, inl, inr, arith, ℕ}
use Rattle.std.proofs.lemmas.Bool.Decides.{eqb_tells}
use Rattle.snmp_gate.specs.Asks.{Waits, id_after}
use Rattle.snmp_gate.proofs.Ids.{one_free}
use Rattle.snmp_gate.proofs.asks.free_id.Goals as goal

pub loop-ask-preserved : goal.loop-ask-preserved
loop-ask-preserved c =
    let next = c.next_id-free.ensures in
    let is = c.loop-ask.invariant.free_is in record {
      free_is = omega (arith, next, is);
      small = omega (arith, next);
      taken = λ k below. elim (eqb_tells k c.loop-ask._ask-index) [
        | inl (test, last) ↦ subst (λ (j : ℕ). Waits c.args.asks.now (id_after c.args.id j)) (sym last) (subst (Waits c.args.asks.now) is (c.is_asked.ensures.0 c.if-not-is_asked.false))
        | inr (test, other) ↦ c.loop-ask.invariant.taken k (omega arith)
      ];
    }

pub returns-clause-free : goal.returns-clause-free
returns-clause-free c = record {
  n = c.loop-ask._ask-index;
  free_is = c.loop-ask.invariant.free_is;
  is_free = one_free c.args.id c.loop-ask._ask-index c.loop-ask.free c.args.asks.now c.requires.id c.requires.few (omega (arith, c.loop-ask-test.false, c.loop-ask.auto._ask-index-end)) (omega (arith, c.loop-ask.auto._ask-index-end)) c.loop-ask.invariant.free_is c.loop-ask.invariant.taken;
  first = c.loop-ask.invariant.taken;
}
