use Rattle.std.proofs.Common.{◌≡◌, ◌≤◌, ◌+◌, ◌-◌, ◌*◌, ◌∙◌, ℕ, [], drop, get_or, length, Some, None, arith, refl, sym, ap}
use Rattle.std.specs.Prelude.{option_map}
use Rattle.std.proofs.lemmas.Bool.{ne_eqb}
use Rattle.std.proofs.lemmas.List.{drop_all}
use Rattle.snmp_ber.specs.Oid.{subidentifiers_in}
use Rattle.snmp_ber.proofs.Oids.{too_large, counted, counted_first, none_counted, all_counted, too_many_counted, last_is, last_counted, none_is, group_is}
use Rattle.snmp_ber.proofs.identifier.count_subidentifiers.Goals.{then-octet-lt128+else-count-eq127, else-octet-lt128+else-so_far-eq0}
use Rattle.snmp_ber.proofs.identifier.count_subidentifiers.Goals as goal

pub loop-octet-init : goal.loop-octet-init
loop-octet-init c = (counted_first (subidentifiers_in 0 c.args.content.now), omega arith)

pub returns-then-so_far-gt33554431 : goal.returns-then-so_far-gt33554431
returns-then-so_far-gt33554431 c =
    let rest = drop c.loop-octet.octet-index c.args.content.now in
    none_counted c.loop-octet.count _ (subidentifiers_in 0 c.args.content.now) (too_large c.loop-octet.so_far rest c.if-so_far-gt33554431.true) c.loop-octet.invariant.0

pub returns-then-count-eq127 : goal.returns-then-count-eq127
returns-then-count-eq127 c =
    let w = c.args.content.now in
    let i = c.loop-octet.octet-index in
    let octet = get_or w i 0 in
    let full : counted 127 (subidentifiers_in c.loop-octet.so_far (drop i w)) ≡ option_map length (subidentifiers_in 0 w) = ap (λ (k : ℕ). counted k (subidentifiers_in c.loop-octet.so_far (drop i w))) (sym c.if-count-eq127.true) ∙ c.loop-octet.invariant.0 in
    too_many_counted (128 * c.loop-octet.so_far + octet) _ (subidentifiers_in 0 w) (last_is w i 127 c.loop-octet.so_far octet _ (omega arith) refl full c.if-octet-lt128.true (omega arith))

pub returns-then-so_far-eq0 : goal.returns-then-so_far-eq0
returns-then-so_far-eq0 c =
    let w = c.args.content.now in
    let i = c.loop-octet.octet-index in
    none_counted c.loop-octet.count _ (subidentifiers_in 0 w) (none_is w i c.loop-octet.count c.loop-octet.so_far (get_or w i 0) _ (omega arith) refl c.loop-octet.invariant.0 c.if-octet-lt128.false (omega arith)) c.loop-octet.invariant.0

pub loop-octet-preserved : goal.loop-octet-preserved
loop-octet-preserved c =
    let w = c.args.content.now in
    let i = c.loop-octet.octet-index in
    let octet = get_or w i 0 in
    let total = option_map length (subidentifiers_in 0 w) in
    elim c.if-octet-lt128.branch [
      | then-octet-lt128+else-count-eq127 p ↦
          let next = last_counted w i c.loop-octet.count c.loop-octet.so_far octet total (omega arith) refl c.loop-octet.invariant.0 p.if-octet-lt128.true (omega arith) in
          let short : c.if-octet-lt128.count ≤ 127 = omega (arith, p.count-is, p.if-count-eq127.false, c.loop-octet.invariant.1) in
          (rw (p.count-is, p.so_far-is) next, short)
      | else-octet-lt128+else-so_far-eq0 p ↦
          let next = group_is w i c.loop-octet.count c.loop-octet.so_far octet total (omega arith) refl c.loop-octet.invariant.0 p.if-octet-lt128.false (λ e. p.if-so_far-eq0.false (omega arith)) in
          let same : c.if-octet-lt128.so_far ≡ 128 * c.loop-octet.so_far + (octet - 128) = omega arith in
          (rw (p.count-is, same) next, omega (arith, p.count-is, c.loop-octet.invariant.1))
    ]

pub returns-then-so_far-gt0 : goal.returns-then-so_far-gt0
returns-then-so_far-gt0 c =
    let rest = drop c.loop-octet.octet-index c.args.content.now in
    let none : rest ≡ [] = drop_all c.loop-octet.octet-index c.args.content.now (omega arith) in
    let some = ne_eqb c.loop-octet.so_far 0 (omega arith) in
    let read : subidentifiers_in c.loop-octet.so_far rest ≡ None = rw (none, some) refl in
    none_counted c.loop-octet.count _ (subidentifiers_in 0 c.args.content.now) read c.loop-octet.invariant.0

pub returns : goal.returns
returns c =
    let rest = drop c.loop-octet.octet-index c.args.content.now in
    let none : rest ≡ [] = drop_all c.loop-octet.octet-index c.args.content.now (omega arith) in
    let zero_is : c.loop-octet.so_far ≡ 0 = omega arith in
    let read : subidentifiers_in c.loop-octet.so_far rest ≡ Some [] = rw (none, zero_is) refl in
    all_counted c.loop-octet.count _ (subidentifiers_in 0 c.args.content.now) read c.loop-octet.invariant.1 c.loop-octet.invariant.0
