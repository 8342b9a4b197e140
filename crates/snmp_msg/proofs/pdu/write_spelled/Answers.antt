use Rattle.std.proofs.Common.{arith, FitsSigned, w32, ◌≤◌, refl, sym, subst, ap, length, List, ℕ, rules}
use Rattle.std.specs.Prelude.{map}
use Rattle.std.proofs.lemmas.Int.{ints}
use Rattle.snmp_msg.specs.Pdu.{PduText, IsSpelled, AreInRange, pdu_of, with_variables, pdu_text}
use Rattle.snmp_msg.proofs.Variables.{variables_text-is}
use Rattle.snmp_msg.proofs.Pdus.{pdu_text-longer, pdu_text-is, spelled_fits, measured_pdu}
use Rattle.snmp_msg.proofs.pdu.write_spelled.Goals as goal

pub returns-in_default-clause-too_large : goal.returns-in_default-clause-too_large
returns-in_default-clause-too_large g c = λ _.
    let p = with_variables (pdu_of c.args.front.now) (map g.B.Spelled.says c.args.bindings.now) in
    let longer = pdu_text-longer p in
    omega (arith, longer.0, longer.1, c.in_default.ensures.none)

pub returns-then-size-gt-LARGEST-clause-too_large : goal.returns-then-size-gt-LARGEST-clause-too_large
returns-then-size-gt-LARGEST-clause-too_large g c = λ _.
    let p = with_variables (pdu_of c.args.front.now) (map g.B.Spelled.says c.args.bindings.now) in
    let size = measured_pdu p c.in-Some.list_len c.pdu_len-size.result c.in-Some.ensures.some c.pdu_len-size.ensures.size in
    omega arith

pub returns-in_err-out-clause-memory : goal.returns-in_err-out-clause-memory
returns-in_err-out-clause-memory g c = λ _.
    let p = with_variables (pdu_of c.args.front.now) (map g.B.Spelled.says c.args.bindings.now) in
    let size = measured_pdu p c.in-Some.list_len c.pdu_len-size.result c.in-Some.ensures.some c.pdu_len-size.ensures.size in
    omega arith

pub returns-clause-size : goal.returns-clause-size
returns-clause-size g c =
    let p = with_variables (pdu_of c.args.front.now) (map g.B.Spelled.says c.args.bindings.now) in
    let size = measured_pdu p c.in-Some.list_len c.pdu_len-size.result c.in-Some.ensures.some c.pdu_len-size.ensures.size in
    omega (arith, ap length c.in_ok-out.ensures)

pub returns-clause-bindings : goal.returns-clause-bindings
returns-clause-bindings g c = variables_text-is (map g.B.Spelled.says c.args.bindings.now) c.in-Some.ensures.fit (omega (arith, c.in-Some.ensures.most, c.in-Some.ensures.some))

pub returns-clause-spelled : goal.returns-clause-spelled
returns-clause-spelled g c =
    let front = c.args.front.now in
    let vs = map g.B.Spelled.says c.args.bindings.now in
    let p = with_variables (pdu_of front) vs in
    let id : FitsSigned w32 front.id = search rules in
    let second : FitsSigned w32 front.second = search rules in
    let third : FitsSigned w32 front.third = search rules in
    let numbers : AreInRange p = record {
      id = (omega (arith, ints), omega (arith, ints));
      second = (omega (arith, ints), omega (arith, ints));
      third = (omega (arith, ints), omega (arith, ints));
    } in
    let is : IsSpelled p = record { tag_allowed = c.requires.tag; numbers = numbers; variables = vs; fit = c.in-Some.ensures.fit; list_is = refl } in
    let measured = measured_pdu p c.in-Some.list_len c.pdu_len-size.result c.in-Some.ensures.some c.pdu_len-size.ensures.size in
    let size : length (pdu_text p) ≤ 65507 = omega arith in
    subst (λ (z : List ℕ). PduText z p) (sym c.in_ok-out.ensures) (pdu_text-is p (spelled_fits p is size) size)
