use Rattle.std.proofs.Common.{◌≤◌, ℕ, List, length, arith, refl, sym, subst, ap, rules, FitsSigned, w32}
use Rattle.std.specs.Prelude.{map}
use Rattle.std.proofs.lemmas.Int.{ints}
use Rattle.snmp_msg.specs.Pdu.{IsSpelled, AreInRange, pdu_text}
use Rattle.snmp_msg.proofs.Variables.{variables_text-is}
use Rattle.snmp_msg.proofs.Pdus.{pdu_text-longer, pdu_text-is, spelled_fits}
use Rattle.snmp_community.specs.Layout.{IsMessage}
use Rattle.snmp_community.specs.Spelling.{community_text, written}
use Rattle.snmp_community.specs.Fronts.{pdu_after}
use Rattle.snmp_community.proofs.Writes.{community_text-longer, community_text-is, measured_bindings}
use Rattle.snmp_community.proofs.bindings.write_community_bindings.Goals as goal

pub returns-in_default-clause-too_large : goal.returns-in_default-clause-too_large
returns-in_default-clause-too_large g c = λ _.
    let f = c.args.front.now in
    let p = pdu_after f (map g.B.Spelled.says c.args.bindings.now) in
    let longer = pdu_text-longer p in
    let whole = community_text-longer f.version f.community.now (pdu_text p) in
    omega (arith, longer.0, longer.1, whole.1, c.in_default.ensures.none)

pub returns-then-front-gt-LARGEST-clause-too_large : goal.returns-then-front-gt-LARGEST-clause-too_large
returns-then-front-gt-LARGEST-clause-too_large g c = λ _.
    let f = c.args.front.now in
    let whole = community_text-longer f.version f.community.now (pdu_text (pdu_after f (map g.B.Spelled.says c.args.bindings.now))) in
    omega (arith, whole.0)

pub returns-then-size-gt-LARGEST-clause-too_large : goal.returns-then-size-gt-LARGEST-clause-too_large
returns-then-size-gt-LARGEST-clause-too_large g c = λ _.
    let f = c.args.front.now in
    let vs = map g.B.Spelled.says c.args.bindings.now in
    let size = measured_bindings f vs c.in-Some.list_len c.pdu_len.result c.content_len-content_len.result c.element_len-size.result c.in-Some.ensures.some c.pdu_len.ensures.size c.content_len-content_len.ensures.size c.element_len-size.ensures.size in
    omega arith

pub returns-in_err-out-clause-memory : goal.returns-in_err-out-clause-memory
returns-in_err-out-clause-memory g c = λ _.
    let f = c.args.front.now in
    let vs = map g.B.Spelled.says c.args.bindings.now in
    let size = measured_bindings f vs c.in-Some.list_len c.pdu_len.result c.content_len-content_len.result c.element_len-size.result c.in-Some.ensures.some c.pdu_len.ensures.size c.content_len-content_len.ensures.size c.element_len-size.ensures.size in
    omega arith

pub returns-clause-size : goal.returns-clause-size
returns-clause-size g c =
    let f = c.args.front.now in
    let vs = map g.B.Spelled.says c.args.bindings.now in
    let size = measured_bindings f vs c.in-Some.list_len c.pdu_len.result c.content_len-content_len.result c.element_len-size.result c.in-Some.ensures.some c.pdu_len.ensures.size c.content_len-content_len.ensures.size c.element_len-size.ensures.size in
    omega (arith, ap length c.in_ok-out.ensures)

pub returns-clause-pdu : goal.returns-clause-pdu
returns-clause-pdu g c =
    let f = c.args.front.now in
    let vs = map g.B.Spelled.says c.args.bindings.now in
    let size = measured_bindings f vs c.in-Some.list_len c.pdu_len.result c.content_len-content_len.result c.element_len-size.result c.in-Some.ensures.some c.pdu_len.ensures.size c.content_len-content_len.ensures.size c.element_len-size.ensures.size in
    let p = pdu_after f vs in
    let id : FitsSigned w32 f.id = search rules in
    let second : FitsSigned w32 f.second = search rules in
    let third : FitsSigned w32 f.third = search rules in
    let numbers : AreInRange p = record {
      id = (omega (arith, ints), omega (arith, ints));
      second = (omega (arith, ints), omega (arith, ints));
      third = (omega (arith, ints), omega (arith, ints));
    } in
    let is : IsSpelled p = record { tag_allowed = c.requires.tag; numbers = numbers; variables = vs; fit = c.in-Some.ensures.fit; list_is = refl } in
    let longer = community_text-longer f.version f.community.now (pdu_text p) in
    let short : length (pdu_text p) ≤ 65507 = omega (arith, size, longer.1) in
    pdu_text-is p (spelled_fits p is short) short

pub returns-clause-spelled : goal.returns-clause-spelled
returns-clause-spelled g c =
    let f = c.args.front.now in
    let vs = map g.B.Spelled.says c.args.bindings.now in
    let size = measured_bindings f vs c.in-Some.list_len c.pdu_len.result c.content_len-content_len.result c.element_len-size.result c.in-Some.ensures.some c.pdu_len.ensures.size c.content_len-content_len.ensures.size c.element_len-size.ensures.size in
    let pdu = pdu_text (pdu_after f vs) in
    let one = returns-clause-pdu g c in
    let most : length (community_text f.version f.community.now pdu) ≤ 65507 = omega (arith, size) in
    subst (λ (text : List ℕ). IsMessage text (written f.version f.community.now pdu)) (sym c.in_ok-out.ensures)
    (community_text-is f.version f.community.now pdu ((pdu_after f vs).tag, one.content, one.is_whole) most)

pub returns-clause-bindings : goal.returns-clause-bindings
returns-clause-bindings g c = variables_text-is (map g.B.Spelled.says c.args.bindings.now) c.in-Some.ensures.fit (omega (arith, c.in-Some.ensures.most, c.in-Some.ensures.some))
