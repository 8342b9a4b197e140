use Rattle.std.proofs.Common.{Bor, ◌≡◌, ◌<◌, ◌≤◌, ◌^◌, ℕ, suc, List, [], ◌∷◌, ◌++◌, length, Some, ap, sym, ◌∙◌, subst, decimal, arith, rules, refl, lit<}
use Rattle.std.specs.Prelude.{map}
use Rattle.std.specs.List.{slice_get}
use Rattle.std.proofs.lemmas.List.{length-append, length-map, map-append}
use Rattle.std.proofs.lemmas.Iterator.Consumers.{YieldsList-so_far, YieldsList-turn, YieldsList-end}
use Rattle.std.proofs.lemmas.Iterator.Splits.{YieldsList-from_str_split}
use Rattle.std.proofs.lemmas.Option.{slice_get_read}
use Rattle.snmp_ber.proofs.Dotted.{dotted_from}
use Rattle.snmpsec_output.specs.Variables.{TellsNumber, parts}
use Rattle.snmpsec_output.proofs.DottedParts.{are_numbers, one_more, told_of_part, counted}
use Rattle.snmpsec_output.proofs.variables.variable_fault.Goals as goal

pub returns-in-Some-number_fault : goal.returns-in-Some-number_fault
returns-in-Some-number_fault c =
    let text = c.args.word.now in
    let road = YieldsList-from_str_split {s = c.into_iter-part-iterator.result} 46 text (lit< tt) (search rules) (search rules) (search rules) in
    let turn = YieldsList-turn road c.loop-part.yielded c.loop-part.part-iterator c.loop-part.yielded_by c.next.result c.next.new.self c.in-Some-part.part c.in-Some-part.is c.next.ensures.steps in
    let so_far = YieldsList-so_far road c.loop-part.yielded c.loop-part.part-iterator c.loop-part.yielded_by in
    let held = c.loop-part.invariant.numbers in
    let there : slice_get (parts text) (length c.loop-part.yielded) ≡ Some c.in-Some-part.part.now = slice_get_read (parts text) (length (parts text)) (length c.loop-part.yielded) c.in-Some-part.part.now refl turn.0 turn.1 in
    let short : length text < 2 ^ 63 = search rules in
    let place = counted text c.loop-part.count (length c.loop-part.yielded) c.saturating_add-count.result short turn.0 c.loop-part.invariant.count c.saturating_add-count.ensures in
    record {
      exact = told_of_part text c.in-Some-number_fault.fault (length c.loop-part.yielded) c.in-Some-part.part.now there (are_numbers held.0 _ (held.1 ∙ so_far) held.2)
          (subst (λ (n : ℕ). TellsNumber n c.in-Some-part.part.now c.in-Some-number_fault.fault) place c.in-Some-number_fault.ensures.exact);
    }

pub loop-part-preserved : goal.loop-part-preserved
loop-part-preserved c =
    let held = c.loop-part.invariant.numbers in
    let n = c.in_default-number_fault.ensures.exact in
    let more = one_more held.0 n.0 held.2 n.1 in
    let joined = more.1 ∙ ap (λ (words : List (List ℕ)). words ++ decimal n.0 ∷ []) held.1 ∙ ap (λ (word : List ℕ). map (λ (part : Bor (List ℕ)). part.now) c.loop-part.yielded ++ word ∷ []) (sym n.2)
    ∙ sym (map-append (λ (part : Bor (List ℕ)). part.now) c.loop-part.yielded (c.in-Some-part.part ∷ [])) in
    let text = c.args.word.now in
    let road = YieldsList-from_str_split {s = c.into_iter-part-iterator.result} 46 text (lit< tt) (search rules) (search rules) (search rules) in
    let turn = YieldsList-turn road c.loop-part.yielded c.loop-part.part-iterator c.loop-part.yielded_by c.next.result c.next.new.self c.in-Some-part.part c.in-Some-part.is c.next.ensures.steps in
    let short : length text < 2 ^ 63 = search rules in
    let place = counted text c.loop-part.count (length c.loop-part.yielded) c.saturating_add-count.result short turn.0 c.loop-part.invariant.count c.saturating_add-count.ensures in
    let longer : length (c.loop-part.yielded ++ c.in-Some-part.part ∷ []) ≡ suc (length c.loop-part.yielded) = omega (arith, length-append c.loop-part.yielded (c.in-Some-part.part ∷ [])) in
    record { ready = search rules; ends = search rules; numbers = (more.0, joined, more.2); count = place ∙ sym longer }

pub returns-then-count-gt-NUMBERS : goal.returns-then-count-gt-NUMBERS
returns-then-count-gt-NUMBERS c =
    let text = c.args.word.now in
    let road = YieldsList-from_str_split {s = c.into_iter-part-iterator.result} 46 text (lit< tt) (search rules) (search rules) (search rules) in
    let whole = YieldsList-end road c.loop-part.yielded c.loop-part.part-iterator c.loop-part.yielded_by c.next.result c.next.new.self c.in-None.is c.next.ensures.steps in
    let held = c.loop-part.invariant.numbers in
    record { exact = (c.loop-part.invariant.count ∙ whole.1, search rules, are_numbers held.0 _ (held.1 ∙ whole.0) held.2) }

pub returns : goal.returns
returns c =
    let text = c.args.word.now in
    let road = YieldsList-from_str_split {s = c.into_iter-part-iterator.result} 46 text (lit< tt) (search rules) (search rules) (search rules) in
    let whole = YieldsList-end road c.loop-part.yielded c.loop-part.part-iterator c.loop-part.yielded_by c.next.result c.next.new.self c.in-None.is c.next.ensures.steps in
    let held = c.loop-part.invariant.numbers in
    let few : c.loop-part.count ≤ 128 = search rules in
    let most : length held.0 ≤ 128 = omega (arith, few, c.loop-part.invariant.count, ap length held.1, length-map held.0 decimal, length-map c.loop-part.yielded (λ (part : Bor (List ℕ)). part.now)) in
    let dots = dotted_from text held.0 held.2 most (sym (held.1 ∙ whole.0)) in
    record { exact = (held.0, dots.0, dots.1) }
