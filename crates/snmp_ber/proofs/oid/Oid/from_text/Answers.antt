use Rattle.std.proofs.Common.{Bor, ◌≡◌, ◌<◌, ◌≤◌, ℕ, List, length, get_or, Some, ap, sym, ◌∙◌, decimal, arith, rules, lit<}
use Rattle.std.proofs.lemmas.List.{length-map}
use Rattle.std.proofs.lemmas.Iterator.Consumers.{YieldsList-turn, YieldsList-end}
use Rattle.std.proofs.lemmas.Iterator.Splits.{YieldsList-from_str_split}
use Rattle.snmp_ber.proofs.Dotted.{dotted_pieces, dotted_from, piece_at, same_arcs}
use Rattle.snmp_ber.proofs.oid.Oid.from_text.Goals as goal

pub returns-then-is_full-clause-all : goal.returns-then-is_full-clause-all
returns-then-is_full-clause-all c = λ arcs h e.
    let text = c.args.text.now in
    let road = YieldsList-from_str_split {s = c.into_iter-arc-iterator.result} 46 text (lit< tt) (search rules) (search rules) (search rules) in
    let turn = YieldsList-turn road c.loop-arc.yielded c.loop-arc.arc-iterator c.loop-arc.yielded_by c.next.result c.next.new.self c.in-Some.arc c.in-Some.is c.next.ensures.steps in
    let pieces = dotted_pieces text arcs h e in
    let full : 128 ≤ length c.loop-arc.arcs.items = search rules in
    absurd (omega (arith, full, turn.0, ap length pieces, length-map arcs decimal, h.most, ap length c.loop-arc.invariant.same, length-map c.loop-arc.arcs.items decimal, length-map c.loop-arc.yielded (λ (piece : Bor (List ℕ)). piece.now)))

pub returns-in_err-read_arc-clause-all : goal.returns-in_err-read_arc-clause-all
returns-in_err-read_arc-clause-all c = λ arcs h e.
    let text = c.args.text.now in
    let road = YieldsList-from_str_split {s = c.into_iter-arc-iterator.result} 46 text (lit< tt) (search rules) (search rules) (search rules) in
    let turn = YieldsList-turn road c.loop-arc.yielded c.loop-arc.arc-iterator c.loop-arc.yielded_by c.next.result c.next.new.self c.in-Some.arc c.in-Some.is c.next.ensures.steps in
    let pieces = dotted_pieces text arcs h e in
    let place : length c.loop-arc.yielded < length arcs = omega (arith, turn.0, ap length pieces, length-map arcs decimal) in
    let piece = piece_at arcs (length c.loop-arc.yielded) c.in-Some.arc.now h.limit place in
    let here : c.in-Some.arc.now ≡ decimal piece.0 = turn.1 ∙ ap (λ (all : List (List ℕ)). get_or all (length c.loop-arc.yielded) c.in-Some.arc.now) pieces ∙ piece.2 in
    let read = c.in_err-read_arc.ensures.all piece.0 piece.1 here in
    absurd (cc read)

pub returns-clause-all : goal.returns-clause-all
returns-clause-all c = λ arcs h e.
    let text = c.args.text.now in
    let road = YieldsList-from_str_split {s = c.into_iter-arc-iterator.result} 46 text (lit< tt) (search rules) (search rules) (search rules) in
    let whole = YieldsList-end road c.loop-arc.yielded c.loop-arc.arc-iterator c.loop-arc.yielded_by c.next.result c.next.new.self c.in-None.is c.next.ensures.steps in
    ap (λ (xs : List ℕ). Some xs) (same_arcs c.loop-arc.arcs.items arcs c.loop-arc.invariant.limit h.limit (c.loop-arc.invariant.same ∙ whole.0 ∙ dotted_pieces text arcs h e))

pub returns-clause-found : goal.returns-clause-found
returns-clause-found c =
    let text = c.args.text.now in
    let road = YieldsList-from_str_split {s = c.into_iter-arc-iterator.result} 46 text (lit< tt) (search rules) (search rules) (search rules) in
    let whole = YieldsList-end road c.loop-arc.yielded c.loop-arc.arc-iterator c.loop-arc.yielded_by c.next.result c.next.new.self c.in-None.is c.next.ensures.steps in
    dotted_from text c.loop-arc.arcs.items c.loop-arc.invariant.limit c.loop-arc.invariant.most (sym (c.loop-arc.invariant.same ∙ whole.0))
