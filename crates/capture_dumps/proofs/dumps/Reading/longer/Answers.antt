use Rattle.std.proofs.Common.{◌≡◌, [], length, false, true, sym, ap, ◌∙◌, refl, rules}
use Rattle.std.proofs.lemmas.Bool.{eqb-true}
use Rattle.std.proofs.lemmas.List.{nil_from_length}
use Rattle.capture_dumps.specs.Base.{some_base, writing}
use Rattle.capture_dumps.specs.Line.{more}
use Rattle.capture_dumps.proofs.Blocks.{pass_follows, more_follows, stops_count}
use Rattle.capture_dumps.proofs.dumps.Reading.longer.Goals as goal

pub returns-then-is_empty-clause-ok : goal.returns-then-is_empty-clause-ok
returns-then-is_empty-clause-ok c =
    let none : c.args.octets.now ≡ [] = nil_from_length c.args.octets.now (eqb-true (length c.args.octets.now) 0 (sym c.is_empty.ensures ∙ c.if-is_empty.true)) in
    pass_follows c.args.self _ (more c.args.digits.now c.args.octets.now) none c.in_default.is refl refl

pub returns-then-not-some-clause-err : goal.returns-then-not-some-clause-err
returns-then-not-some-clause-err c =
    let bases : c.writing-bases.result ≡ writing c.in-Some.dump.bases c.args.digits.now (length c.in-Some.dump.octets.items) = search rules in
    let gone : some_base (writing c.in-Some.dump.bases c.args.digits.now (length c.in-Some.dump.octets.items)) ≡ false =
    sym (ap some_base bases) ∙ (sym c.some.ensures ∙ c.if-not-some.true) in
    stops_count c.args.self c.args.place c.args.place c.args.digits.now c.args.octets.now c.in-Some.dump c.in-Some.is gone refl

pub returns-clause-ok : goal.returns-clause-ok
returns-clause-ok c =
    let bases : c.writing-bases.result ≡ writing c.in-Some.dump.bases c.args.digits.now (length c.in-Some.dump.octets.items) = search rules in
    let some : some_base (writing c.in-Some.dump.bases c.args.digits.now (length c.in-Some.dump.octets.items)) ≡ true =
    sym (ap some_base bases) ∙ (sym c.some.ensures ∙ c.if-not-some.false) in
    more_follows c.args.self _ c.args.digits.now c.args.octets.now c.in-Some.dump (record { octets = c.extend_from_slice.new.self; bases = c.writing-bases.result }) c.in-Some.is refl refl c.in_ok-extend_from_slice.ensures.items bases some
