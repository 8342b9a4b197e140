use Rattle.std.proofs.Common.{◌≡◌, ◌==◌, ◌<◌, ◌∷◌, ◌++◌, [], ℕ, length, true, false, if◌then◌else◌, sym, ap, ◌∙◌, subst, rules, vec_len}
use Rattle.std.proofs.lemmas.Bool.{eqb-true, eqb-false}
use Rattle.capture_dumps.specs.Column.{has_any_column, seen_size}
use Rattle.capture_dumps.specs.Row.{IsRow}
use Rattle.capture_dumps.proofs.Rows.{ReadTo, shown, longer, bare, nothing_read, not_bare, seen_more, pair_shorter}
use Rattle.capture_dumps.proofs.row.row_octets.Goals.{then-is_empty-via-then-is_empty, then-is_empty-via-else-is_empty+then-not-are_blanks}
use Rattle.capture_dumps.proofs.row.row_octets.Goals as goal

pub returns-then-has_any_column : goal.returns-then-has_any_column
returns-then-has_any_column c =
    let items = c.in_ok-push.ensures.items in
    let column : has_any_column (c.pairs.octets.items ++ c.in-Some.octet ∷ []) c.in-Some.behind.now ≡ true =
    sym (ap (λ t. has_any_column t c.in-Some.behind.now) (c.deref.ensures.value ∙ items)) ∙ (sym c.has_any_column.ensures ∙ c.if-has_any_column.true) in
    subst (IsRow c.args.text.now) (sym items) (shown c.args.text.now c.pairs.octets.items c.pairs.rest.now c.pairs.invariant.to c.in-Some.octet c.in-Some.behind.now c.in-Some.ensures column)

pub pairs-smaller : goal.pairs-smaller
pairs-smaller c = pair_shorter c.pairs.rest.now c.in-Some.behind.now c.in-Some.octet c.in-Some.ensures

pub pairs-preserved : goal.pairs-preserved
pairs-preserved c =
    let items = c.in_ok-push.ensures.items in
    let column : has_any_column (c.pairs.octets.items ++ c.in-Some.octet ∷ []) c.in-Some.behind.now ≡ false =
    sym (ap (λ t. has_any_column t c.in-Some.behind.now) (c.deref.ensures.value ∙ items)) ∙ (sym c.has_any_column.ensures ∙ c.if-has_any_column.false) in
    let count : c.len.result ≡ length (c.pairs.octets.items ++ c.in-Some.octet ∷ []) = let n : c.len.result ≡ length c.push.new.self.items = search rules in n ∙ ap length items in
    let seen = c.more_seen-seen.ensures in
    let was = c.pairs.invariant.seen in
    record {
      to = subst (λ o. ReadTo c.args.text.now o c.in-Some.behind.now) (sym items)
          (longer c.args.text.now c.pairs.octets.items c.pairs.rest.now c.pairs.invariant.to c.in-Some.octet c.in-Some.behind.now c.in-Some.ensures column);
      seen = c.more_seen-seen.ensures
          ∙ ap (λ (s : ℕ). if c.in-Some.octet == 32 then s else c.len.result) was
          ∙ ap (λ (n : ℕ). if c.in-Some.octet == 32 then seen_size c.pairs.octets.items else n) count
          ∙ sym (seen_more c.pairs.octets.items c.in-Some.octet)
          ∙ ap seen_size (sym items);
    }

pub returns-then-is_empty : goal.returns-then-is_empty
returns-then-is_empty c = elim c.then-is_empty.branch [
  | then-is_empty-via-then-is_empty w ↦
      let size = eqb-true (vec_len c.pairs.octets) 0 (sym c.is_empty.ensures ∙ w.if-is_empty.true) in
      let none : length c.pairs.octets.items ≡ 0 = search rules in
      nothing_read c.args.text.now c.pairs.octets.items c.pairs.rest.now c.pairs.invariant.to c.in_default.ensures none
  | then-is_empty-via-else-is_empty+then-not-are_blanks w ↦
      not_bare c.args.text.now c.pairs.octets.items c.pairs.rest.now c.pairs.invariant.to c.in_default.ensures (sym w.are_blanks.ensures ∙ w.if-not-are_blanks.true)
]

pub returns : goal.returns
returns c =
    let size = eqb-false (vec_len c.pairs.octets) 0 (sym c.is_empty.ensures ∙ c.if-is_empty.false) in
    let some : 0 < length c.pairs.octets.items = search (rules, size) in
    bare c.args.text.now c.pairs.octets.items c.pairs.rest.now c.pairs.invariant.to c.in_default.ensures some (sym c.are_blanks.ensures ∙ c.if-not-are_blanks.false)
