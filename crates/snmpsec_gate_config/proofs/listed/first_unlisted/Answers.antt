use Rattle.std.proofs.Common.{◌≡◌, ◌∷◌, ◌++◌, [], sym, ap, ◌∙◌, append_assoc, string_bytes}
use Rattle.toml.proofs.Views.{Entry}
use Rattle.snmpsec_gate_config.specs.Keys.{IsListed}
use Rattle.snmpsec_config.proofs.Members.{each_more, first_here}
use Rattle.snmpsec_gate_config.proofs.listed.first_unlisted.Goals as goal

pub loop-key-preserved : goal.loop-key-preserved
loop-key-preserved c =
    let l = c.loop-key in
    let done = l.invariant.0 in
    let e : Entry = (c.in-Some.key.now, c.in-Some.field-0-1.now) in
    let all : c.args.row.now.entries ≡ done ++ e ∷ c.next.new.self = l.invariant.1 ∙ ap (λ es. done ++ es) c.in-Some.ensures.steps in
    let listed : IsListed c.args.table (string_bytes e.0) = rw (← c.as_str.ensures.value) c.if-not-lists.ensures in (
      done ++ e ∷ [],
      all ∙ sym (append_assoc done (e ∷ []) c.next.new.self),
      each_more (λ key _. IsListed c.args.table key) done e l.invariant.2 listed,
    )

pub returns-then-not-lists : goal.returns-then-not-lists
returns-then-not-lists c =
    let l = c.loop-key in
    let done = l.invariant.0 in
    let e : Entry = (c.in-Some.key.now, c.in-Some.field-0-1.now) in
    let all : c.args.row.now.entries ≡ done ++ e ∷ c.next.new.self = l.invariant.1 ∙ ap (λ es. done ++ es) c.in-Some.ensures.steps in
    let unlisted : IsListed c.args.table (string_bytes e.0) → ⊥ = rw (← c.as_str.ensures.value) c.if-not-lists.ensures in
    rw all (first_here (λ name _. IsListed c.args.table name) done e c.next.new.self c.as_str-then-not-lists.result.now l.invariant.2 (sym c.as_str-then-not-lists.ensures.value) unlisted)
