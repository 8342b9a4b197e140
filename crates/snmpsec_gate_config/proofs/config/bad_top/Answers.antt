use Rattle.std.proofs.Common.{◌≡◌, ◌∷◌, ◌++◌, [], sym, ap, ◌∙◌, append_assoc, string_bytes}
use Rattle.toml.specs.View.{view}
use Rattle.toml.proofs.Views.{Entry}
use Rattle.snmpsec_config.proofs.Members.{each_more, first_here}
use Rattle.snmpsec_gate_config.specs.Documents.{IsTopMember}
use Rattle.snmpsec_gate_config.proofs.config.bad_top.Goals as goal

pub loop-key-preserved : goal.loop-key-preserved
loop-key-preserved c =
    let l = c.loop-key in
    let done = l.invariant.0 in
    let e : Entry = (c.in-Some.key.now, c.in-Some.value.now) in
    let all : c.args.document.now.entries ≡ done ++ e ∷ c.next.new.self = l.invariant.1 ∙ ap (λ es. done ++ es) c.in-Some.ensures.steps in
    let placed : IsTopMember (string_bytes e.0) (view e.1) = rw (← c.as_str.ensures.value) c.if-not-has_place.ensures in (
      done ++ e ∷ [],
      all ∙ sym (append_assoc done (e ∷ []) c.next.new.self),
      each_more IsTopMember done e l.invariant.2 placed,
    )

pub returns-then-not-has_place : goal.returns-then-not-has_place
returns-then-not-has_place c =
    let l = c.loop-key in
    let done = l.invariant.0 in
    let e : Entry = (c.in-Some.key.now, c.in-Some.value.now) in
    let all : c.args.document.now.entries ≡ done ++ e ∷ c.next.new.self = l.invariant.1 ∙ ap (λ es. done ++ es) c.in-Some.ensures.steps in
    let bad : IsTopMember (string_bytes e.0) (view e.1) → ⊥ = rw (← c.as_str.ensures.value) c.if-not-has_place.ensures in
    rw all (first_here IsTopMember done e c.next.new.self c.as_str-then-not-has_place.result.now l.invariant.2 (sym c.as_str-then-not-has_place.ensures.value) bad)
