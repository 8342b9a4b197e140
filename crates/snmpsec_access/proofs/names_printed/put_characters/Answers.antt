use Rattle.std.proofs.Common.{◌≡◌, ℕ, ◌+◌, ◌<◌, List, [], ◌++◌, length, get_or, drop, sym, ap, ◌∙◌, arith, append_assoc, append-nil}
use Rattle.std.specs.List.{flat_map}
use Rattle.std.specs.Str.{chars}
use Rattle.std.proofs.lemmas.Iterator.{YieldsList-from_chars}
use Rattle.std.proofs.lemmas.Iterator.Consumers.{YieldsList-turn, YieldsList-end}
use Rattle.std.proofs.lemmas.List.{at_drop_more, drop_all, length_push}
use Rattle.snmpsec_access.specs.NameText.{escaped}
use Rattle.snmpsec_access.proofs.names_printed.put_characters.Goals as goal

-- one character more
more : (cs : List ℕ) (n m c : ℕ) (old new whole : List ℕ) → (n < length cs) × (c ≡ get_or cs n c) → m ≡ n + 1 → new ≡ old ++ escaped c
    → old ++ flat_map escaped (drop n cs) ≡ whole → new ++ flat_map escaped (drop m cs) ≡ whole
more cs n m c old new whole at further is so =
    let rest = flat_map escaped (drop (n + 1) cs) in
    let first : flat_map escaped (drop n cs) ≡ escaped c ++ rest = at_drop_more (flat_map escaped) cs n c at.0 ∙ ap (λ x. escaped x ++ rest) (sym at.1) in
    ap (λ k. new ++ flat_map escaped (drop k cs)) further ∙ (ap (λ t. t ++ rest) is ∙ (append_assoc old (escaped c) rest ∙ (ap (λ t. old ++ t) (sym first) ∙ so)))

pub loop-character-preserved : goal.loop-character-preserved
loop-character-preserved c =
    let t = YieldsList-turn (YieldsList-from_chars c.args.text.now c.utf8.text cc) c.loop-character.yielded _ c.loop-character.yielded_by _ _ c.in-Some.character c.in-Some.is c.next.ensures.steps in
    more (chars c.args.text.now) (length c.loop-character.yielded) _ c.in-Some.character c.loop-character.out.items _ _ t (length_push c.loop-character.yielded c.in-Some.character) c.in_ok-put_escaped.ensures c.loop-character.invariant

pub returns : goal.returns
returns c =
    let t = YieldsList-end (YieldsList-from_chars c.args.text.now c.utf8.text cc) c.loop-character.yielded _ c.loop-character.yielded_by _ _ c.in-None.is c.next.ensures.steps in
    let none : drop (length c.loop-character.yielded) (chars c.args.text.now) ≡ [] = drop_all (length c.loop-character.yielded) (chars c.args.text.now) (omega (arith, t.1)) in
    sym (append-nil _) ∙ (ap (λ cs. c.loop-character.out.items ++ flat_map escaped cs) (sym none) ∙ c.loop-character.invariant)
