use Rattle.std.proofs.Common.{◌≡◌, ℕ, ◌+◌, ◌<◌, List, [], ◌++◌, length, get_or, drop, sym, ap, ◌∙◌, arith, append_assoc, append-nil, codes, string_bytes}
use Rattle.std.specs.List.{flat_map}
use Rattle.std.specs.Str.{chars}
use Rattle.std.proofs.lemmas.Iterator.{YieldsList-from_chars}
use Rattle.std.proofs.lemmas.Iterator.Consumers.{YieldsList-turn, YieldsList-end}
use Rattle.std.proofs.lemmas.List.{at_drop_more, drop_all, length_push}
use Rattle.snmpsec_config.specs.Shown.{quoted_char}
use Rattle.snmpsec_config.proofs.shown.quoted_key.Goals as goal

-- one character more
more : (cs : List ℕ) (n m c : ℕ) (old new whole : List ℕ) → (n < length cs) × (c ≡ get_or cs n c) → m ≡ n + 1 → new ≡ old ++ quoted_char c
    → old ++ flat_map quoted_char (drop n cs) ≡ whole → new ++ flat_map quoted_char (drop m cs) ≡ whole
more cs n m c old new whole at further is so =
    let rest = flat_map quoted_char (drop (n + 1) cs) in
    let first : flat_map quoted_char (drop n cs) ≡ quoted_char c ++ rest = at_drop_more (flat_map quoted_char) cs n c at.0 ∙ ap (λ x. quoted_char x ++ rest) (sym at.1) in
    ap (λ k. new ++ flat_map quoted_char (drop k cs)) further ∙ (ap (λ t. t ++ rest) is ∙ (append_assoc old (quoted_char c) rest ∙ (ap (λ t. old ++ t) (sym first) ∙ so)))

pub loop-character-preserved : goal.loop-character-preserved
loop-character-preserved c =
    let t = YieldsList-turn (YieldsList-from_chars c.args.key.now c.utf8.key cc) c.loop-character.yielded _ c.loop-character.yielded_by _ _ c.in-Some.character c.in-Some.is c.next.ensures.steps in
    more (chars c.args.key.now) (length c.loop-character.yielded) _ c.in-Some.character (string_bytes c.loop-character.text) _ _ t (length_push c.loop-character.yielded c.in-Some.character) c.in_ok-push_quoted.ensures c.loop-character.invariant

pub returns : goal.returns
returns c =
    let t = YieldsList-end (YieldsList-from_chars c.args.key.now c.utf8.key cc) c.loop-character.yielded _ c.loop-character.yielded_by _ _ c.in-None.is c.next.ensures.steps in
    let none : drop (length c.loop-character.yielded) (chars c.args.key.now) ≡ [] = drop_all (length c.loop-character.yielded) (chars c.args.key.now) (omega (arith, t.1)) in
    let all : string_bytes c.loop-character.text ≡ codes "\"" ++ flat_map quoted_char (chars c.args.key.now) = sym (append-nil _) ∙ (ap (λ cs. string_bytes c.loop-character.text ++ flat_map quoted_char cs) (sym none) ∙ c.loop-character.invariant) in
    c.in_ok-push_str.ensures.bytes ∙ ap (λ t. t ++ codes "\"") all
