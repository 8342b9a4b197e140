-- The lines of a text, one by one.
use Rattle.std.proofs.Common.{◌≡◌, ℕ, List, [], ◌∷◌, ◌++◌, map, sym, ap, ◌∙◌, subst, append_assoc, append-nil}
use Rattle.std.proofs.lemmas.List.{map-append}
use Rattle.capture_dumps.specs.Line.{AreLines, IsFirstLine, IsKindOf, Kind, kind}
use Rattle.capture_dumps.specs.declared.line.Line.{Line}

-- one line more
pub lines_more : (text rest first behind : List ℕ) (items pushed : List Line) (line : Line) → pushed ≡ items ++ line ∷ [] → IsFirstLine rest first behind → IsKindOf first (kind line)
    → ((later : List Kind) → AreLines rest later → AreLines text (map kind items ++ later)) → (later : List Kind) → AreLines behind later → AreLines text (map kind pushed ++ later)
lines_more text rest first behind items pushed line is is_first is_kind before later h =
    let e = ap (λ (ls : List Line). map kind ls ++ later) is ∙ ap (λ (ks : List Kind). ks ++ later) (map-append kind items (line ∷ [])) ∙ append_assoc (map kind items) (kind line ∷ []) later in
    subst (AreLines text) (sym e) (before (kind line ∷ later) (first, behind, is_first, is_kind, h))

-- all of them
pub lines_all : (text rest : List ℕ) (items : List Line) → rest ≡ [] → ((later : List Kind) → AreLines rest later → AreLines text (map kind items ++ later)) → AreLines text (map kind items)
lines_all text rest items none before = subst (AreLines text) (append-nil (map kind items)) (before [] none)
