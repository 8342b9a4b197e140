-- What decides on questions, one after another.
use Rattle.std.proofs.Common.{◌≡◌, ℕ, zero, suc, ◌||◌, List, [], ◌∷◌, ◌++◌, map, sym, ap, ◌∙◌, subst, refl, inl, inr, arith, append_assoc, append-nil}
use Rattle.std.specs.Prelude.{Contains}
use Rattle.std.specs.List.{list_any}
use Rattle.std.proofs.lemmas.List.{map-append}
use Rattle.std.proofs.lemmas.List.Elements.{Contains-append_cases}
use Rattle.std.specs.Borrow.{Bor}
use Rattle.vacm_core.specs.declared.rows.FamilyRow.{FamilyRow}
use Rattle.vacm_core.specs.Tables.{Tables}
use Rattle.snmpsec_access.specs.declared.viewer.Seen.{Seen}
use Rattle.snmpsec_access.specs.Askers.{Asker}
use Rattle.snmpsec_access.specs.Seen.{AreSeen, Line, viewers, Decision, Decided, IsDecision, IsDecided, line_of, includes, any_includes}
use Rattle.snmpsec_access.specs.Rising.{SeesOn, decided_of, decision_of, rows_at}

only : {X : Type 0} (x y : X) → Contains (x ∷ []) y → x ≡ y
only x y (zero, within, at) = at
only x y (suc k, within, at) = absurd (omega (arith, within))

-- whether a line of rows includes something
pub some_includes : (items : List (Bor FamilyRow)) → list_any (λ (item : Bor FamilyRow). item.now.include) items ≡ list_any (λ (line : Line). line.include) (map line_of (rows_at items))
some_includes [] = refl
some_includes (item ∷ items) = ap (λ b. item.now.include || b) (some_includes items)

-- whether one of what is seen includes something
pub any_of : (model : ℕ) (name : List ℕ) (seen : List Seen) → list_any (λ (s : Seen). includes (decision_of s.deciding)) seen ≡ any_includes (map (decided_of model name) seen)
any_of model name [] = refl
any_of model name (s ∷ seen) = ap (λ b. includes (decision_of s.deciding) || b) (any_of model name seen)

module _ (t : Tables) where
  pub nothing_seen : (s : List Decided) → SeesOn t [] s s
  nothing_seen s = record { decisions = []; askers = refl; each = λ d c. absurd (omega (arith, c.1)); joined = sym (append-nil s) }

  pub sees_on : (xs ys : List Asker) (a b c : List Decided) → SeesOn t xs a b → SeesOn t ys b c → SeesOn t (xs ++ ys) a c
  sees_on xs ys a b c g h = record {
    decisions = g.decisions ++ h.decisions;
    askers =
        map-append (λ (d : Decided). d.asker) g.decisions h.decisions
        ∙ ap (λ (l : List Asker). l ++ map (λ (d : Decided). d.asker) h.decisions) g.askers ∙ ap (λ (l : List Asker). xs ++ l) h.askers;
    each = λ d there. elim (Contains-append_cases g.decisions h.decisions d there) [
      | inl before ↦ g.each d before
      | inr after ↦ h.each d after
    ];
    joined = h.joined ∙ ap (λ (l : List Decided). l ++ h.decisions) g.joined ∙ append_assoc a g.decisions h.decisions;
  }

  pub decided_on : (a : Asker) (decision : Decision) (before after : List Decided) → IsDecision t a decision → after ≡ before ++ record { asker = a; decision = decision } ∷ [] → SeesOn t (a ∷ []) before after
  decided_on a decision before after is joined = record {
    decisions = record { asker = a; decision = decision } ∷ [];
    askers = refl;
    each = λ d c. subst (λ (d : Decided). IsDecided t d) (only (record { asker = a; decision = decision }) d c) is;
    joined = joined;
  }

  -- all that is seen of a name
  pub all_seen : (model : ℕ) (name : List ℕ) (before after : List Decided) → before ≡ [] → SeesOn t (viewers t.contexts model name) before after → AreSeen t model name after
  all_seen model name before after empty on =
      let same : after ≡ on.decisions = on.joined ∙ ap (λ (l : List Decided). l ++ on.decisions) empty in
      subst (λ (l : List Decided). AreSeen t model name l) (sym same) (record { askers = on.askers; each = on.each })
