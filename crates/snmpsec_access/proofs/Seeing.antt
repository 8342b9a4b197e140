-- A list to which those who see are appended.
use Rattle.std.proofs.Common.{◌≡◌, List, [], ◌∷◌, ◌++◌, map, sym, ap, ◌∙◌, subst, refl, inl, inr, append_assoc, append-nil}
use Rattle.snmpsec_access.specs.Askers.{Asker}
use Rattle.snmpsec_access.specs.WhoSees.{AreThose, GoesOn}

AreThose-append : {A : Type 0} (P : A → Type 0) (xs ys kept others : List A) → AreThose P xs kept → AreThose P ys others → AreThose P (xs ++ ys) (kept ++ others)
AreThose-append {A} P [] ys kept others none those = subst (λ (k : List A). AreThose P ys (k ++ others)) (sym none) those
AreThose-append P (x ∷ xs) ys kept others (inl k) those =
    inl (k.0, (k.1.0 ++ others, ap (λ l. l ++ others) k.1.1, AreThose-append P xs ys k.1.0 others k.1.2 those))
AreThose-append P (x ∷ xs) ys kept others (inr k) those = inr (k.0, AreThose-append P xs ys kept others k.1 those)

none_of : {A R : Type 0} (P : A → Type 0) (f : R → A) (rows : List R) → ((row : R) → ¬ P (f row)) → AreThose P (map f rows) []
none_of P f [] none = refl
none_of P f (row ∷ rows) none = inr (none row, none_of P f rows none)

module _ (P : Asker → Type 0) where
  pub nothing : (before : List Asker) → GoesOn P [] before before
  nothing before = record { seeing = []; those = refl; joined = sym (append-nil before) }

  pub none_sees : {R : Type 0} (f : R → Asker) (rows : List R) (before : List Asker) → ((row : R) → ¬ P (f row)) → GoesOn P (map f rows) before before
  none_sees f rows before none = record { seeing = []; those = none_of P f rows none; joined = sym (append-nil before) }

  pub sees : (a : Asker) (before after : List Asker) → P a → after ≡ before ++ a ∷ [] → GoesOn P (a ∷ []) before after
  sees a before after may joined = record { seeing = a ∷ []; those = inl (may, ([], refl, refl)); joined = joined }

  pub goes_on : (xs ys before between after : List Asker) → GoesOn P xs before between → GoesOn P ys between after → GoesOn P (xs ++ ys) before after
  goes_on xs ys before between after g h = record {
    seeing = g.seeing ++ h.seeing;
    those = AreThose-append P xs ys g.seeing h.seeing g.those h.those;
    joined = h.joined ∙ ap (λ (l : List Asker). l ++ h.seeing) g.joined ∙ append_assoc before g.seeing h.seeing;
  }
