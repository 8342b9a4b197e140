-- Rows without a wildcard, of which those are left out that change past_it answer.
use Rattle.std.proofs.Common.{◌≡◌, ◌≢◌, ℕ, zero, suc, ◌-◌, ◌<◌, ◌≤◌, Bool, true, false, List, [], ◌∷◌, ◌++◌, length, get_or, take, drop, map, sym, ap, ◌∙◌, subst, refl, inl, inr, arith, append-nil}
use Rattle.std.specs.Prelude.{Contains, fold, remove, if◌then◌else◌}
use Rattle.std.proofs.lemmas.Grind.{fold-append}
use Rattle.std.proofs.lemmas.List.{map-append, length-map, take-map, get_or_append_left, get_or_push, length_push}
use Rattle.std.proofs.lemmas.List.Edits.{remove-append_left, remove-append_right}
use Rattle.std.proofs.lemmas.List.Elements.{Contains-append_left, Contains-push, Contains-push_cases, Contains-get_or}
use Rattle.std.proofs.lemmas.List.Kept.{IsSortedBy-push}
use Rattle.std.proofs.lemmas.Bool.{cases_lt}
use Rattle.std.specs.Ordering.{is_lt}
use Rattle.std.specs.declared.cmp.Ordering.{Ordering}
use Rattle.std.specs.declared.cmp.Ordering.TheVariants.{Less, Equal, Greater}
use Rattle.vacm_core.specs.declared.rows.FamilyRow.{FamilyRow}
use Rattle.vacm_core.specs.Allowed.{family_order}
use Rattle.vacm_core.specs.View.{IsExact, AreExact}
use Rattle.vacm_core.proofs.Exact.{no_more_arcs}
use Rattle.snmpsec_access.specs.Seen.{fits, Line, is_included, line_of, AreNeeded}
use Rattle.snmpsec_access.specs.Rising.{saying, AreLeft}
use Rattle.snmpsec_access.proofs.Begins.{begins, fits_exact, begins_itself, begins_both, begins_as_long}

abbrev row_fits : FamilyRow → List ℕ → Bool
row_fits row variable = fits (line_of row).pattern variable

pub saying_more : (rows : List FamilyRow) (row : FamilyRow) (variable : List ℕ) → saying (rows ++ row ∷ []) variable ≡ (if row_fits row variable then row.include else saying rows variable)
saying_more rows row variable =
    ap (λ (lines : List Line). is_included lines variable) (map-append line_of rows (row ∷ []))
    ∙ fold-append (λ (before : Bool) (line : Line). if fits line.pattern variable then line.include else before) false (map line_of rows) (line_of row ∷ [])

saying_past : (rows : List FamilyRow) (row : FamilyRow) (variable : List ℕ) → row_fits row variable ≡ false → saying (rows ++ row ∷ []) variable ≡ saying rows variable
saying_past rows row variable past_it = saying_more rows row variable ∙ ap (λ b. if b then row.include else saying rows variable) past_it

saying_here : (rows : List FamilyRow) (row : FamilyRow) (variable : List ℕ) → row_fits row variable ≡ true → saying (rows ++ row ∷ []) variable ≡ row.include
saying_here rows row variable at_it = saying_more rows row variable ∙ ap (λ b. if b then row.include else saying rows variable) at_it

not_less : (o : Ordering) → o ≢ Less → is_lt o ≡ false
not_less Less h = absurd (h refl)
not_less Equal h = refl
not_less Greater h = refl

-- rows that fit the same variables say the same
same_from : (rows : List FamilyRow) (before : Bool) (v w : List ℕ) → ((row : FamilyRow) → Contains rows row → row_fits row v ≡ row_fits row w)
    → fold (λ (b : Bool) (line : Line). if fits line.pattern v then line.include else b) before (map line_of rows)
    ≡ fold (λ (b : Bool) (line : Line). if fits line.pattern w then line.include else b) before (map line_of rows)
same_from [] before v w same = refl
same_from (row ∷ rows) before v w same =
    let first : row_fits row v ≡ row_fits row w = same row (0, omega arith, refl) in
    let rest = same_from rows (if row_fits row v then row.include else before) v w (λ other c. same other (suc c.0, omega (arith, c.1), c.2)) in
    rest ∙ ap (λ (b : Bool). fold (λ (b : Bool) (line : Line). if fits line.pattern w then line.include else b) (if b then row.include else before) (map line_of rows)) first

module _ (seen kept : List FamilyRow) (row : FamilyRow) (left : AreLeft seen kept) (exact : IsExact row) (all_exact : AreExact seen)
    (above : (other : FamilyRow) → Contains seen other → family_order row other ≢ Less) where
  no_longer : (other : FamilyRow) → Contains seen other → length other.subtree ≤ length row.subtree
  no_longer other c = no_more_arcs row other (above other c)

  -- what is left says the same of each variable that the row fits
  of_all : (variable : List ℕ) → row_fits row variable ≡ true → saying kept variable ≡ saying kept row.subtree
  of_all variable at_it =
      let begun : begins row.subtree variable ≡ true = sym (fits_exact row variable exact) ∙ at_it in
      same_from kept false variable row.subtree
      (λ other c. let there = left.among other c in
      fits_exact other variable (all_exact other there)
      ∙ begins_both other.subtree row.subtree variable begun (no_longer other there)
      ∙ sym (fits_exact other row.subtree (all_exact other there)))

  both_ways : (variable : List ℕ) (b : Bool) → row_fits row variable ≡ b → (b ≡ true → saying kept variable ≡ row.include) → saying kept variable ≡ saying (seen ++ row ∷ []) variable
  both_ways variable true at_it says = says refl ∙ sym (saying_here seen row variable at_it)
  both_ways variable false past_it says = left.same variable ∙ sym (saying_past seen row variable past_it)

  -- the row says nothing new
  pub left_out : saying kept row.subtree ≡ row.include → AreLeft (seen ++ row ∷ []) kept
  left_out says = record {
    same = λ variable. both_ways variable (row_fits row variable) refl (λ at_it. of_all variable at_it ∙ says);
    among = λ other c. Contains-append_left seen (row ∷ []) other (left.among other c);
    rising = left.rising;
    own = left.own;
    needed = left.needed;
  }

  module _ (one_each : (other : FamilyRow) → Contains seen other → other.subtree ≡ row.subtree → other.include ≡ row.include) (says_not : saying kept row.subtree ≢ row.include) where
    past : (other : FamilyRow) → Contains kept other → row_fits row other.subtree ≡ false
    past other c = by (row_fits row other.subtree) refl
      where
        by : (b : Bool) → row_fits row other.subtree ≡ b → row_fits row other.subtree ≡ false
        by false e = e
        by true e =
            let there = left.among other c in
            let same : row.subtree ≡ other.subtree = begins_as_long row.subtree other.subtree (sym (fits_exact row other.subtree exact) ∙ e) (no_longer other there) in
            absurd (says_not (ap (λ s. saying kept s) same ∙ left.own other c ∙ one_each other there (sym same)))

    itself : row_fits row row.subtree ≡ true
    itself = fits_exact row row.subtree exact ∙ begins_itself row.subtree

    same_kept : (variable : List ℕ) (b : Bool) → row_fits row variable ≡ b → saying (kept ++ row ∷ []) variable ≡ saying (seen ++ row ∷ []) variable
    same_kept variable true at_it = saying_here kept row variable at_it ∙ sym (saying_here seen row variable at_it)
    same_kept variable false past_it = saying_past kept row variable past_it ∙ left.same variable ∙ sym (saying_past seen row variable past_it)

    own_kept : (other : FamilyRow) → Contains (kept ++ row ∷ []) other → saying (kept ++ row ∷ []) other.subtree ≡ other.include
    own_kept other c = elim (Contains-push_cases kept row other c) [
      | inl there ↦ saying_past kept row other.subtree (past other there) ∙ left.own other there
      | inr same ↦ subst (λ (r : FamilyRow). saying (kept ++ row ∷ []) r.subtree ≡ r.include) same (saying_here kept row row.subtree itself)
    ]

    needed_before : (k : ℕ) (d : FamilyRow) → k < length kept → saying (remove (kept ++ row ∷ []) k) (get_or (kept ++ row ∷ []) k d).subtree ≢ saying (kept ++ row ∷ []) (get_or (kept ++ row ∷ []) k d).subtree
    needed_before k d within same =
        let other = get_or kept k d in
        let at : get_or (kept ++ row ∷ []) k d ≡ other = get_or_append_left kept (row ∷ []) d k within in
        let past_it : row_fits row other.subtree ≡ false = past other (Contains-get_or kept k d within) in
        let removed : remove (kept ++ row ∷ []) k ≡ remove kept k ++ row ∷ [] = remove-append_left kept (row ∷ []) k within in
        let e : saying (remove (kept ++ row ∷ []) k) other.subtree ≡ saying (kept ++ row ∷ []) other.subtree = subst (λ (r : FamilyRow). saying (remove (kept ++ row ∷ []) k) r.subtree ≡ saying (kept ++ row ∷ []) r.subtree) at same in
        left.needed k d within
        (sym (saying_past (remove kept k) row other.subtree past_it) ∙ sym (ap (λ (rs : List FamilyRow). saying rs other.subtree) removed) ∙ e ∙ saying_past kept row other.subtree past_it)

    needed_itself : (d : FamilyRow) → saying (remove (kept ++ row ∷ []) (length kept)) (get_or (kept ++ row ∷ []) (length kept) d).subtree ≢ saying (kept ++ row ∷ []) (get_or (kept ++ row ∷ []) (length kept) d).subtree
    needed_itself d same =
        let at : get_or (kept ++ row ∷ []) (length kept) d ≡ row = get_or_push kept row d (length kept) refl in
        let removed : remove (kept ++ row ∷ []) (length kept) ≡ kept =
        remove-append_right kept (row ∷ []) (length kept) (length kept) refl (omega arith)
        ∙ ap (λ n. kept ++ remove (row ∷ []) n) (omega_zero (length kept)) ∙ append-nil kept in
        let e : saying (remove (kept ++ row ∷ []) (length kept)) row.subtree ≡ saying (kept ++ row ∷ []) row.subtree = subst (λ (r : FamilyRow). saying (remove (kept ++ row ∷ []) (length kept)) r.subtree ≡ saying (kept ++ row ∷ []) r.subtree) at same in
        says_not (sym (ap (λ (rs : List FamilyRow). saying rs row.subtree) removed) ∙ e ∙ saying_here kept row row.subtree itself)
      where
        omega_zero : (n : ℕ) → n - n ≡ 0
        omega_zero n = omega arith

    pub kept_more : AreLeft (seen ++ row ∷ []) (kept ++ row ∷ [])
    kept_more = record {
      same = λ variable. same_kept variable (row_fits row variable) refl;
      among = λ other c. elim (Contains-push_cases kept row other c) [
        | inl there ↦ Contains-append_left seen (row ∷ []) other (left.among other there)
        | inr same ↦ subst (λ (r : FamilyRow). Contains (seen ++ row ∷ []) r) same (Contains-push seen row)
      ];
      rising = IsSortedBy-push (λ a b. is_lt (family_order a b)) kept row left.rising (λ d some. not_less _ (above (get_or kept (length kept - 1) d) (left.among (get_or kept (length kept - 1) d) (Contains-get_or kept (length kept - 1) d (omega arith)))));
      own = own_kept;
      needed = λ k d within. elim (cases_lt k (length kept)) [
        | inl before ↦ needed_before k d before
        | inr from ↦
            let last : length kept ≡ k = let long = length_push kept row in omega arith in
            subst (λ n. saying (remove (kept ++ row ∷ []) n) (get_or (kept ++ row ∷ []) n d).subtree ≢ saying (kept ++ row ∷ []) (get_or (kept ++ row ∷ []) n d).subtree) last (needed_itself d)
      ];
    }

-- ---- lines

drop-map : (f : FamilyRow → Line) (n : ℕ) (rows : List FamilyRow) → drop n (map f rows) ≡ map f (drop n rows)
drop-map f zero rows = refl
drop-map f (suc n) [] = refl
drop-map f (suc n) (row ∷ rows) = drop-map f n rows

remove-map : (rows : List FamilyRow) (k : ℕ) → remove (map line_of rows) k ≡ map line_of (remove rows k)
remove-map rows k =
    ap (λ (l : List Line). l ++ drop (suc k) (map line_of rows)) (take-map line_of k rows)
    ∙ ap (λ (l : List Line). map line_of (take k rows) ++ l) (drop-map line_of (suc k) rows) ∙ sym (map-append line_of (take k rows) (drop (suc k) rows))

some_row : (rows : List FamilyRow) (k : ℕ) → k < length rows → FamilyRow
some_row [] k within = absurd (omega (arith, within))
some_row (row ∷ rows) k within = row

pub lines_needed : (seen kept : List FamilyRow) → AreLeft seen kept → AreNeeded (map line_of kept)
lines_needed seen kept left k within =
    let inside : k < length kept = omega (arith, length-map kept line_of, within) in
    let row = get_or kept k (some_row kept k inside) in
    (row.subtree, λ same. left.needed k (some_row kept k inside) inside (ap (λ (lines : List Line). is_included lines row.subtree) (sym (remove-map kept k)) ∙ same))
