-- Of variables with distinct names, each request has one answer.
use Rattle.std.proofs.Common.{◌≡◌, ◌⊎◌, ℕ, zero, suc, List, [], ◌∷◌, ◌++◌, Some, map, take, drop, sym, ap, subst, refl, ◌∙◌, inl, inr, arith}
use Rattle.std.proofs.lemmas.Bool.Decides.{nat_tests}
use Rattle.std.proofs.lemmas.Map.Text.{is_eq-slice_cmp}
use Rattle.std.proofs.lemmas.Slice.Eq.{bytes_eq-Decides}
use Rattle.std.specs.Cmp.Lexicographic.{slice_cmp}
use Rattle.std.specs.Ordering.{nat_cmp, is_eq}
use Rattle.std.specs.declared.cmp.Ordering.{Ordering}
use Rattle.std.specs.declared.cmp.Ordering.TheVariants.{Less, Equal, Greater}
use Rattle.snmp_msg.specs.Values.{syntax_of}
use Rattle.snmp_msg.specs.Variables.{Variable}
use Rattle.snmp_msg.specs.declared.value.Syntax.{Syntax}
use Rattle.snmp_msg.specs.declared.value.Syntax.TheVariants.{EndOfMibView, NoSuchObject, NoSuchInstance}
use Rattle.vacm_next.specs.Next.{IsUpto}
use Rattle.vacm_next.proofs.Order.{not_both}
use Rattle.snmp_responder.specs.Bulk.{AreEnded, AreRepetitions, IsBulk}
use Rattle.snmp_responder.specs.Distinct.{HasDistinctNames}
use Rattle.snmp_responder.specs.Instrumentation.{Known, IsException, IsGot}
use Rattle.snmp_responder.specs.Next.{AreNextAnswers, IsNextAnswer}

-- ---- the tags of exceptions

ended : (tag : ℕ) → syntax_of tag ≡ Some EndOfMibView → tag ≡ 130
ended tag is = grind (arith, nat_tests)

no_object : (tag : ℕ) → syntax_of tag ≡ Some NoSuchObject → tag ≡ 128
no_object tag is = grind (arith, nat_tests)

no_instance : (tag : ℕ) → syntax_of tag ≡ Some NoSuchInstance → tag ≡ 129
no_instance tag is = grind (arith, nat_tests)

same_exception : (s : Syntax) (n : ℕ) → ((tag : ℕ) → syntax_of tag ≡ Some s → tag ≡ n) → (name : List ℕ) (v w : Variable) → IsException s name v → IsException s name w → v ≡ w
same_exception s n only name v w a b =
    let named = a.named ∙ sym b.named in
    let tagged = only v.tag a.syntax_is ∙ sym (only w.tag b.syntax_is) in
    let empty = a.empty ∙ sym b.empty in
    λ i. record { name = named i; tag = tagged i; content = empty i }

-- ---- names

pub same_name : (x y : List ℕ) → IsUpto x y → IsUpto y x → x ≡ y
same_name x y low high = by (slice_cmp nat_cmp x y) refl
  where
    by : (o : Ordering) → slice_cmp nat_cmp x y ≡ o → x ≡ y
    by Less e = absurd (not_both y x high e)
    by Equal e = (bytes_eq-Decides x y).0 (sym (is_eq-slice_cmp x y) ∙ ap is_eq e)
    by Greater e = absurd (low e)

-- ---- answers

module _ (device : Known) (distinct : HasDistinctNames device) (Seen : List ℕ → Type 0) where
  pub got_one : (name : List ℕ) (v w : Variable) → IsGot device Seen name v → IsGot device Seen name w → v ≡ w
  got_one name v w (inl a) (inl b) = distinct v w a.there b.there (a.named ∙ sym b.named)
  got_one name v w (inl a) (inr (inl b)) = absurd (b.0.none v a)
  got_one name v w (inl a) (inr (inr b)) = absurd (b.0.none v a)
  got_one name v w (inr (inl a)) (inl b) = absurd (a.0.none w b)
  got_one name v w (inr (inl a)) (inr (inl b)) = same_exception NoSuchInstance 129 no_instance name v w a.1 b.1
  got_one name v w (inr (inl a)) (inr (inr b)) = absurd (b.0.no_object a.0.seen a.0.object)
  got_one name v w (inr (inr a)) (inl b) = absurd (a.0.none w b)
  got_one name v w (inr (inr a)) (inr (inl b)) = absurd (a.0.no_object b.0.seen b.0.object)
  got_one name v w (inr (inr a)) (inr (inr b)) = same_exception NoSuchObject 128 no_object name v w a.1 b.1

  next_one : (name : List ℕ) (v w : Variable) → IsNextAnswer device Seen name v → IsNextAnswer device Seen name w → v ≡ w
  next_one name v w (inl a) (inl b) = distinct v w a.comes.there b.comes.there (same_name v.name w.name (a.least w b.comes) (b.least v a.comes))
  next_one name v w (inl a) (inr b) = absurd (b.0 v a.comes)
  next_one name v w (inr a) (inl b) = absurd (a.0 w b.comes)
  next_one name v w (inr a) (inr b) = same_exception EndOfMibView 130 ended name v w a.1 b.1

  pub nexts_one : (names : List (List ℕ)) (vs ws : List Variable) → AreNextAnswers device Seen names vs → AreNextAnswers device Seen names ws → vs ≡ ws
  nexts_one [] [] [] a b = refl
  nexts_one [] (v ∷ vs) ws a b = absurd a
  nexts_one [] [] (w ∷ ws) a b = absurd b
  nexts_one (name ∷ names) [] ws a b = absurd a
  nexts_one (name ∷ names) (v ∷ vs) [] a b = absurd b
  nexts_one (name ∷ names) (v ∷ vs) (w ∷ ws) a b =
      ap (λ (x : Variable). x ∷ vs) (next_one name v w a.0 b.0) ∙ ap (λ (xs : List Variable). w ∷ xs) (nexts_one names vs ws a.1 b.1)

  joined : (x y xs ys : List Variable) → x ≡ y → xs ≡ ys → x ++ xs ≡ y ++ ys
  joined x y xs ys e f = ap (λ (z : List Variable). z ++ xs) e ∙ ap (λ (zs : List Variable). y ++ zs) f

  pub repetitions_one : (n : ℕ) (names : List (List ℕ)) (vs ws : List Variable) → AreRepetitions device Seen n names vs → AreRepetitions device Seen n names ws → vs ≡ ws
  repetitions_one zero names vs ws a b = a ∙ sym b
  repetitions_one (suc n) names vs ws (row, rest, is, are, more) (other, behind, also, were, further) =
      let same : row ≡ other = nexts_one names row other are were in
      is ∙ joined row other rest behind same (by more further same (repetitions_one n (map (λ v. v.name) other) rest behind)) ∙ sym also
    where
      by : ((AreEnded row × (rest ≡ [])) ⊎ ((¬ AreEnded row) × AreRepetitions device Seen n (map (λ v. v.name) row) rest))
          → ((AreEnded other × (behind ≡ [])) ⊎ ((¬ AreEnded other) × AreRepetitions device Seen n (map (λ v. v.name) other) behind)) → row ≡ other
          → (AreRepetitions device Seen n (map (λ v. v.name) other) rest → AreRepetitions device Seen n (map (λ v. v.name) other) behind → rest ≡ behind) → rest ≡ behind
      by (inl a) (inl b) same later = a.1 ∙ sym b.1
      by (inl a) (inr b) same later = absurd (b.0 (subst AreEnded same a.0))
      by (inr a) (inl b) same later = absurd (a.0 (subst AreEnded (sym same) b.0))
      by (inr a) (inr b) same later = later (subst (λ (x : List Variable). AreRepetitions device Seen n (map (λ v. v.name) x) rest) same a.1) b.1

  pub bulk_one : (names : List (List ℕ)) (non_repeaters most : ℕ) (vs ws : List Variable) → IsBulk device Seen names non_repeaters most vs → IsBulk device Seen names non_repeaters most ws → vs ≡ ws
  bulk_one names non_repeaters most vs ws a b =
      a.joined ∙ joined a.single b.single a.repeated b.repeated (nexts_one (take non_repeaters names) a.single b.single a.are_single b.are_single)
      (repetitions_one most (drop non_repeaters names) a.repeated b.repeated a.are_repeated b.are_repeated) ∙ sym b.joined
