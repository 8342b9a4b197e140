-- Columns while an answer is read.
use Rattle.std.specs.Prelude.{◌≡◌, ◌<◌, ℕ, zero, suc, List, [], ◌∷◌, ◌++◌, length, set, slice_index_or}
use Rattle.std.specs.List.{HoldsAt, AllZip}
use Rattle.std.proofs.Common.{refl, sym, ap, subst, ◌∙◌, arith, append_assoc, append-nil}
use Rattle.std.proofs.lemmas.List.{length-append}
use Rattle.std.proofs.lemmas.Slice.Zip.{AllZip-long}
use Rattle.snmp_msg.specs.Variables.{Variable}
use Rattle.snmp_walk.specs.BulkSteps.{ColumnReads, Grows, IsTurn}
use Rattle.snmp_walk.specs.BulkAnswer.{ReadSoFar}
use Rattle.snmp_walk.specs.Turns.{IsTurnAt, ReadsTurns}
use Rattle.snmp_walk.specs.declared.bulk_column.BulkColumn.{BulkColumn}

pub grows_same : (c : BulkColumn) → Grows c c
grows_same c = record { same = refl; progress = refl; had = refl; turn = λ t. t; more = []; given = sym (append-nil c.got.items) }

pub grows_on : (a b c : BulkColumn) → Grows a b → Grows b c → Grows a c
grows_on a b c x y = record {
  same = y.same ∙ x.same;
  progress = y.progress ∙ x.progress;
  had = y.had ∙ x.had;
  turn = λ t. y.turn (x.turn t);
  more = x.more ++ y.more;
  given = y.given ∙ ap (λ gs. gs ++ y.more) x.given ∙ append_assoc a.got.items x.more y.more;
}

pub all_grow_same : (cs : List BulkColumn) → AllZip Grows cs cs
all_grow_same [] = tt
all_grow_same (c ∷ cs) = (grows_same c, all_grow_same cs)

pub all_grow_on : (xs ys : List BulkColumn) (i : ℕ) (d new : BulkColumn) → i < length ys → AllZip Grows xs ys → Grows (slice_index_or ys i d) new → AllZip Grows xs (set ys i new)
all_grow_on [] [] i d new within all grows = absurd (omega (arith, within))
all_grow_on [] (y ∷ ys) i d new within all grows = absurd all
all_grow_on (x ∷ xs) [] i d new within all grows = absurd all
all_grow_on (x ∷ xs) (y ∷ ys) zero d new within all grows = (grows_on x y new all.0 grows, all.1)
all_grow_on (x ∷ xs) (y ∷ ys) (suc i) d new within all grows = (all.0, all_grow_on xs ys i d new (omega (arith, within)) all.1 grows)

-- of lists that belong together the elements at one place
pub zip_at : {A B : Type 0} (R : A → B → Type 0) (xs : List A) (ys : List B) (i : ℕ) (d : A) (e : B) → i < length xs → AllZip R xs ys → (i < length ys) × R (slice_index_or xs i d) (slice_index_or ys i e)
zip_at R [] ys i d e within all = absurd (omega (arith, within))
zip_at R (x ∷ xs) [] i d e within all = absurd all
zip_at R (x ∷ xs) (y ∷ ys) zero d e within all = (omega arith, all.0)
zip_at R (x ∷ xs) (y ∷ ys) (suc i) d e within all =
    let rest = zip_at R xs ys i d e (omega (arith, within)) all.1 in (omega (arith, rest.0), rest.1)

-- the element at a place is the same whatever stands for none
pub at_any : {A : Type 0} (xs : List A) (i : ℕ) (d e : A) → i < length xs → slice_index_or xs i d ≡ slice_index_or xs i e
at_any [] i d e within = absurd (omega (arith, within))
at_any (x ∷ xs) zero d e within = refl
at_any (x ∷ xs) (suc i) d e within = at_any xs i d e (omega (arith, within))

pub still_within : (xs ys : List BulkColumn) (i : ℕ) → AllZip Grows xs ys → i < length xs → i < length ys
still_within xs ys i all within = omega (arith, AllZip-long Grows xs ys all, within)

pub still_turn : (xs ys : List BulkColumn) (i : ℕ) (d : BulkColumn) → AllZip Grows xs ys → IsTurnAt xs i → (i < length ys) × IsTurn (slice_index_or ys i d)
still_turn xs ys i d all turn =
    let at = zip_at Grows xs ys i d d turn.0 all in (at.0, at.1.turn (turn.1 d))

module _ (Seen : List ℕ → Type 0) where
  pub reads_more : (cs : List BulkColumn) (ts : List ℕ) (vs : List Variable) (now : List BulkColumn) (turn : ℕ) (v : Variable) (new : BulkColumn) → ReadsTurns Seen cs ts vs now → turn < length now
      → HoldsAt (λ (c : BulkColumn). ColumnReads Seen c v new) now turn → ReadsTurns Seen cs (ts ++ turn ∷ []) (vs ++ v ∷ []) (set now turn new)
  reads_more cs [] [] now turn v new reads within one =
      subst (λ (x : List BulkColumn). ReadsTurns Seen x (turn ∷ []) (v ∷ []) (set now turn new)) reads (within, new, one, refl)
  reads_more cs [] (w ∷ vs) now turn v new reads within one = absurd reads
  reads_more cs (t ∷ ts) [] now turn v new reads within one = absurd reads
  reads_more cs (t ∷ ts) (w ∷ vs) now turn v new reads within one =
      (reads.0, reads.1, reads.2, reads_more (set cs t reads.1) ts vs now turn v new reads.3 within one)

  pub reads_as_many : (cs : List BulkColumn) (ts : List ℕ) (vs : List Variable) (now : List BulkColumn) → ReadsTurns Seen cs ts vs now → length ts ≡ length vs
  reads_as_many cs [] [] now reads = refl
  reads_as_many cs [] (v ∷ vs) now reads = absurd reads
  reads_as_many cs (t ∷ ts) [] now reads = absurd reads
  reads_as_many cs (t ∷ ts) (v ∷ vs) now reads = let more = reads_as_many (set cs t reads.1) ts vs now reads.3 in omega (arith, more)

  pub read_on : (cs : List BulkColumn) (ts : List ℕ) (vs : List Variable) (turn : ℕ) (left : List ℕ) (now : List BulkColumn) (v : Variable) (new : BulkColumn) → ReadSoFar Seen cs ts vs (turn ∷ left) now → turn < length now
      → HoldsAt (λ (c : BulkColumn). ColumnReads Seen c v new) now turn → ReadSoFar Seen cs ts (vs ++ v ∷ []) left (set now turn new)
  read_on cs ts vs turn left now v new so within one = record {
    done = so.done ++ turn ∷ [];
    joined = so.joined ∙ sym (append_assoc so.done (turn ∷ []) left);
    reads = reads_more cs so.done vs now turn v new so.reads within one;
  }

  pub read_none : (cs : List BulkColumn) (ts : List ℕ) → ReadSoFar Seen cs ts [] ts cs
  read_none cs ts = record { done = []; joined = refl; reads = refl }

  -- more variables than turns
  pub too_many_read : (cs : List BulkColumn) (ts : List ℕ) (all vs rest : List Variable) (v : Variable) (now : List BulkColumn) → ReadSoFar Seen cs ts vs [] now → all ≡ vs ++ v ∷ rest → length ts < length all
  too_many_read cs ts all vs rest v now so are =
      omega (arith, ap length so.joined ∙ length-append so.done [], ap length are ∙ length-append vs (v ∷ rest), reads_as_many cs so.done vs now so.reads)

  -- fewer variables than turns
  pub too_few_read : (cs : List BulkColumn) (ts : List ℕ) (vs : List Variable) (turn : ℕ) (left : List ℕ) (now : List BulkColumn) → ReadSoFar Seen cs ts vs (turn ∷ left) now → length vs < length ts
  too_few_read cs ts vs turn left now so =
      omega (arith, ap length so.joined ∙ length-append so.done (turn ∷ left), reads_as_many cs so.done vs now so.reads)
