-- What a step leaves, by the exchange that was read at its index.
use Rattle.std.proofs.Common.{◌≡◌, ◌≢◌, ◌<◌, ◌∙◌, ℕ, Bool, true, false, List, [], Option, Some, None, is_some, length, ap, refl, sym, slice_index_or, slice_set}
use Rattle.std.proofs.lemmas.List.{get_or_default, get_or-set_other}
use Rattle.std.proofs.lemmas.Bool.{false≢true}
use Rattle.diagnose_exchanges.specs.declared.exchange.Ending.{Ending}
use Rattle.diagnose_exchanges.specs.declared.exchange.Ending.TheVariants.{Waits, Alone, Answered, SentAgain, NoAnswer, NotFollowed}
use Rattle.diagnose_exchanges.specs.declared.exchange.Exchange.{Exchange}
use Rattle.diagnose_exchanges.specs.declared.exchange.Claim.{Claim}
use Rattle.diagnose_exchanges.specs.Exchanges.{AnswersAt, Ends, ClaimsAt, IsAsking, IsUncounted, IsWaiting, asks, counting, ended, claimed, is_waiting, resent, waits}

module _ {K A : Type 0} where
  -- what it waits for
  held_by : (eq : K → K → Bool) (asked : K) (ending : Ending K A) → asks eq asked ending ≡ true → (held : K) × (ending ≡ Waits held) × (eq held asked ≡ true)
  held_by eq asked (Waits held) h = (held, refl, h)
  held_by eq asked Alone h = cc h
  held_by eq asked (Answered by answer) h = cc h
  held_by eq asked (SentAgain number) h = cc h
  held_by eq asked NoAnswer h = cc h
  held_by eq asked NotFollowed h = cc h

module _ {A : Type 0} where
  none_there : (claim : Option (Claim A)) → is_some claim ≡ false → claim ≡ None
  none_there None h = refl
  none_there (Some said) h = cc h

module _ {K Q A : Type 0} where
  pub ends_read : (gone : ℕ) (old : List (Exchange K Q A)) (place index : ℕ) (read : Exchange K Q A) (ending : Ending K A) → IsWaiting gone old place index → read ≡ slice_index_or old index read → Ends gone old (slice_set old index (ended ending read)) place ending
  ends_read gone old place index read ending w h = record {
    index = index;
    waited = w;
    new_is = ap (λ e. slice_set old index (ended ending e)) (h ∙ get_or_default old index read w.exchange w.within ∙ sym w.exchange_is);
  }

  -- one that waits and one that doesn't are two
  pub apart : (gone : ℕ) (list : List (Exchange K Q A)) (first place index other : ℕ) → IsWaiting gone list first index → IsUncounted gone list place other → other ≢ index
  apart gone list first place index other w u e =
      let same = u.exchange_is ∙ ap (λ k. slice_index_or list k u.exchange) e ∙ get_or_default list index u.exchange w.exchange w.within ∙ sym w.exchange_is in
      absurd (false≢true (sym u.finished ∙ ap waits same ∙ w.waiting))

  -- the first was read and written, and then the other one
  pub handed : (old : List (Exchange K Q A)) (index other : ℕ) (x y first again written : Exchange K Q A) → index < length old → other < length old → other ≢ index
      → x ≡ slice_index_or old index x → y ≡ slice_index_or old other y → first ≡ slice_index_or old index first → again ≡ slice_index_or old other again
      → written ≡ slice_index_or (slice_set old index (resent again.number first)) other written
      → slice_set (slice_set old index (resent again.number first)) other (counting first.counts written) ≡ slice_set (slice_set old index (resent y.number x)) other (counting x.counts y)
  handed old index other x y first again written within within_other differ x_is y_is first_is again_is written_is =
      let first_x = first_is ∙ get_or_default old index first x within ∙ sym x_is in
      let again_y = again_is ∙ get_or_default old other again y within_other ∙ sym y_is in
      let written_y = written_is ∙ get_or-set_other old index other (resent again.number first) written differ ∙ get_or_default old other written y within_other ∙ sym y_is in
      ap (λ f. slice_set (slice_set old index (resent again.number f)) other (counting f.counts written)) first_x
      ∙ ap (λ r. slice_set (slice_set old index (resent r.number x)) other (counting x.counts written)) again_y
      ∙ ap (λ v. slice_set (slice_set old index (resent y.number x)) other (counting x.counts v)) written_y

  -- the exchange that asked what is answered was read, and ended
  pub answered_at : (eq : K → K → Bool) (gone : ℕ) (old new : List (Exchange K Q A)) (place by index : ℕ) (asked : K) (answer : A) (read : Exchange K Q A)
      → IsAsking eq gone old place asked index → read ≡ slice_index_or old index read → new ≡ slice_set old index (ended (Answered by answer) read) → AnswersAt eq gone old new asked by answer place
  answered_at eq gone old new place by index asked answer read a read_is new_is =
      let held = held_by eq asked a.exchange.ending a.asking in
      let same = read_is ∙ get_or_default old index read a.exchange a.within ∙ sym a.exchange_is in (
        held.0,
        held.2,
        (
          [],
          refl,
          (
            new,
            record {
              index = index;
              waited = record {
                place_is = a.place_is;
                within = a.within;
                exchange = a.exchange;
                exchange_is = a.exchange_is;
                waiting = ap is_waiting held.1;
              };
              new_is = new_is ∙ ap (λ e. slice_set old index (ended (Answered by answer) e)) same;
            },
            held.1,
            (refl, refl),
          ),
        ),
      )

  -- the exchange that asked was read, and something was said of it
  pub claimed_at : (eq : K → K → Bool) (gone : ℕ) (old new : List (Exchange K Q A)) (place by index : ℕ) (asked : K) (answer : A) (looked read : Exchange K Q A)
      → IsAsking eq gone old place asked index → looked ≡ slice_index_or old index looked → is_some looked.claim ≡ false → read ≡ slice_index_or old index read → new ≡ slice_set old index (claimed by answer read) → ClaimsAt eq gone old new asked by answer place
  claimed_at eq gone old new place by index asked answer looked read a looked_is unsaid read_is new_is =
      let held = held_by eq asked a.exchange.ending a.asking in
      let same = read_is ∙ get_or_default old index read a.exchange a.within ∙ sym a.exchange_is in (
        held.0,
        held.2,
        (
          [],
          refl,
          (
            new,
            record {
              index = index;
              waited = record {
                place_is = a.place_is;
                within = a.within;
                exchange = a.exchange;
                exchange_is = a.exchange_is;
                waiting = ap is_waiting held.1;
              };
              first = none_there a.exchange.claim (ap (λ e. is_some e.claim) (a.exchange_is ∙ get_or_default old index a.exchange looked a.within ∙ sym looked_is) ∙ unsaid);
              new_is = new_is ∙ ap (λ e. slice_set old index (claimed by answer e)) same;
            },
            held.1,
            (refl, refl),
          ),
        ),
      )
