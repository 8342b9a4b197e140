-- What a diagnoser writes, one call after another.
use Rattle.std.proofs.Common.{◌≡◌, ◌∙◌, ◌++◌, ℕ, List, [], ◌∷◌, Option, ap, refl, sym, subst}
use Rattle.std.proofs.lemmas.List.{append_assoc, append-nil}
use Rattle.diagnose_judge.specs.Judging.{Judgement}
use Rattle.snmp_manager.specs.Views.{Held}
use Rattle.diagnose_text.proofs.Printings.{nothing_prints, seeing_prints, then_prints}
use Rattle.diagnose_text.specs.Datagrams.{Seen, seen_as}
use Rattle.diagnose_text.specs.Following.{Sees}
use Rattle.diagnose_text.specs.Printing.{AreJudged, Prints, Writes}
use Rattle.diagnose_text.specs.declared.line.Line.{Line}
use Rattle.diagnose_text.specs.declared.diagnoser.Diagnoser.{Diagnoser}
use Rattle.diagnose_text.specs.declared.follower.Follower.{Follower}

pub writes_nothing : (d : Diagnoser) (out : List ℕ) → Writes [] d out d out
writes_nothing d out = record {
  text = [];
  whole = sym (append-nil out);
  options = refl;
  judged = refl;
  prints = nothing_prints d.report.options d.report.failed d.follower.exchanges.gone d.follower.exchanges.list.items d.follower.exchanges.gone d.follower.exchanges.list.items refl refl;
}

judged_then : (seen more : List Seen) (old mid new : Held) → AreJudged old seen mid → AreJudged mid more new → AreJudged old (seen ++ more) new
judged_then [] more old mid new h k = subst (λ held. AreJudged held more new) h k
judged_then (one ∷ seen) more old mid new h k = (h.0, h.1, judged_then seen more h.0 mid new h.2 k)

pub writes_then : (seen more : List Seen) (a b c : Diagnoser) (x y z : List ℕ) → Writes seen a x b y → Writes more b y c z → Writes (seen ++ more) a x c z
writes_then seen more a b c x y z p q = record {
  text = p.text ++ q.text;
  whole = q.whole ∙ ap (λ t. t ++ q.text) p.whole ∙ append_assoc x p.text q.text;
  options = q.options ∙ p.options;
  judged = judged_then seen more a.follower.observer b.follower.observer c.follower.observer p.judged q.judged;
  prints = then_prints a.report.options a.report.failed a.follower.exchanges.gone a.follower.exchanges.list.items seen p.text
      b.report.failed b.follower.exchanges.gone b.follower.exchanges.list.items more q.text c.report.failed c.follower.exchanges.gone c.follower.exchanges.list.items
      p.prints (subst (λ o. Prints o b.report.failed b.follower.exchanges.gone b.follower.exchanges.list.items more q.text c.report.failed c.follower.exchanges.gone c.follower.exchanges.list.items) p.options q.prints);
}

-- a datagram is taken, and nothing is printed
pub seen_writes : (line : Line) (w : List ℕ) (judgement : Option Judgement) (old : Diagnoser) (later : Follower) → Sees line w judgement old.follower later
    → Writes (seen_as line w judgement ∷ []) old [] (record old { follower = later }) []
seen_writes line w judgement old later sees = record {
  text = [];
  whole = refl;
  options = refl;
  judged = (later.observer, sees.judged, refl);
  prints = seeing_prints old.report.options old.report.failed line w judgement old.follower later sees;
}

-- nothing is printed, and something else changes
pub other_writes : (old new : Diagnoser) → new.follower ≡ old.follower → new.report.options ≡ old.report.options → new.report.failed ≡ old.report.failed → Writes [] old [] new []
other_writes old new follower options failed = record {
  text = [];
  whole = refl;
  options = options;
  judged = ap (λ f. f.observer) follower;
  prints = rw (follower, failed) (nothing_prints old.report.options old.report.failed old.follower.exchanges.gone old.follower.exchanges.list.items old.follower.exchanges.gone old.follower.exchanges.list.items refl refl);
}

-- what prints nothing does so behind any text
pub writes_anywhere : (seen : List Seen) (a b : Diagnoser) (out : List ℕ) → Writes seen a [] b [] → Writes seen a out b out
writes_anywhere seen a b out w = record {
  text = w.text;
  whole = sym (append-nil out) ∙ ap (λ t. out ++ t) w.whole;
  options = w.options;
  judged = w.judged;
  prints = w.prints;
}
