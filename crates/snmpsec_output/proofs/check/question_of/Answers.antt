use Rattle.std.proofs.Common.{[], ℕ, List, sym, subst, ◌∙◌}
use Rattle.snmpsec_output.proofs.Checks.{at_map}
use Rattle.snmpsec_output.specs.Questions.{IsModelWord, IsContextWord}
use Rattle.snmpsec_output.proofs.check.question_of.Goals as goal

pub returns-clause-asks : goal.returns-clause-asks
returns-clause-asks c =
    let at = λ (k : ℕ). at_map (λ word. word.now) c.args.words.now k record { ref_ptr = (0, 0); now = [] } in
    record {
      model = subst (λ (word : List ℕ). IsModelWord word c.in-Some.model) (sym (at 0)) (record { some = c.in-Some.ensures.found.0; most = c.in-Some.ensures.found.1; text = c.in-Some.ensures.found.2 });
      name = at 1;
      level = at 2 ∙ c.in-Some-level_of.ensures.found;
      view = at 3 ∙ c.in-Some-view_of.ensures.found;
      context = subst (λ (word : List ℕ). IsContextWord word c.context_of.result.now) (sym (at 4)) c.context_of.ensures;
      arcs = c.in-Some-from_text.ensures.found.0;
      variable = at 5 ∙ c.in-Some-from_text.ensures.found.1;
    }
