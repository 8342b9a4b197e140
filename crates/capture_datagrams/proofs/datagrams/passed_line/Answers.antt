use Rattle.std.proofs.Common.{◌≡◌, ◌++◌, ◌∙◌, sym, codes, string_bytes, length, IfOk, rules}
use Rattle.std.proofs.lemmas.Result.{IfOk-weaker}
use Rattle.capture_datagrams.proofs.Tellings.{line_made}
use Rattle.capture_datagrams.proofs.datagrams.passed_line.Goals as goal

pub returns : goal.returns
returns c =
    let words = c.in_ok-words.ensures in
    let some : length (string_bytes c.in_ok-words.words) ≡ 0 → ⊥ = λ none. search rules in
    let made : IfOk c.format.result (λ text. string_bytes text ≡ codes "snmpsec: passed over: " ++ (string_bytes c.in_ok-words.words ++ codes "\n")) = search rules in
    IfOk-weaker c.format.result _ _ (λ text h. (string_bytes c.in_ok-words.words, words, h ∙ sym (line_made (string_bytes c.in_ok-words.words) some))) made
