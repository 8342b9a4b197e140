-- Datagrams that are judged one after another, each at the time of its capture.
--
-- `HasJudged old datagrams judgements new`. `own_of` and `judgements_of_own`: of these the messages that
-- authoritative engines sent, and what they were judged to be.
use Rattle.std.specs.Prelude.{◌≡◌, ℕ, List, [], ◌∷◌}
use Rattle.snmp_manager.specs.Views.{Held}
use Rattle.diagnose_judge.specs.Judging.{Judgement, unread, discovery, sent_by, sent_to, IsJudged}

abbrev pub HasJudged : Held → List (ℕ × List ℕ) → List Judgement → Held → Type 0
HasJudged old [] [] new = new ≡ old
HasJudged old (t ∷ ts) (j ∷ js) new = (mid : Held) × IsJudged old t.0 t.1 j mid × HasJudged mid ts js new
HasJudged old [] (j ∷ js) new = ⊥
HasJudged old (t ∷ ts) [] new = ⊥

-- the messages that authoritative engines sent, each with its moment
abbrev pub own_of : List (ℕ × List ℕ) → List Judgement → List (ℕ × List ℕ)
own_of [] js = []
own_of (t ∷ ts) [] = []
own_of (t ∷ ts) (unread refusal ∷ js) = own_of ts js
own_of (t ∷ ts) (discovery ∷ js) = own_of ts js
own_of (t ∷ ts) (sent_by given in_window ∷ js) = t ∷ own_of ts js
own_of (t ∷ ts) (sent_to given verdict ∷ js) = own_of ts js

-- what these were judged to be
abbrev pub judgements_of_own : List Judgement → List Judgement
judgements_of_own [] = []
judgements_of_own (unread refusal ∷ js) = judgements_of_own js
judgements_of_own (discovery ∷ js) = judgements_of_own js
judgements_of_own (sent_by given in_window ∷ js) = sent_by given in_window ∷ judgements_of_own js
judgements_of_own (sent_to given verdict ∷ js) = judgements_of_own js
