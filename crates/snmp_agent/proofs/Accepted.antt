-- What an agent sends fits, and is accepted.
use Rattle.std.proofs.Common.{ℕ, List, Result, Ok, Err}
use Rattle.std.specs.Prelude.{IfOk, IfSome}
use Rattle.std.specs.Global.{Vec}
use Rattle.engine_clock.specs.Marks.{Marks}
use Rattle.usm_users.specs.User.{User}
use Rattle.usm_core.specs.Sealed.{Seals}
use Rattle.usm_core.specs.Verified.{manager}
use Rattle.snmp_incoming.specs.Outcome.{as_manager}
use Rattle.snmp_message.specs.declared.refused_at.RefusedAt.{RefusedAt}
use Rattle.snmp_outgoing.specs.Accepts.{IsTakenInTime}
use Rattle.usm_core.specs.Answers.{seal_answer}
use Rattle.snmp_outgoing.specs.Speaks.{Speech, spoken, spoken_contexts, SpeechFits, HasSameUser}
use Rattle.snmp_agent.specs.Sent.{IsAcceptedByManagers}

-- what was sealed of the speech is accepted
abbrev pub AreAccepted : List User → Speech → Type 0
AreAccepted users s =
    (others : List User) (held : Marks) (now : ℕ) (text : List ℕ) → SpeechFits s → HasSameUser manager users others s.user s.level → Seals users (spoken s) (Ok text)
    → IsTakenInTime (as_manager held) others now text (spoken s) (spoken_contexts s) s.pdu

pub accepted : (r : Result (Vec ℕ) RefusedAt) (users : List User) (s : Speech) → AreAccepted users s → IfOk r (λ _. SpeechFits s) → IfSome (seal_answer r) (Seals users (spoken s)) → IfOk r (λ text. IsAcceptedByManagers users s text.items)
accepted (Err e) users s law fits seals = tt
accepted (Ok text) users s law fits seals = λ others held now same. law others held now text.items fits same seals

-- the same of a text, whatever the other answers are
pub accepted_text : (r : Result (Vec ℕ) RefusedAt) (users : List User) (s : Speech) → AreAccepted users s → IfOk r (λ _. SpeechFits s) → IfOk r (λ text. Seals users (spoken s) (Ok text.items)) → IfOk r (λ text. IsAcceptedByManagers users s text.items)
accepted_text (Err e) users s law fits seals = tt
accepted_text (Ok text) users s law fits seals = λ others held now same. law others held now text.items fits same seals
