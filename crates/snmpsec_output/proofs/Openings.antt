-- Rows of the table, for the function that opens a message.
use Rattle.usm_core.specs.Table.{refused, refusal_answer}
use Rattle.snmp_message.specs.declared.refusal.Refusal.TheVariants.{DecryptionError, OutOfMemory}
use Rattle.snmp_message.specs.declared.refusal.Refusal.{Refusal}
use Rattle.std.proofs.Common.{ℕ, Bool, List, Option, Some, None, sym, subst}
use Rattle.std.specs.Prelude.{◌≢◌, Ok, Err, IfSome, IsSomeAnd}
use Rattle.usm_users.specs.User.{User}
use Rattle.usm_core.specs.Table.{holds, fails, gives, refuses}
use Rattle.usm_core.specs.Verified.{Verified, Verifies, manager}
use Rattle.snmp_incoming.specs.Outcome.{Given, ReadsText}
use Rattle.snmp_incoming.specs.Answers.{IsOpening}
use Rattle.snmp_incoming.proofs.Rows.{is_in_table}
use Rattle.snmpsec_output.specs.Opening.{TellsWith, Opens, OpensWith}

-- refused down to the digest
pub opens_refused : (names : Bool) (users : List User) (w : List ℕ) (r : Refusal) → r ≢ OutOfMemory → Verifies manager users w (Err r) → IfSome (refusal_answer r) (OpensWith names users w)
unfolding Opens
opens_refused names users w r other rows = subst (λ (o : Option Refusal). IfSome (refused o) (OpensWith names users w)) (sym (is_in_table r other)) (refuses r rows)

module _ (names : Bool) (users : List User) (w : List ℕ) (v : Verified) (rows : Verifies manager users w (Ok v)) where
  -- the salt doesn't have 8 octets
  pub opens_unopened : IsOpening users w v None → OpensWith names users w (Err DecryptionError)
  unfolding Opens
  opens_unopened opening = gives v rows (fails (λ salt. opening.1 (salt opening.0)))

  module _ (text : List ℕ) (opening : IsOpening users w v (Some text)) where
    -- the text has no PDU
    pub opens_unread : (o : Option Refusal) → IsSomeAnd (refused {X = Given} o) (ReadsText v text) → IfSome (refused o) (OpensWith names users w)
    unfolding Opens
    opens_unread None read = tt
    opens_unread (Some n) read = gives v rows (holds opening.0 (refuses n (text, opening.1, read)))

    pub opens_read : (given : Given) (lines : List ℕ) → ReadsText v text (Ok given) → TellsWith names v given.text lines → OpensWith names users w (Ok lines)
    unfolding Opens
    opens_read given lines read tells = (tells.0, gives v rows (holds opening.0 (gives given (text, opening.1, read) tells.1)), tells.2)
