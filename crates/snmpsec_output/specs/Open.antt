-- What `snmpsec open` prints.
--
-- `OpensText names config digits printed`. What `open` prints: the word that isn't hex; or the refusal of the
-- configuration; or, by the users that it loads to, the lines that `OpensWith` gives, or the refusal that it
-- answers.
use Rattle.std.specs.Prelude.{◌≡◌, ◌⊎◌, ℕ, Bool, List, [], Ok, Err}
use Rattle.hex.specs.Hex.{decode_of}
use Rattle.usm_users.specs.User.{User}
use Rattle.vacm_core.specs.Tables.{Tables}
use Rattle.snmpsec_config.specs.Refusals.{Loads}
use Rattle.snmpsec_output.specs.Opening.{Opens, OpensWith}
use Rattle.snmp_message.specs.declared.refused_at.RefusedAt.{RefusedAt}
use Rattle.snmpsec_output.specs.Refusals.{refused_line}
use Rattle.snmpsec_output.specs.Show.{TellsNoHex}
use Rattle.snmpsec_output.specs.Questions.{Printed, TellsRefused}

-- The lines of the message that these users open are printed.
pub record Opened (names : Bool) (users : List User) (w : List ℕ) (printed : Printed) : Type 0 where
  pub opens : OpensWith names users w (Ok printed.out)
  pub err : printed.err ≡ []
  pub status : printed.status ≡ 0

-- The refusal of the message is printed, with any place.
pub record RefusesOpening (users : List User) (w : List ℕ) (printed : Printed) : Type 0 where
  pub told : RefusedAt
  pub cause : Opens users w (Err told.refusal)
  pub out : printed.out ≡ refused_line told
  pub err : printed.err ≡ []
  pub status : printed.status ≡ 1

abbrev pub OpensBy : Bool → List User → List ℕ → Printed → Type 0
OpensBy names users w printed = Opened names users w printed ⊎ RefusesOpening users w printed

-- by the users of the configuration, with the keys of their passwords
abbrev pub OpensFrom : Bool → List ℕ → List ℕ → Printed → Type 0
OpensFrom names config w printed = (users : List User) × (tables : Tables) × Loads config users tables
    × OpensBy names users w printed

-- The datagram of the word is opened, or the configuration is refused.
pub record OpensWord (names : Bool) (config digits : List ℕ) (printed : Printed) : Type 0 where
  pub datagram : List ℕ
  pub decoded : decode_of digits ≡ Ok datagram
  pub told : TellsRefused config printed ⊎ OpensFrom names config datagram printed

-- A word out of its form is reported first, then a configuration that is refused.
abbrev pub OpensText : Bool → List ℕ → List ℕ → Printed → Type 0
OpensText names config digits printed = TellsNoHex digits printed ⊎ OpensWord names config digits printed
