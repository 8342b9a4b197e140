-- The words of a command line, by their names.
--
-- `given`: the word of a name, if it was given. `word`: that word, or no text. `all_given`: each word of a name.
-- `IsFlag`: whether an option without a value was given. The records name the word that each field is.
use Rattle.std.specs.Prelude.{◌≡◌, ℕ, List, [], Bool, true, false, Option, None, Some, map, codes, option_map}
use Rattle.std.specs.Prelude.{unwrap_or}
use Rattle.clap.specs.Words.{first_value, found_of, matched_of, one_text, raw_values}
use Rattle.clap.specs.declared.parser.matches.ArgMatches.{ArgMatches}
use Rattle.snmpsec_cli.specs.declared.access.AccessWords.{AccessWords}
use Rattle.snmpsec_cli.specs.declared.capture.DatagramsWords.{DatagramsWords}
use Rattle.snmpsec_cli.specs.declared.diagnose.DiagnoseWords.{DiagnoseWords}
use Rattle.snmpsec_cli.specs.declared.replay.ReplayWords.{ReplayWords}

-- the word of this name, if it was given: the first one if there are more
abbrev pub given : ArgMatches → List ℕ → Option (List ℕ)
given words name = first_value (found_of words) name

-- that word, or no text if it wasn't
abbrev pub word : ArgMatches → List ℕ → List ℕ
word words name = unwrap_or (given words name) []

-- each word of this name, in their order
abbrev pub all_given : ArgMatches → List ℕ → List (List ℕ)
all_given words name = unwrap_or (option_map raw_values (matched_of (found_of words) name)) []

-- the flag says whether the option of this name was given
pub record IsFlag (words : ArgMatches) (name : List ℕ) (flag : Bool) : Type 0 where
  pub absent : one_text (found_of words) name ≡ None → flag ≡ false
  pub given : one_text (found_of words) name ≡ Some (codes "true") → flag ≡ true
  pub denied : one_text (found_of words) name ≡ Some (codes "false") → flag ≡ false

-- the words of a command that asks a configuration
pub record AreAccessWords (words : ArgMatches) (w : AccessWords) : Type 0 where
  pub config : w.config.now ≡ word words (codes "CONFIG")
  pub model : w.model.now ≡ word words (codes "MODEL")
  pub name : w.name.now ≡ word words (codes "NAME")
  pub level : w.level.now ≡ word words (codes "LEVEL")
  pub view : w.view.now ≡ word words (codes "VIEW")
  pub context : w.context.now ≡ word words (codes "CONTEXT")
  pub variable : w.variable.now ≡ word words (codes "OID")

-- the words of datagrams, and of show and open over a file of datagrams
pub record AreDatagramsWords (words : ArgMatches) (w : DatagramsWords) : Type 0 where
  pub form : option_map (λ s. s.now) w.form ≡ given words (codes "FORM")
  pub ports : map (λ s. s.now) w.ports.now ≡ all_given words (codes "PORT")
  pub from_port : option_map (λ s. s.now) w.from_port ≡ given words (codes "FROM_PORT")
  pub moment : option_map (λ s. s.now) w.moment ≡ given words (codes "MOMENT")
  pub ip : IsFlag words (codes "ip") w.ip
  pub file : w.file.now ≡ word words (codes "FILE")

-- the words of diagnose
pub record AreDiagnoseWords (words : ArgMatches) (w : DiagnoseWords) : Type 0 where
  pub config : w.config.now ≡ word words (codes "CONFIG")
  pub clocks : option_map (λ s. s.now) w.clocks ≡ given words (codes "CLOCKS")
  pub json : IsFlag words (codes "json") w.json
  pub users : map (λ s. s.now) w.users.now ≡ all_given words (codes "NAME")
  pub engines : map (λ s. s.now) w.engines.now ≡ all_given words (codes "ENGINE")
  pub agents : map (λ s. s.now) w.agents.now ≡ all_given words (codes "AGENT")
  pub source : AreDatagramsWords words w.source

-- the words of replay
pub record AreReplayWords (words : ArgMatches) (w : ReplayWords) : Type 0 where
  pub moment : option_map (λ s. s.now) w.moment ≡ given words (codes "MOMENT")
  pub clocks_only : IsFlag words (codes "clocks-only") w.clocks_only
  pub from_line : option_map (λ s. s.now) w.from_line ≡ given words (codes "N")
  pub config : w.config.now ≡ word words (codes "CONFIG")
  pub clocks : w.clocks.now ≡ word words (codes "CLOCKS")
  pub log : w.log.now ≡ word words (codes "LOG")
  pub from : option_map (λ s. s.now) w.from ≡ given words (codes "FILE")
  pub form : option_map (λ s. s.now) w.form ≡ given words (codes "FORM")
  pub ports : map (λ s. s.now) w.ports.now ≡ all_given words (codes "PORT")
  pub from_port : option_map (λ s. s.now) w.from_port ≡ given words (codes "FROM_PORT")
