-- Which command a command line asks for.
--
-- `command_word`: the word that a command is called by. `AsksFor`: the command is the one that was called, with its
-- words and the options that each command has.
use Rattle.std.specs.Prelude.{◌≡◌, ℕ, List, Some, codes, option_map}
use Rattle.clap.specs.Words.{found_of, subcommand_name_of}
use Rattle.clap.specs.Walk.{rows_of}
use Rattle.clap.specs.Simple.{subcommand_rows}
use Rattle.clap.specs.declared.parser.matches.ArgMatches.{ArgMatches}
use Rattle.clap.specs.declared.parser.matches.ArgMatches.TheViews.{out-ArgMatches}
use Rattle.snmpsec_cli.specs.Words.{IsFlag}
use Rattle.snmpsec_cli.specs.declared.Command.{Command}
use Rattle.snmpsec_cli.specs.declared.Command.TheVariants.{Show, Open, CheckAccess, ExplainAccess, WhoSees, Sees}
use Rattle.snmpsec_cli.specs.declared.Command.TheVariants.{CheckConfig, ImportSnmpd, Replay, MergeClocks, CheckClocks}
use Rattle.snmpsec_cli.specs.declared.Command.TheVariants.{CheckLog, Datagrams, Diagnose, Manual, Version}
use Rattle.snmpsec_cli.specs.declared.invocation.Invocation.{Invocation}

-- the word that the command is called by
abbrev pub command_word : Command → List ℕ
command_word Show = codes "show"
command_word Open = codes "open"
command_word CheckAccess = codes "check-access"
command_word ExplainAccess = codes "explain-access"
command_word WhoSees = codes "who-sees"
command_word Sees = codes "sees"
command_word CheckConfig = codes "check-config"
command_word ImportSnmpd = codes "import-snmpd"
command_word Replay = codes "replay"
command_word MergeClocks = codes "merge-clocks"
command_word CheckClocks = codes "check-clocks"
command_word CheckLog = codes "check-log"
command_word Datagrams = codes "datagrams"
command_word Diagnose = codes "diagnose"
command_word Manual = codes "manual"
command_word Version = codes "version"

-- the command that was called, with its words and the options that each command has
pub record AsksFor (matches : ArgMatches) (asked : Invocation) : Type 0 where
  pub called : subcommand_name_of matches ≡ Some (command_word asked.command)
  pub words : option_map (λ p. p.1) (subcommand_rows (out-ArgMatches matches).subcommand)
      ≡ Some (rows_of (found_of asked.words.now))
  pub why : IsFlag matches (codes "why") asked.why
  pub names : IsFlag asked.words.now (codes "names") asked.names
