-- What is printed of an exchange that is finished, and whether something failed in it.
--
-- `IsPrinted`: an exchange that isn't wanted prints nothing. `fails`: something failed in it. `Prints`, `Writes`: what
-- is printed as datagrams are taken: exchanges one after another. `IsAccount`: what is printed of a whole capture.
use Rattle.std.specs.Prelude.{◌≡◌, ◌+◌, ℕ, List, [], ◌∷◌, ◌++◌, Bool, true, false, not, ◌&&◌, ◌||◌, Option, Some, None}
use Rattle.std.specs.Prelude.{map, nat_eq, option_and_then}
use Rattle.std.specs.Cmp.Lexicographic.{pointwise}
use Rattle.std.specs.HashMap.{get}
use Rattle.std.specs.List.{All, list_any}
use Rattle.md5.specs.Md5.{md5}
use Rattle.diagnose_exchanges.specs.declared.exchange.Exchange.{Exchange}
use Rattle.diagnose_exchanges.specs.declared.exchange.Ending.{Ending}
use Rattle.diagnose_exchanges.specs.declared.exchange.Ending.TheVariants.{Waits, Alone, Answered, SentAgain}
use Rattle.diagnose_exchanges.specs.declared.exchange.Ending.TheVariants.{NoAnswer, NotFollowed}
use Rattle.diagnose_exchanges.specs.Exchanges.{HasRun, Step, begins, answers, claims, ends, hands_over}
use Rattle.diagnose_exchanges.specs.Exchanges.{finishes, place_after}
use Rattle.diagnose_exchanges.specs.Exchanges.{taken_by, times, times_in}
use Rattle.diagnose_exchanges.specs.declared.asked.Asked.{Asked}
use Rattle.snmp_manager.specs.Views.{Held}
use Rattle.diagnose_text.specs.Datagrams.{HoldsItsOwn, IsOwn, JudgesAs, Seen, number_seen}
use Rattle.diagnose_text.specs.Facts.{is_discovery, sender_user, tells_another}
use Rattle.diagnose_text.specs.Wanted.{direction, is_wanted}
use Rattle.diagnose_text.specs.declared.diagnoser.Diagnoser.{Diagnoser}
use Rattle.diagnose_text.specs.declared.facts.Answer.{Answer}
use Rattle.diagnose_text.specs.declared.facts.First.{First}
use Rattle.diagnose_text.specs.declared.facts.Says.{Says}
use Rattle.diagnose_text.specs.declared.facts.Says.TheVariants.{Engine, Values, Error, Report, Unread}
use Rattle.diagnose_text.specs.declared.line.Line.{Line}
use Rattle.diagnose_text.specs.declared.options.DiagnoseOptions.{DiagnoseOptions}
use Rattle.diagnose_text.specs.declared.options.Style.{Style}
use Rattle.diagnose_text.specs.declared.options.Style.TheVariants.{Text, Json}

abbrev pub is_json : Style → Bool
is_json Text = false
is_json Json = true

-- the engine that a discovery found, or that of the first datagram
abbrev pub said_engine : First → Says → Option (List ℕ)
said_engine first (Engine engine) = Some engine
said_engine first (Values values more) = first.engine
said_engine first (Error status at) = first.engine
said_engine first (Report counter value) = first.engine
said_engine first (Unread refusal) = first.engine

-- an answer says that something failed
abbrev pub says_failure : Says → Bool
says_failure (Engine engine) = false
says_failure (Values values more) = false
says_failure (Error status at) = true
says_failure (Report counter value) = true
says_failure (Unread refusal) = true

module _ {A : Type 0} where
  abbrev pub is_there : Option A → Bool
  is_there None = false
  is_there (Some x) = true

-- this configuration refuses the datagram, or it isn't the answer of the request with its msgID; and it is no copy
abbrev pub is_refused : First → Bool
is_refused first = not (is_there first.copy_of) && (is_there first.refusal || tells_another first.remark)

module _ {K : Type 0} where
  -- the engine of an exchange
  abbrev pub engine_of : First → Ending K Answer → Option (List ℕ)
  engine_of first (Waits asked) = first.engine
  engine_of first Alone = first.engine
  engine_of first (Answered by answer) = said_engine first answer.says
  engine_of first (SentAgain n) = first.engine
  engine_of first NoAnswer = first.engine
  engine_of first NotFollowed = first.engine

  -- what fails of an exchange with this first datagram and this ending, which counts or doesn't
  abbrev pub ending_fails : First → Bool → Ending K Answer → Bool
  ending_fails first counts (Waits asked) = is_refused first
  ending_fails first counts Alone = is_refused first
  ending_fails first counts (Answered by answer) = not answer.in_window || says_failure answer.says
  ending_fails first counts (SentAgain n) = false
  ending_fails first counts NoAnswer = counts || is_discovery first.what
  ending_fails first counts NotFollowed = counts || is_discovery first.what

  -- something failed in the exchange
  abbrev pub fails : Exchange K First Answer → Bool
  fails e = ending_fails e.first e.counts e.ending

  -- the exchange is wanted
  abbrev pub is_wanted_exchange : DiagnoseOptions → Exchange K First Answer → Bool
  is_wanted_exchange options e =
      is_wanted options (sender_user e.first.sender) (engine_of e.first e.ending) e.first.route

  -- An exchange that isn't wanted prints nothing. The words of one that is wanted are not stated here.
  abbrev pub IsPrinted : DiagnoseOptions → Exchange K First Answer → List ℕ → Type 0
  IsPrinted options e text = is_wanted_exchange options e ≡ false → text ≡ []

  -- something failed in the exchange, and it is wanted
  abbrev pub counts_as_failed : DiagnoseOptions → Exchange K First Answer → Bool
  counts_as_failed options e = is_wanted_exchange options e && fails e

  -- the texts of these exchanges, one after another
  abbrev pub ArePrinted : DiagnoseOptions → List (Exchange K First Answer) → List ℕ → Type 0
  ArePrinted options [] text = text ≡ []
  ArePrinted options (e ∷ more) text =
      (block rest : List ℕ) × (text ≡ block ++ rest) × IsPrinted options e block × ArePrinted options more rest

  abbrev pub some_failed : DiagnoseOptions → List (Exchange K First Answer) → Bool
  some_failed options list = list_any (counts_as_failed options) list

  -- the place of the first exchange, after these steps
  abbrev pub gone_after : ℕ → List (Step K First Answer) → ℕ
  gone_after gone [] = gone
  gone_after gone (begins number first counts ending ∷ steps) = gone_after gone steps
  gone_after gone (answers place by asked answer ∷ steps) = gone_after gone steps
  gone_after gone (claims place by asked answer ∷ steps) = gone_after gone steps
  gone_after gone (ends place ending ∷ steps) = gone_after gone steps
  gone_after gone (hands_over first place ∷ steps) = gone_after gone steps
  gone_after gone (finishes ∷ steps) = gone_after (place_after gone 1) steps

-- By some steps exactly these datagrams are taken, and each gives what was read of it. Each exchange that is taken out
-- is printed, in order, and nothing else is. Something failed if it failed before, or in one of these.
pub record Prints (options : DiagnoseOptions) (before : Bool) (gone : ℕ) (old : List (Exchange Asked First Answer))
    (seen : List Seen) (text : List ℕ) (failed : Bool) (later : ℕ) (new : List (Exchange Asked First Answer))
    : Type 0 where
  pub steps : List (Step Asked First Answer)
  pub taken : taken_by steps ≡ map number_seen seen
  pub own : All (IsOwn seen) steps
  pub finished : List (Exchange Asked First Answer)
  pub run : HasRun gone old steps finished new
  pub place : later ≡ gone_after gone steps
  pub texts : ArePrinted options finished text
  pub failure : failed ≡ (before || some_failed options finished)

-- these datagrams are judged, one after another
abbrev pub AreJudged : Held → List Seen → Held → Type 0
AreJudged old [] new = new ≡ old
AreJudged old (one ∷ seen) new = (mid : Held)
    × JudgesAs old one.line.at.seconds one.octets one.judgement mid × AreJudged mid seen new

-- Between these states of a diagnoser exactly these datagrams are judged and taken, and the text that was written goes
-- on by what is printed of the exchanges that are taken out.
pub record Writes (seen : List Seen) (old : Diagnoser) (before : List ℕ) (new : Diagnoser) (after : List ℕ)
    : Type 0 where
  pub text : List ℕ
  pub whole : after ≡ before ++ text
  pub options : new.report.options ≡ old.report.options
  pub judged : AreJudged old.follower.observer seen new.follower.observer
  pub prints : Prints old.report.options old.report.failed old.follower.exchanges.gone old.follower.exchanges.list.items
      seen text new.report.failed new.follower.exchanges.gone new.follower.exchanges.list.items

-- How a datagram with this number was captured, at this moment, by a diagnoser: its way and its part of a second are
-- those of the packet that was seen before it, and it is a copy of the first one with its octets of which the digest is
-- kept.
pub record IsLineOf (old : Diagnoser) (number moment : ℕ) (w : List ℕ) (line : Line) : Type 0 where
  pub number_is : line.number ≡ number
  pub seconds : line.at.seconds ≡ moment
  pub micros : line.at.micros ≡ old.micros
  pub way : line.route ≡ old.route
  pub copy : line.copy_of ≡ get (pointwise nat_eq) old.copies.kept (md5 w)
  pub told : line.told ≡ option_and_then (direction old.report.options.agents.items) old.route

-- What is printed of a capture with these datagrams, and what is held at its end: the texts of exchanges one after
-- another, of which each holds what was read of its own datagrams. Each datagram is in exactly one of them.
pub record IsAccount (options : DiagnoseOptions) (seen : List Seen) (held : List (Exchange Asked First Answer))
    (text : List ℕ) : Type 0 where
  pub finished : List (Exchange Asked First Answer)
  pub texts : ArePrinted options finished text
  pub own : All (HoldsItsOwn seen) (finished ++ held)
  pub once : (n : ℕ) → times_in n finished + times_in n held ≡ times n (map number_seen seen)
