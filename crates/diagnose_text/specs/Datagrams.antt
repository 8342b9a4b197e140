-- What exchanges hold of a datagram is what was read of it.
--
-- `Seen`: a datagram of a capture, how it was captured and what it was judged to be. `IsStepOf`: the step that is made
-- of it. It begins an exchange with what was read of the datagram, or answers one with that. `HoldsItsOwn`: an exchange
-- whose first datagram and whose answer are two of these, and hold what was read of them.
use Rattle.std.specs.Prelude.{◌≡◌, ◌≢◌, ◌⊎◌, ◌&&◌, ℕ, List, [], Bool, true, false, not, MatchOption, Option, Some, None}
use Rattle.std.specs.Prelude.{is_none, is_some}
use Rattle.std.specs.List.{Contains}
use Rattle.snmp_message.specs.Layout.{Parts, Outer}
use Rattle.snmp_message.specs.Level.{level_of}
use Rattle.snmp_message.specs.Scoped.{Contexts, HasScoped, ScopedFront}
use Rattle.snmp_message.specs.Security.{Fields, SecText}
use Rattle.snmp_message.specs.declared.refusal.Refusal.{Refusal}
use Rattle.snmp_msg.specs.Pdu.{PduParts, PduText}
use Rattle.snmp_msg.specs.PduTypes.{is_confirmed, pdu_tag}
use Rattle.snmp_ber.specs.declared.level.Level.TheVariants.{NoAuthNoPriv}
use Rattle.snmp_msg.specs.Variables.{variables_of}
use Rattle.snmp_msg.specs.declared.pdu_type.PduType.TheVariants as kinds
use Rattle.usm_core.specs.Authentic.{HasEngineLength}
use Rattle.snmp_incoming.specs.Outcome.{Given}
use Rattle.snmp_manager.specs.Views.{Held}
use Rattle.diagnose_judge.specs.Judging.{Judgement, unread, discovery, sent_by, sent_to, IsJudged as IsJudgedAs}
use Rattle.diagnose_judge.specs.declared.judged.Verdict.{Verdict}
use Rattle.diagnose_exchanges.specs.Exchanges.{Step, begins, answers, claims, ends, hands_over, finishes}
use Rattle.diagnose_exchanges.specs.Routes.{back_if_known}
use Rattle.diagnose_exchanges.specs.declared.asked.Asked.{Asked}
use Rattle.diagnose_exchanges.specs.declared.exchange.Ending.{Ending}
use Rattle.diagnose_exchanges.specs.declared.exchange.Ending.TheVariants.{Waits, Alone, Answered, SentAgain}
use Rattle.diagnose_exchanges.specs.declared.exchange.Ending.TheVariants.{NoAnswer, NotFollowed}
use Rattle.diagnose_exchanges.specs.declared.exchange.Exchange.{Exchange}
use Rattle.diagnose_exchanges.specs.declared.exchange.Claim.{Claim}
use Rattle.diagnose_text.specs.Facts.{ArePduNames, IsAlone, IsCaptured, IsContextIn, IsJudged, IsPlain, IsReport}
use Rattle.diagnose_text.specs.Facts.{IsRequestIdIn, IsSaid, IsSender, is_discovery}
use Rattle.diagnose_text.specs.declared.facts.Remark.{Remark}
use Rattle.diagnose_text.specs.declared.bearing.Bearing.{Bearing}
use Rattle.diagnose_text.specs.declared.bearing.Bearing.TheVariants as bearings
use Rattle.diagnose_text.specs.declared.facts.Answer.{Answer}
use Rattle.diagnose_text.specs.declared.facts.First.{First}
use Rattle.diagnose_text.specs.declared.facts.PduNames.{PduNames}
use Rattle.diagnose_text.specs.declared.facts.Remark.TheVariants.{EnginesLimit}
use Rattle.diagnose_text.specs.declared.facts.Says.{Says}
use Rattle.diagnose_text.specs.declared.facts.Says.TheVariants as says
use Rattle.diagnose_text.specs.declared.facts.What.{What}
use Rattle.diagnose_text.specs.declared.facts.What.TheVariants.{Discovery, Pdu, Sealed, Unreadable}
use Rattle.diagnose_text.specs.declared.line.Line.{Line}
use Rattle.diagnose_text.specs.declared.unread.Contents.{Contents as ContentsRead}
use Rattle.diagnose_text.specs.declared.unread.Unread.{Unread}

-- ---- what is read of a datagram

-- a message with these security parameters (RFC 3412, section 6, and RFC 3414, section 2.4)
pub record IsMessage (w : List ℕ) (m : Parts) (s : Fields) : Type 0 where
  pub outer : Outer w m
  pub security : SecText m.security_at m.security s

-- its msgID
abbrev pub IsMessageId : List ℕ → ℕ → Type 0
IsMessageId w id = (m : Parts) × Outer w m × (m.header.id ≡ id)

-- its msgAuthoritativeEngineID
abbrev pub IsEngineOf : List ℕ → List ℕ → Type 0
IsEngineOf w engine = (m : Parts) × (s : Fields) × IsMessage w m s × (engine ≡ s.engine)

-- the PDU of the ScopedPDU that these octets begin with
abbrev pub IsPduIn : List ℕ → PduParts → Type 0
IsPduIn text pdu = (c : Contexts) → ScopedFront text c → PduText c.pdu pdu

-- the PDU of a message that isn't sealed
pub record IsPlainPdu (w : List ℕ) (pdu : PduParts) : Type 0 where
  pub message : Parts
  pub outer : Outer w message
  pub contexts : Contexts
  pub scoped : HasScoped w message contexts
  pub is : PduText contexts.pdu pdu

-- it is a PDU of this kind, with its type and first names
pub record IsNamed (IsPdu : PduParts → Type 0) (what : What) : Type 0 where
  pub pdu : PduParts
  pub is : IsPdu pdu
  pub names : PduNames
  pub are : ArePduNames pdu names
  pub whole : what ≡ Pdu names

-- ---- a message that wasn't opened

-- what a PDU says if it is a Report
abbrev pub IsReportIn : PduParts → Option Says → Type 0
IsReportIn pdu None = pdu.tag ≢ pdu_tag kinds.Report
IsReportIn pdu (Some said) = (pdu.tag ≡ pdu_tag kinds.Report) × IsReport (variables_of pdu.list) said

-- its type and first names, whether it is a request (RFC 3411, section 2.8), and what it says if it is a Report
pub record AreReadOf (pdu : PduParts) (read : ContentsRead) : Type 0 where
  pub names : PduNames
  pub are : ArePduNames pdu names
  pub what : read.what ≡ Pdu names
  pub request : read.is_request ≡ Some (is_confirmed pdu.tag)
  pub report : IsReportIn pdu read.report

-- no PDU can be read; whether it is a request is known where the user names the agents
pub record IsSealed (w : List ℕ) (told : Option Bool) (read : ContentsRead) : Type 0 where
  pub none : (pdu : PduParts) → ¬ IsPlainPdu w pdu
  pub what : read.what ≡ Sealed (is_none told)
  pub request : read.is_request ≡ told
  pub report : read.report ≡ None

abbrev pub AreContents : List ℕ → Option Bool → ContentsRead → Type 0
AreContents w told read = ((pdu : PduParts) × IsPlainPdu w pdu × AreReadOf pdu read) ⊎ IsSealed w told read

-- what can be said of a message that wasn't opened
pub record IsUnread (w : List ℕ) (told : Option Bool) (read : Unread) : Type 0 where
  pub message : Parts
  pub fields : Fields
  pub is : IsMessage w message fields
  pub id : read.id ≡ message.header.id
  pub user : read.sender.user ≡ fields.user
  pub level : MatchOption read.sender.level ((message.header.privacy ≡ true) × (message.header.auth ≡ false))
      (λ level. level ≡ level_of message.header)
  pub engine : MatchOption read.engine (¬ HasEngineLength fields.engine) (λ engine. engine ≡ fields.engine)
  pub contents : AreContents w told read.contents

-- ---- the first datagram of an exchange

-- a request that was opened
pub record IsRequest (line : Line) (given : Given) (verdict : Verdict) (first : First) : Type 0 where
  pub captured : IsCaptured line first
  pub sender : IsSender given first
  pub context : IsContextIn given.text first.context
  pub request_id : IsRequestIdIn given.text first.request_id
  pub what : IsNamed (IsPduIn given.text) first.what
  pub judged : IsJudged verdict first

-- a notification, or an answer that answers no request
pub record IsUnasked (line : Line) (given : Given) (first : First) : Type 0 where
  pub captured : IsCaptured line first
  pub sender : IsSender given first
  pub context : IsContextIn given.text first.context
  pub request_id : IsRequestIdIn given.text first.request_id
  pub what : IsNamed (IsPduIn given.text) first.what
  pub why : Remark
  pub alone : IsAlone line given.tag why first

-- a request without an engine and without authentication (RFC 3414, section 4)
pub record IsDiscovery (line : Line) (first : First) : Type 0 where
  pub captured : IsCaptured line first
  pub plain : IsPlain first
  pub what : first.what ≡ Discovery

-- a message of an engine beyond the limit
pub record IsLeftOut (line : Line) (w : List ℕ) (first : First) : Type 0 where
  pub captured : IsCaptured line first
  pub engine : List ℕ
  pub is : IsEngineOf w engine
  pub known : first.engine ≡ Some engine
  pub what : first.what ≡ Sealed true
  pub remark : first.remark ≡ EnginesLimit

-- no message of SNMPv3
pub record IsNoMessage (line : Line) (w : List ℕ) (refusal : Refusal) (first : First) : Type 0 where
  pub captured : IsCaptured line first
  pub none : (m : Parts) (s : Fields) → ¬ IsMessage w m s
  pub what : first.what ≡ Unreadable
  pub refused : first.refusal ≡ Some refusal

-- a message that wasn't opened
pub record IsUnopened (line : Line) (w : List ℕ) (refusal : Refusal) (first : First) : Type 0 where
  pub captured : IsCaptured line first
  pub read : Unread
  pub is : IsUnread w line.told read
  pub sender : first.sender ≡ Some read.sender
  pub engine : first.engine ≡ read.engine
  pub what : first.what ≡ read.contents.what
  pub refused : first.refusal ≡ Some refusal

-- ---- an answer

-- an answer that was opened: the engine, if a discovery asked for it, or what its PDU says
pub record IsAnswerRead (line : Line) (given : Given) (in_window : Bool) (answer : Answer) : Type 0 where
  pub moment : answer.at ≡ line.at
  pub window : answer.in_window ≡ in_window
  pub says : (answer.says ≡ says.Engine given.engine)
      ⊎ ((pdu : PduParts) × IsPduIn given.text pdu × IsSaid pdu answer.says)

-- what an answer that wasn't opened says: what a Report does that isn't sealed, or why it isn't opened
abbrev pub IsUnreadSaid : Refusal → Option Says → Says → Type 0
IsUnreadSaid refusal None said = said ≡ says.Unread refusal
IsUnreadSaid refusal (Some report) said = said ≡ report

-- an answer that wasn't opened
pub record IsAnswerUnread (line : Line) (w : List ℕ) (refusal : Refusal) (answer : Answer) : Type 0 where
  pub moment : answer.at ≡ line.at
  pub window : answer.in_window ≡ true
  pub views : answer.views.items ≡ []
  pub read : Unread
  pub is : IsUnread w line.told read
  pub says : IsUnreadSaid refusal read.contents.report answer.says

-- a Report without authentication (RFC 3414, section 3.2): whoever can send it may have forged it
abbrev pub MayBeForged : Given → Type 0
MayBeForged given = (given.tag ≡ pdu_tag kinds.Report) × (given.level ≡ NoAuthNoPriv)

abbrev pub IsClaim : Bearing → Type 0
IsClaim bearings.Answers = ⊥
IsClaim bearings.Claims = Unit {0}
IsClaim (bearings.Differs why) = ⊥

-- ---- the step of a datagram

-- By what an answer is known: by the same msgID, on the way back (RFC 3412, section 7.2, step 10).
abbrev pub asked_by : Line → ℕ → Asked
asked_by line id = record { route = line.route; id = id }

abbrev pub asked_of : Line → ℕ → Asked
asked_of line id = record { route = back_if_known line.route; id = id }

-- it is asked for the first time, and isn't a discovery
abbrev pub is_counted : First → Bool
is_counted first = not (is_some first.again) && not (is_discovery first.what)

-- A request waits for its answer, unless it is a copy. A copy isn't counted.
abbrev pub IsAsked : Option ℕ → Asked → First → Bool → Ending Asked Answer → Type 0
IsAsked None asked first counts ending = (counts ≡ is_counted first) × (ending ≡ Waits asked)
IsAsked (Some n) asked first counts ending = (counts ≡ false) × (ending ≡ Alone)

-- it begins an exchange that nothing answers
abbrev pub StandsAlone : Line → (First → Type 0) → Step Asked First Answer → Type 0
StandsAlone line IsFirst (begins number first counts ending) =
    (number ≡ line.number) × IsFirst first × (counts ≡ false) × (ending ≡ Alone)
StandsAlone line IsFirst (answers place by asked answer) = ⊥
StandsAlone line IsFirst (claims place by asked answer) = ⊥
StandsAlone line IsFirst (ends place ending) = ⊥
StandsAlone line IsFirst (hands_over first place) = ⊥
StandsAlone line IsFirst finishes = ⊥

-- it begins an exchange as a request with this msgID
abbrev pub Asks : Line → ℕ → (First → Type 0) → Step Asked First Answer → Type 0
Asks line id IsFirst (begins number first counts ending) =
    (number ≡ line.number) × IsFirst first × IsAsked line.copy_of (asked_by line id) first counts ending
Asks line id IsFirst (answers place by asked answer) = ⊥
Asks line id IsFirst (claims place by asked answer) = ⊥
Asks line id IsFirst (ends place ending) = ⊥
Asks line id IsFirst (hands_over first place) = ⊥
Asks line id IsFirst finishes = ⊥

-- it answers the exchange whose request has this msgID and went the other way
abbrev pub Answers : Line → ℕ → (Answer → Type 0) → Step Asked First Answer → Type 0
Answers line id IsAnswer (begins number first counts ending) = ⊥
Answers line id IsAnswer (answers place by asked answer) =
    (by ≡ line.number) × (asked ≡ asked_of line id) × IsAnswer answer
Answers line id IsAnswer (claims place by asked answer) = ⊥
Answers line id IsAnswer (ends place ending) = ⊥
Answers line id IsAnswer (hands_over first place) = ⊥
Answers line id IsAnswer finishes = ⊥

-- it may be forged, and says how that exchange ended, which waits on
abbrev pub Claims : Line → ℕ → (Answer → Type 0) → Step Asked First Answer → Type 0
Claims line id IsAnswer (begins number first counts ending) = ⊥
Claims line id IsAnswer (answers place by asked answer) = ⊥
Claims line id IsAnswer (claims place by asked answer) =
    (by ≡ line.number) × (asked ≡ asked_of line id) × IsAnswer answer
Claims line id IsAnswer (ends place ending) = ⊥
Claims line id IsAnswer (hands_over first place) = ⊥
Claims line id IsAnswer finishes = ⊥

-- a message that its engine sent: an answer, unless it is a notification or no request waits for it
abbrev pub IsSentStep : Line → Given → Bool → Step Asked First Answer → Type 0
IsSentStep line given in_window step = StandsAlone line (IsUnasked line given) step
    ⊎ (((given.tag ≢ pdu_tag kinds.SNMPv2Trap) × Answers line given.id (IsAnswerRead line given in_window) step)
    ⊎ (MayBeForged given × Claims line given.id (IsAnswerRead line given in_window) step))

-- a message that wasn't opened: a request, or an answer, unless no request waits for it
abbrev pub IsUnopenedStep : Line → List ℕ → ℕ → Refusal → Step Asked First Answer → Type 0
IsUnopenedStep line w id refusal step = Asks line id (IsUnopened line w refusal) step
    ⊎ (StandsAlone line (IsUnopened line w refusal) step
    ⊎ (Answers line id (IsAnswerUnread line w refusal) step ⊎ Claims line id (IsAnswerUnread line w refusal) step))

-- a datagram that wasn't opened
abbrev pub IsUnreadStep : Line → List ℕ → Refusal → Step Asked First Answer → Type 0
IsUnreadStep line w refusal step = StandsAlone line (IsNoMessage line w refusal) step
    ⊎ ((id : ℕ) × IsMessageId w id × IsUnopenedStep line w id refusal step)

-- the step that a datagram makes which was judged to be this
abbrev pub IsStepOf : Line → List ℕ → Option Judgement → Step Asked First Answer → Type 0
IsStepOf line w None step = StandsAlone line (IsLeftOut line w) step
IsStepOf line w (Some (unread refusal)) step = IsUnreadStep line w refusal step
IsStepOf line w (Some discovery) step = (id : ℕ) × IsMessageId w id × Asks line id (IsDiscovery line) step
IsStepOf line w (Some (sent_by given in_window)) step = IsSentStep line given in_window step
IsStepOf line w (Some (sent_to given verdict)) step = Asks line given.id (IsRequest line given verdict) step

-- ---- the datagrams of a capture

-- A datagram, and what it was judged to be. One of an engine beyond the limit isn't judged.
pub record Seen : Type 0 where
  pub line : Line
  pub octets : List ℕ
  pub judgement : Option Judgement

abbrev pub seen_as : Line → List ℕ → Option Judgement → Seen
seen_as line octets judgement = record { line = line; octets = octets; judgement = judgement }

abbrev pub number_seen : Seen → ℕ
number_seen seen = seen.line.number

-- what is known of users and of engines' clocks before a datagram and after it; one that isn't judged teaches nothing
abbrev pub JudgesAs : Held → ℕ → List ℕ → Option Judgement → Held → Type 0
JudgesAs old now w None new = new ≡ old
JudgesAs old now w (Some judgement) new = IsJudgedAs old now w judgement new

-- the step is of one of these datagrams
abbrev pub IsOf : List Seen → Step Asked First Answer → Type 0
IsOf seen step = (one : Seen) × Contains seen one × IsStepOf one.line one.octets one.judgement step

-- the step is of one of these datagrams, or of none
abbrev pub IsOwn : List Seen → Step Asked First Answer → Type 0
IsOwn seen (begins number first counts ending) = IsOf seen (begins number first counts ending)
IsOwn seen (answers place by asked answer) = IsOf seen (answers place by asked answer)
IsOwn seen (claims place by asked answer) = IsOf seen (claims place by asked answer)
IsOwn seen (ends place ending) = Unit {0}
IsOwn seen (hands_over first place) = Unit {0}
IsOwn seen finishes = Unit {0}

-- the exchange, which began with this ending, is answered by one of these datagrams, that answers what it asked
abbrev pub IsAnsweredBy : List Seen → Ending Asked Answer → Ending Asked Answer → Type 0
IsAnsweredBy seen ending (Answered by answer) =
    (place : ℕ) × (asked : Asked) × (ending ≡ Waits asked) × IsOf seen (answers place by asked answer)
IsAnsweredBy seen ending (Waits asked) = Unit {0}
IsAnsweredBy seen ending Alone = Unit {0}
IsAnsweredBy seen ending (SentAgain number) = Unit {0}
IsAnsweredBy seen ending NoAnswer = Unit {0}
IsAnsweredBy seen ending NotFollowed = Unit {0}

-- what may be forged was said of it by one of these datagrams
abbrev pub IsClaimedBy : List Seen → Ending Asked Answer → Option (Claim Answer) → Type 0
IsClaimedBy seen ending None = Unit {0}
IsClaimedBy seen ending (Some claim) =
    (place : ℕ) × (asked : Asked) × (ending ≡ Waits asked) × IsOf seen (claims place claim.by asked claim.answer)

-- what the exchange holds is what was read of its own datagrams
pub record HoldsItsOwn (seen : List Seen) (e : Exchange Asked First Answer) : Type 0 where
  pub counts : Bool
  pub ending : Ending Asked Answer
  pub first : IsOf seen (begins e.number e.first counts ending)
  pub claim : IsClaimedBy seen ending e.claim
  pub answer : IsAnsweredBy seen ending e.ending
