-- What is known of a PDU is what was read of it (RFC 3416, section 3).
--
-- `IsValueRead`: the value of a variable, by the syntax of its tag: what its octets spell, or the octets themselves if
-- they spell nothing of the syntax. `ArePduNames`: the type of a PDU and its first names. `IsSaid`: what an answer
-- says. `IsCaptured`, `IsSender`, `IsJudged`, `IsAlone`: the first datagram of an exchange.
use Rattle.std.specs.Prelude.{◌≡◌, ◌≢◌, ◌↔◌, ◌⊎◌, ◌-◌, ◌^◌, ℕ, ℤ, pos, min, Bool, true, false, List, [], ◌∷◌}
use Rattle.std.specs.Prelude.{length, take, MatchOption, Option, Some, None, String, Vec, string_bytes}
use Rattle.std.specs.List.{AllZip}
use Rattle.std.specs.declared.alloc.Global.{Global}
use Rattle.hex.specs.Hex.{encode_lower}
use Rattle.snmp_ber.specs.Number.{IsInteger32, IsUnsigned}
use Rattle.snmp_ber.specs.declared.level.Level.{Level}
use Rattle.snmp_message.specs.Scoped.{Contexts, ScopedFront}
use Rattle.snmp_ber.specs.Oid.{IsIdentifier, dotted}
use Rattle.snmp_msg.specs.PduTypes.{IsPduTag, pdu_tag}
use Rattle.snmp_msg.specs.Values.{syntax_of}
use Rattle.snmp_msg.specs.Variables.{Variable, variables_of}
use Rattle.snmp_msg.specs.Pdu.{PduParts, PduText}
use Rattle.snmp_msg.specs.declared.pdu_type.PduType.TheVariants as kinds
use Rattle.snmp_msg.specs.declared.value.Syntax.{Syntax}
use Rattle.snmp_msg.specs.declared.value.Syntax.TheVariants.{Integer32, OctetString, Null, ObjectIdentifier}
use Rattle.snmp_msg.specs.declared.value.Syntax.TheVariants.{IpAddress, Counter32, Unsigned32, TimeTicks, Opaque}
use Rattle.snmp_msg.specs.declared.value.Syntax.TheVariants.{Counter64, NoSuchObject, NoSuchInstance, EndOfMibView}
use Rattle.snmpsec_causes.specs.Counters.{IsCounter}
use Rattle.snmp_incoming.specs.Outcome.{Given}
use Rattle.diagnose_judge.specs.declared.judged.Verdict.{Verdict}
use Rattle.diagnose_judge.specs.declared.judged.Verdict.TheVariants.{Accepted, Unweighed, Refused}
use Rattle.diagnose_text.specs.declared.facts.First.{First}
use Rattle.diagnose_text.specs.declared.facts.PduNames.{PduNames}
use Rattle.diagnose_text.specs.declared.facts.Remark.{Remark}
use Rattle.diagnose_text.specs.declared.facts.Remark.TheVariants.{Nothing, WindowNotJudged, NoRequest, EnginesLimit}
use Rattle.diagnose_text.specs.declared.facts.Remark.TheVariants.{OtherUser, OtherLevel, OtherRequestId, NotTaken}
use Rattle.diagnose_text.specs.declared.facts.Sender.{Sender}
use Rattle.diagnose_text.specs.declared.facts.What.{What}
use Rattle.diagnose_text.specs.declared.facts.What.TheVariants.{Discovery, Pdu, Sealed, Unreadable}
use Rattle.diagnose_text.specs.declared.facts.Says.{Says}
use Rattle.diagnose_text.specs.declared.facts.Says.TheVariants as says
use Rattle.diagnose_text.specs.declared.line.Line.{Line}
use Rattle.diagnose_text.specs.declared.values.Value.{Value}
use Rattle.diagnose_text.specs.declared.values.Value.TheVariants as values

-- ---- values

-- the octets in hex, as what they should be
abbrev pub IsInHex : Option Syntax → List ℕ → Value → Type 0
IsInHex syntax content value =
    (digits : String Global) × (string_bytes digits ≡ encode_lower content) × (value ≡ values.Octets syntax digits)

-- the value is of what the octets spell, or the octets if they spell nothing
abbrev pub IsSpelled : {X : Type 0} → (X → Type 0) → (X → Value) → Syntax → List ℕ → Value → Type 0
IsSpelled {X} spells made syntax content value =
    ((x : X) × spells x × (value ≡ made x)) ⊎ (((x : X) → ¬ spells x) × IsInHex (Some syntax) content value)

abbrev pub IsInteger : List ℕ → Value → Type 0
IsInteger content value = IsSpelled (λ z. IsInteger32 z content) values.Integer Integer32 content value

abbrev pub IsNumber32 : Syntax → List ℕ → Value → Type 0
IsNumber32 syntax content value =
    IsSpelled (λ n. IsUnsigned 4 n content) (values.Unsigned syntax) syntax content value

abbrev pub IsCounter64 : List ℕ → Value → Type 0
IsCounter64 content value = IsSpelled (λ n. IsUnsigned 8 n content) values.Counter64 Counter64 content value

-- an object identifier in decimals with dots between
pub record Spells (content : List ℕ) (text : String Global) : Type 0 where
  pub arcs : List ℕ
  pub identifier : IsIdentifier arcs content
  pub whole : string_bytes text ≡ dotted arcs

abbrev pub IsObjectIdentifier : List ℕ → Value → Type 0
IsObjectIdentifier content value = ((text : String Global) × Spells content text × (value ≡ values.Identifier text))
    ⊎ (((arcs : List ℕ) → ¬ IsIdentifier arcs content) × IsInHex (Some ObjectIdentifier) content value)

abbrev pub IsIpAddress : List ℕ → Value → Type 0
IsIpAddress content value = ((length content ≡ 4) × (value ≡ values.Address content))
    ⊎ ((length content ≢ 4) × IsInHex (Some IpAddress) content value)

-- octets, as text or in hex
abbrev pub IsOctetString : List ℕ → Value → Type 0
IsOctetString content value =
    ((text : String Global) × (string_bytes text ≡ content) × (value ≡ values.Text text))
    ⊎ IsInHex (Some OctetString) content value

abbrev pub IsValueRead : Option Syntax → List ℕ → Value → Type 0
IsValueRead None content value = IsInHex None content value
IsValueRead (Some Integer32) content value = IsInteger content value
IsValueRead (Some OctetString) content value = IsOctetString content value
IsValueRead (Some Null) content value = value ≡ values.Bare Null
IsValueRead (Some ObjectIdentifier) content value = IsObjectIdentifier content value
IsValueRead (Some IpAddress) content value = IsIpAddress content value
IsValueRead (Some Counter32) content value = IsNumber32 Counter32 content value
IsValueRead (Some Unsigned32) content value = IsNumber32 Unsigned32 content value
IsValueRead (Some TimeTicks) content value = IsNumber32 TimeTicks content value
IsValueRead (Some Opaque) content value = IsInHex (Some Opaque) content value
IsValueRead (Some Counter64) content value = IsCounter64 content value
IsValueRead (Some NoSuchObject) content value = value ≡ values.Bare NoSuchObject
IsValueRead (Some NoSuchInstance) content value = value ≡ values.Bare NoSuchInstance
IsValueRead (Some EndOfMibView) content value = value ≡ values.Bare EndOfMibView

-- ---- a PDU

-- how many variables of a PDU are printed
abbrev pub variables_told : ℕ
variables_told = 8

-- how far 64 bits count
abbrev pub greatest_count : ℕ
greatest_count = 2 ^ 64 - 1

abbrev pub IsNameRead : Variable → String Global → Type 0
IsNameRead v name = string_bytes name ≡ dotted v.name

abbrev pub IsVariableRead : Variable → String Global × Value → Type 0
IsVariableRead v told = IsNameRead v told.0 × IsValueRead (syntax_of v.tag) v.content told.1

-- the first of the variables are printed, in their order, and how many more there are, as far as 64 bits count
pub record AreFirst {X : Type 0} (IsTold : Variable → X → Type 0) (vs : List Variable) (told : List X) (more : ℕ)
    : Type 0 where
  pub first : AllZip IsTold (take variables_told vs) told
  pub left : more ≡ min (length vs - variables_told) greatest_count

-- the type of a PDU, and its first names
pub record ArePduNames (pdu : PduParts) (names : PduNames) : Type 0 where
  pub kind : MatchOption names.kind (¬ IsPduTag pdu.tag) (λ kind. pdu.tag ≡ pdu_tag kind)
  pub told : AreFirst IsNameRead (variables_of pdu.list) names.names.items names.more

-- the name of a counter, or its identifier if it has none
abbrev pub IsCounterText : List ℕ → List ℕ → Type 0
IsCounterText identifier text =
    IsCounter identifier text ⊎ ((text ≡ identifier) × ((name : List ℕ) → ¬ IsCounter identifier name))

-- what a Report with these variables says: its first one is the counter (RFC 3414, section 3.2)
abbrev pub IsReport : List Variable → Says → Type 0
IsReport [] said = (text : String Global) × (said ≡ says.Report text None)
IsReport (v ∷ more) said = (text : String Global) × (value : Option ℕ) × (said ≡ says.Report text value)
    × IsCounterText (dotted v.name) (string_bytes text) × ((n : ℕ) → (value ≡ Some n) ↔ IsUnsigned 4 n v.content)

-- a Response whose error-status isn't noError
abbrev pub HasError : PduParts → Type 0
HasError pdu = (pdu.tag ≡ pdu_tag kinds.Response) × (pdu.second ≢ pos 0)

-- what an answer with this PDU says: the counter of a Report, the error of a Response that has one, or values
pub record IsSaid (pdu : PduParts) (said : Says) : Type 0 where
  pub report : pdu.tag ≡ pdu_tag kinds.Report → IsReport (variables_of pdu.list) said
  pub error : HasError pdu → said ≡ says.Error pdu.second pdu.third
  pub values : pdu.tag ≢ pdu_tag kinds.Report → ¬ HasError pdu
      → (values : Vec (String Global × Value) Global) × (more : ℕ) × (said ≡ says.Values values more)
      × AreFirst IsVariableRead (variables_of pdu.list) values.items more

-- ---- the first datagram of an exchange

abbrev pub is_discovery : What → Bool
is_discovery Discovery = true
is_discovery (Pdu pdu) = false
is_discovery (Sealed is_guess) = false
is_discovery Unreadable = false

-- the name of a sender, in octets; who isn't known has none
abbrev pub sender_user : Option Sender → List ℕ
sender_user None = []
sender_user (Some sender) = sender.user

-- the level of a sender; who isn't known has none, nor has privacy without authentication
abbrev pub sender_level : Option Sender → Option Level
sender_level None = None
sender_level (Some sender) = sender.level

-- it isn't the answer of the request with its msgID
abbrev pub tells_another : Remark → Bool
tells_another Nothing = false
tells_another WindowNotJudged = false
tells_another NoRequest = false
tells_another EnginesLimit = false
tells_another OtherUser = true
tells_another OtherLevel = true
tells_another OtherRequestId = true
tells_another NotTaken = true

-- the name of the context of the ScopedPDU that these octets begin with; the empty one isn't held
abbrev pub context_held : Option (Vec ℕ Global) → List ℕ
context_held None = []
context_held (Some name) = name.items

abbrev pub IsContextIn : List ℕ → Option (Vec ℕ Global) → Type 0
IsContextIn text found = (c : Contexts) × ScopedFront text c × (context_held found ≡ c.name)

-- the request-id of its PDU
abbrev pub IsRequestIdIn : List ℕ → Option ℤ → Type 0
IsRequestIdIn text found = (pdu : PduParts)
    × ((c : Contexts) → ScopedFront text c → PduText c.pdu pdu) × (found ≡ Some pdu.id)

-- what is known of the datagram without reading it
pub record IsCaptured (line : Line) (first : First) : Type 0 where
  pub moment : first.at ≡ line.at
  pub way : first.route ≡ line.route
  pub copy : first.copy_of ≡ line.copy_of

-- nothing is said of it
pub record IsPlain (first : First) : Type 0 where
  pub accepted : first.refusal ≡ None
  pub plain : first.remark ≡ Nothing

-- who sent the message that was opened, and the engine with whose keys
pub record IsSender (given : Given) (first : First) : Type 0 where
  pub user : sender_user first.sender ≡ given.user
  pub level : sender_level first.sender ≡ Some given.level
  pub engine : first.engine ≡ Some given.engine

-- what this configuration says of a request (RFC 3414, section 3.2)
abbrev pub IsJudged : Verdict → First → Type 0
IsJudged Accepted first = (first.refusal ≡ None) × (first.remark ≡ Nothing)
IsJudged Unweighed first = (first.refusal ≡ None) × (first.remark ≡ WindowNotJudged)
IsJudged (Refused refusal) first = (first.refusal ≡ Some refusal) × (first.remark ≡ Nothing)

-- no request waits for it: it is neither a notification nor a copy
abbrev pub LacksRequest : Line → ℕ → Type 0
LacksRequest line tag = (tag ≢ pdu_tag kinds.SNMPv2Trap) × (line.copy_of ≡ None)

-- what is said of a notification, or of an answer that answers no request for this reason
pub record IsAlone (line : Line) (tag : ℕ) (why : Remark) (first : First) : Type 0 where
  pub accepted : first.refusal ≡ None
  pub lacks : LacksRequest line tag → first.remark ≡ why
  pub other : ¬ LacksRequest line tag → first.remark ≡ Nothing
