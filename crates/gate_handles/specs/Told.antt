-- What a caller gets of a gateway: what its configuration says, the client of a request, its numbers and counters, why
-- a configuration is refused, and the user of a datagram.
--
-- `ReadsSetting`, `IsSetting`: a text that the configuration says. `ReadsAsker`: the address of the client that asks
-- a request. `MayNotify`: whether a receiver may be notified of a variable. `info_of`: what the last call was about
-- (`about`), and what it told. `CountsOf`: a counter of the agent. `TellsGate`: why a text is refused as a
-- configuration. `CopiesUser`: the user that a datagram names.
use Rattle.std.specs.Prelude.{◌≡◌, ◌<◌, ◌≤◌, ◌⊎◌, ⊤, ℕ, List}
use Rattle.std.specs.Prelude.{◌++◌, length, drop, codes, string_bytes, slice_get, false, if◌then◌else◌, ◌==◌}
use Rattle.std.specs.Prelude.{Option, Some, None, option_map, MatchOption, Result, Ok, Err}
use Rattle.std.specs.Net.Text.{socket_text}
use Rattle.usm_users.specs.declared.load.UserRow.{UserRow}
use Rattle.vacm_core.specs.Tables.{Tables}
use Rattle.vacm_core.specs.declared.rows.AccessRow.{AccessRow}
use Rattle.snmp_message.specs.Layout.{Outer, Parts}
use Rattle.snmp_message.specs.Security.{SecText, Fields}
use Rattle.snmp_message.specs.declared.refusal.Refusal.{Refusal}
use Rattle.snmp_message.specs.declared.refusal.Refusal.TheVariants.{OutOfMemory}
use Rattle.snmp_agent.specs.RefusalCounters.{counter_at}
use Rattle.snmp_gate.specs.RequestTags.{IsMessageOf, IsNumberOfNone}
use Rattle.snmp_gate.specs.declared.waiting_message.WaitingMessage.{WaitingMessage}
use Rattle.snmpsec_gate_config.specs.Oddities.{TellsOddity, oddity_words}
use Rattle.snmpsec_gate_config.specs.Refusals.{RefusesText, SaysSound, refusal_line}
use Rattle.snmpsec_gate_config.specs.Values.{kind_word}
use Rattle.snmpsec_gate_config.specs.declared.fault.GateFault.{GateFault}
use Rattle.snmpsec_gate_config.specs.declared.oddity.DeviceOddity.{DeviceOddity}
use Rattle.snmpsec_gate_config.specs.declared.settings.GateSettings.{GateSettings}
use Rattle.snmpsec_gate_config.specs.declared.settings.DeviceSettings.{DeviceSettings}
use Rattle.snmpsec_gate_config.specs.declared.settings.ReceiverSettings.{ReceiverSettings}
use Rattle.snmpsec_config.specs.Words.{level_word}
use Rattle.snmp_agent.specs.Decides.{question}
use Rattle.snmp_handles.specs.Agents.{AreNoArcs}
use Rattle.vacm_core.specs.Allowed.{Allowed}
use Rattle.vacm_core.specs.declared.access.Access.{Access}
use Rattle.vacm_core.specs.declared.access.ViewType.TheVariants.{Notify}
use Rattle.gate_handles.specs.Notes.{tells_note}
use Rattle.gate_handles.specs.declared.note.GateInfo.{GateInfo}
use Rattle.snmp_handles.specs.Parts.{Copies, CopiesMessage, CopiesNothing}
use Rattle.snmp_handles.specs.declared.fault.CallFault.{CallFault}
use Rattle.snmp_handles.specs.declared.fault.CallFault.TheVariants.{Refused, BadArgument, BadConfiguration}
use Rattle.snmp_handles.specs.declared.fault.CallFault.TheVariants.{NothingTaken, ShortBuffer}
use Rattle.gate_handles.specs.Gates.{GateHeld}
use Rattle.gate_handles.specs.declared.setting.GateText.{GateText}
use Rattle.gate_handles.specs.declared.setting.GateText.TheVariants as setting

-- ---- what the configuration says

abbrev pub setting_of : ℕ → Option GateText
setting_of n =
    if n == 0 then Some setting.Boots else if n == 1 then Some setting.Listen else if n == 2 then Some setting.Context
    else if n == 3 then Some setting.Address else
    if n == 4 then Some setting.Note else if n == 5 then Some setting.Traps else
    if n == 6 then Some setting.ReceiverAddress else if n == 7 then Some setting.ReceiverUser else
    if n == 8 then Some setting.ReceiverLevel else if n == 9 then Some setting.ReceiverKind else
    if n == 10 then Some setting.ViewWithoutFamily else None

-- what is probably a mistake about the device at this position, in words
abbrev pub IsNote : List DeviceSettings → List AccessRow → ℕ → Option (List ℕ) → Type 0
IsNote devices access position text = MatchOption (slice_get devices position) (text ≡ None)
    (λ device. (oddity : Option DeviceOddity) × TellsOddity device access oddity
    × (text ≡ option_map oddity_words oddity))

-- the text that is said so, at this position, if one is
abbrev pub IsSetting : GateSettings → List DeviceSettings → List ReceiverSettings → List AccessRow → List (List ℕ)
    → GateText → ℕ → Option (List ℕ) → Type 0
IsSetting said devices receivers access views setting.Boots position text = text ≡ Some (string_bytes said.boots)
IsSetting said devices receivers access views setting.Listen position text =
    text ≡ option_map socket_text (slice_get said.listen.items position)
IsSetting said devices receivers access views setting.Context position text =
    text ≡ option_map (λ device. device.context) (slice_get devices position)
IsSetting said devices receivers access views setting.Address position text =
    text ≡ option_map (λ device. socket_text device.address) (slice_get devices position)
IsSetting said devices receivers access views setting.Note position text = IsNote devices access position text
IsSetting said devices receivers access views setting.Traps position text =
    text ≡ option_map socket_text (slice_get said.traps.items position)
IsSetting said devices receivers access views setting.ReceiverAddress position text =
    text ≡ option_map (λ receiver. socket_text receiver.address) (slice_get receivers position)
IsSetting said devices receivers access views setting.ReceiverUser position text =
    text ≡ option_map (λ receiver. receiver.user) (slice_get receivers position)
IsSetting said devices receivers access views setting.ReceiverLevel position text =
    text ≡ option_map (λ receiver. level_word receiver.level) (slice_get receivers position)
IsSetting said devices receivers access views setting.ReceiverKind position text =
    text ≡ option_map (λ receiver. kind_word receiver.kind) (slice_get receivers position)
IsSetting said devices receivers access views setting.ViewWithoutFamily position text = text ≡ slice_get views position

-- It is copied; or there is no memory for it.
abbrev pub ReadsSetting : GateHeld → GateText → ℕ → List ℕ → List ℕ → ℕ → ℕ → Result ⊤ CallFault → Type 0
ReadsSetting held which position out out_new written written_new told =
    ((text : Option (List ℕ)) × IsSetting held.settings held.devices held.receivers held.access held.views which
    position text
    × CopiesMessage text out out_new written written_new told)
    ⊎ ((told ≡ Err (Refused OutOfMemory)) × CopiesNothing out out_new written written_new)

-- ---- a request

-- The address of the client that asks the request with this number is copied, if it waits.
abbrev pub ReadsAsker : GateHeld → ℕ → List ℕ → List ℕ → ℕ → ℕ → Result ⊤ CallFault → Type 0
ReadsAsker held number out out_new written written_new told = (message : Option WaitingMessage)
    × MatchOption message (IsNumberOfNone held.gate.requests.list.items number)
    (IsMessageOf held.gate.requests.list.items number)
    × CopiesMessage (option_map (λ m. m.client.items) message) out out_new written written_new told

-- ---- who may be notified

-- whether the receiver may be notified of the variable with these arcs of the device (RFC 3413, section 3.3, step 4)
abbrev pub MayNotify : GateHeld → ℕ → ℕ → List ℕ → Result Access CallFault → Type 0
MayNotify held receiver device arcs (Ok access) = (to : ReceiverSettings) × (from : DeviceSettings)
    × (slice_get held.receivers receiver ≡ Some to) × (slice_get held.devices device ≡ Some from)
    × Allowed held.gate.agent.tables (question to.user to.level from.context) Notify arcs access
MayNotify held receiver device arcs (Err NothingTaken) = (slice_get held.receivers receiver ≡ None)
    ⊎ (slice_get held.devices device ≡ None)
MayNotify held receiver device arcs (Err BadArgument) = AreNoArcs arcs
MayNotify held receiver device arcs (Err _) = ⊥

-- ---- the last call

-- the request and the device that it was about, and how many requests wait, where it told nothing else
abbrev pub about : GateHeld → GateInfo
about held = record {
  request = held.request;
  device = held.device;
  waiting = length held.gate.requests.list.items;
  hidden = 0;
  binding = 0;
  misfit = 0;
  status = 0;
  index = 0;
  pdu = 0;
  ended = 0;
  unhandled = 0;
  is_report = false;
  again = false;
  times = 0;
}

-- the same with what it told
abbrev pub info_of : GateHeld → GateInfo
info_of held = tells_note (about held) held.note

-- usmStats n of the agent (RFC 3414, section 5)
abbrev pub CountsOf : GateHeld → ℕ → Result ℕ CallFault → Type 0
CountsOf held n (Ok value) = (1 ≤ n) × (n ≤ 6) × (value ≡ counter_at held.gate.agent.counters n)
CountsOf held n (Err BadArgument) = (n ≡ 0) ⊎ (6 < n)
CountsOf held n (Err _) = ⊥

-- ---- a configuration

-- two lines: the refusal, and what is wrong and what is expected
abbrev pub IsTold : GateFault → List ℕ → Type 0
IsTold fault text = (why : List ℕ) × (text ≡ refusal_line fault ++ (codes "\n" ++ (why ++ codes "\n")))

-- the text is refused for this fault, and this is reported of it
abbrev pub RefusesSo : List ℕ → List ℕ → Type 0
RefusesSo config text = (fault : GateFault) × RefusesText config fault × IsTold fault text

-- the text is a configuration
pub record IsGateConfig (config : List ℕ) : Type 0 where
  pub settings : GateSettings
  pub devices : List DeviceSettings
  pub receivers : List ReceiverSettings
  pub users : List UserRow
  pub rows : Tables
  pub sound : SaysSound config settings devices receivers users rows

abbrev pub TellsGate : List ℕ → List ℕ → List ℕ → ℕ → ℕ → Result ⊤ CallFault → Type 0
TellsGate config out out_new written written_new (Ok done) = IsGateConfig config × (out_new ≡ out) × (written_new ≡ 0)
TellsGate config out out_new written written_new (Err BadConfiguration) = (text : List ℕ) × RefusesSo config text
    × (length text ≤ length out) × (written_new ≡ length text) × (out_new ≡ text ++ drop (length text) out)
TellsGate config out out_new written written_new (Err ShortBuffer) = (text : List ℕ) × RefusesSo config text
    × (length out < length text) × (written_new ≡ length text) × (out_new ≡ out)
TellsGate config out out_new written written_new (Err (Refused fault)) = (fault ≡ OutOfMemory)
    × CopiesNothing out out_new written written_new
TellsGate config out out_new written written_new (Err _) = ⊥

-- ---- a datagram

-- the datagram is a message of SNMPv3 whose msgSecurityParameters have this msgUserName
pub record IsUserOf (datagram user : List ℕ) : Type 0 where
  pub message : Parts
  pub is_message : Outer datagram message
  pub fields : Fields
  pub is_security : SecText message.security_at message.security fields
  pub is : user ≡ fields.user

-- the datagram has no msgUserName
abbrev pub HasNoUser : List ℕ → Type 0
HasNoUser datagram = (user : List ℕ) → IsUserOf datagram user → ⊥

-- The msgUserName is copied, whether or not the message is authentic.
abbrev pub CopiesUser : List ℕ → List ℕ → List ℕ → ℕ → ℕ → Result ⊤ CallFault → Type 0
CopiesUser datagram out out_new written written_new told =
    ((user : List ℕ) × IsUserOf datagram user × Copies user out out_new written_new told)
    ⊎ (HasNoUser datagram × ((why : Refusal) × (told ≡ Err (Refused why)))
    × CopiesNothing out out_new written written_new)
