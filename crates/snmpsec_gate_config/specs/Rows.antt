-- What the tables [gate], [[device]] and [[receiver]] say.
--
-- `IsGate`, `IsDevice`, `IsReceiver`: a table of TOML and what it says, key by key, with no key that isn't listed.
-- `context_row`: the context that a device is. `HaveOwnContexts`: no two devices have one. `gate_values`,
-- `device_values`: what is said, whatever memory it is in.
use Rattle.std.specs.Prelude.{◌≢◌, ℕ, Bool, List, AllPairs, Option, option_map, string_bytes}
use Rattle.std.specs.declared.net.socket_addr.SocketAddr.{SocketAddr}
use Rattle.toml.specs.Data.{Members}
use Rattle.vacm_core.specs.declared.rows.ContextRow.{ContextRow}
use Rattle.snmpsec_config.specs.Values.{IsName, IsLevel}
use Rattle.snmpsec_gate_config.specs.Keys.{at, HasOnlyListed}
use Rattle.snmpsec_gate_config.specs.Values.{IsEngineId, IsPath, IsAddress, AreAddresses, IsCommunity}
use Rattle.snmpsec_gate_config.specs.Values.{AreAddressesIfAny, IsCommunityIfAny, IsLimit, IsFlagOrFalse}
use Rattle.snmpsec_gate_config.specs.Values.{IsKindOrTrap}
use Rattle.snmpsec_gate_config.specs.declared.table.GateTable.TheVariants as tables
use Rattle.snmpsec_gate_config.specs.declared.table.GateKey.TheVariants as keys
use Rattle.snmpsec_gate_config.specs.declared.table.LimitKey.TheVariants as limits
use Rattle.snmpsec_gate_config.specs.declared.settings.GatewayLimits.{GatewayLimits}
use Rattle.snmpsec_gate_config.specs.declared.settings.GateSettings.{GateSettings}
use Rattle.snmpsec_gate_config.specs.declared.settings.DeviceLimits.{DeviceLimits}
use Rattle.snmpsec_gate_config.specs.declared.settings.DeviceSettings.{DeviceSettings}
use Rattle.snmpsec_gate_config.specs.declared.settings.ReceiverSettings.{ReceiverSettings}

-- the limits of a gateway
pub record AreGateLimits (t : Members) (own : GatewayLimits) : Type 0 where
  pub waiting : IsLimit limits.Waiting (at t (keys.Limit limits.Waiting)) own.waiting
  pub rounds : IsLimit limits.Rounds (at t (keys.Limit limits.Rounds)) own.rounds
  pub again : IsLimit limits.Again (at t (keys.Limit limits.Again)) own.again
  pub tries : IsLimit limits.Tries (at t (keys.Limit limits.Tries)) own.tries
  pub last : IsLimit limits.Last (at t (keys.Limit limits.Last)) own.last
  pub gather : IsLimit limits.Gather (at t (keys.Limit limits.Gather)) own.gather
  pub waiting_per_device :
      IsLimit limits.WaitingPerDevice (at t (keys.Limit limits.WaitingPerDevice)) own.waiting_per_device

-- the table [gate]
pub record IsGate (t : Members) (gate : GateSettings) : Type 0 where
  pub only : HasOnlyListed tables.Gate t
  pub engine : IsEngineId (at t keys.Engine) gate.engine
  pub boots : IsPath (at t keys.Boots) (string_bytes gate.boots)
  pub listen : AreAddresses (at t keys.Listen) gate.listen.items
  pub traps : AreAddressesIfAny (at t keys.Traps) gate.traps.items
  pub limits : AreGateLimits t gate.limits
  pub long_answers : IsFlagOrFalse (at t keys.LongAnswers) gate.long_answers
  pub report_unreachable : IsFlagOrFalse (at t keys.ReportUnreachable) gate.report_unreachable

-- the limits of a device
pub record AreDeviceLimits (t : Members) (own : DeviceLimits) : Type 0 where
  pub repetitions : IsLimit limits.Repetitions (at t (keys.Limit limits.Repetitions)) own.repetitions
  pub max_size : IsLimit limits.MaxSize (at t (keys.Limit limits.MaxSize)) own.max_size
  pub at_once : IsLimit limits.AtOnce (at t (keys.Limit limits.AtOnce)) own.at_once

-- a table of [[device]]
pub record IsDevice (t : Members) (device : DeviceSettings) : Type 0 where
  pub only : HasOnlyListed tables.Device t
  pub context : IsName (at t keys.Context) device.context
  pub address : IsAddress (at t keys.Address) device.address
  pub community : IsCommunity (at t keys.Community) device.community.items
  pub write_community : IsCommunityIfAny (at t keys.WriteCommunity)
      (option_map (λ community. community.items) device.write_community)
  pub limits : AreDeviceLimits t device.limits

-- a table of [[receiver]]
pub record IsReceiver (t : Members) (receiver : ReceiverSettings) : Type 0 where
  pub only : HasOnlyListed tables.Receiver t
  pub address : IsAddress (at t keys.Address) receiver.address
  pub user : IsName (at t keys.User) receiver.user
  pub level : IsLevel (at t keys.Level) receiver.level
  pub kind : IsKindOrTrap (at t keys.Kind) receiver.kind

-- the row of vacmContextTable that a device is (RFC 3415, section 4)
abbrev pub context_row : DeviceSettings → ContextRow
context_row device = record { name = device.context }

-- No two devices have one context: a contextName names one device.
abbrev pub HaveOwnContexts : List DeviceSettings → Type 0
HaveOwnContexts devices = AllPairs (λ (a b : DeviceSettings). a.context ≢ b.context) devices

-- ---- what is said, whatever memory it is in

pub record GateValues : Type 0 where
  pub engine : List ℕ
  pub boots : List ℕ
  pub listen : List SocketAddr
  pub traps : List SocketAddr
  pub waiting : ℕ
  pub rounds : ℕ
  pub again : ℕ
  pub tries : ℕ
  pub last : ℕ
  pub gather : ℕ
  pub waiting_per_device : ℕ
  pub long_answers : Bool
  pub report_unreachable : Bool

abbrev pub gate_values : GateSettings → GateValues
gate_values gate = record {
  engine = gate.engine;
  boots = string_bytes gate.boots;
  listen = gate.listen.items;
  traps = gate.traps.items;
  waiting = gate.limits.waiting;
  rounds = gate.limits.rounds;
  again = gate.limits.again;
  tries = gate.limits.tries;
  last = gate.limits.last;
  gather = gate.limits.gather;
  waiting_per_device = gate.limits.waiting_per_device;
  long_answers = gate.long_answers;
  report_unreachable = gate.report_unreachable;
}

pub record DeviceValues : Type 0 where
  pub context : List ℕ
  pub address : SocketAddr
  pub community : List ℕ
  pub write_community : Option (List ℕ)
  pub repetitions : ℕ
  pub max_size : ℕ
  pub at_once : ℕ

abbrev pub device_values : DeviceSettings → DeviceValues
device_values device = record {
  context = device.context;
  address = device.address;
  community = device.community.items;
  write_community = option_map (λ community. community.items) device.write_community;
  repetitions = device.limits.repetitions;
  max_size = device.limits.max_size;
  at_once = device.limits.at_once;
}
