-- The rules of a listener, by its settings.
--
-- `least_of`: the least level of a number. `viewed_names`: the users whose groups have a notify view by the
-- configuration. `AreRules`: these are the rules of the settings; `RefusesRules`: why there are none.
use Rattle.std.specs.Prelude.{◌==◌, if◌then◌else◌, ◌≡◌, ◌&&◌, nat_eq, not, ℕ, Bool, List, [], ◌∷◌, ◌++◌, map}
use Rattle.std.specs.Prelude.{Option, Some, None}
use Rattle.std.specs.List.{fold, list_any}
use Rattle.std.specs.Option.{option_map}
use Rattle.std.specs.Str.{bytes_eq}
use Rattle.snmp_ber.specs.declared.level.Level.{Level}
use Rattle.snmp_message.specs.declared.refusal.Refusal.TheVariants.{OutOfMemory}
use Rattle.usm_users.specs.declared.load.UserRow.{UserRow}
use Rattle.vacm_core.specs.Faults.{is_empty}
use Rattle.vacm_core.specs.Tables.{Tables}
use Rattle.vacm_core.specs.declared.rows.AccessRow.{AccessRow}
use Rattle.vacm_core.specs.declared.rows.GroupRow.{GroupRow}
use Rattle.snmpsec_config.specs.Refusals.{RefusesText, SaysSound}
use Rattle.snmpsec_config.specs.declared.fault.ConfigFault.{ConfigFault}
use Rattle.snmp_handles.specs.Numbers.{level_of}
use Rattle.snmp_handles.specs.declared.fault.CallFault.{CallFault}
use Rattle.snmp_handles.specs.declared.fault.CallFault.TheVariants.{Refused, BadConfiguration}
use Rattle.snmp_listener.specs.declared.rules.ListenerRules.{ListenerRules}
use Rattle.listener_handles.specs.declared.settings.ListenerSettings.{ListenerSettings}

-- the level of a number, or 0: the highest of each user
abbrev pub least_of : ℕ → Option (Option Level)
least_of n = if n == 0 then Some None else option_map (λ level. Some level) (level_of n)

-- one of the rows gives the group a notify view
abbrev pub has_notify_view : List AccessRow → List ℕ → Bool
has_notify_view access group = list_any (λ row. bytes_eq row.group group && not (is_empty row.notify)) access

-- the row has a user (the user-based security model is 3) whose group has a notify view
abbrev pub is_viewed : List AccessRow → GroupRow → Bool
is_viewed access row = nat_eq row.model 3 && has_notify_view access row.group

abbrev pub with_name : List AccessRow → List (List ℕ) → GroupRow → List (List ℕ)
with_name access names row = if is_viewed access row then names ++ row.name ∷ [] else names

abbrev pub viewed_names : Tables → List (List ℕ)
viewed_names tables = fold (with_name tables.access) [] tables.groups

-- the rules of the settings, with this least level
pub record AreRules (settings : ListenerSettings) (least : Option Level) (rules : ListenerRules) : Type 0 where
  pub level : rules.least_level ≡ least
  pub sources : map (λ v. v.items) rules.sources.items ≡ map (λ s. s.octets.now) settings.sources.now
  pub users : List UserRow
  pub tables : Tables
  pub says : SaysSound settings.config.now users tables
  pub viewed : map (λ v. v.items) rules.viewed.items ≡ viewed_names tables
  pub most : rules.most ≡ settings.most

abbrev pub RefusesRules : List ℕ → CallFault → Type 0
RefusesRules config BadConfiguration = (fault : ConfigFault) × RefusesText config fault
RefusesRules config (Refused fault) = fault ≡ OutOfMemory
RefusesRules config _ = ⊥
