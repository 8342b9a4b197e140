-- A text says one thing of a gateway.
use Rattle.std.proofs.Common.{◌≡◌, ℕ, Bool, List, [], ◌∷◌, length, map, Option, Some, None, refl, sym, ap, ◌∙◌, subst, inl, inr, arith}
use Rattle.std.specs.declared.net.socket_addr.SocketAddr.{SocketAddr}
use Rattle.std.specs.Net.Grammar.{IsSocketText}
use Rattle.std.proofs.NetLemmas.Theorems.{IsSocketText_unique}
use Rattle.toml.specs.Data.{Data, boolean, string, array, Items, no_items, item, Members}
use Rattle.usm_users.specs.declared.load.UserRow.{UserRow}
use Rattle.vacm_core.specs.Tables.{Tables}
use Rattle.vacm_core.specs.declared.rows.ContextRow.{ContextRow}
use Rattle.vacm_core.specs.declared.rows.GroupRow.{GroupRow}
use Rattle.vacm_core.specs.declared.rows.AccessRow.{AccessRow}
use Rattle.vacm_core.specs.declared.rows.FamilyRow.{FamilyRow}
use Rattle.snmpsec_config.specs.Rows.{IsUserRow, IsGroupRow, IsAccessRow, IsFamilyRow, user_values}
use Rattle.snmpsec_config.specs.Documents.{values_in}
use Rattle.snmpsec_config.proofs.Unique.{same_text, same_flag, one_user, one_group, one_access, one_family, one_list, same_list, one_document}
use Rattle.snmpsec_gate_config.specs.Values.{IsEngineId, IsAddress, AreAddressesIn, AreAddresses, AreAddressesIfAny, IsCommunityIfAny, IsLimit, IsFlagOrFalse, IsKindOrTrap, kind_word}
use Rattle.snmpsec_gate_config.specs.Rows.{IsGate, IsDevice, IsReceiver, context_row, gate_values, device_values}
use Rattle.snmpsec_gate_config.specs.Documents.{StandsFor}
use Rattle.snmpsec_gate_config.specs.Refusals.{Says}
use Rattle.snmpsec_gate_config.specs.declared.table.LimitKey.{LimitKey}
use Rattle.snmpsec_gate_config.specs.declared.settings.GateSettings.{GateSettings}
use Rattle.snmpsec_gate_config.specs.declared.settings.DeviceSettings.{DeviceSettings}
use Rattle.snmpsec_gate_config.specs.declared.settings.ReceiverKind.{ReceiverKind}
use Rattle.snmpsec_gate_config.specs.declared.settings.ReceiverKind.TheVariants.{Trap, Inform}
use Rattle.snmpsec_gate_config.specs.declared.settings.ReceiverSettings.{ReceiverSettings}
use Rattle.snmp_ber.specs.declared.level.Level.{Level}
use Rattle.snmp_ber.specs.declared.level.Level.TheVariants.{NoAuthNoPriv, AuthNoPriv, AuthPriv}
use Rattle.snmpsec_config.specs.Words.{level_word}
use Rattle.snmpsec_config.specs.Values.{IsLevel}

-- ---- a value says one thing

same_engine : (v : Option Data) (a b : List ℕ) → IsEngineId v a → IsEngineId v b → a ≡ b
same_engine v a b h k =
    let digits : h.0 ≡ k.0 = same_text v h.0 k.0 h.1 k.1 in
    let one = h.2 in
    let two = k.2 in
    cc

same_address : (v : Option Data) (a b : SocketAddr) → IsAddress v a → IsAddress v b → a ≡ b
same_address v a b h k =
    let text : h.0 ≡ k.0 = same_text v h.0 k.0 h.1 k.1 in
    IsSocketText_unique h.0 a b h.2 (subst (λ (t : List ℕ). IsSocketText t b) (sym text) k.2)

level_of_word : (l m : Level) → length (level_word l) ≡ length (level_word m) → l ≡ m
level_of_word NoAuthNoPriv NoAuthNoPriv e = refl
level_of_word AuthNoPriv AuthNoPriv e = refl
level_of_word AuthPriv AuthPriv e = refl
level_of_word _ AuthPriv e = absurd (omega (arith, e))
level_of_word _ _ e = absurd (omega (arith, e))

same_level : (v : Option Data) (a b : Level) → IsLevel v a → IsLevel v b → a ≡ b
same_level v a b h k = level_of_word a b (ap length (same_text v (level_word a) (level_word b) h k))

kind_of_word : (k m : ReceiverKind) → length (kind_word k) ≡ length (kind_word m) → k ≡ m
kind_of_word Trap Trap e = refl
kind_of_word Inform Inform e = refl
kind_of_word Trap Inform e = absurd (omega (arith, e))
kind_of_word Inform Trap e = absurd (omega (arith, e))

same_kind : (v : Option Data) (a b : ReceiverKind) → IsKindOrTrap v a → IsKindOrTrap v b → a ≡ b
same_kind v a b (inl h) (inl k) = kind_of_word a b (ap length (same_text v (kind_word a) (kind_word b) h k))
same_kind v a b (inl h) (inr k) = let e : Some (string (kind_word a)) ≡ None = sym h ∙ k.0 in cc
same_kind v a b (inr h) (inl k) = let e : Some (string (kind_word b)) ≡ None = sym k ∙ h.0 in cc
same_kind v a b (inr h) (inr k) = h.1 ∙ sym k.1

same_addresses_in : (values : Items) (a b : List SocketAddr) → AreAddressesIn values a → AreAddressesIn values b → a ≡ b
same_addresses_in no_items [] [] h k = refl
same_addresses_in no_items [] (y ∷ ys) h k = absurd k
same_addresses_in no_items (x ∷ xs) ys h k = absurd h
same_addresses_in (item d values) [] ys h k = absurd h
same_addresses_in (item d values) (x ∷ xs) [] h k = absurd k
same_addresses_in (item d values) (x ∷ xs) (y ∷ ys) h k =
    let here = same_address (Some d) x y h.0 k.0 in
    let there = same_addresses_in values xs ys h.1 k.1 in
    cc

same_addresses : (v : Option Data) (a b : List SocketAddr) → AreAddresses v a → AreAddresses v b → a ≡ b
same_addresses v a b h k =
    let values : h.0 ≡ k.0 = sym (ap values_in h.1) ∙ ap values_in k.1 in
    same_addresses_in k.0 a b (subst (λ (x : Items). AreAddressesIn x a) values h.2) k.2

same_addresses_if_any : (v : Option Data) (a b : List SocketAddr) → AreAddressesIfAny v a → AreAddressesIfAny v b → a ≡ b
same_addresses_if_any v a b (inl h) (inl k) = same_addresses v a b h k
same_addresses_if_any v a b (inl h) (inr k) = let e : Some (array h.0) ≡ None = sym h.1 ∙ k.0 in cc
same_addresses_if_any v a b (inr h) (inl k) = let e : Some (array k.0) ≡ None = sym k.1 ∙ h.0 in cc
same_addresses_if_any v a b (inr h) (inr k) = h.1 ∙ sym k.1

same_if_any : (v : Option Data) (a b : Option (List ℕ)) → IsCommunityIfAny v a → IsCommunityIfAny v b → a ≡ b
same_if_any v None None h k = refl
same_if_any v None (Some b) h k = let e : None ≡ Some (string b) = sym h ∙ k.0 in cc
same_if_any v (Some a) None h k = let e : Some (string a) ≡ None = sym h.0 ∙ k in cc
same_if_any v (Some a) (Some b) h k = ap Some (same_text v a b h.0 k.0)

same_limit : (key : LimitKey) (v : Option Data) (a b : ℕ) → IsLimit key v a → IsLimit key v b → a ≡ b
same_limit key v a b (inl h) (inl k) = let e = sym h.number ∙ k.number in cc
same_limit key v a b (inl h) (inr k) = let e = sym h.number ∙ k.0 in cc
same_limit key v a b (inr h) (inl k) = let e = sym k.number ∙ h.0 in cc
same_limit key v a b (inr h) (inr k) = h.1 ∙ sym k.1

same_flag_or_false : (v : Option Data) (a b : Bool) → IsFlagOrFalse v a → IsFlagOrFalse v b → a ≡ b
same_flag_or_false v a b (inl h) (inl k) = same_flag v a b h k
same_flag_or_false v a b (inl h) (inr k) = let e : Some (boolean a) ≡ None = sym h ∙ k.0 in cc
same_flag_or_false v a b (inr h) (inl k) = let e : Some (boolean b) ≡ None = sym k ∙ h.0 in cc
same_flag_or_false v a b (inr h) (inr k) = h.1 ∙ sym k.1

-- ---- a table says one thing

one_gate : (t : Members) (a b : GateSettings) → IsGate t a → IsGate t b → gate_values a ≡ gate_values b
one_gate t a b h k =
    let engine = same_engine _ _ _ h.engine k.engine in
    let boots = same_text _ _ _ h.boots.0 k.boots.0 in
    let listen = same_addresses _ _ _ h.listen k.listen in
    let traps = same_addresses_if_any _ _ _ h.traps k.traps in
    let waiting = same_limit _ _ _ _ h.limits.waiting k.limits.waiting in
    let rounds = same_limit _ _ _ _ h.limits.rounds k.limits.rounds in
    let again = same_limit _ _ _ _ h.limits.again k.limits.again in
    let tries = same_limit _ _ _ _ h.limits.tries k.limits.tries in
    let last = same_limit _ _ _ _ h.limits.last k.limits.last in
    let gather = same_limit _ _ _ _ h.limits.gather k.limits.gather in
    let of_device = same_limit _ _ _ _ h.limits.waiting_per_device k.limits.waiting_per_device in
    let long = same_flag_or_false _ _ _ h.long_answers k.long_answers in
    let unreachable = same_flag_or_false _ _ _ h.report_unreachable k.report_unreachable in
    cc

one_device : (t : Members) (a b : DeviceSettings) → IsDevice t a → IsDevice t b → device_values a ≡ device_values b
one_device t a b h k =
    let context = same_text _ _ _ h.context.0 k.context.0 in
    let address = same_address _ _ _ h.address k.address in
    let community = same_text _ _ _ h.community.0 k.community.0 in
    let write = same_if_any _ _ _ h.write_community k.write_community in
    let repetitions = same_limit _ _ _ _ h.limits.repetitions k.limits.repetitions in
    let size = same_limit _ _ _ _ h.limits.max_size k.limits.max_size in
    let at_once = same_limit _ _ _ _ h.limits.at_once k.limits.at_once in
    cc

abbrev receiver_settings : SocketAddr → List ℕ → Level → ReceiverKind → ReceiverSettings
receiver_settings address' user' level' kind' = record { address = address'; user = user'; level = level'; kind = kind' }

one_receiver : (t : Members) (a b : ReceiverSettings) → IsReceiver t a → IsReceiver t b → a ≡ b
one_receiver t a b h k =
    let address = same_address _ _ _ h.address k.address in
    let user = same_text _ _ _ h.user.0 k.user.0 in
    let level = same_level _ _ _ h.level k.level in
    let kind = same_kind _ _ _ h.kind k.kind in
    ap (λ x. receiver_settings x a.user a.level a.kind) address ∙ ap (λ x. receiver_settings b.address x a.level a.kind) user ∙ ap (λ x. receiver_settings b.address b.user x a.kind) level ∙ ap (λ x. receiver_settings b.address b.user b.level x) kind

one_device_context : (t : Members) (a b : DeviceSettings) → IsDevice t a → IsDevice t b → context_row a ≡ context_row b
one_device_context t a b h k = let context = same_text _ _ _ h.context.0 k.context.0 in cc

-- ---- a text says one thing

abbrev tables_with : List ContextRow → List GroupRow → List AccessRow → List FamilyRow → Tables
tables_with contexts' groups' access' families' = record { contexts = contexts'; groups = groups'; access = access'; families = families' }

same_rows : (d : Members) (gate other : GateSettings) (devices others : List DeviceSettings) (receivers those : List ReceiverSettings) (users these : List UserRow) (rows more : Tables) → StandsFor d gate devices receivers users rows → StandsFor d other others those these more → rows ≡ more
same_rows d gate other devices others receivers those users these rows more s o =
    let s' = s.config_rows in
    let o' = o.config_rows in
    let contexts : rows.contexts ≡ more.contexts = s'.contexts ∙ (one_list IsDevice context_row one_device_context _ devices others s.device_tables o.device_tables ∙ sym o'.contexts) in
    let groups = same_list IsGroupRow one_group _ _ _ s'.groups o'.groups in
    let access = same_list IsAccessRow one_access _ _ _ s'.access o'.access in
    let families = same_list IsFamilyRow one_family _ _ _ s'.families o'.families in
    ap (λ x. tables_with x rows.groups rows.access rows.families) contexts ∙ ap (λ x. tables_with more.contexts x rows.access rows.families) groups ∙ ap (λ x. tables_with more.contexts more.groups x rows.families) access ∙ ap (λ x. tables_with more.contexts more.groups more.access x) families

module _ (text : List ℕ) (gate other : GateSettings) (devices others : List DeviceSettings) (receivers those : List ReceiverSettings) (users these : List UserRow) (rows more : Tables) (s : Says text gate devices receivers users rows) (o : Says text other others those these more) where
  stands : StandsFor s.document other others those these more
  stands = rw (one_document text s.document o.document s.is_document o.is_document) o.stands

  pub same_gate : gate_values gate ≡ gate_values other
  same_gate = one_gate _ gate other s.stands.gate_table stands.gate_table

  pub same_devices : map device_values devices ≡ map device_values others
  same_devices = one_list IsDevice device_values one_device _ devices others s.stands.device_tables stands.device_tables

  pub same_receivers : receivers ≡ those
  same_receivers = same_list IsReceiver one_receiver _ receivers those s.stands.receiver_tables stands.receiver_tables

  pub same_users : map user_values users ≡ map user_values these
  same_users = one_list IsUserRow user_values one_user _ users these s.stands.config_rows.user_rows stands.config_rows.user_rows

  pub same_tables : rows ≡ more
  same_tables = same_rows s.document gate other devices others receivers those users these rows more s.stands stands
